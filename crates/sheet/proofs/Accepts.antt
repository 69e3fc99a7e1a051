-- What it is for bytes to be accepted: the version and the stated length are right, and the sheet that the bytes hold is valid.
-- The idea: no row holds exactly there, since each row's condition is the opposite of a part of that.
use mathlib.Core.Path.{◌≡◌, refl, sym, ap, ◌∙◌}
use mathlib.Core.Bool.{not}
use mathlib.Core.List.{List}
use Prim.Native.Nat.{ℕ, ◌+◌, ◌*◌}
use native.Mathlib.Omega.{arith}
use lib.Dec.{eqb, ltb}
use lib.ListN.{length}
use borrow.Author.Tests.{le-ltb, eq-eqb, eqb-true, not-false}
use Rattle.meaning.proofs.Tests.{clash}
use Rattle.numbers.specs.Bytes.{number_at}
use Rattle.sheet.specs.Sheet.{Valid, sheet_in, set_in, stated_for, length_for}
use Rattle.sheet.specs.Refusals.{stated, reading_rows, Check, check}
use Rattle.sheet.specs.Answers.{head_of, reading}
use Rattle.sheet.specs.declared.Head.{Head}
use Rattle.sheet.specs.declared.Counted.TheVariants.{Stated}
use Rattle.std.specs.Prelude.{Ok, Err}
use Rattle.std.specs.Prelude.{Ok, Err}
use Rattle.sheet.proofs.Rows.{on_check, or_false, both_false, length_from}
use Rattle.sheet.proofs.ByCheck.{reading-by}
use Rattle.sheet.proofs.ValidLaws.{NoneHold, none_here, none_rest, none-cons, valid, even, passes_valid}

pub record Accepts (l : List ℕ) : Type 0 where
  pub version_is : number_at 0 1 l ≡ 1
  pub stated_is : stated l ≡ stated_for (sheet_in l).states (sheet_in l).commands
  pub long : length l ≡ length_for (sheet_in l).states (sheet_in l).commands
  pub is_valid : Valid (sheet_in l)

complete : (l : List ℕ) → length (sheet_in l).sets ≡ (sheet_in l).commands * (sheet_in l).states
unfolding sheet_in
complete l = length_from (set_in l) 0 ((sheet_in l).commands * (sheet_in l).states)

pub none_accepts : (l : List ℕ) → NoneHold (reading_rows l) → Accepts l
unfolding reading_rows
none_accepts l n =
    let n₁ = none_rest n in
    let n₂ = none_rest n₁ in
    let n₃ = none_rest n₂ in
    let whole : 5 + stated l ≡ length l = eqb-true (5 + stated l) (length l) (not-false _ (or_false (not (eqb (5 + stated l) (length l))) (ltb (stated l) 18) (none_here n₂)).0) in
    let evenly : stated l ≡ stated_for (sheet_in l).states (sheet_in l).commands = eqb-true (stated l) (stated_for (sheet_in l).states (sheet_in l).commands) (not-false _ (even (Stated (stated l)) (sheet_in l) n₃)) in
    record {
      version_is = eqb-true (number_at 0 1 l) 1 (not-false _ (none_here n₁));
      stated_is = evenly;
      long = omega arith;
      is_valid = valid (Stated (stated l)) (sheet_in l) (complete l) n₃;
    }

pub accepts_none : (l : List ℕ) → Accepts l → NoneHold (reading_rows l)
unfolding reading_rows
accepts_none l a =
    none-cons (le-ltb (length l) 5 (omega (arith, a.long)))
    (none-cons (ap not (eq-eqb (number_at 0 1 l) 1 a.version_is))
    (none-cons (both_false (ap not (eq-eqb (5 + stated l) (length l) (omega (arith, a.long, a.stated_is)))) (le-ltb (stated l) 18 (omega (arith, a.stated_is))))
    (passes_valid (Stated (stated l)) (sheet_in l) (ap not (eq-eqb (stated l) (stated_for (sheet_in l).states (sheet_in l).commands) a.stated_is)) a.is_valid)))

-- ---- the answer

pub accepts_reading : (l : List ℕ) → Accepts l → reading l ≡ Ok (head_of (sheet_in l))
accepts_reading l a = reading-by l ∙ ap (λ (k : Check). on_check Err (Ok (head_of (sheet_in l))) k) (accepts_none l a).passes

pub record Taken (l : List ℕ) (h : Head) : Type 0 where
  pub accepts : Accepts l
  pub head : h ≡ head_of (sheet_in l)

pub reading_accepts : (l : List ℕ) (h : Head) → reading l ≡ Ok h → Taken l h
reading_accepts l h e = go (check (reading_rows l)) refl
  where
    go : (k : Check) → check (reading_rows l) ≡ k → Taken l h
    go (Ok tt) p =
        let f : Ok (head_of (sheet_in l)) ≡ Ok h = sym (reading-by l ∙ ap (λ (k : Check). on_check Err (Ok (head_of (sheet_in l))) k) p) ∙ e in
        record { accepts = none_accepts l (record { passes = p }); head = cc }
    go (Err q) p =
        let f : Err q ≡ Ok h = sym (reading-by l ∙ ap (λ (k : Check). on_check Err (Ok (head_of (sheet_in l))) k) p) ∙ e in
        absurd (clash (cc))
