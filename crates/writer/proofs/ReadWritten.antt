-- Both round trips: what is written reads back equal, and an accepted sheet rewrites to the same bytes.
-- The idea: writing puts out the bytes of a valid sheet, and the bytes of a valid sheet hold it.
use mathlib.Core.Path.{◌≡◌, refl, sym, ap, ap₂, ◌∙◌}
use mathlib.Core.Bool.{not}
use mathlib.Core.List.{List, [], ◌∷◌, ◌++◌}
use Prim.Native.Nat.{ℕ, ◌*◌, ◌≤◌}
use native.Mathlib.Omega.{arith}
use lib.ListN.{length, take, drop}
use lib.Seq.{take_at}
use borrow.Author.Tests.{le-ltb, ltb-false, eq-eqb, eqb-true, not-false}
use Rattle.std.specs.Prelude.{Err, Ok}
use Rattle.meaning.proofs.Tests.{clash}
use Rattle.sets.proofs.Values.{set_for_lem}
use Rattle.sheet.specs.Sheet.{Sheet, Valid, encode, sheet_in, sheet_with, length_for, domain, domain_in}
use Rattle.sheet.specs.Refusals.{Row, verdict, sheet_rows, Check, check, passes}
use Rattle.sheet.specs.Answers.{head_of, sheet_of, reading, ReadAs, Reading}
use Rattle.writer.specs.Written.{writing, written, room_row, writing_rows}
use Rattle.sheet.specs.declared.Head.{Head}
use Rattle.sheet.specs.declared.Counted.{Counted}
use Rattle.sheet.specs.declared.Counted.TheVariants.{Given}
use Rattle.sheet.proofs.Rows.{on_check, by_check, verdict-append}
use Rattle.sheet.proofs.ValidLaws.{NoneHold, none_here, none-cons, none-nil, valid, even, passes_valid}
use Rattle.sheet.proofs.Fields.{length-encode}
use Rattle.writer.proofs.WriteLaws.{writing-by, written-by}
use Rattle.sheet.proofs.Accepts.{reading_accepts}
use Rattle.sheet.proofs.RoundTrip.{sheet_of_encode, encode_in}
use Rattle.sheet.proofs.Accepted.{encoded_accepted}

-- ---- the rows of writing, in two parts

none-append : (rs qs : List Row) → NoneHold rs → NoneHold qs → NoneHold (rs ++ qs)
none-append rs qs n m = record { passes = verdict-append Err passes rs qs ∙ ap (λ (k : Check). verdict Err k rs) m.passes ∙ n.passes }

none_first : (rs qs : List Row) → NoneHold (rs ++ qs) → NoneHold rs × NoneHold qs
none_first rs qs n = go (check rs) refl
  where
    split : check (rs ++ qs) ≡ on_check Err (check qs) (check rs)
    split = verdict-append Err passes rs qs ∙ by_check Err (check qs) rs

    go : (k : Check) → check rs ≡ k → NoneHold rs × NoneHold qs
    go (Ok tt) e = (record { passes = e }, record { passes = sym (split ∙ ap (λ (k : Check). on_check Err (check qs) k) e) ∙ n.passes })
    go (Err q) e =
        let f : Err q ≡ passes = sym (split ∙ ap (λ (k : Check). on_check Err (check qs) k) e) ∙ n.passes in
        absurd (clash (cc))

-- a sheet that can be written, and the room for it
pub record Writes (s : Sheet) (room : ℕ) : Type 0 where
  pub is_valid : Valid s
  pub fits : length_for s.states s.commands ≤ room

none_writes : (s : Sheet) (room : ℕ) → NoneHold (writing_rows s room) → Writes s room
unfolding writing_rows
none_writes s room n =
    let counted : Counted = Given (length s.sets) in
    let p = none_first (sheet_rows counted s) (room_row s room ∷ []) n in
    record {
      is_valid = valid counted s (eqb-true (length s.sets) (s.commands * s.states) (not-false _ (even counted s p.0))) p.0;
      fits = ltb-false room (length_for s.states s.commands) (none_here p.1);
    }

writes_none : (s : Sheet) (room : ℕ) → Writes s room → NoneHold (writing_rows s room)
unfolding writing_rows
writes_none s room w =
    let counted : Counted = Given (length s.sets) in
    none-append (sheet_rows counted s) (room_row s room ∷ []) (passes_valid counted s (ap not (eq-eqb (length s.sets) (s.commands * s.states) w.is_valid.complete)) w.is_valid) (none-cons (le-ltb room (length_for s.states s.commands) w.fits) none-nil)

-- ---- what is written

module _ (s : Sheet) (out : List ℕ) where
  pub written_when : (k : ℕ) → writing s (length out) ≡ Ok k → Writes s (length out) × (length_for s.states s.commands ≡ k)
  written_when k e = go (check (writing_rows s (length out))) refl
    where
      go : (c : Check) → check (writing_rows s (length out)) ≡ c → Writes s (length out) × (length_for s.states s.commands ≡ k)
      go (Ok tt) p =
          let f : Ok (length_for s.states s.commands) ≡ Ok k = sym (writing-by s (length out) ∙ ap (λ (c : Check). on_check Err (Ok (length_for s.states s.commands)) c) p) ∙ e in
          (none_writes s (length out) (record { passes = p }), cc)
      go (Err q) p =
          let f : Err q ≡ Ok k = sym (writing-by s (length out) ∙ ap (λ (c : Check). on_check Err (Ok (length_for s.states s.commands)) c) p) ∙ e in
          absurd (clash (cc))

  pub writes_answer : Writes s (length out) → writing s (length out) ≡ Ok (length_for s.states s.commands)
  writes_answer w = writing-by s (length out) ∙ ap (λ (c : Check). on_check Err (Ok (length_for s.states s.commands)) c) (writes_none s (length out) w).passes

  pub writes_output : Writes s (length out) → written s out ≡ encode s ++ drop (length_for s.states s.commands) out
  writes_output w = written-by s out ∙ ap (λ (c : Check). on_check (λ _. out) (encode s ++ drop (length_for s.states s.commands) out) c) (writes_none s (length out) w).passes

  writes_start : Writes s (length out) → take (length_for s.states s.commands) (written s out) ≡ encode s
  writes_start w =
      ap (λ (l : List ℕ). take (length_for s.states s.commands) l) (writes_output w)
      ∙ take_at (encode s) (drop (length_for s.states s.commands) out) (length_for s.states s.commands) (length-encode s w.is_valid.complete)

-- bytes that are accepted and hold the sheet s, each following set of it too
pub record ReadsBack (s : Sheet) (l : List ℕ) : Type 0 where
  pub accepted : reading l ≡ Ok (head_of s)
  pub same_sheet : sheet_in l ≡ s
  pub same_domain : domain_in l ≡ domain s

pub read_written : (s : Sheet) (out : List ℕ) (k : ℕ) → writing s (length out) ≡ Ok k → ReadsBack s (take k (written s out))
read_written s out k e =
    let w = written_when s out k e in
    let v = w.0.is_valid in
    let same : take k (written s out) ≡ encode s = ap (λ (n : ℕ). take n (written s out)) (sym w.1) ∙ writes_start s out w.0 in
    record {
      accepted = ap reading same ∙ encoded_accepted s v;
      same_sheet = ap sheet_in same ∙ sheet_of_encode s v;
      same_domain = ap domain (ap sheet_in same ∙ sheet_of_encode s v);
    }

-- ---- an accepted sheet, written again

-- the sheet with this head and the following sets that the bytes hold
abbrev pub reread : Head → List ℕ → Sheet
reread h l = sheet_of h (sheet_in l).sets

reread_own : (l : List ℕ) → reread (head_of (sheet_in l)) l ≡ sheet_in l
reread_own l = let s : Sheet = sheet_in l in ap₂ (λ (x y : ℕ). sheet_with s.states s.commands x y s.sets) (set_for_lem s.initial) (set_for_lem s.goal)

pub record Rewrites (h : Head) (l out : List ℕ) : Type 0 where
  pub answer : writing (reread h l) (length out) ≡ Ok (length l)
  pub output : written (reread h l) out ≡ l ++ drop (length l) out

pub rewritten : (l : List ℕ) {r : Reading} → ReadAs l r → (h : Head) → r ≡ Ok h → (out : List ℕ) → length l ≤ length out → Rewrites h l out
rewritten l {r} u h e out room =
    let t = reading_accepts l h (sym u.answer ∙ e) in
    let same : reread h l ≡ sheet_in l = ap (λ (g : Head). reread g l) t.head ∙ reread_own l in
    let n : length_for (sheet_in l).states (sheet_in l).commands ≡ length l = sym t.accepts.long in
    let w : Writes (sheet_in l) (length out) = record { is_valid = t.accepts.is_valid; fits = omega (arith, n, room) } in
    record {
      answer = ap (λ (s : Sheet). writing s (length out)) same ∙ writes_answer (sheet_in l) out w ∙ ap Ok n;
      output = ap (λ (s : Sheet). written s out) same ∙ writes_output (sheet_in l) out w ∙ ap₂ (λ (m : List ℕ) (k : ℕ). m ++ drop k out) (encode_in l (u.bytes.are_bytes e) t.accepts) n;
    }
