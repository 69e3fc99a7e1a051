-- A number is given, with its place, exactly where its row's condition holds and no earlier row's does. Reading gives only 1 to 8.
-- The idea: by the rows, one at a time.
use mathlib.Core.Path.{◌≡◌, refl, sym, ap, ◌∙◌, subst}
use mathlib.Core.Logic.{◌↔◌}
use mathlib.Core.Bool.{Bool, true, false, cond}
use mathlib.Core.Option.{some}
use mathlib.Core.List.{List, [], ◌∷◌, ◌++◌}
use Prim.Native.Nat.{ℕ, zero, suc, ◌+◌, ◌<◌, ◌≤◌}
use native.Mathlib.Omega.{arith}
use lib.ListN.{get_elem?}
use Rattle.meaning.proofs.Tests.{clash}
use Rattle.sheet.specs.Sheet.{Sheet, sheet_in, sets_at, set_width}
use Rattle.sheet.specs.Refusals.{Row, verdict, number_of, head_rows, set_rows, sheet_rows, stated, reading_rows, Check, check, passes}
use Rattle.sheet.specs.Answers.{head_of, reading}
use Rattle.sheet.specs.declared.Refusal.{Refusal}
use Rattle.sheet.specs.declared.Counted.{Counted}
use Rattle.sheet.specs.declared.Counted.TheVariants.{Stated}
use Rattle.std.specs.Prelude.{Ok, Err}
use Rattle.std.specs.Prelude.{Ok, Err}
use Rattle.sheet.proofs.ByCheck.{reading-by}
use Rattle.sheet.proofs.Rows.{on_check, holds-here, holds_not}

-- the refusal q by a row whose condition holds, where no earlier row's does
pub record Given (rows : List Row) (q : Refusal) : Type 0 where
  pub at : ℕ
  pub holds-there : get_elem? rows at ≡ some (record { holds = true; gives = q })
  pub none_before : (j : ℕ) (r : Row) → j < at → get_elem? rows j ≡ some r → r.holds ≡ false

-- ---- for a check of any rows

later : (r : Row) (rs : List Row) (q : Refusal) → r.holds ≡ false → Given rs q → Given (r ∷ rs) q
later r rs q e g = record { at = suc g.at; holds-there = g.holds-there; none_before = go }
  where
    go : (j : ℕ) (p : Row) → j < suc g.at → get_elem? (r ∷ rs) j ≡ some p → p.holds ≡ false
    go zero p h f = let k : r ≡ p = cc in sym (ap (λ (o : Row). o.holds) k) ∙ e
    go (suc j) p h f = g.none_before j p (omega arith) f

pub fails_given : (rs : List Row) (q : Refusal) → check rs ≡ Err q → Given rs q
unfolding verdict
fails_given [] q e = absurd (clash (cc))
fails_given (r ∷ rs) q e = go r.holds refl e (fails_given rs q)
  where
    go : (b : Bool) → r.holds ≡ b → cond b (Err r.gives) (check rs) ≡ Err q → (check rs ≡ Err q → Given rs q) → Given (r ∷ rs) q
    go true h f ih =
        let k : r.gives ≡ q = cc in
        record { at = zero; holds-there = λ i. some (record { holds = h i; gives = k i }); none_before = λ j p l. absurd (omega arith) }
    go false h f ih = later r rs q h (ih f)

pub given_fails : (rs : List Row) (q : Refusal) → Given rs q → check rs ≡ Err q
given_fails rs q g = go rs g.at g.holds-there g.none_before
  where
    go : (rs : List Row) (k : ℕ) → get_elem? rs k ≡ some (record { holds = true; gives = q }) → ((j : ℕ) (r : Row) → j < k → get_elem? rs j ≡ some r → r.holds ≡ false) → check rs ≡ Err q
    go [] k e n = absurd (clash (cc))
    go (r ∷ rs) zero e n =
        let f : r ≡ record { holds = true; gives = q } = cc in
        holds-here Err passes r rs (ap (λ (o : Row). o.holds) f) ∙ ap (λ (o : Row). Err o.gives) f
    go (r ∷ rs) (suc k) e n = holds_not Err passes r rs (n zero r (omega arith) refl) ∙ go rs k e (λ j p h. n (suc j) p (omega arith))

-- ---- for reading

pub refused_as : (l : List ℕ) (q : Refusal) → (reading l ≡ Err q) ↔ Given (reading_rows l) q
refused_as l q = (λ e. fails_given (reading_rows l) q (there (check (reading_rows l)) (sym (reading-by l) ∙ e)), λ g. reading-by l ∙ ap (λ (k : Check). on_check Err (Ok (head_of (sheet_in l))) k) (given_fails (reading_rows l) q g))
  where
    there : (k : Check) → on_check Err (Ok (head_of (sheet_in l))) k ≡ Err q → k ≡ Err q
    there (Ok tt) e = absurd (clash (cc))
    there (Err p) e = let f : p ≡ q = cc in ap Err f

-- ---- reading gives only 1 to 8

abbrev pub Between : ℕ → ℕ → Refusal → Type 0
Between low high q = (low ≤ number_of q.reason) × (number_of q.reason ≤ high)

-- each row gives a number of those
abbrev pub Each : ℕ → ℕ → List Row → Type 0
Each low high [] = Unit {0}
Each low high (r ∷ rs) = Between low high r.gives × Each low high rs

pub each_append : (low high : ℕ) (rs qs : List Row) → Each low high rs → Each low high qs → Each low high (rs ++ qs)
each_append low high [] qs a b = b
each_append low high (r ∷ rs) qs a b = (a.0, each_append low high rs qs a.1 b)

each_set : (low high : ℕ) → low ≤ 8 → 8 ≤ high → (states at : ℕ) (xs : List ℕ) → Each low high (set_rows states at xs)
unfolding set_rows
each_set low high l h states at [] = tt
each_set low high l h states at (x ∷ xs) = ((l, h), each_set low high l h states (at + set_width) xs)

each-head : (counted : Counted) (states commands initial goal : ℕ) → Each 4 7 (head_rows counted states commands initial goal)
unfolding head_rows
each-head counted states commands initial goal = omega arith

wider : (low high : ℕ) → low ≤ 4 → 7 ≤ high → (rs : List Row) → Each 4 7 rs → Each low high rs
wider low high l h [] e = tt
wider low high l h (r ∷ rs) e = ((omega (arith, e.0.0), omega (arith, e.0.1)), wider low high l h rs e.1)

pub each-sheet : (low high : ℕ) → low ≤ 4 → 8 ≤ high → (counted : Counted) (s : Sheet) → Each low high (sheet_rows counted s)
each-sheet low high l h counted s =
    let rows : List Row = head_rows counted s.states s.commands s.initial s.goal in
    each_append low high rows (set_rows s.states sets_at s.sets) (wider low high l (omega arith) rows (each-head counted s.states s.commands s.initial s.goal)) (each_set low high (omega arith) h s.states sets_at s.sets)

pub each-gives : (low high : ℕ) (rs : List Row) (q : Refusal) → Each low high rs → check rs ≡ Err q → Between low high q
unfolding verdict
each-gives low high [] q e f = absurd (clash (cc))
each-gives low high (r ∷ rs) q e f = go r.holds f (each-gives low high rs q e.1)
  where
    go : (b : Bool) → cond b (Err r.gives) (check rs) ≡ Err q → (check rs ≡ Err q → Between low high q) → Between low high q
    go true f ih = let k : r.gives ≡ q = cc in subst (λ (p : Refusal). Between low high p) k e.0
    go false f ih = ih f

pub reading-gives : (l : List ℕ) (q : Refusal) → reading l ≡ Err q → Between 1 8 q
unfolding reading_rows
reading-gives l q e =
    each-gives 1 8 (reading_rows l) q (omega arith, (omega arith, (omega arith, each-sheet 1 8 (omega arith) (omega arith) (Stated (stated l)) (sheet_in l)))) (given_fails (reading_rows l) q ((refused_as l q).0 e))
