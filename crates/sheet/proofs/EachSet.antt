-- What `sheet::check_sets` says of following sets that are taken by their index is what row 8 says of the list of them.
-- The idea: the rows before the first set that names a missing state pass, one at a time.
use Rattle.std.proofs.Common.{◌≡◌, refl, sym, ap, ◌∙◌, false, List, ℕ, zero, suc, ◌<◌, ◌≤◌, length, get_or, add-one, arith}
use Rattle.std.specs.Prelude.{Ok, Err}
use Rattle.sets.specs.Words.{Value, set_for}
use Rattle.sets.proofs.Values.{stands_for}
use Rattle.sheet.specs.Sheet.{sets_at}
use Rattle.sheet.specs.Refusals.{Check, check, passes, missing, set_rows}
use Rattle.sheet.specs.EachSet.{SetWithin, SetsChecked}
use Rattle.sheet.specs.declared.Refusal.{Refusal}
use Rattle.sheet.proofs.Rows.{rest, set_fails, set_passes, set_ends}

module _ (states : ℕ) (xs : List ℕ) where
  abbrev after : ℕ → Check
  after i = rest Err passes states xs i

  upto : (k : ℕ) → k ≤ length xs → ((j : ℕ) → j < k → missing states (get_or xs j 0) ≡ false) → check (set_rows states sets_at xs) ≡ after k
  upto zero h all = refl
  upto (suc k) h all = upto k (omega arith) (λ j l. all j (omega arith)) ∙ set_passes Err passes states xs k h (all k (omega arith)) ∙ ap after (add-one k)

  module _ (count : ℕ) (gives : ℕ → Value → Type 0) (long : length xs ≡ count) (are : (i : ℕ) (v : Value) → i < count → gives i v → v ≡ set_for (get_or xs i 0)) where
    within : (i : ℕ) → i < count → SetWithin states gives i → missing states (get_or xs i 0) ≡ false
    within i h w = ap (λ (x : ℕ). missing states x) (sym (stands_for (are i w.value h w.given))) ∙ w.inside

    pub each_checked : (r : Check) → SetsChecked states count gives r → r ≡ check (set_rows states sets_at xs)
    each_checked (Ok tt) s = sym (upto count (omega (arith, long)) (λ j l. within j l (s.passed refl j l)) ∙ set_ends Err passes states xs count (omega (arith, long)))
    each_checked (Err q) s =
        let f = s.failed refl in
        let there = ap (λ (x : ℕ). missing states x) (sym (stands_for (are f.at f.value f.below f.given))) ∙ f.outside in
        let below : f.at < length xs = omega (arith, long, f.below) in
        ap (λ (p : Refusal). (λ (c : Check). c) (Err p)) f.refused
        ∙ sym (upto f.at (omega (arith, below)) (λ j l. within j (omega (arith, l, f.below)) (f.before j l)) ∙ set_fails Err passes states xs f.at below there)
