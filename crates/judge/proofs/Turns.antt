-- What the judge's two walks over a plan find, in the words of the meaning: the first number that is no command, and how the walk goes on and ends.
use mathlib.Core.Path.{◌≡◌, sym, ap, ◌∙◌, subst}
use mathlib.Core.Bool.{true, false}
use mathlib.Core.List.{List, [], ◌∷◌, ◌++◌}
use Prim.Native.Nat.{ℕ, ◌+◌, ◌≤◌, ◌<◌}
use native.Mathlib.Numerals.{add-one}
use lib.ListN.{length, take, get_or}
use lib.Seq.{take-suc}
use Rattle.std.specs.Prelude.{Option, Some, None, Err}
use Rattle.meaning.specs.Domain.{Domain}
use Rattle.meaning.specs.Walk.{sendable, image, step, Gives}
use Rattle.meaning.specs.Listing.{At}
use Rattle.meaning.specs.Answers.{NotSendable}
use Rattle.meaning.proofs.Places.{get_d_at, at_get_or, at_lt}
use Rattle.meaning.proofs.StepLaws.{step_sends, step_stops}
use Rattle.meaning.proofs.WalkLaws.{gives_snoc}
use Rattle.sets.specs.Words.{set_of}
use Rattle.judge.specs.declared.Blocked.{Blocked}
use Rattle.judge.specs.Turns.{FirstMissing, WalkedTo}

-- ---- the first number that is no command

module _ (m : ℕ) (p : List ℕ) where
  abbrev pub Command : ℕ → Type 0
  Command j = get_or p j 0 < m

  pub first_missing_is : (r : Option ℕ) → ((k : ℕ) → r ≡ Some k → (k < length p) × (m ≤ get_or p k 0) × ((j : ℕ) → j < k → Command j)) → (r ≡ None → (j : ℕ) → j < length p → Command j) → FirstMissing m p r
  first_missing_is r some none = record {
    missing = λ {k} e.
        let f = some k e in
        record { number = get_or p k 0; at-index = get_d_at p 0 k f.0; missing = f.1; before = λ j a l u. subst (λ (b : ℕ). b < m) (at_get_or 0 u) (f.2 j l) };
    none = λ e j a u. subst (λ (b : ℕ). b < m) (at_get_or 0 u) (none e j (at_lt u));
  }

-- ---- the walk

module _ (D : Domain) (x : ℕ) (p : List ℕ) where
  pub walk_goes_on : {k a y z : ℕ} → k < length p → a ≡ get_or p k 0 → Gives (step D) x (take k p) y → sendable (D.follow a) y D.states ≡ true
      → z ≡ image (D.follow a) y D.states → Gives (step D) x (take (k + 1) p) z
  walk_goes_on {k} {a} {y} {z} l i g s e = subst (λ (q : List ℕ). Gives (step D) x q z) (ap (λ (b : ℕ). take k p ++ (b ∷ [])) i ∙ sym (ap (λ (n : ℕ). take n p) (add-one k) ∙ take-suc p k 0 l))
      (subst (Gives (step D) x _) (sym e) (gives_snoc (step D) g (step_sends D y a s)))

  pub walk-blocked : {b : Blocked} {a : ℕ} → b.at < length p → a ≡ get_or p b.at 0 → Gives (step D) x (take b.at p) (set_of b.set) → sendable (D.follow a) (set_of b.set) D.states ≡ false → WalkedTo D x p (Err b)
  walk-blocked {b} {a} l i g s = record {
    blocked = λ {b = c} e.
        let same : b ≡ c = cc in
        subst (λ (d : Blocked). NotSendable D x p d.at (set_of d.set)) same
        (record { command = a; at-index = subst (At p b.at) (sym i) (get_d_at p 0 b.at l); gives = g; no_image = step_stops D (set_of b.set) a s });
    ended = λ {y} e. absurd (cc);
  }
