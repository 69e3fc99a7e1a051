-- Plans from different starts, and plans in a row: for every domain, over sets and plans of all lengths. A plan's runs from a union are its runs from
-- either set.
use mathlib.Core.Logic.{⊎_elim, ◌↔◌}
use mathlib.Core.List.{List, ◌++◌}
use Prim.Native.Nat.{ℕ, ◌≤◌}
use native.Mathlib.Nat.{le_of_suc-le-suc, lt_of_not-le}
use lib.ListN.{length}
use Rattle.meaning.specs.Sets.{◌⊆◌, union}
use Rattle.meaning.specs.Domain.{Domain}
use Rattle.meaning.specs.Runs.{Good}
use Rattle.meaning.specs.Walk.{Gives, step}
use Rattle.meaning.specs.Order.{shorter}
use Rattle.meaning.proofs.SetLaws.{∈_union, ∈_left, ∈_right}
use Rattle.meaning.proofs.WalkLaws.{gives-append, append-gives}
use Rattle.meaning.proofs.Meanings.{FirstGood}

-- a plan that is good from a set is good from every set inside it
pub good-inside : (D : Domain) {x y g : ℕ} {p : List ℕ} → x ⊆ y → Good D y g p → Good D x g p
good-inside D i v = record { applicable = λ s m. v.applicable s (i s m); arrives = λ s t m r. v.arrives s t (i s m) r }

-- a plan is good from the union of two sets exactly when it is good from each
pub good-union : (D : Domain) (x y g : ℕ) {p : List ℕ} → Good D (union x y) g p ↔ (Good D x g p × Good D y g p)
good-union D x y g = (
  λ v. (good-inside D (λ s m. ∈_left y m) v, good-inside D (λ s m. ∈_right x m) v),
  λ v. record {
    applicable = λ s m. ⊎_elim (λ i. v.0.applicable s i) (λ i. v.1.applicable s i) (∈_union s x y m);
    arrives = λ s t m r. ⊎_elim (λ i. v.0.arrives s t i r) (λ i. v.1.arrives s t i r) (∈_union s x y m);
  },
)

-- the set after two plans in a row is the second's set from the first's
pub in_a_row : (D : Domain) {x y : ℕ} (p q : List ℕ) → Gives (step D) x (p ++ q) y ↔ ((z : ℕ) × Gives (step D) x p z × Gives (step D) z q y)
in_a_row D p q = (append-gives (step D) p q, λ r. gives-append (step D) r.1 r.2)

-- where a start and one inside it both have plans found, the inner start's is not longer
pub inner_shorter : (D : Domain) {x y g : ℕ} {p q : List ℕ} → x ⊆ y → FirstGood D x g p → FirstGood D y g q → length p ≤ length q
inner_shorter D {q = q} i inner outer = le_of_suc-le-suc (lt_of_not-le (λ h. inner.first q (good-inside D i outer.good) (shorter h)))
