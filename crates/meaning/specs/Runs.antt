-- The published meaning of a plan, by single runs: document 001, Definitions 3 to 6. A plan is a list of command numbers.
use Rattle.std.specs.Prelude.{List, [], ◌∷◌, ℕ}
use Rattle.meaning.specs.Sets.{◌∈◌}
use Rattle.meaning.specs.Domain.{Domain}

module _ (D : Domain) where
  -- (s, a, t) ∈ R: command a may lead from state s to state t
  abbrev pub Leads : ℕ → ℕ → ℕ → Type 0
  Leads s a t = t ∈ D.follow a s

  -- a is applicable in s: it may lead somewhere
  abbrev pub Takes : ℕ → ℕ → Type 0
  Takes s a = (t : ℕ) × Leads s a t

  -- Definition 4: a run of the plan from its first state to its final state
  pub data Run : ℕ → List ℕ → ℕ → Type 0 where
    stop : {s : ℕ} → Run s [] s
    move : {s t u a : ℕ} {p : List ℕ} → Leads s a t → Run t p u → Run s (a ∷ p) u

  -- Definition 5: the plan is applicable in a state
  abbrev pub Applicable : List ℕ → ℕ → Type 0
  Applicable [] s = Unit {0}
  Applicable (a ∷ p) s = Takes s a × ((t : ℕ) → Leads s a t → Applicable p t)

  -- Definition 6, from the initial set x to the goal g: the plan is a solution
  pub record Good (x g : ℕ) (p : List ℕ) : Type 0 where
    pub applicable : (s : ℕ) → s ∈ x → Applicable p s
    pub arrives : (s t : ℕ) → s ∈ x → Run s p t → t ∈ g

  -- some run from s gets stuck before the plan's end: it comes to a state in which the next command cannot be taken
  pub data Stuck : ℕ → List ℕ → Type 0 where
    here : {s a : ℕ} {p : List ℕ} → ((t : ℕ) → ¬ Leads s a t) → Stuck s (a ∷ p)
    after : {s t a : ℕ} {p : List ℕ} → Leads s a t → Stuck t p → Stuck s (a ∷ p)

  -- the same as `Good`, in the product's words: no run gets stuck before the plan's end, and every full run ends in the goal
  pub record NeverFails (x g : ℕ) (p : List ℕ) : Type 0 where
    pub not_stuck : (s : ℕ) → s ∈ x → ¬ Stuck s p
    pub arrives : (s t : ℕ) → s ∈ x → Run s p t → t ∈ g
