-- The walk of a plan over sets of states: document 001, Definitions 7 and 8.
use Rattle.std.specs.Prelude.{◌≡◌, Bool, true, ◌&&◌, ◌||◌, not, cond, List, [], ◌∷◌, ℕ, zero, suc, eqb}
use Rattle.std.proofs.Math.Option.{Option, none, some}
use Rattle.meaning.specs.Sets.{bit, union, empty, ◌⊆◌}
use Rattle.meaning.specs.Domain.{Domain}

-- In the first three, `f s` is what follows state s by one command.

-- each state of x below k has something that follows it
unfoldable pub sendable : (ℕ → ℕ) → ℕ → ℕ → Bool
sendable f x zero = true
sendable f x (suc k) = sendable f x k && (eqb (bit k x) 0 || not (eqb (f k) empty))

-- y where the bit b is 1, and no state where it is 0
abbrev pub only_if : ℕ → ℕ → ℕ
only_if zero y = empty
only_if (suc b) y = y

-- the union of what follows the states of x below k
unfoldable pub image : (ℕ → ℕ) → ℕ → ℕ → ℕ
image f x zero = empty
image f x (suc k) = union (image f x k) (only_if (bit k x) (f k))

-- the set that command a gives from the set x; none where a is not sendable
unfoldable pub step : Domain → ℕ → ℕ → Option ℕ
step D x a = cond (sendable (D.follow a) x D.states) (some (image (D.follow a) x D.states)) none

-- where a walk ends: with the last set, or before the first command that is not sendable, with its index and the set there
pub data Walked : Type 0 where
  ended : ℕ → Walked
  blocked : ℕ → ℕ → Walked

-- after one command more
abbrev pub later : Walked → Walked
later (ended y) = ended y
later (blocked k y) = blocked (suc k) y

abbrev pub onward : ℕ → Option ℕ → (ℕ → Walked) → Walked
onward x none w = blocked zero x
onward x (some y) w = later (w y)

-- the walk of a plan from the set x, where `next` gives the set after one command
unfoldable pub walk : (ℕ → ℕ → Option ℕ) → ℕ → List ℕ → Walked
walk next x [] = ended x
walk next x (a ∷ p) = onward x (next x a) (λ y. walk next y p)

-- the plan is sendable from the set x to its end, and gives y
pub record Gives (next : ℕ → ℕ → Option ℕ) (x : ℕ) (p : List ℕ) (y : ℕ) : Type 0 where
  pub walked : walk next x p ≡ ended y

-- the plan is sendable from x to its end, and its last set lies in the goal g
pub record Solves (D : Domain) (x g : ℕ) (p : List ℕ) : Type 0 where
  pub last : ℕ
  pub gives : Gives (step D) x p last
  pub inside : last ⊆ g
