-- Sets of states. A set is a number, and its bit s stands for state s. Nothing here fixes a number of bits.
use Rattle.std.specs.Prelude.{◌≡◌, Bool, true, false, ℕ, ◌-◌, ◌*◌, ◌/◌, ◌%◌, ◌^◌}
use Rattle.std.specs.Int.Bits.{bit_or}
use Rattle.std.specs.Int.Count.{ones}

-- bit s of x, 0 or 1
abbrev pub bit : ℕ → ℕ → ℕ
bit s x = x / 2 ^ s % 2

infix 60 ◌∈◌
-- state s is in the set x
pub record ◌∈◌ (s x : ℕ) : Type 0 where
  pub is_one : bit s x ≡ 1

infix 60 ◌⊆◌
-- each state of x is in y
abbrev pub ◌⊆◌ : ℕ → ℕ → Type 0
x ⊆ y = (s : ℕ) → s ∈ x → s ∈ y

-- the set with no state
abbrev pub empty : ℕ
empty = 0

-- the states that are in x or in y
abbrev pub union : ℕ → ℕ → ℕ
union x y = bit_or x y

-- the states of x but for s
abbrev pub without : ℕ → ℕ → ℕ
without x s = x - bit s x * 2 ^ s

-- how many states x has
abbrev pub size : ℕ → ℕ
size x = ones x

-- the test b tells whether P holds
pub record Tells (b : Bool) (P : Type 0) : Type 0 where
  pub if_true : b ≡ true → P
  pub if_false : b ≡ false → ¬ P
