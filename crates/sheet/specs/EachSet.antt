-- Row 8 in the code, which takes each following set by its index: cited by the contracts of inner functions, and by no promise to a caller.
use Rattle.std.specs.Prelude.{◌≡◌, true, false, ℕ, ◌<◌, Err}
use Rattle.sets.specs.Words.{Value, set_of}
use Rattle.sheet.specs.Sheet.{set_offset}
use Rattle.sheet.specs.Refusals.{Check, passes, missing, refusal}
use Rattle.sheet.specs.declared.Refusal.{Refusal}
use Rattle.sheet.specs.declared.Reason.TheVariants.{Following}

-- `gives i v` says that v is the set at index i. It names no missing state.
pub record SetWithin (states : ℕ) (gives : ℕ → Value → Type 0) (i : ℕ) : Type 0 where
  pub value : Value
  pub given : gives i value
  pub inside : missing states (set_of value) ≡ false

-- the set at index i is the first that names a missing state
pub record FirstMissing (states count : ℕ) (gives : ℕ → Value → Type 0) (q : Refusal) : Type 0 where
  pub at : ℕ
  pub below : at < count
  pub value : Value
  pub given : gives at value
  pub outside : missing states (set_of value) ≡ true
  pub before : (j : ℕ) → j < at → SetWithin states gives j
  pub refused : q ≡ refusal Following (set_offset at)

-- either each of the sets names no missing state, or the first that does is refused
pub record SetsChecked (states count : ℕ) (gives : ℕ → Value → Type 0) (r : Check) : Type 0 where
  pub passed : r ≡ passes → (i : ℕ) → i < count → SetWithin states gives i
  pub failed : {q : Refusal} → r ≡ Err q → FirstMissing states count gives q
