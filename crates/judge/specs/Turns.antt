-- What the judge's two walks over a plan give: cited by the contracts of its inner functions, and by no promise to a caller.
use Rattle.std.specs.Prelude.{◌≡◌, List, ℕ, Option, Some, None, Result, Ok, Err}
use Rattle.meaning.specs.Domain.{Domain}
use Rattle.meaning.specs.Walk.{Gives, step}
use Rattle.meaning.specs.Answers.{NoCommand, AllCommands, NotSendable}
use Rattle.sets.specs.Words.{Value, set_of}
use Rattle.judge.specs.declared.Blocked.{Blocked}

-- Some k is the index of the first number that is no command, and None says that all are commands
pub record FirstMissing (m : ℕ) (p : List ℕ) (r : Option ℕ) : Type 0 where
  pub missing : {k : ℕ} → r ≡ Some k → NoCommand m p k
  pub none : r ≡ None → AllCommands m p

-- the walk of the plan from x came to its end with the set that is answered, or is blocked before the first command that is not sendable
pub record WalkedTo (D : Domain) (x : ℕ) (p : List ℕ) (r : Result Value Blocked) : Type 0 where
  pub blocked : {b : Blocked} → r ≡ Err b → NotSendable D x p b.at (set_of b.set)
  pub ended : {y : Value} → r ≡ Ok y → Gives (step D) x p (set_of y)
