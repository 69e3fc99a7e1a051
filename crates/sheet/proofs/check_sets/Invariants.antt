-- `sheet::check_sets` meets its contract. The loop's invariant: each set before place i names no missing state.
use Rattle.std.proofs.Common.{ℕ, ◌<◌}
use Rattle.sheet.specs.EachSet.{SetWithin}
use Rattle.sheet.proofs.check_sets.Given as goal

abbrev pub invariant-loop-i : goal.invariant-loop-i
invariant-loop-i g l = (j : ℕ) → j < l.i → SetWithin l.states (λ k v. goal.F-post g l.set_at k v) j
