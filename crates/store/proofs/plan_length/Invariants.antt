-- `store::plan_length` meets its contract. The loop's invariant: how far behind the place `at` the place i lies. The measure is i.
use Rattle.store.proofs.PathLaws.{Behind}
use Rattle.store.proofs.plan_length.Given as goal

abbrev pub invariant-loop-i : goal.invariant-loop-i
invariant-loop-i l = Behind l.store l.at l.i l.total

abbrev pub decreases-loop-i : goal.decreases-loop-i
decreases-loop-i l = l.i
