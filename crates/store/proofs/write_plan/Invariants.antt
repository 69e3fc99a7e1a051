-- `store::write_plan` meets its contract. The loop's invariant: what is written and what is left to write.
use Rattle.store.proofs.PathLaws.{Writing}
use Rattle.store.proofs.write_plan.Given as goal

abbrev pub invariant-loop-left : goal.invariant-loop-left
invariant-loop-left l = Writing l.store l.at l.total l.fn.plan l.plan l.i l.left
