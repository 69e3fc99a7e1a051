-- The loop's turn: one command more is written, that of the record that was read.
use Rattle.std.proofs.Common.{arith}
use Rattle.store.proofs.PathLaws.{writing_more}
use Rattle.store.proofs.write_plan.Goals as goal

pub loop-left-preserved : goal.loop-left-preserved
loop-left-preserved c = rw c.node_at-n.ensures (writing_more c.loop-left.invariant (omega arith))
