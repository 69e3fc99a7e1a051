-- The loop's turn: the record that was read is that of the place i, so its parent lies one command further back.
use Rattle.store.proofs.PathLaws.{behind_more}
use Rattle.store.proofs.plan_length.Goals as goal

pub loop-i-preserved : goal.loop-i-preserved
loop-i-preserved c = rw c.node_at-n.ensures (behind_more c.loop-i.invariant c.loop-i-test.true)
