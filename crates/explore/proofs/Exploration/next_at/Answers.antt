-- `explore::Exploration::next_at` meets its contract, by cases: no place holds the image, or one does, or the command is not sendable.
use Rattle.std.proofs.Common.{arith}
use Rattle.store.proofs.Unique.{found_within}
use Rattle.explore.proofs.NextLaws.{next_none, next_seen, next_new}
use Rattle.explore.proofs.Exploration.next_at.Goals as goal

pub returns-in-None : goal.returns-in-None
returns-in-None c = next_new _ _ _ _ _ c.node_at-n.ensures c.sendable.ensures c.if-not-sendable.false c.image-set.ensures (found_within (omega arith) c.in-None.ensures)

pub returns-in-Some : goal.returns-in-Some
returns-in-Some c = next_seen _ _ _ _ _ c.node_at-n.ensures c.sendable.ensures c.if-not-sendable.false c.image-set.ensures (found_within (omega arith) c.in-Some.ensures)

pub returns-then-not-sendable : goal.returns-then-not-sendable
returns-then-not-sendable c = next_none _ _ _ _ _ c.node_at-n.ensures c.sendable.ensures c.if-not-sendable.true
