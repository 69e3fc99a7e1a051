-- `explore::explore` meets its contract, by cases: there is no place at all; the start is inside the goal; or the run goes on from the start, which is stored at place 0.
use Rattle.std.proofs.Common.{arith}
use Rattle.explore.proofs.TurnLaws.{asks, no_place, started_ended, started_on}
use Rattle.explore.proofs.explore.Goals as goal

pub returns-then-room-eq0 : goal.returns-then-room-eq0
returns-then-room-eq0 c = rw (← c.room_of-room.ensures) (no_place _ c.requires _ _ _ (omega arith) c.if-room-eq0.true)

pub returns-in-Break : goal.returns-in-Break
returns-in-Break c =
    rw (← c.room_of-room.ensures)
    (started_ended _ c.requires _ _ _ (omega arith) c.if-room-eq0.false c.put.ensures c.in-Break.ensures)

pub run-requires : goal.run-requires
run-requires c = asks (started_on _ c.requires _ _ _ (omega arith) c.if-room-eq0.false c.put.ensures (omega arith) c.in-Continue.ensures.1).going (omega arith)
