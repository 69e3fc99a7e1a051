-- `line::put_row` meets its contract: without room nothing is stored, and with room the line is.
use mathlib.Core.List.{◌++◌}
use native.Mathlib.Omega.{arith}
use Rattle.line.specs.Lines.{row}
use Rattle.line.proofs.PlacedLaws.{no_room, room}
use Rattle.line.proofs.put_row.Goals as goal

pub returns-then-out-end : goal.returns-then-out-end
returns-then-out-end c =
    let a = c.args in
    no_room (row a.word.now (a.fields.now ++ a.commands.now)) a.at a.out.now c.after_row-end.ensures c.if-out-end.true

pub returns : goal.returns
returns c =
    let a = c.args in
    room (row a.word.now (a.fields.now ++ a.commands.now)) a.at a.out.now c.after_row-end.ensures (omega arith) c.if-out-end.false c.put_parts.ensures
