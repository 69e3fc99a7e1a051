-- `writer::put_sets`. The loop's invariant: the first i following sets stand in the output.
use mathlib.Core.Path.{◌≡◌}
use mathlib.Core.List.{map}
use lib.ListN.{take}
use lib.Seq.{sets}
use Rattle.sheet.specs.Sheet.{sets_at, set_width}
use Rattle.sheet.proofs.Fields.{field, laid}
use Rattle.writer.proofs.put_sets.Given as goal

abbrev pub invariant-loop-i : goal.invariant-loop-i
invariant-loop-i l = l.out ≡ sets l.initial.out sets_at (laid (map (field set_width) (take l.i l.given)))
