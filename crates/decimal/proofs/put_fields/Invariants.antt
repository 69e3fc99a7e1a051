-- `decimal::put_fields`. The loop's invariant: the fields so far stand in the buffer, and end where the next one is to start.
use Rattle.std.proofs.Common.{◌≡◌, ◌+◌, length, take}
use Rattle.std.proofs.lemmas.List.Edits.{sets as stored}
use Rattle.decimal.specs.Fields.{spaced}
use Rattle.decimal.proofs.put_fields.Given as goal

abbrev pub invariant-loop-field : goal.invariant-loop-field
invariant-loop-field g l = let bytes = spaced (g.N.Number.values (take l.field-index l.fields)) in (l.end ≡ l.at + length bytes) × (l.out ≡ stored l.initial.out l.at bytes)
