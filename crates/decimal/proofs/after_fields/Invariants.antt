-- `decimal::after_fields`. The loop's invariant: the end is that of the fields so far.
use Rattle.std.proofs.Common.{◌≡◌, ◌+◌, length, take}
use Rattle.decimal.specs.Fields.{spaced, capped}
use Rattle.decimal.proofs.after_fields.Given as goal

abbrev pub invariant-loop-field : goal.invariant-loop-field
invariant-loop-field g l = l.end ≡ capped (l.at + length (spaced (g.N.Number.values (take l.field-index l.fields))))
