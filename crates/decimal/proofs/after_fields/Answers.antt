-- `decimal::after_fields` meets its contract.
use Rattle.std.proofs.Common.{ap, length, arith}
use Rattle.decimal.proofs.Turns.{no_bytes, length_more}
use Rattle.decimal.proofs.after_fields.Goals as goal

pub loop-field-init : goal.loop-field-init
loop-field-init g c = omega (arith, ap length (no_bytes g.N.Number.values_in_turn))

pub loop-field-preserved : goal.loop-field-preserved
loop-field-preserved g c =
    let number = g.met.N.Number.converts_to_value _ _ c.into.ensures in
    omega (arith, length_more g.N.Number.values_in_turn c.args.fields.now c.loop-field.field-index c.loop-field-test.true c.field-item.is number)
