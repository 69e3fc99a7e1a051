-- `decimal::put_fields` meets its contract.
use Rattle.std.proofs.Common.{sym, ap, length, arith}
use Rattle.std.proofs.lemmas.List.Edits.{sets as stored}
use Rattle.decimal.proofs.Turns.{no_bytes, length_more, length_within, stored_more}
use Rattle.decimal.proofs.put_fields.Goals as goal

pub loop-field-init : goal.loop-field-init
loop-field-init g c =
    let none = no_bytes g.N.Number.values_in_turn in
    (omega (arith, ap length none), sym (ap (stored c.args.out.now c.args.at) none))

pub put_field-end-requires : goal.put_field-end-requires
put_field-end-requires g c =
    let number = g.met.N.Number.converts_to_value _ _ c.into.ensures in
    omega (arith, length_within g.N.Number.values_in_turn c.args.fields.now c.loop-field.field-index c.loop-field-test.true c.field-item.is number)

pub loop-field-preserved : goal.loop-field-preserved
loop-field-preserved g c =
    let l = c.loop-field in
    let in_turn = g.N.Number.values_in_turn in
    let number = g.met.N.Number.converts_to_value _ _ c.into.ensures in (
      omega (arith, length_more in_turn c.args.fields.now l.field-index c.loop-field-test.true c.field-item.is number),
      stored_more in_turn c.args.fields.now l.field-index c.loop-field-test.true c.field-item.is number c.args.at c.args.out.now l.invariant.0 l.invariant.1 c.put_field-end.ensures.out_after,
    )
