-- `decimal::put_number` meets its contract.
use Rattle.std.proofs.Common.{◌+◌, ◌-◌, ◌≡◌, length, sym, ap, ◌∙◌, arith}
use Rattle.std.proofs.lemmas.List.Edits.{sets as stored}
use Rattle.decimal.specs.Decimal.{decimal}
use Rattle.decimal.proofs.DigitLaws.{last_digits, all_digits, one_digit, no_digit}
use Rattle.decimal.proofs.put_number.Goals as goal

pub loop-i-init : goal.loop-i-init
loop-i-init c =
    let a = c.args in
    let k : a.at + c.digits.result - a.at ≡ length (decimal a.n) = omega arith in
    ap (λ j. stored a.out.now a.at (last_digits j a.n)) k ∙ ap (stored a.out.now a.at) (all_digits a.n)

pub loop-i-preserved : goal.loop-i-preserved
loop-i-preserved c = one_digit c.loop-i.out c.args.at c.loop-i.i c.loop-i.rest c.loop-i-test.true ∙ c.loop-i.invariant

pub returns-clause-out_after : goal.returns-clause-out_after
returns-clause-out_after c = sym (no_digit c.loop-i.out c.args.at c.loop-i.i c.loop-i.rest c.loop-i-test.false) ∙ c.loop-i.invariant
