-- `decimal::digits` meets its contract: a number has one digit more than its logarithm says.
use Rattle.std.proofs.Common.{◌+◌, ap, ◌∙◌}
use Rattle.decimal.proofs.DecimalLaws.{length-log}
use Rattle.decimal.proofs.digits.Goals as goal

pub returns : goal.returns
returns c =
    let log = c.checked_ilog10 in
    ap (λ k. k + 1) c.unwrap_or.ensures ∙ length-log c.args.n log.result log.ensures.none log.ensures.power_le log.ensures.next_power_gt
