-- `judge::is_good` meets its contract: by what the judge's verdict means.
use Rattle.std.proofs.Common.{sym, subst}
use Rattle.meaning.specs.Sets.{Tells}
use Rattle.judge.specs.Verdicts.{GoodFor}
use Rattle.judge.proofs.Goodness.{verdict_tells}
use Rattle.judge.proofs.is_good.Goals as goal

pub returns : goal.returns
returns c = subst (λ b. Tells b (GoodFor c.args.sheet.now c.args.plan.now)) (sym c.is_ok.ensures.value) (verdict_tells c.judge.ensures)
