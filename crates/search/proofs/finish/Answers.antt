-- `search::finish` meets its contract: where a plan was found it was read back, and the plan buffer kept its length.
use Rattle.std.proofs.Common.{ap, ◌∙◌, ℕ}
use Rattle.search.specs.Endings.{with_plan}
use Rattle.search.proofs.AnswerLaws.{finished_with}
use Rattle.search.proofs.finish.Goals as goal

pub returns-in-Plan : goal.returns-in-Plan
returns-in-Plan c =
    finished_with c.in-Plan.is c.read_back-length.ensures
    (c.with_plan.ensures ∙ ap (λ (n : ℕ). with_plan c.args.end.count c.read_back-length.result n) c.read_back-length.auto.plan)
