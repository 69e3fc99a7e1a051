-- `judge::judge` meets its contract: the sheet's refusal, or the judgement by its head.
use Rattle.std.proofs.Common.{sym, ◌∙◌}
use Rattle.judge.proofs.ByReading.{by_refusal, by-head}
use Rattle.judge.proofs.judge.Goals as goal

pub returns-in-Ok : goal.returns-in-Ok
returns-in-Ok c = by-head _ _ c.judge_by.result (sym c.read.ensures.answer ∙ c.in-Ok.is) c.judge_by.ensures

pub returns-in-Err : goal.returns-in-Err
returns-in-Err c = by_refusal _ _ (sym c.read.ensures.answer ∙ c.in-Err.is) c.empty.ensures
