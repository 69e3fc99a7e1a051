-- `store::read_back` meets its contract: where the plan fits, its length and what was written speak of one path; where it does not, nothing is written.
use native.Mathlib.Omega.{arith}
use Rattle.store.proofs.PathLaws.{read_fits}
use Rattle.store.proofs.read_back.Goals as goal

pub returns-then-total-plan : goal.returns-then-total-plan
returns-then-total-plan c = read_fits c.plan_length-total.ensures c.write_plan.ensures (omega arith)
