-- The judge and the search together: of every plan that a search finds the judge says good. The idea: a plan that is found is good for its sheet, and these are
-- the plans that the judge calls good.
use mathlib.Core.Path.{◌≡◌}
use mathlib.Core.List.{List}
use Prim.Native.Nat.{ℕ}
use lib.ListN.{take}
use Rattle.judge.specs.Verdicts.{JudgedBy}
use Rattle.std.specs.Prelude.{Ok}
use Rattle.judge.specs.declared.Judged.{Judged}
use Rattle.judge.proofs.Goodness.{good_iff_runs}
use Rattle.store.specs.declared.Node.{Node}
use Rattle.search.specs.Done.{SheetSearched}
use Rattle.search.specs.declared.Verdict.TheVariants as search_is
use Rattle.search.specs.declared.Answer.{Answer}
use Rattle.search.proofs.Told.{plan_tells}

-- the plan is the start of the plan buffer, as long as the answer says
pub found_is_judged_good_by : {l : List ℕ} {store s : List Node} {plan p : List ℕ} {a : Answer} → SheetSearched l store s plan p a → a.verdict ≡ search_is.Plan
    → {j : Judged} → JudgedBy l (take a.length p) j → j.verdict ≡ Ok tt
found_is_judged_good_by {l} u e v =
    let t = plan_tells l u e in
    (good_iff_runs v).1 (record { head = t.0.head; accepted = t.0.accepted; good = t.1.good })
