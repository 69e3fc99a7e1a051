-- The answer from how the exploration ended: cited by the contracts of inner functions, and by no promise to a caller.
use Rattle.std.specs.Prelude.{◌≡◌, cond, List, ◌++◌, ℕ, ◌-◌, ◌≤◌, ◌<◌, leb, length, drop}
use Rattle.sheet.specs.Refusals.{refusal}
use Rattle.sheet.specs.declared.Reason.TheVariants.{NoRoom, LongPlan}
use Rattle.store.specs.declared.Node.{Node}
use Rattle.store.specs.Paths.{Path, HasPath}
use Rattle.explore.specs.declared.Ending.TheVariants as ending
use Rattle.explore.specs.declared.End.{End}
use Rattle.search.specs.Done.{answer}
use Rattle.search.specs.declared.Verdict.TheVariants.{Plan, NoPlan, Refused}
use Rattle.search.specs.declared.Answer.{Answer}

-- refusals 13 and 14, the second with the length of the plan
abbrev pub no_room_for : ℕ → Answer
no_room_for count = answer (Refused (refusal NoRoom 0)) count 0

abbrev pub long_plan : ℕ → ℕ → Answer
long_plan count long = answer (Refused (refusal LongPlan long)) count long

-- for a plan of so many commands and a plan buffer of so many bytes
abbrev pub with_plan : ℕ → ℕ → ℕ → Answer
with_plan count long bytes = cond (leb long bytes) (answer Plan count long) (long_plan count long)

-- a plan that was found can be read back
abbrev pub CanRead : List Node → End → Type 0
CanRead l e = e.ending ≡ ending.Plan → (0 < e.count) × HasPath l (e.count - 1)

-- the answer and the plan buffer, from how the search ended
pub record Finished (l : List Node) (e : End) (before after : List ℕ) (a : Answer) : Type 0 where
  pub plan : {p : List ℕ} → e.ending ≡ ending.Plan → Path l (e.count - 1) p → length p ≤ length before
      → (a ≡ answer Plan e.count (length p)) × (after ≡ p ++ drop (length p) before)
  pub too_long : {p : List ℕ} → e.ending ≡ ending.Plan → Path l (e.count - 1) p → length before < length p
      → (a ≡ long_plan e.count (length p)) × (after ≡ before)
  pub no_plan : e.ending ≡ ending.NoPlan → (a ≡ answer NoPlan e.count 0) × (after ≡ before)
  pub no_room : e.ending ≡ ending.NoRoom → (a ≡ no_room_for e.count) × (after ≡ before)
