-- Wrong judges, each ruled out on a sheet that the scope names: for an accepted sheet the promise leaves only the computed answer, and the answer is
-- computed from the sheet's bytes.
use mathlib.Core.Path.{◌≡◌, refl, ◌∙◌}
use mathlib.Core.List.{[], ◌∷◌}
use lib.Count.{ones, ones_in}
use Rattle.meaning.specs.Walk.{sendable, image, step, walk}
use Rattle.meaning.specs.Answers as answers
use Rattle.meaning.specs.Answers.{judged}
use Rattle.meaning.specs.Computed.{first_missing, judge}
use Rattle.sets.specs.Words.{set_of, set_for}
use Rattle.numbers.specs.Bytes.{number}
use Rattle.sheet.specs.Sheet.{sheet_in, domain}
use Rattle.sheet.proofs.Bench.{S, partial, drift, dead_end, reads_S, reads_partial, reads_drift, reads_dead_end}
use Rattle.judge.specs.declared.Judged.{Judged}
use Rattle.judge.specs.Verdicts.{values_of, JudgedBy}
use Rattle.judge.proofs.Unique.{judge-value}

-- a judge that refuses everything: plan 1 of S is good
pub not_refuse_all : {j : Judged} → JudgedBy (S 1) (1 ∷ []) j → values_of j ≡ judged answers.good 0 1
unfolding judge first_missing walk step sendable image domain sheet_in number set_of set_for ones ones_in
not_refuse_all u = judge-value u reads_S ∙ refl

-- a judge that sends a command which only some states can take, or counts the empty union as inside the goal, or reports the set after the command
pub not_some_states : {j : Judged} → JudgedBy partial (1 ∷ []) j → values_of j ≡ judged (answers.refused 11) 0 3
unfolding judge first_missing walk step sendable image domain sheet_in number set_of set_for ones ones_in
not_some_states u = judge-value u reads_partial ∙ refl

-- a judge that accepts because some outcome arrives
pub not_some_outcome : {j : Judged} → JudgedBy drift (0 ∷ []) j → values_of j ≡ judged (answers.refused 12) 1 3
unfolding judge first_missing walk step sendable image domain sheet_in number set_of set_for ones ones_in
not_some_outcome u = judge-value u reads_drift ∙ refl

-- a judge that accepts because the goal was passed on the way: plan 1 then 0 of S
pub not_on_the_way : {j : Judged} → JudgedBy (S 1) (1 ∷ 0 ∷ []) j → values_of j ≡ judged (answers.refused 12) 2 2
unfolding judge first_missing walk step sendable image domain sheet_in number set_of set_for ones ones_in
not_on_the_way u = judge-value u reads_S ∙ refl

-- a judge that stops looking for missing commands where the walk stops
pub not_walked_first : {j : Judged} → JudgedBy partial (1 ∷ 7 ∷ []) j → values_of j ≡ judged (answers.refused 10) 1 0
unfolding judge first_missing walk step sendable image domain sheet_in number set_of set_for ones ones_in
not_walked_first u = judge-value u reads_partial ∙ refl

-- a judge that asks for a possible command in every state
pub not_commands_everywhere : {j : Judged} → JudgedBy dead_end (0 ∷ []) j → values_of j ≡ judged answers.good 0 2
unfolding judge first_missing walk step sendable image domain sheet_in number set_of set_for ones ones_in
not_commands_everywhere u = judge-value u reads_dead_end ∙ refl
