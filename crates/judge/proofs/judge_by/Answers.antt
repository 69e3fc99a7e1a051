-- `judge::judge_by` meets its contract: each return is one of the four cases of the judge's answer.
use Rattle.std.proofs.Common.{ℕ, sym, ap, ◌∙◌, subst}
use Rattle.meaning.specs.Answers as answers
use Rattle.meaning.specs.Answers.{Judges, judged}
use Rattle.meaning.proofs.JudgeLaws.{judges_no_command, judges_not_sendable, judges_outside, judges_inside}
use Rattle.sets.specs.Words.{set_of}
use Rattle.sets.proofs.Values.{stands_for}
use Rattle.judge.proofs.judge_by.Goals as goal

pub returns-in-Err : goal.returns-in-Err
returns-in-Err c =
    subst (Judges _ _ _ _) (sym c.refused-in-Err.ensures.result_value)
    (judges_not_sendable _ _ _ _ (c.first_missing.ensures.none c.in_default.is) (c.walk.ensures.blocked c.in-Err.is))

pub returns-then-not-inside : goal.returns-then-not-inside
returns-then-not-inside c =
    subst (Judges _ _ _ _) (sym c.refused-then-not-inside.ensures.result_value)
    (judges_outside _ _ _ _ (c.first_missing.ensures.none c.in_default.is) (c.walk.ensures.ended c.in-Ok.is) (c.inside.ensures.if_false c.if-not-inside.true))

pub returns : goal.returns
returns c =
    subst (Judges _ _ _ _) (ap (λ (n : ℕ). let j : answers.Judged = record { verdict = answers.good; place = 0; set = set_of c.in-Ok.set; left = n } in j) (sym c.ones.ensures))
    (judges_inside _ _ _ _ (c.first_missing.ensures.none c.in_default.is) (c.walk.ensures.ended c.in-Ok.is) (c.inside.ensures.if_true c.if-not-inside.false))

pub returns-in-Some : goal.returns-in-Some
returns-in-Some c =
    subst (Judges _ _ _ _) (sym (c.refused.ensures.result_value ∙ ap (judged (answers.refused 10) c.in-Some.missing) (stands_for c.empty.ensures)))
    (judges_no_command _ _ _ _ (c.first_missing.ensures.missing c.in-Some.is))
