-- The loop's turn and its two ends: a state of the set that nothing follows cannot take the command; where there is none, all can.
use Rattle.std.proofs.Common.{sym, ◌∙◌, arith}
use Rattle.meaning.proofs.StepLaws.{all_take_sendable, cannot_sendable, take_more}
use Rattle.sets.proofs.Values.{stands_for}
use Rattle.follow.proofs.Scanner.sendable.Goals as goal
use Rattle.follow.proofs.Scanner.sendable.Goals.{then-has+else-is_empty, else-has}

pub returns-then-is_empty : goal.returns-then-is_empty
returns-then-is_empty c =
    sym (cannot_sendable _ _ _ _ c.loop-state-test.true (c.has.ensures.if_true c.if-has.true) (sym (stands_for c.set_at.ensures) ∙ c.is_empty.ensures.if_true c.if-is_empty.true))

pub loop-state-preserved : goal.loop-state-preserved
loop-state-preserved c =
    take_more c.loop-state.invariant
    (elim c.if-has.branch [
      | then-has+else-is_empty w ↦ λ m e. w.is_empty.ensures.if_false w.if-is_empty.false (stands_for w.set_at.ensures ∙ e)
      | else-has w ↦ λ m. absurd (c.has.ensures.if_false w.if-has.false m)
    ])

pub returns : goal.returns
returns c = sym (all_take_sendable _ _ _ (λ s h. c.loop-state.invariant s (omega arith)))
