-- The loop's turn: a state of the set adds what follows it to the image, and another state adds nothing.
use Rattle.std.proofs.Common.{◌∙◌}
use Rattle.meaning.specs.Walk as walk
use Rattle.meaning.proofs.SetLaws.{member}
use Rattle.meaning.proofs.StepLaws.{image-turn_in, image-turn_out}
use Rattle.sets.proofs.Values.{stands_for}
use Rattle.follow.proofs.Scanner.image.Goals as goal
use Rattle.follow.proofs.Scanner.image.Goals.{then-has, else-has}

pub loop-state-init : goal.loop-state-init
unfolding walk.image
loop-state-init c = c.empty-all.ensures

pub loop-state-preserved : goal.loop-state-preserved
loop-state-preserved c =
    elim c.if-has.branch [
      | then-has w ↦
          let now = stands_for c.loop-state.invariant in
          let more = stands_for w.set_at.ensures in
          rw (image-turn_in _ _ _ (c.has.ensures.if_true w.if-has.true).is_one) (cc (w.all-is, w.union-all.ensures, now, more))
      | else-has w ↦ rw (image-turn_out _ _ _ (λ e. c.has.ensures.if_false w.if-has.false (member e))) (w.all-is ∙ c.loop-state.invariant)
    ]
