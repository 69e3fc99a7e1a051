-- The loop's turn and where it is blocked: a command that is sendable takes the walk one set further, and one that is not blocks it.
use Rattle.std.proofs.Common.{sym, ◌∙◌}
use Rattle.meaning.proofs.WalkLaws.{gives_nil}
use Rattle.sets.proofs.Values.{stands_for}
use Rattle.judge.proofs.Turns.{walk_goes_on, walk-blocked}
use Rattle.judge.proofs.walk.Goals as goal

pub loop-at-init : goal.loop-at-init
loop-at-init c = gives_nil _ _

pub returns-then-not-sendable : goal.returns-then-not-sendable
returns-then-not-sendable c = walk-blocked _ _ _ c.loop-at-test.true c.from-command.ensures c.loop-at.invariant (sym c.sendable.ensures ∙ c.if-not-sendable.true)

pub loop-at-preserved : goal.loop-at-preserved
loop-at-preserved c = walk_goes_on _ _ _ c.loop-at-test.true c.from-command.ensures c.loop-at.invariant (sym c.sendable.ensures ∙ c.if-not-sendable.false) (stands_for c.image-set.ensures)
