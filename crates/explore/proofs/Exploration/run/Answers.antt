-- The loop's turn and its two ends: the search has ended within a place, or goes on with the next one; after the last place there is no plan.
use Rattle.explore.proofs.TurnLaws.{and_goes_on, and_ends, ran}
use Rattle.explore.proofs.Exploration.run.Goals as goal

pub returns-in-Break : goal.returns-in-Break
returns-in-Break c = and_ends c.loop-i.invariant c.loop-i.invariant.grown c.in-Break.ensures

pub loop-i-preserved : goal.loop-i-preserved
loop-i-preserved c = and_goes_on c.loop-i.invariant c.loop-i.invariant.grown c.in-Continue.ensures

pub returns : goal.returns
returns c = ran c.loop-i.invariant c.loop-i-test.false
