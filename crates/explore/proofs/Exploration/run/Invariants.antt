-- `explore::Exploration::run` meets its contract. The loop's invariant: place i is to be expanded next, with `count` places stored and the later ones as they were. The measure is how many places of the
-- room are left.
use Rattle.std.proofs.Common.{◌-◌}
use Rattle.sets.specs.Words.{set_of}
use Rattle.follow.specs.Following.{domain_of}
use Rattle.store.specs.Nodes.{set_at}
use Rattle.explore.specs.Turns.{GoneOn}
use Rattle.explore.proofs.Exploration.run.Given as goal

abbrev pub invariant-loop-i : goal.invariant-loop-i
invariant-loop-i l = GoneOn (domain_of l.self.scanner) (set_at l.fn.store 0) (set_of l.self.goal) l.self.room l.i 0 1 l.fn.store l.store l.count

abbrev pub decreases-loop-i : goal.decreases-loop-i
decreases-loop-i l = l.self.room - l.i
