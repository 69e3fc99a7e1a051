-- `follow::Scanner::image` meets its contract. The loop's invariant: `all` is the union of what follows the states of the set below `state`.
use Rattle.std.proofs.Common.{◌≡◌}
use Rattle.meaning.specs.Walk as walk
use Rattle.sets.specs.Words.{set_of, set_for}
use Rattle.follow.specs.Following.{domain_of}
use Rattle.follow.proofs.Scanner.image.Given as goal

abbrev pub invariant-loop-state : goal.invariant-loop-state
invariant-loop-state l = l.all ≡ set_for (walk.image ((domain_of l.self).follow l.command) (set_of l.set) l.state)
