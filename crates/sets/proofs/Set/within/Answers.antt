-- `Set::within` meets its contract: below 64 by what the shift leaves, and from there on because no word is left.
use mathlib.Core.Path.{refl}
use mathlib.Core.List.{[]}
use Prim.Native.Nat.{◌-◌}
use lib.Pow.{pow_pos}
use borrow.Author.Rules.{rules}
use Rattle.meaning.proofs.Tests.{yes_tells}
use Rattle.sets.specs.Words.{set_of}
use Rattle.sets.proofs.ByWord.{within-here, within_above}
use Rattle.sets.proofs.Set.within.Goals as goal

pub returns-then-states-lt-MOST : goal.returns-then-states-lt-MOST
unfolding set_of
returns-then-states-lt-MOST c = within-here 64 c.args.self.word [] (search rules) c.args.states (search rules) (yes_tells refl)

pub returns-else-states-lt-MOST : goal.returns-else-states-lt-MOST
unfolding set_of
returns-else-states-lt-MOST c = let n = c.args.states in within_above 64 c.args.self.word [] (search rules) n (search rules) (yes_tells (pow_pos (n - 64)))
