-- `Set::has` meets its contract: below 64 by the bit itself, and above it because no word is left.
use mathlib.Core.List.{[]}
use borrow.Author.Rules.{rules}
use Rattle.meaning.proofs.SetLaws.{∉_empty}
use Rattle.meaning.proofs.Tests.{no_tells}
use Rattle.sets.specs.Words.{set_of}
use Rattle.sets.proofs.ByWord.{has_here, has_above}
use Rattle.sets.proofs.Set.has.Goals as goal

pub returns-then-s-lt-MOST : goal.returns-then-s-lt-MOST
unfolding set_of
returns-then-s-lt-MOST c = has_here 64 c.args.self.word [] (search rules) c.args.s (search rules)

pub returns-else-s-lt-MOST : goal.returns-else-s-lt-MOST
unfolding set_of
returns-else-s-lt-MOST c = has_above 64 c.args.self.word [] (search rules) c.args.s (search rules) (no_tells ∉_empty)
