-- `Set::inside` meets its contract, word by word: x lies inside y exactly where their common part is x.
use mathlib.Core.List.{[]}
use borrow.Author.Rules.{rules}
use Rattle.meaning.proofs.Tests.{yes_tells}
use Rattle.sets.specs.Words.{set_of}
use Rattle.sets.proofs.ByWord.{inside-by-word}
use Rattle.sets.proofs.Set.inside.Goals as goal

pub returns : goal.returns
unfolding set_of
returns c = inside-by-word 64 c.args.self.word c.args.y.word [] [] (search rules) (search rules) (yes_tells (λ s m. m))
