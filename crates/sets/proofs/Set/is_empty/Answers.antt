-- `Set::is_empty` meets its contract, word by word.
use mathlib.Core.Path.{refl}
use mathlib.Core.List.{[]}
use borrow.Author.Rules.{rules}
use Rattle.meaning.proofs.Tests.{yes_tells}
use Rattle.sets.specs.Words.{set_of}
use Rattle.sets.proofs.ByWord.{empty-by-word}
use Rattle.sets.proofs.Set.is_empty.Goals as goal

pub returns : goal.returns
unfolding set_of
returns c = empty-by-word 64 c.args.self.word [] (search rules) (yes_tells refl)
