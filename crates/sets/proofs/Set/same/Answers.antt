-- `Set::same` meets its contract, word by word.
use mathlib.Core.Path.{refl}
use mathlib.Core.List.{[]}
use borrow.Author.Rules.{rules}
use Rattle.meaning.proofs.Tests.{yes_tells}
use Rattle.sets.specs.Words.{set_of}
use Rattle.sets.proofs.ByWord.{same_by_word}
use Rattle.sets.proofs.Set.same.Goals as goal

pub returns : goal.returns
unfolding set_of
returns c = same_by_word 64 c.args.self.word c.args.y.word [] [] (search rules) (search rules) (yes_tells refl)
