-- The domain that a head and a sheet's bytes give. Of an accepted sheet and its own head it is the sheet's domain.
use Rattle.std.specs.Prelude.{List, ℕ}
use Rattle.meaning.specs.Domain.{Domain}
use Rattle.numbers.specs.Bytes.{number}
use Rattle.shown.specs.Shown.{shown_at}
use Rattle.sheet.specs.declared.Head.{Head}
use Rattle.follow.specs.declared.Scanner.{Scanner}

abbrev pub domain_by : Head → List ℕ → Domain
domain_by h l = record { states = h.states; commands = h.commands; follow = λ a s. number (shown_at l h.states a s) }

-- the domain that a scanner gives
abbrev pub domain_of : Scanner → Domain
domain_of s = domain_by s.head s.sheet.now
