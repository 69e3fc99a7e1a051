-- What an error of too short a buffer prints.
use Rattle.std.specs.Prelude.{List, ◌++◌, ℕ}
use Rattle.std.specs.Fmt.{decimal}
use Rattle.std.specs.Prelude.{codes}
use Rattle.line.specs.declared.Short.{Short}

abbrev pub short_text : Short → List ℕ
short_text e = codes "the buffer is too short: " ++ decimal e.needed ++ codes " bytes are needed"
