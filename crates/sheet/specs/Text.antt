-- A refusal as text: its number and its place, with a blank between them.
use Rattle.std.specs.Prelude.{List, ◌∷◌, ◌++◌, ℕ}
use Rattle.std.specs.Fmt.{decimal}
use Rattle.sheet.specs.Refusals.{number_of}
use Rattle.sheet.specs.declared.Refusal.{Refusal}

abbrev pub refusal_text : Refusal → List ℕ
refusal_text f = decimal (number_of f.reason) ++ 32 ∷ decimal f.place
