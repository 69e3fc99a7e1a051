-- Fields, each a blank and a number, and how a number of bytes is capped.
use Rattle.std.specs.Prelude.{List, [], ◌∷◌, ◌++◌, ℕ, min}
use Rattle.decimal.specs.Decimal.{decimal}

abbrev pub blank : ℕ
blank = 32

-- numbers, each with one blank before it
unfoldable pub spaced : List ℕ → List ℕ
spaced [] = []
spaced (n ∷ ns) = blank ∷ decimal n ++ spaced ns

-- a number of bytes as an answer can say it: the largest usize stands for itself and for all above it
abbrev pub capped : ℕ → ℕ
capped n = min n 18446744073709551615
