-- The set that a value of type `Set` stands for, by its words. `set_of` and `set_for` stay shut: besides this crate only examples that are computed open
-- them, so no other proof knows how many words a set has.
use Rattle.std.specs.Prelude.{◌≡◌, List, [], ◌∷◌, ℕ, ◌+◌, ◌*◌, ◌^◌}
use Rattle.sets.specs.declared.Set.{Set}

-- the set whose words of w states are these, the lowest first
abbrev pub of_words : ℕ → List ℕ → ℕ
of_words w [] = 0
of_words w (x ∷ []) = x
of_words w (x ∷ y ∷ xs) = of_words w (y ∷ xs) * 2 ^ w + x

-- how many states a value can hold
abbrev pub most : ℕ
most = 64

-- a value of type `Set` is one word of 64 states
abbrev pub Value : Type 0
Value = Set

abbrev pub words_of : Value → List ℕ
words_of x = x.word ∷ []

-- the set that a value stands for
unfoldable pub set_of : Value → ℕ
set_of x = of_words 64 (words_of x)

-- the value that stands for a set of states below `most`
unfoldable pub set_for : ℕ → Value
set_for y = record { word = y }

-- x is the value that stands for its set
abbrev pub IsValue : Value → Type 0
IsValue x = x ≡ set_for (set_of x)
