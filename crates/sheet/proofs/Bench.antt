-- The scope's small sheets as bytes, with what the reader says of each, computed from the definitions; and sheet S's bytes from the sheet itself.
use mathlib.Core.Path.{◌≡◌, refl}
use mathlib.Core.List.{List, [], ◌∷◌}
use Prim.Native.Nat.{ℕ}
use Rattle.numbers.specs.Bytes.{number, bytes_of, bytes_of_each}
use Rattle.sets.specs.Words.{set_for}
use Rattle.sheet.specs.Sheet.{sheet_with, encode, sheet_in}
use Rattle.sheet.specs.Refusals.{verdict, head_rows, set_rows, reading_rows}
use Rattle.sheet.specs.Answers.{head_with, reading}
use Rattle.std.specs.Prelude.{Ok}

-- a small set, in eight bytes
abbrev pub set8 : ℕ → List ℕ → List ℕ
set8 x l = 0 ∷ 0 ∷ 0 ∷ 0 ∷ 0 ∷ 0 ∷ 0 ∷ x ∷ l

-- sheets of two states, with two commands and with one
abbrev pub sheet22 : ℕ → ℕ → ℕ → ℕ → ℕ → ℕ → List ℕ
sheet22 x g a b c d = 1 ∷ 0 ∷ 0 ∷ 0 ∷ 50 ∷ 2 ∷ 2 ∷ set8 x (set8 g (set8 a (set8 b (set8 c (set8 d [])))))

abbrev pub sheet21 : ℕ → ℕ → ℕ → ℕ → List ℕ
sheet21 x g a b = 1 ∷ 0 ∷ 0 ∷ 0 ∷ 34 ∷ 2 ∷ 1 ∷ set8 x (set8 g (set8 a (set8 b [])))

-- sheet S with a goal; S with command 1 impossible in state 1; S with command 0 only; and one command that leads from 0 to both states and from 1 to 1
abbrev pub S : ℕ → List ℕ
S g = sheet22 3 g 2 1 1 1

abbrev pub partial : List ℕ
partial = sheet22 3 1 2 1 1 0

abbrev pub swap : ℕ → ℕ → List ℕ
swap x g = sheet21 x g 2 1

abbrev pub drift : List ℕ
drift = sheet21 1 2 3 2

-- one command that leads from 0 to 1, and no command that 1 can take
abbrev pub dead_end : List ℕ
dead_end = sheet21 1 2 2 0

-- ---- what the reader says

pub reads_S : reading (S 1) ≡ Ok (head_with 2 2 (set_for 3) (set_for 1))
unfolding reading verdict reading_rows head_rows set_rows sheet_in number
reads_S = refl

pub reads_S_two : reading (S 2) ≡ Ok (head_with 2 2 (set_for 3) (set_for 2))
unfolding reading verdict reading_rows head_rows set_rows sheet_in number
reads_S_two = refl

pub reads_S_none : reading (S 0) ≡ Ok (head_with 2 2 (set_for 3) (set_for 0))
unfolding reading verdict reading_rows head_rows set_rows sheet_in number
reads_S_none = refl

pub reads_partial : reading partial ≡ Ok (head_with 2 2 (set_for 3) (set_for 1))
unfolding reading verdict reading_rows head_rows set_rows sheet_in number
reads_partial = refl

pub reads_swap : reading (swap 1 2) ≡ Ok (head_with 2 1 (set_for 1) (set_for 2))
unfolding reading verdict reading_rows head_rows set_rows sheet_in number
reads_swap = refl

pub reads_swap_all : reading (swap 3 1) ≡ Ok (head_with 2 1 (set_for 3) (set_for 1))
unfolding reading verdict reading_rows head_rows set_rows sheet_in number
reads_swap_all = refl

pub reads_dead_end : reading dead_end ≡ Ok (head_with 2 1 (set_for 1) (set_for 2))
unfolding reading verdict reading_rows head_rows set_rows sheet_in number
reads_dead_end = refl

pub reads_drift : reading drift ≡ Ok (head_with 2 1 (set_for 1) (set_for 2))
unfolding reading verdict reading_rows head_rows set_rows sheet_in number
reads_drift = refl

-- ---- from the sheet to its bytes: the scope's hexadecimal

pub s_encoded : encode (sheet_with 2 2 3 1 (2 ∷ 1 ∷ 1 ∷ 1 ∷ [])) ≡ S 1
unfolding bytes_of bytes_of_each
s_encoded = refl
