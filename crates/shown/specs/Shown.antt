-- The following set of a command and a state by a sheet's length and its count of states alone, for whoever has that count from the head.
use Rattle.std.specs.Prelude.{Bool, Option, Some, None, cond, ◌&&◌, List, [], ℕ, ◌+◌, ◌*◌, leb, ltb, length}
use Rattle.numbers.specs.Bytes.{part}
use Rattle.sheet.specs.Sheet.{set_width, set_offset}

-- in a sheet of so many bytes and states there is a following set of command a and state s
unfoldable pub is_shown : ℕ → ℕ → ℕ → ℕ → Bool
is_shown size states a s = ltb s states && leb states 64 && ltb a 32 && leb (set_offset (a * states + s) + set_width) size

-- where its bytes stand, and nowhere where it is missing
unfoldable pub offset_of : ℕ → ℕ → ℕ → ℕ → Option ℕ
offset_of size states a s = cond (is_shown size states a s) (Some (set_offset (a * states + s))) None

-- its bytes, and none where it is missing
unfoldable pub shown_at : List ℕ → ℕ → ℕ → ℕ → List ℕ
shown_at l states a s = cond (is_shown (length l) states a s) (part (set_offset (a * states + s)) set_width l) []

-- where they begin: at the start of the sheet where there are none
unfoldable pub shown_from : List ℕ → ℕ → ℕ → ℕ → ℕ
shown_from l states a s = cond (is_shown (length l) states a s) (set_offset (a * states + s)) 0
