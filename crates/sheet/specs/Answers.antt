-- What reading answers by the table of refusals, and the head of an answer.
use Rattle.std.specs.Prelude.{◌≡◌, List, [], ◌∷◌, ℕ, Result, Ok, Err}
use Rattle.numbers.specs.Bytes.{AreBytes}
use Rattle.sets.specs.Words.{Value, set_of, set_for}
use Rattle.sheet.specs.Sheet.{Sheet, sheet_in, sheet_with}
use Rattle.sheet.specs.Refusals.{verdict, number_of, reading_rows}
use Rattle.sheet.specs.declared.Head.{Head}
use Rattle.sheet.specs.declared.Refusal.{Refusal}

-- a sheet is accepted with its head, or refused
abbrev pub Reading : Type 0
Reading = Result Head Refusal

-- the head of a sheet, as it is answered
abbrev pub head_with : ℕ → ℕ → Value → Value → Head
head_with states commands initial goal = record { states = states; commands = commands; initial = initial; goal = goal }

abbrev pub head_of : Sheet → Head
head_of s = head_with s.states s.commands (set_for s.initial) (set_for s.goal)

-- the sheet with this head and these following sets
abbrev pub sheet_of : Head → List ℕ → Sheet
sheet_of h sets = sheet_with h.states h.commands (set_of h.initial) (set_of h.goal) sets

unfoldable pub reading : List ℕ → Reading
reading l = verdict Err (Ok (head_of (sheet_in l))) (reading_rows l)

-- the numbers of each case of a reading: those of the table and the place for a refusal; and for an accepted sheet 0, which is no number of the table, and the head
abbrev pub values_of : Reading → List ℕ
values_of (Ok h) = 0 ∷ 0 ∷ h.states ∷ h.commands ∷ set_of h.initial ∷ set_of h.goal ∷ []
values_of (Err f) = number_of f.reason ∷ f.place ∷ 0 ∷ 0 ∷ 0 ∷ 0 ∷ []

-- the elements of l are bytes where r accepts
pub record BytesIf (r : Reading) (l : List ℕ) : Type 0 where
  pub are_bytes : {h : Head} → r ≡ Ok h → AreBytes l

-- what reading promises: its answer, and that an accepted sheet's elements are bytes.
pub record ReadAs (l : List ℕ) (r : Reading) : Type 0 where
  pub answer : r ≡ reading l
  pub bytes : BytesIf r l

-- a refused sheet has no states and no commands in it
abbrev pub shown_head : Reading → Head
shown_head (Ok h) = h
shown_head (Err r) = head_with 0 0 (set_for 0) (set_for 0)
