-- The table of refusals: each row's condition, reason and place, in the table's order, for reading (1 to 8). The first row whose condition holds decides. Writing has rows 4 to 8
-- from here, and row 9 beside them.
use Rattle.std.specs.Prelude.{Bool, cond, not, ◌||◌, List, [], ◌∷◌, ◌++◌, ℕ, ◌+◌, ◌*◌, ◌^◌, eqb, leb, ltb, length, Result, Ok, Err, ⊤}
use Rattle.numbers.specs.Bytes.{number_at}
use Rattle.sheet.specs.Sheet.{Sheet, sheet_in, set_width, sets_at}
use Rattle.sheet.specs.declared.Refusal.{Refusal}
use Rattle.sheet.specs.declared.Reason.{Reason}
use Rattle.sheet.specs.declared.Reason.TheVariants.{TooShort, Version, Length, Counts, Uneven, Initial, Goal, Following, Output, NoCommand, NotSendable, OutsideGoal, NoRoom, LongPlan}
use Rattle.sheet.specs.declared.Counted.{Counted}
use Rattle.sheet.specs.declared.Counted.TheVariants.{Stated, Given}

-- the number of each reason
abbrev pub number_of : Reason → ℕ
number_of TooShort = 1
number_of Version = 2
number_of Length = 3
number_of Counts = 4
number_of Uneven = 5
number_of Initial = 6
number_of Goal = 7
number_of Following = 8
number_of Output = 9
number_of NoCommand = 10
number_of NotSendable = 11
number_of OutsideGoal = 12
number_of NoRoom = 13
number_of LongPlan = 14

abbrev pub refusal : Reason → ℕ → Refusal
refusal reason place = record { reason = reason; place = place }

pub record Row : Type 0 where
  pub holds : Bool
  pub gives : Refusal

-- its condition, its reason and its place
abbrev pub row : Bool → Reason → ℕ → Row
row condition reason place = record { holds = condition; gives = refusal reason place }

-- the refusal of the first row whose condition holds, and `otherwise` where none does
unfoldable pub verdict : {A : Type 0} → (Refusal → A) → A → List Row → A
verdict refused otherwise [] = otherwise
verdict refused otherwise (r ∷ rs) = cond r.holds (refused r.gives) (verdict refused otherwise rs)

-- what some rows say: that they pass, or the refusal of the first whose condition holds
abbrev pub Check : Type 0
Check = Result ⊤ Refusal

abbrev pub passes : Check
passes = Ok tt

abbrev pub check : List Row → Check
check rows = verdict Err passes rows

-- n is not one of least .. most
abbrev pub outside : ℕ → ℕ → ℕ → Bool
outside least most n = ltb n least || ltb most n

-- the set x names a state at or above the state count
abbrev pub missing : ℕ → ℕ → Bool
missing states x = leb (2 ^ states) x

-- ---- the rows, each with its reason and place

-- row 8, for the following sets from an offset on
unfoldable pub set_rows : ℕ → ℕ → List ℕ → List Row
set_rows states at [] = []
set_rows states at (x ∷ xs) = row (missing states x) Following at ∷ set_rows states (at + set_width) xs

-- row 5's condition, which reading and writing word each in its way: by the stated length, and by how many sets are given
abbrev pub uneven_by : Counted → ℕ → Bool
uneven_by (Stated n) sets = not (eqb n (18 + set_width * sets))
uneven_by (Given n) sets = not (eqb n sets)

-- rows 4 to 7, and with the following sets 4 to 8
unfoldable pub head_rows : Counted → ℕ → ℕ → ℕ → ℕ → List Row
head_rows counted states commands initial goal =
    row (outside 1 64 states) Counts 5 ∷
    row (outside 1 32 commands) Counts 6 ∷
    row (uneven_by counted (commands * states)) Uneven 1 ∷
    row (eqb initial 0 || missing states initial) Initial 7 ∷
    row (missing states goal) Goal 15 ∷
    []

abbrev pub sheet_rows : Counted → Sheet → List Row
sheet_rows counted s = head_rows counted s.states s.commands s.initial s.goal ++ set_rows s.states sets_at s.sets

abbrev pub stated : List ℕ → ℕ
stated l = number_at 1 4 l

unfoldable pub reading_rows : List ℕ → List Row
reading_rows l =
    row (ltb (length l) 5) TooShort (length l) ∷
    row (not (eqb (number_at 0 1 l) 1)) Version 0 ∷
    row (not (eqb (5 + stated l) (length l)) || ltb (stated l) 18) Length 1 ∷
    sheet_rows (Stated (stated l)) (sheet_in l)
