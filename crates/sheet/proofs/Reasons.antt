-- A reason is told by its number in the table, which is one of 1 to 14.
-- The idea: the reason at a number's place in the table undoes the number of a reason.
use Rattle.std.proofs.Common.{◌≡◌, refl, sym, ap, ◌∙◌, ℕ, ◌-◌, ◌≤◌, List, [], ◌∷◌, get_or, arith}
use Rattle.sheet.specs.Refusals.{number_of}
use Rattle.sheet.specs.declared.Reason.{Reason}
use Rattle.sheet.specs.declared.Reason.TheVariants.{TooShort, Version, Length, Counts, Uneven, Initial, Goal, Following, Output, NoCommand, NotSendable, OutsideGoal, NoRoom, LongPlan}
use Rattle.sheet.specs.declared.Refusal.{Refusal}

-- in the table's order
reasons : List Reason
reasons = TooShort ∷ Version ∷ Length ∷ Counts ∷ Uneven ∷ Initial ∷ Goal ∷ Following ∷ Output ∷ NoCommand ∷ NotSendable ∷ OutsideGoal ∷ NoRoom ∷ LongPlan ∷ []

numbered : ℕ → Reason
numbered n = get_or reasons (n - 1) TooShort

undone : (r : Reason) → numbered (number_of r) ≡ r
unfolding numbered reasons
undone TooShort = refl
undone Version = refl
undone Length = refl
undone Counts = refl
undone Uneven = refl
undone Initial = refl
undone Goal = refl
undone Following = refl
undone Output = refl
undone NoCommand = refl
undone NotSendable = refl
undone OutsideGoal = refl
undone NoRoom = refl
undone LongPlan = refl

pub number_inj : (r s : Reason) → number_of r ≡ number_of s → r ≡ s
number_inj r s e = sym (undone r) ∙ ap numbered e ∙ undone s

-- and a refusal by its number and its place
pub refusal_inj : (f g : Refusal) → number_of f.reason ≡ number_of g.reason → f.place ≡ g.place → f ≡ g
refusal_inj f g e p = λ i. record { reason = number_inj f.reason g.reason e i; place = p i }

-- each number is one of 1 to 14
pub number_small : (r : Reason) → (1 ≤ number_of r) × (number_of r ≤ 14)
number_small TooShort = omega arith
number_small Version = omega arith
number_small Length = omega arith
number_small Counts = omega arith
number_small Uneven = omega arith
number_small Initial = omega arith
number_small Goal = omega arith
number_small Following = omega arith
number_small Output = omega arith
number_small NoCommand = omega arith
number_small NotSendable = omega arith
number_small OutsideGoal = omega arith
number_small NoRoom = omega arith
number_small LongPlan = omega arith
