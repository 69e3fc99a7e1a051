-- A sheet is valid exactly where rows 4 to 8 pass and it has a following set for each command and state.
-- The idea: each part of `Valid` is the condition of a row, turned round.
use mathlib.Core.Path.{◌≡◌, refl, ◌∙◌}
use mathlib.Core.Bool.{false}
use mathlib.Core.List.{List, [], ◌∷◌}
use Prim.Native.Nat.{ℕ, zero, suc, ◌+◌, ◌*◌, ◌^◌, ◌≤◌, ◌<◌}
use lib.Dec.{eqb}
use lib.Pow.{pow_pos}
use lib.ListN.{length, get_or}
use borrow.Author.Tests.{le-ltb, lt-leb, ne_eqb, leb-false, eqb-false}
use Rattle.sheet.specs.Sheet.{Sheet, Valid, sets_at, set_width}
use Rattle.sheet.specs.Refusals.{Row, verdict, uneven_by, head_rows, set_rows, sheet_rows, missing, outside, check, passes}
use Rattle.sheet.specs.declared.Counted.{Counted}
use Rattle.std.specs.Prelude.{Err}
use Rattle.sheet.proofs.Rows.{passes_here, passes_rest, holds_not, least, most, or_false, both_false}

-- no row's condition holds
pub record NoneHold (rs : List Row) : Type 0 where
  pub passes : check rs ≡ passes

pub none_here : {r : Row} {rs : List Row} → NoneHold (r ∷ rs) → r.holds ≡ false
none_here {r} {rs} n = passes_here r rs n.passes

pub none_rest : {r : Row} {rs : List Row} → NoneHold (r ∷ rs) → NoneHold rs
none_rest {r} {rs} n = record { passes = passes_rest r rs n.passes }

pub none-cons : {r : Row} {rs : List Row} → r.holds ≡ false → NoneHold rs → NoneHold (r ∷ rs)
none-cons {r} {rs} e n = record { passes = holds_not Err passes r rs e ∙ n.passes }

pub none-nil : NoneHold []
unfolding verdict
none-nil = record { passes = refl }

-- ---- the following sets

pub sets-within : (states at : ℕ) (xs : List ℕ) → NoneHold (set_rows states at xs) → (i : ℕ) → get_or xs i 0 < 2 ^ states
unfolding set_rows
sets-within states at [] n i = pow_pos states
sets-within states at (x ∷ xs) n zero = leb-false (2 ^ states) x (none_here n)
sets-within states at (x ∷ xs) n (suc i) = sets-within states (at + set_width) xs (none_rest n) i

pub within-sets : (states at : ℕ) (xs : List ℕ) → ((i : ℕ) → get_or xs i 0 < 2 ^ states) → NoneHold (set_rows states at xs)
unfolding set_rows
within-sets states at [] h = none-nil
within-sets states at (x ∷ xs) h = none-cons (lt-leb (2 ^ states) x (h 0)) (within-sets states (at + set_width) xs (λ i. h (suc i)))

-- ---- the sheet

module _ (counted : Counted) (s : Sheet) where
  pub valid : length s.sets ≡ s.commands * s.states → NoneHold (sheet_rows counted s) → Valid s
  unfolding head_rows
  valid c n =
      let states-in = none_here n in
      let n₁ = none_rest n in
      let commands-in = none_here n₁ in
      let n₃ = none_rest (none_rest n₁) in
      let start = or_false (eqb s.initial 0) (missing s.states s.initial) (none_here n₃) in
      let n₄ = none_rest n₃ in
      record {
        some_state = least 1 64 s.states states-in;
        states_fit = most 1 64 s.states states-in;
        some_command = least 1 32 s.commands commands-in;
        commands_fit = most 1 32 s.commands commands-in;
        complete = c;
        initial_some = eqb-false s.initial 0 start.0;
        initial_within = leb-false (2 ^ s.states) s.initial start.1;
        goal-within = leb-false (2 ^ s.states) s.goal (none_here n₄);
        sets-within = sets-within s.states sets_at s.sets (none_rest n₄);
      }

  pub even : NoneHold (sheet_rows counted s) → uneven_by counted (s.commands * s.states) ≡ false
  unfolding head_rows
  even n = none_here (none_rest (none_rest n))

  pub passes_valid : uneven_by counted (s.commands * s.states) ≡ false → Valid s → NoneHold (sheet_rows counted s)
  unfolding head_rows
  passes_valid e v =
      none-cons (inside 1 64 s.states v.some_state v.states_fit)
      (none-cons (inside 1 32 s.commands v.some_command v.commands_fit)
      (none-cons e
      (none-cons (both_false (ne_eqb s.initial 0 v.initial_some) (lt-leb (2 ^ s.states) s.initial v.initial_within))
      (none-cons (lt-leb (2 ^ s.states) s.goal v.goal-within)
      (within-sets s.states sets_at s.sets v.sets-within)))))
    where
      inside : (low high n : ℕ) → low ≤ n → n ≤ high → outside low high n ≡ false
      inside low high n h k = both_false (le-ltb n low h) (le-ltb high n k)
