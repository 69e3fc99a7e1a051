-- Reading, step by step: what the checks of rows 1 to 3, of the head and of the following sets each say of the answer.
-- The idea: the rows in the table's order, of which each check passes some.
use mathlib.Core.Path.{◌≡◌, sym, ap, ap₂, ◌∙◌}
use mathlib.Core.Bool.{false}
use mathlib.Core.List.{List, map}
use Prim.Native.Nat.{ℕ, ◌+◌, ◌*◌, ◌≤◌}
use native.Mathlib.Omega.{arith}
use lib.ListN.{length, get_or}
use borrow.Author.Tests.{le-ltb, eq-eqb}
use Rattle.sets.specs.Words.{set_of}
use Rattle.sets.proofs.Values.{set_for_lem}
use Rattle.sheet.specs.Sheet.{Sheet, sheet_in, sets_at, set_in, from}
use Rattle.sheet.specs.Refusals.{verdict, uneven_by, head_rows, set_rows, sheet_rows, stated, reading_rows, Check, check, passes}
use Rattle.sheet.specs.Answers.{head_of, reading}
use Rattle.sheet.specs.declared.Head.{Head}
use Rattle.sheet.specs.Answers.{Reading}
use Rattle.sheet.specs.declared.Counted.{Counted}
use Rattle.sheet.specs.declared.Counted.TheVariants.{Stated}
use Rattle.std.specs.Prelude.{Ok, Err}
use Rattle.numbers.proofs.Numbers.{number_at_one}
use Rattle.sheet.proofs.Rows.{on_check, checked, by_check, passes_here, passes_rest, product, most}

-- what the check of a head says
abbrev pub check_by : Counted → ℕ → ℕ → ℕ → ℕ → Check
check_by n states commands initial goal = check (head_rows n states commands initial goal)

module _ (n : Counted) (states commands initial goal : ℕ) (e : check_by n states commands initial goal ≡ passes) where
  -- a head that passes has as many following sets as was said
  pub head_even : uneven_by n (commands * states) ≡ false
  unfolding head_rows
  head_even = passes_here _ _ (passes_rest _ _ (passes_rest _ _ e))

  -- and counts that fit
  pub head-fits : commands * states ≤ 2048
  unfolding head_rows
  head-fits = product (most 1 32 commands (passes_here _ _ (passes_rest _ _ e))) (most 1 64 states (passes_here _ _ e))

-- the same by a head, whose sets are values
abbrev pub check_of : Counted → Head → Check
check_of n h = check_by n h.states h.commands (set_of h.initial) (set_of h.goal)

check_of_lem : (n : Counted) (s : Sheet) → check_by n s.states s.commands s.initial s.goal ≡ check_of n (head_of s)
check_of_lem n s = sym (ap₂ (λ (x y : ℕ). check_by n s.states s.commands x y) (set_for_lem s.initial) (set_for_lem s.goal))

module _ (l : List ℕ) where
  -- the answer by rows 4 to 8
  abbrev pub answer_by : ℕ → Reading
  answer_by n = verdict Err (Ok (head_of (sheet_in l))) (sheet_rows (Stated n) (sheet_in l))

  -- the answer by row 8
  abbrev pub answer_by_sets : Reading
  answer_by_sets = verdict Err (Ok (head_of (sheet_in l))) (set_rows (sheet_in l).states sets_at (sheet_in l).sets)

  -- rows 1 to 3 pass
  pub reading-on : 5 ≤ length l → get_or l 0 0 ≡ 1 → 5 + stated l ≡ length l → 18 ≤ stated l → reading l ≡ answer_by (stated l)
  unfolding reading reading_rows verdict
  reading-on h v s m = simp (le-ltb _ _ h, number_at_one 0 l (omega arith), eq-eqb _ _ v, eq-eqb _ _ s, le-ltb _ _ m)

  module _ (h : Head) (same : h ≡ head_of (sheet_in l)) where
    pub by-head : (n : ℕ) (k : Check) → k ≡ check_of (Stated n) h → answer_by n ≡ on_check Err answer_by_sets k
    by-head n k e =
        let s : Sheet = sheet_in l in
        checked Err (Ok (head_of s)) (head_rows (Stated n) s.states s.commands s.initial s.goal) (set_rows s.states sets_at s.sets)
        ∙ ap (λ (c : Check). on_check Err answer_by_sets c) (check_of_lem (Stated n) s ∙ ap (check_of (Stated n)) (sym same) ∙ sym e)

    pub by-sets : (k : Check) → k ≡ check (set_rows h.states sets_at (map (set_in l) (from 0 (h.commands * h.states)))) → answer_by_sets ≡ on_check Err (Ok h) k
    unfolding sheet_in
    by-sets k e =
        by_check Err (Ok (head_of (sheet_in l))) (set_rows (sheet_in l).states sets_at (sheet_in l).sets)
        ∙ ap (λ (c : Check). on_check Err (Ok (head_of (sheet_in l))) c) (ap (λ (g : Head). check (set_rows g.states sets_at (map (set_in l) (from 0 (g.commands * g.states))))) (sym same) ∙ sym e)
        ∙ ap (λ (g : Head). on_check Err (Ok g) k) (sym same)
