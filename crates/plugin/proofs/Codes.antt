-- The first number of an array tells the answers apart: 0 is given exactly where all is well, 255 exactly where there is no plan, and a refusal is 1 to 14.
-- The idea: every reason of the table has one of these numbers.
use Rattle.std.proofs.Common.{◌≡◌, refl, sym, ap, ◌∙◌, ◌↔◌, List, ℕ, get_or, arith}
use Rattle.std.specs.Prelude.{Result, Ok, Err, ⊤}
use Rattle.sheet.specs.Sheet.{Sheet}
use Rattle.sheet.specs.Answers.{Reading, reading, values_of as reading_numbers}
use Rattle.sheet.specs.declared.Head.{Head}
use Rattle.sheet.specs.declared.Refusal.{Refusal}
use Rattle.sheet.proofs.Reasons.{number_small}
use Rattle.writer.specs.Written.{Writing, writing, values_of as writing_numbers}
use Rattle.judge.specs.Verdicts.{verdict_of, GoodFor}
use Rattle.judge.proofs.Goodness.{good_iff_runs}
use Rattle.store.specs.declared.Node.{Node}
use Rattle.search.specs.Done.{verdict_of as found_as}
use Rattle.search.specs.declared.Verdict.{Verdict}
use Rattle.search.specs.declared.Verdict.TheVariants.{Plan, NoPlan, Refused}
use Rattle.search.specs.declared.Answer.{Answer}
use Rattle.plugin.specs.Boundary.{verdict_number, search_numbers, JudgedInto, SearchedInto, SearchedHereInto}

-- ---- reading and writing

-- the first number is 0 exactly where the sheet is accepted
pub read_zero : (l : List ℕ) → (get_or (reading_numbers (reading l)) 0 0 ≡ 0) ↔ ((h : Head) × (reading l ≡ Ok h))
read_zero l = (go (reading l) refl, λ (h, e). first e)
  where
    first : {r : Reading} → reading l ≡ r → get_or (reading_numbers (reading l)) 0 0 ≡ get_or (reading_numbers r) 0 0
    first e = ap (λ (r : Reading). get_or (reading_numbers r) 0 0) e

    go : (r : Reading) → reading l ≡ r → get_or (reading_numbers (reading l)) 0 0 ≡ 0 → (h : Head) × (reading l ≡ Ok h)
    go (Ok h) e z = (h, e)
    go (Err f) e z = absurd (omega (arith, sym (first e) ∙ z, number_small f.reason))

-- and exactly where it is written
pub write_zero : (s : Sheet) (room : ℕ) → (get_or (writing_numbers (writing s room)) 0 0 ≡ 0) ↔ ((n : ℕ) × (writing s room ≡ Ok n))
write_zero s room = (go (writing s room) refl, λ (n, e). first e)
  where
    first : {r : Writing} → writing s room ≡ r → get_or (writing_numbers (writing s room)) 0 0 ≡ get_or (writing_numbers r) 0 0
    first e = ap (λ (r : Writing). get_or (writing_numbers r) 0 0) e

    go : (r : Writing) → writing s room ≡ r → get_or (writing_numbers (writing s room)) 0 0 ≡ 0 → (n : ℕ) × (writing s room ≡ Ok n)
    go (Ok n) e z = (n, e)
    go (Err f) e z = absurd (omega (arith, sym (first e) ∙ z, number_small f.reason))

-- ---- the judge

-- the first number is 0 exactly for a plan that is good for the sheet
pub judged-zero : {l p n : List ℕ} → JudgedInto l p n → (get_or n 0 0 ≡ 0) ↔ GoodFor l p
judged-zero {l} {p} {n} u = (λ z. (good_iff_runs u.judged).0 (go u.answer.verdict refl (sym first ∙ z)), λ g. first ∙ numbered_as ((good_iff_runs u.judged).1 g))
  where
    first : get_or n 0 0 ≡ verdict_number (verdict_of u.answer.verdict)
    first = ap (λ (m : List ℕ). get_or m 0 0) u.are_its

    numbered_as : {v : Result ⊤ Refusal} → u.answer.verdict ≡ v → verdict_number (verdict_of u.answer.verdict) ≡ verdict_number (verdict_of v)
    numbered_as e = ap (λ (v : Result ⊤ Refusal). verdict_number (verdict_of v)) e

    go : (v : Result ⊤ Refusal) → u.answer.verdict ≡ v → verdict_number (verdict_of u.answer.verdict) ≡ 0 → u.answer.verdict ≡ Ok tt
    go (Ok tt) e z = e
    go (Err f) e z = absurd (omega (arith, number_small f.reason, sym (numbered_as e) ∙ z))

-- ---- the search

-- the first number is 0 exactly for a plan, and 255 exactly for no plan: a refusal's number is neither
module _ (a : Answer) where
  numbered_as : (v : Verdict) → a.verdict ≡ v → verdict_number (found_as a.verdict) ≡ verdict_number (found_as v)
  numbered_as v e = ap (λ (w : Verdict). verdict_number (found_as w)) e

  pub zero-plan : (verdict_number (found_as a.verdict) ≡ 0) ↔ (a.verdict ≡ Plan)
  zero-plan = (go a.verdict refl, numbered_as Plan)
    where
      go : (v : Verdict) → a.verdict ≡ v → verdict_number (found_as a.verdict) ≡ 0 → a.verdict ≡ Plan
      go Plan e z = e
      go NoPlan e z = absurd (omega (arith, sym (numbered_as NoPlan e) ∙ z))
      go (Refused f) e z = absurd (omega (arith, number_small f.reason, sym (numbered_as (Refused f) e) ∙ z))

  pub top_no_plan : (verdict_number (found_as a.verdict) ≡ 255) ↔ (a.verdict ≡ NoPlan)
  top_no_plan = (go a.verdict refl, numbered_as NoPlan)
    where
      go : (v : Verdict) → a.verdict ≡ v → verdict_number (found_as a.verdict) ≡ 255 → a.verdict ≡ NoPlan
      go Plan e z = absurd (omega (arith, sym (numbered_as Plan e) ∙ z))
      go NoPlan e z = e
      go (Refused f) e z = absurd (omega (arith, number_small f.reason, sym (numbered_as (Refused f) e) ∙ z))

-- the array's first number is the verdict's
in_array : {n : List ℕ} (a : Answer) {k : ℕ} {P : Type 0} → n ≡ search_numbers a → (verdict_number (found_as a.verdict) ≡ k) ↔ P → (get_or n 0 0 ≡ k) ↔ P
in_array a e w = let first = ap (λ (m : List ℕ). get_or m 0 0) e in (λ z. w.0 (sym first ∙ z), λ p. first ∙ w.1 p)

-- the same of the caller's array
module _ {l : List ℕ} {store s : List Node} {plan q n : List ℕ} (u : SearchedInto l store s plan q n) where
  pub array_zero_plan : (get_or n 0 0 ≡ 0) ↔ (u.answer.verdict ≡ Plan)
  array_zero_plan = in_array u.answer u.are_its (zero-plan u.answer)

  pub array_top_no_plan : (get_or n 0 0 ≡ 255) ↔ (u.answer.verdict ≡ NoPlan)
  array_top_no_plan = in_array u.answer u.are_its (top_no_plan u.answer)

-- and over a store that the caller does not see
module _ {places : ℕ} {l plan q n : List ℕ} (u : SearchedHereInto places l plan q n) where
  pub array_here_zero_plan : (get_or n 0 0 ≡ 0) ↔ (u.answer.verdict ≡ Plan)
  array_here_zero_plan = in_array u.answer u.are_its (zero-plan u.answer)

  pub array_here_top_no_plan : (get_or n 0 0 ≡ 255) ↔ (u.answer.verdict ≡ NoPlan)
  array_here_top_no_plan = in_array u.answer u.are_its (top_no_plan u.answer)
