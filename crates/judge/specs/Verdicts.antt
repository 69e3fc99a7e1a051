-- What the judge ensures, by the meaning's statement of its answer; and which of two plans is the better.
use Rattle.std.specs.Prelude.{◌≡◌, List, [], ℕ, ◌≤◌, ◌<◌, length, Option, Some, None, Result, Ok, Err, ⊤}
use Rattle.std.specs.Borrow.{Bor}
use Rattle.meaning.specs.Answers as answers
use Rattle.meaning.specs.Answers.{Judges}
use Rattle.meaning.specs.Runs as runs
use Rattle.meaning.specs.Sets.{empty}
use Rattle.sets.specs.Words.{set_of, set_for, IsValue}
use Rattle.sheet.specs.Sheet.{domain_in}
use Rattle.sheet.specs.Refusals.{number_of}
use Rattle.sheet.specs.Answers.{reading}
use Rattle.sheet.specs.declared.Head.{Head}
use Rattle.sheet.specs.declared.Refusal.{Refusal}
use Rattle.judge.specs.declared.Judged.{Judged}
use Rattle.judge.specs.declared.Which.{Which}
use Rattle.judge.specs.declared.Which.TheVariants.{First, Second}

-- the scope's number and place for each verdict: 'good' has place 0
abbrev pub verdict_of : Result ⊤ Refusal → answers.Verdict
verdict_of (Ok u) = answers.good
verdict_of (Err f) = answers.refused (number_of f.reason)

abbrev pub place_of : Result ⊤ Refusal → ℕ
place_of (Ok u) = 0
place_of (Err f) = f.place

-- the scope's values for the judge's answer
abbrev pub values_of : Judged → answers.Judged
values_of j = record { verdict = verdict_of j.verdict; place = place_of j.verdict; set = set_of j.set; left = j.left }

-- the judge's answer for the sheet l and the plan p. A refused sheet has the empty set. The set is held as the value that stands for it.
pub record JudgedBy (l p : List ℕ) (j : Judged) : Type 0 where
  pub value : IsValue j.set
  pub refused : {f : Refusal} → reading l ≡ Err f → j ≡ record { verdict = Err f; set = set_for empty; left = 0 }
  pub accepted : {h : Head} → reading l ≡ Ok h → Judges (domain_in l) (set_of h.initial) (set_of h.goal) p (values_of j)

-- ---- the better of two plans

-- the sheet is accepted, and the plan is good by its domain, initial set and goal
pub record GoodFor (l p : List ℕ) : Type 0 where
  pub head : Head
  pub accepted : reading l ≡ Ok head
  pub good : runs.Good (domain_in l) (set_of head.initial) (set_of head.goal) p

-- the number of a choice
abbrev pub choice_number : Option Which → ℕ
choice_number None = 0
choice_number (Some First) = 1
choice_number (Some Second) = 2

-- the shorter good one of the plans a and b: 1 for the first, also if both are good and equally long; 2 for the second; the one good plan if only one is,
-- and 0 if neither is
pub record ChoiceOf (l a b : List ℕ) (r : ℕ) : Type 0 where
  pub first : GoodFor l a → (GoodFor l b → length a ≤ length b) → r ≡ 1
  pub second : GoodFor l b → (GoodFor l a → length b < length a) → r ≡ 2
  pub neither : ¬ GoodFor l a → ¬ GoodFor l b → r ≡ 0

-- r is that one of the lent plans, as the caller's own bytes, and the first's empty start if neither is good
pub record BetterOf (l : List ℕ) (a b r : Bor (List ℕ)) : Type 0 where
  pub first : GoodFor l a.now → (GoodFor l b.now → length a.now ≤ length b.now) → r ≡ a
  pub second : GoodFor l b.now → (GoodFor l a.now → length b.now < length a.now) → r ≡ b
  pub neither : ¬ GoodFor l a.now → ¬ GoodFor l b.now → (r.now ≡ []) × (r.ref_ptr ≡ a.ref_ptr)
