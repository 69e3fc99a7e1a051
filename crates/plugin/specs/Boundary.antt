-- What the exported functions leave in the caller's arrays of numbers: each answer of the libraries, taken apart into its numbers, and for each function
-- the promise of the library's function that it calls.
use Rattle.std.specs.Prelude.{◌≡◌, List, [], ◌∷◌, ℕ, length}
use Rattle.meaning.specs.Answers as answers
use Rattle.shown.specs.Following.{following, following_from}
use Rattle.judge.specs.Verdicts.{values_of, JudgedBy}
use Rattle.judge.specs.declared.Judged.{Judged}
use Rattle.store.specs.declared.Node.{Node}
use Rattle.search.specs.Done.{verdict_of, place_of, SheetSearched, SearchedHere}
use Rattle.search.specs.declared.Answer.{Answer}

-- where the bytes of a following set begin in the sheet, and how many they are
abbrev pub following_numbers : List ℕ → ℕ → ℕ → List ℕ
following_numbers l a s = following_from l a s ∷ length (following l a s) ∷ []

-- the number of a verdict: 0 for a good plan and for a plan that is found, 255 for no plan
abbrev pub verdict_number : answers.Verdict → ℕ
verdict_number answers.good = 0
verdict_number answers.plan = 0
verdict_number answers.no_plan = 255
verdict_number (answers.refused n) = n

abbrev pub judged_numbers : answers.Judged → List ℕ
judged_numbers j = verdict_number j.verdict ∷ j.place ∷ j.set ∷ j.left ∷ []

abbrev pub search_numbers : Answer → List ℕ
search_numbers a = verdict_number (verdict_of a.verdict) ∷ place_of a.verdict ∷ a.count ∷ a.length ∷ []

-- the numbers are those of the judge's answer for the sheet l and the plan p
pub record JudgedInto (l p numbers : List ℕ) : Type 0 where
  pub answer : Judged
  pub judged : JudgedBy l p answer
  pub are_its : numbers ≡ judged_numbers (values_of answer)

-- the numbers are those of the search's answer, and the store and the plan buffer, each before and after, are as the search leaves them
pub record SearchedInto (bytes : List ℕ) (store store' : List Node) (plan plan' numbers : List ℕ) : Type 0 where
  pub answer : Answer
  pub searched : SheetSearched bytes store store' plan plan' answer
  pub are_its : numbers ≡ search_numbers answer

-- the same over a store of so many empty places that the caller does not see
pub record SearchedHereInto (places : ℕ) (bytes plan plan' numbers : List ℕ) : Type 0 where
  pub answer : Answer
  pub searched : SearchedHere places bytes plan plan' answer
  pub are_its : numbers ≡ search_numbers answer
