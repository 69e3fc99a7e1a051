-- What a search of a sheet answers, and what the store and the plan buffer hold after it: the promise of the public functions.
use Rattle.std.specs.Prelude.{◌≡◌, List, ◌++◌, map, ℕ, length, take, drop, replicate, Ok, Err}
use Rattle.meaning.specs.Domain.{Domain}
use Rattle.meaning.specs.Listing as listing
use Rattle.meaning.specs.Answers as meaning
use Rattle.meaning.specs.Answers.{Searched, Searches, room}
use Rattle.sets.specs.Words.{set_of}
use Rattle.sheet.specs.Sheet.{domain_in}
use Rattle.sheet.specs.Refusals.{number_of}
use Rattle.sheet.specs.Answers.{reading}
use Rattle.sheet.specs.declared.Head.{Head}
use Rattle.sheet.specs.declared.Refusal.{Refusal}
use Rattle.store.specs.declared.Node.{Node}
use Rattle.store.specs.Nodes.{nothing, node_for}
use Rattle.search.specs.declared.Verdict.{Verdict}
use Rattle.search.specs.declared.Verdict.TheVariants.{Plan, NoPlan, Refused}
use Rattle.search.specs.declared.Answer.{Answer}

-- the verdict in `meaning`'s words, with the paper's number for a refusal
abbrev pub verdict_of : Verdict → meaning.Verdict
verdict_of Plan = meaning.plan
verdict_of NoPlan = meaning.no_plan
verdict_of (Refused f) = meaning.refused (number_of f.reason)

-- and the place of a refusal: 0 of a plan and of no plan
abbrev pub place_of : Verdict → ℕ
place_of Plan = 0
place_of NoPlan = 0
place_of (Refused f) = f.place

-- an answer with all its values, where `written` is what the start of the plan buffer then holds
abbrev pub searched_of : Answer → List ℕ → Searched
searched_of a written = record { verdict = verdict_of a.verdict; place = place_of a.verdict; count = a.count; plan_length = a.length; written = written }

abbrev pub answer : Verdict → ℕ → ℕ → Answer
answer v count long = record { verdict = v; count = count; length = long }

-- the search of a domain from the set x to the goal g: the answer a, the store and the plan buffer, each before and after
pub record SearchDone (D : Domain) (x g : ℕ) (store store' : List Node) (plan plan' : List ℕ) (a : Answer) : Type 0 where
  pub says : Searched
  pub nodes : List listing.Node
  pub searches : Searches D x g (room (length store)) (length plan) says nodes
  pub answer_is : searched_of a says.written ≡ says
  pub first_places : take says.count store' ≡ map node_for nodes
  pub later_places : drop says.count store' ≡ drop says.count store
  pub plan_is : plan' ≡ says.written ++ drop (length says.written) plan

-- a refusal of the sheet: its number and place, and nothing is changed
pub record SheetRefused (f : Refusal) (store store' : List Node) (plan plan' : List ℕ) (a : Answer) : Type 0 where
  pub answer_is : a ≡ answer (Refused f) 0 0
  pub store_is : store' ≡ store
  pub plan_is : plan' ≡ plan

-- the search of a sheet's bytes, from its initial set to its goal
pub record SheetSearched (bytes : List ℕ) (store store' : List Node) (plan plan' : List ℕ) (a : Answer) : Type 0 where
  pub refused : {f : Refusal} → reading bytes ≡ Err f → SheetRefused f store store' plan plan' a
  pub accepted : {h : Head} → reading bytes ≡ Ok h → SearchDone (domain_in bytes) (set_of h.initial) (set_of h.goal) store store' plan plan' a

-- the same over a store of so many empty places that the caller does not see
pub record SearchedHere (places : ℕ) (bytes : List ℕ) (plan plan' : List ℕ) (a : Answer) : Type 0 where
  pub store' : List Node
  pub searched : SheetSearched bytes (replicate places nothing) store' plan plan' a
