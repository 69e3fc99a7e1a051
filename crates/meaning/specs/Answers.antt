-- What the judge and the search answer, in the words of the scope. `Computed` has a function beside each statement that computes the answer.
use Rattle.std.specs.Prelude.{◌≡◌, List, [], ℕ, suc, ◌≤◌, ◌<◌, min, length, take}
use Rattle.std.proofs.Math.Option.{none}
use Rattle.meaning.specs.Sets.{◌⊆◌, empty, size}
use Rattle.meaning.specs.Domain.{Domain}
use Rattle.meaning.specs.Walk.{Gives, step}
use Rattle.meaning.specs.Listing.{Entry, At, Listing, Node, Stores}

-- what an answer says first: the plan that was judged is good, a plan is found, there is none, or a refusal by its number
pub data Verdict : Type 0 where
  good : Verdict
  plan : Verdict
  no_plan : Verdict
  refused : ℕ → Verdict

-- ---- the judge

-- `left` is the number of states that are still possible
pub record Judged : Type 0 where
  pub verdict : Verdict
  pub place : ℕ
  pub set : ℕ
  pub left : ℕ

-- the number of states is the size of the set, in every answer
abbrev pub judged : Verdict → ℕ → ℕ → Judged
judged v k y = record { verdict = v; place = k; set = y; left = size y }

-- each number of the plan is a command, of which there are m
abbrev pub AllCommands : ℕ → List ℕ → Type 0
AllCommands m p = (j a : ℕ) → At p j a → a < m

-- the number at index k is the first that is no command
pub record NoCommand (m : ℕ) (p : List ℕ) (k : ℕ) : Type 0 where
  pub number : ℕ
  pub at-index : At p k number
  pub missing : m ≤ number
  pub before : (j a : ℕ) → j < k → At p j a → a < m

-- the command at index k is the first that is not sendable, and y is the set before it
pub record NotSendable (D : Domain) (x : ℕ) (p : List ℕ) (k y : ℕ) : Type 0 where
  pub command : ℕ
  pub at-index : At p k command
  pub gives : Gives (step D) x (take k p) y
  pub no_image : step D y command ≡ none

-- the judge's answer for the plan p from the initial set x to the goal g. All of the plan is checked for refusal 10 before it is walked.
pub record Judges (D : Domain) (x g : ℕ) (p : List ℕ) (j : Judged) : Type 0 where
  pub no_command : {k : ℕ} → NoCommand D.commands p k → j ≡ judged (refused 10) k empty
  pub not_sendable : {k y : ℕ} → AllCommands D.commands p → NotSendable D x p k y → j ≡ judged (refused 11) k y
  pub outside : {y : ℕ} → AllCommands D.commands p → Gives (step D) x p y → ¬ (y ⊆ g) → j ≡ judged (refused 12) (length p) y
  pub inside : {y : ℕ} → AllCommands D.commands p → Gives (step D) x p y → y ⊆ g → j ≡ judged good 0 y

-- ---- the search

-- the places of a store that count, of however many there are
abbrev pub room : ℕ → ℕ
room places = min places 65536

-- `written` is what the start of the plan buffer then holds
pub record Searched : Type 0 where
  pub verdict : Verdict
  pub place : ℕ
  pub count : ℕ
  pub plan_length : ℕ
  pub written : List ℕ

-- the set at place k is inside the goal, and p is its sequence
abbrev pub found : ℕ → List ℕ → Searched
found k p = record { verdict = plan; place = 0; count = suc k; plan_length = length p; written = p }

-- as before, but the plan buffer is shorter than the plan
abbrev pub long_plan : ℕ → List ℕ → Searched
long_plan k p = record { verdict = refused 14; place = length p; count = suc k; plan_length = length p; written = [] }

abbrev pub none_of : ℕ → Searched
none_of n = record { verdict = no_plan; place = 0; count = n; plan_length = 0; written = [] }

abbrev pub out_of_room : ℕ → Searched
out_of_room c = record { verdict = refused 13; place = 0; count = c; plan_length = 0; written = [] }

-- e, at place k of the list, is the first whose set lies inside the goal g
pub record FirstInside (g : ℕ) (l : List Entry) (k : ℕ) (e : Entry) : Type 0 where
  pub at_place : At l k e
  pub inside : e.set ⊆ g
  pub none_before : (j : ℕ) (f : Entry) → j < k → At l j f → ¬ (f.set ⊆ g)

abbrev pub NoneInside : ℕ → List Entry → Type 0
NoneInside g l = (k : ℕ) (e : Entry) → At l k e → ¬ (e.set ⊆ g)

-- the answer where l is the listing, there is room for c sets, and the plan buffer holds b commands
pub record Answers (l : List Entry) (g c b : ℕ) (r : Searched) : Type 0 where
  pub plan : {k : ℕ} {e : Entry} → FirstInside g l k e → k < c → length e.seq ≤ b → r ≡ found k e.seq
  pub too_long : {k : ℕ} {e : Entry} → FirstInside g l k e → k < c → b < length e.seq → r ≡ long_plan k e.seq
  pub no_plan : NoneInside g l → length l ≤ c → r ≡ none_of (length l)
  pub otherwise : ((k : ℕ) (e : Entry) → FirstInside g l k e → c ≤ k) → (NoneInside g l → c < length l) → r ≡ out_of_room c

-- what a search of the domain from the initial set x to the goal g answers, and the records that the first places of its store then hold
pub record Searches (D : Domain) (x g c b : ℕ) (r : Searched) (nodes : List Node) : Type 0 where
  pub listing : List Entry
  pub is_listing : Listing (step D) x listing
  pub answers : Answers listing g c b r
  pub store : Stores listing r.count nodes
