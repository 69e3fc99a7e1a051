-- The starred bench examples of the scope, as one table, and the one statement over it: each reply is what the definitions ask for. Where the scope
-- names no room it is 4, and the plan buffer holds 4 commands where it is not said to be empty.
use Rattle.std.specs.Prelude.{cond, ◌&&◌, List, [], ◌∷◌, ℕ, ◌+◌, ◌*◌, ltb, get_or}
use Rattle.meaning.specs.Domain.{Domain}
use Rattle.meaning.specs.Listing.{At, Node}
use Rattle.meaning.specs.Answers.{Verdict, good, plan, no_plan, refused, Judged, Judges, Searched, Searches}

-- a sheet as data: its following sets are all states of command 0, then of command 1, and so on
pub record Bench : Type 0 where
  pub states : ℕ
  pub commands : ℕ
  pub sets : List ℕ
  pub initial : ℕ
  pub goal : ℕ

-- its domain: beyond the last command or the last state nothing follows
abbrev pub domain_of : Bench → Domain
domain_of t = record {
  states = t.states;
  commands = t.commands;
  follow = λ a s. cond (ltb a t.commands && ltb s t.states) (get_or t.sets (a * t.states + s) 0) 0;
}

-- a question and its reply: a search with its room and plan buffer, and the records of the store; or a plan to judge
pub data Asked : Type 0 where
  search : ℕ → ℕ → Searched → List Node → Asked
  judge : List ℕ → Judged → Asked

pub record Example : Type 0 where
  pub sheet : Bench
  pub asked : Asked

-- the reply is the one that the definitions ask for, of the domain D from the initial set x to the goal g
abbrev pub RightFor : Domain → ℕ → ℕ → Asked → Type 0
RightFor D x g (search c b r nodes) = Searches D x g c b r nodes
RightFor D x g (judge p j) = Judges D x g p j

-- ---- the sheets

abbrev S : ℕ → ℕ → Bench
S x g = record { states = 2; commands = 2; sets = 2 ∷ 1 ∷ 1 ∷ 1 ∷ []; initial = x; goal = g }

-- S with command 0 only
abbrev swap : ℕ → ℕ → Bench
swap x g = record { states = 2; commands = 1; sets = 2 ∷ 1 ∷ []; initial = x; goal = g }

-- S with command 1 impossible in state 1
abbrev partial : ℕ → ℕ → Bench
partial x g = record { states = 2; commands = 2; sets = 2 ∷ 1 ∷ 1 ∷ 0 ∷ []; initial = x; goal = g }

-- one command: state 0 to {0, 1}, state 1 to {1}
abbrev drift : ℕ → ℕ → Bench
drift x g = record { states = 2; commands = 1; sets = 3 ∷ 2 ∷ []; initial = x; goal = g }

-- both commands lead to state 1 from everywhere
abbrev alike : ℕ → ℕ → Bench
alike x g = record { states = 2; commands = 2; sets = 2 ∷ 2 ∷ 2 ∷ 2 ∷ []; initial = x; goal = g }

-- ---- the replies, by the values that the scope names

abbrev node : ℕ → ℕ → ℕ → Node
node y parent command = record { set = y; parent = parent; command = command }

abbrev searched : Verdict → ℕ → ℕ → ℕ → List ℕ → Searched
searched v place count len written = record { verdict = v; place = place; count = count; plan_length = len; written = written }

abbrev judged : Verdict → ℕ → ℕ → ℕ → Judged
judged v place y left = record { verdict = v; place = place; set = y; left = left }

abbrev row : Bench → Asked → Example
row t a = record { sheet = t; asked = a }

abbrev pub examples : List Example
examples =
    row (S 3 1) (search 2 4 (searched plan 0 2 1 (1 ∷ [])) (node 3 0 255 ∷ node 1 0 1 ∷ []))
    ∷ row (S 3 1) (search 1 4 (searched (refused 13) 0 1 0 []) (node 3 0 255 ∷ []))
    ∷ row (S 3 1) (search 0 4 (searched (refused 13) 0 0 0 []) [])
    ∷ row (S 3 1) (search 2 0 (searched (refused 14) 1 2 1 []) (node 3 0 255 ∷ node 1 0 1 ∷ []))
    ∷ row (swap 3 1) (search 1 4 (searched no_plan 0 1 0 []) (node 3 0 255 ∷ []))
    ∷ row (swap 1 2) (search 4 4 (searched plan 0 2 1 (0 ∷ [])) (node 1 0 255 ∷ node 2 0 0 ∷ []))
    ∷ row (S 3 3) (search 4 4 (searched plan 0 1 0 []) (node 3 0 255 ∷ []))
    ∷ row (S 3 0) (search 3 4 (searched no_plan 0 3 0 []) (node 3 0 255 ∷ node 1 0 1 ∷ node 2 1 0 ∷ []))
    ∷ row (S 3 0) (search 2 4 (searched (refused 13) 0 2 0 []) (node 3 0 255 ∷ node 1 0 1 ∷ []))
    ∷ row (S 3 1) (judge (1 ∷ []) (judged good 0 1 1))
    ∷ row (S 3 1) (judge [] (judged (refused 12) 0 3 2))
    ∷ row (S 3 1) (judge (1 ∷ 7 ∷ []) (judged (refused 10) 1 0 0))
    ∷ row (partial 3 1) (judge (1 ∷ []) (judged (refused 11) 0 3 2))
    ∷ row (drift 1 2) (search 4 4 (searched no_plan 0 2 0 []) (node 1 0 255 ∷ node 3 0 0 ∷ []))
    ∷ row (alike 1 2) (search 4 4 (searched plan 0 2 1 (0 ∷ [])) (node 1 0 255 ∷ node 2 0 0 ∷ []))
    ∷ []

-- the statement over the whole table
abbrev pub AllRight : Type 0
AllRight = (k : ℕ) (e : Example) → At examples k e → RightFor (domain_of e.sheet) e.sheet.initial e.sheet.goal e.asked
