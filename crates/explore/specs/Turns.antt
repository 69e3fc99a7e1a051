-- What the parts of an exploration keep, and what is known at its end: cited by the contracts of this crate's functions, and by no promise of the search.
use Rattle.std.specs.Prelude.{◌≡◌, ◌≢◌, List, ℕ, ◌+◌, ◌≤◌, ◌<◌, length, drop, Option, Some, None}
use Rattle.std.specs.declared.ops.ControlFlow.{ControlFlow}
use Rattle.std.specs.declared.ops.ControlFlow.TheVariants.{Continue, Break}
use Rattle.std.proofs.Math.Option.{none, some}
use Rattle.meaning.specs.Sets.{◌⊆◌}
use Rattle.meaning.specs.Domain.{Domain}
use Rattle.meaning.specs.Walk.{step}
use Rattle.meaning.specs.Listing.{Entry, At, Holds}
use Rattle.meaning.specs.Answers.{FirstInside, NoneInside}
use Rattle.meaning.specs.Enumeration.{listing}
use Rattle.meaning.specs.Progress.{Progress}
use Rattle.sets.specs.Words.{Value, set_of, IsValue}
use Rattle.store.specs.declared.Node.{Node}
use Rattle.store.specs.Nodes.{node_at, set_at, meant}
use Rattle.explore.specs.Ready.{Ready}
use Rattle.explore.specs.declared.Ending.{Ending}
use Rattle.explore.specs.declared.Ending.TheVariants.{Plan, NoPlan, NoRoom}
use Rattle.explore.specs.declared.End.{End}

-- an end by how it came, with so many places stored
abbrev pub ended_as : Ending → ℕ → End
ended_as ending count = record { ending = ending; count = count }

-- ---- one command at one place

-- the command gives nothing new: it is not sendable, or its set is stored already
pub data Old (D : Domain) (l : List Node) (count i a : ℕ) : Type 0 where
  not_sendable : step D (set_at l i) a ≡ none → Old D l count i a
  seen : {y k : ℕ} → step D (set_at l i) a ≡ some y → k < count → set_at l k ≡ y → Old D l count i a

-- the command gives the set that the value y stands for, and no place holds it
pub record Fresh (D : Domain) (l : List Node) (count i a : ℕ) (y : Value) : Type 0 where
  pub value : IsValue y
  pub gives : step D (set_at l i) a ≡ some (set_of y)
  pub nowhere : (k : ℕ) → k < count → set_at l k ≢ set_of y

-- what a command gives: the value of a fresh set, or nothing new
pub record NextAt (D : Domain) (l : List Node) (count i a : ℕ) (g : Option Value) : Type 0 where
  pub old : g ≡ None → Old D l count i a
  pub fresh : (y : Value) → g ≡ Some y → Fresh D l count i a y

-- the goal test of a set that is stored as the last of `count`: the search goes on, or ends with a plan
abbrev pub Tested : ℕ → ℕ → ℕ → ControlFlow End ℕ → Type 0
Tested y g count (Continue c) = (c ≡ count) × ¬ (y ⊆ g)
Tested y g count (Break e) = (e ≡ ended_as Plan count) × (y ⊆ g)

-- ---- the store

-- the first places hold the records of the listing, each set as the value that stands for it
pub record Stored (D : Domain) (x count : ℕ) (l : List Node) : Type 0 where
  pub values : (k : ℕ) → k < count → IsValue (node_at l k).set
  pub holds : (k : ℕ) → k < count → Holds (listing D x) k (meant (node_at l k))

-- the later places are as before
pub record Kept (count : ℕ) (before after : List Node) : Type 0 where
  pub as_long : length after ≡ length before
  pub later : drop count after ≡ drop count before

-- command a at place i is to be tried next, and none of the count sets found is inside the goal
pub record Going (D : Domain) (x g room i a count : ℕ) (l : List Node) : Type 0 where
  pub ready : Ready D x
  pub progress : Progress D x count i a
  pub stored : Stored D x count l
  pub none_inside : (j : ℕ) (f : Entry) → j < count → At (listing D x) j f → ¬ (f.set ⊆ g)
  pub fits : count ≤ room
  pub there : room ≤ length l
  pub most : room ≤ 65536

-- the last of the count places is the first set inside the goal
pub record LastInside (D : Domain) (x g count : ℕ) : Type 0 where
  pub place : ℕ
  pub entry : Entry
  pub is_last : count ≡ place + 1
  pub first : FirstInside g (listing D x) place entry

-- none is, and they are all
pub record AllOutside (D : Domain) (x g count : ℕ) : Type 0 where
  pub are_all : count ≡ length (listing D x)
  pub none_inside : NoneInside g (listing D x)

-- none is, and one more has no room
pub record MoreThanRoom (D : Domain) (x g room count : ℕ) : Type 0 where
  pub is_full : count ≡ room
  pub more : room < length (listing D x)
  pub none_inside : (k : ℕ) (e : Entry) → FirstInside g (listing D x) k e → room ≤ k

-- the search has ended
pub record Ended (D : Domain) (x g room : ℕ) (e : End) (l : List Node) : Type 0 where
  pub ready : Ready D x
  pub stored : Stored D x e.count l
  pub fits : e.count ≤ room
  pub there : room ≤ length l
  pub plan : e.ending ≡ Plan → LastInside D x g e.count
  pub no_plan : e.ending ≡ NoPlan → AllOutside D x g e.count
  pub no_room : e.ending ≡ NoRoom → MoreThanRoom D x g room e.count

-- from `first` places on: the search goes on with command a at place i
pub record GoneOn (D : Domain) (x g room i a first : ℕ) (before after : List Node) (count : ℕ) : Type 0 where
  pub kept : Kept count before after
  pub grown : first ≤ count
  pub going : Going D x g room i a count after

-- from `first` places on: the search has ended
pub record Explored (D : Domain) (x g room first : ℕ) (before after : List Node) (e : End) : Type 0 where
  pub kept : Kept e.count before after
  pub grown : first ≤ e.count
  pub ended : Ended D x g room e after

-- from `first` places on: the search goes on with command a at place i, or has ended
abbrev pub Turned : Domain → ℕ → ℕ → ℕ → ℕ → ℕ → ℕ → List Node → List Node → ControlFlow End ℕ → Type 0
Turned D x g room i a first before after (Continue count) = GoneOn D x g room i a first before after count
Turned D x g room i a first before after (Break e) = Explored D x g room first before after e
