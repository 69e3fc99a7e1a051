-- What the loop of a search keeps: cited by the contracts of a search's inner functions, and by no promise to a caller.
use Rattle.std.specs.Prelude.{◌≡◌, List, ℕ, zero, ◌≤◌, ◌<◌, length, take}
use Rattle.std.proofs.Math.Option.{Option, some}
use Rattle.meaning.specs.Domain.{Domain}
use Rattle.meaning.specs.Walk.{Gives, step}
use Rattle.meaning.specs.Order.{Before}
use Rattle.meaning.specs.Listing.{Entry, At, Sorted, then}
use Rattle.meaning.specs.Enumeration.{root, listing}

-- place j with command b is tried before place i with command a
pub data Sooner (j b i a : ℕ) : Type 0 where
  place : j < i → Sooner j b i a
  command : j ≡ i → b < a → Sooner j b i a

-- y is listed by a sequence that does not come after p
pub record Known (l : List Entry) (p : List ℕ) (y : ℕ) : Type 0 where
  pub at : ℕ
  pub entry : Entry
  pub at_place : At l at entry
  pub its_set : entry.set ≡ y
  pub no_later : ¬ Before p entry.seq

-- e is the initial entry, or comes of an entry by a command that was tried before command a at place i
pub data From (init : ℕ) (l : List Entry) (i a : ℕ) (e : Entry) : Type 0 where
  start : e ≡ root init → From init l i a e
  by : {j b : ℕ} {f : Entry} → At l j f → Sooner j b i a → e.seq ≡ then f.seq b → From init l i a e

-- the list when command a at place i is to be tried next
pub record Reached (next : ℕ → ℕ → Option ℕ) (init : ℕ) (l : List Entry) (i a : ℕ) : Type 0 where
  pub rooted : At l zero (root init)
  pub from : {k : ℕ} {e : Entry} → At l k e → From init l i a e
  pub gives : {k : ℕ} {e : Entry} → At l k e → Gives next init e.seq e.set
  pub sorted : Sorted l
  pub distinct : {j k : ℕ} {e f : Entry} → At l j e → At l k f → e.set ≡ f.set → j ≡ k
  pub done : {j b y : ℕ} {e : Entry} → At l j e → Sooner j b i a → next e.set b ≡ some y → Known l (then e.seq b) y

-- the first c sets of the domain's listing are found, and command a at place i is to be tried next
pub record Progress (D : Domain) (init c i a : ℕ) : Type 0 where
  pub fits : c ≤ length (listing D init)
  pub reached : Reached (step D) init (take c (listing D init)) i a
