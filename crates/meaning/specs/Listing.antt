-- The listing: each set that some sendable sequence gives from the initial set, once, ordered by its first sequence; and the store's records of it.
-- `next x a` is the set that command a gives from the set x, if a is sendable there; init is the initial set.
use Rattle.std.specs.Prelude.{◌≡◌, List, [], ◌∷◌, ◌++◌, ℕ, ◌≤◌, ◌<◌, length}
use Rattle.std.proofs.Math.Option.{Option, some}
use Rattle.std.proofs.Math.ListN.{get_elem?}
use Rattle.meaning.specs.Walk.{Gives}
use Rattle.meaning.specs.Order.{Before}

-- p, and then command a
abbrev pub then : List ℕ → ℕ → List ℕ
then p a = p ++ (a ∷ [])

-- place k of the list l holds x
pub record At {A : Type 0} (l : List A) (k : ℕ) (x : A) : Type 0 where
  pub held : get_elem? l k ≡ some x

-- a set and the sequence that it is listed by
pub record Entry : Type 0 where
  pub set : ℕ
  pub seq : List ℕ

-- the set y is in the list
pub record Lists (l : List Entry) (y : ℕ) : Type 0 where
  pub place : ℕ
  pub entry : Entry
  pub at_place : At l place entry
  pub its_set : entry.set ≡ y

-- the places follow the order of the sequences
pub record Sorted (l : List Entry) : Type 0 where
  pub before : {j k : ℕ} {e f : Entry} → At l j e → At l k f → j < k → Before e.seq f.seq

module _ (next : ℕ → ℕ → Option ℕ) (init : ℕ) where
  -- p is the first sequence that gives y
  pub record First (p : List ℕ) (y : ℕ) : Type 0 where
    pub gives : Gives next init p y
    pub least : {q : List ℕ} → Gives next init q y → ¬ Before q p

  -- l is a start of the listing: its sets stand by their first sequences, in order, and none that comes before one of them is left out
  pub record Prefix (l : List Entry) : Type 0 where
    pub first : {k : ℕ} {e : Entry} → At l k e → First e.seq e.set
    pub sorted : Sorted l
    pub no_gap : {k : ℕ} {e : Entry} {p : List ℕ} {y : ℕ} → At l k e → First p y → Before p e.seq → Lists l y

  -- no set is left out
  pub record Complete (l : List Entry) : Type 0 where
    pub lists : {p : List ℕ} {y : ℕ} → Gives next init p y → Lists l y

  -- l is the listing
  pub record Listing (l : List Entry) : Type 0 where
    pub prefix : Prefix l
    pub complete : Complete l

  -- l is the first c sets of the listing, or all of it where it has no more than c
  pub record FirstOf (c : ℕ) (l : List Entry) : Type 0 where
    pub prefix : Prefix l
    pub at_most : length l ≤ c
    pub or_all : length l < c → Complete l

-- ---- the store

-- one place of the store
pub record Node : Type 0 where
  pub set : ℕ
  pub parent : ℕ
  pub command : ℕ

-- how place k with the entry e is reached: the record's command is the last one of its sequence, and its parent is the place of that sequence
-- without it. The record at place 0 has parent 0 and command 255.
pub data Link (l : List Entry) (k : ℕ) (e : Entry) (n : Node) : Type 0 where
  initial : k ≡ 0 → n.parent ≡ 0 → n.command ≡ 255 → Link l k e n
  later : {f : Entry} → At l n.parent f → e.seq ≡ then f.seq n.command → Link l k e n

-- n is the record of place k, where l is the listing
pub record Holds (l : List Entry) (k : ℕ) (n : Node) : Type 0 where
  pub entry : Entry
  pub at_place : At l k entry
  pub its_set : n.set ≡ entry.set
  pub link : Link l k entry n

-- the records are those of the first c places of the listing l
pub record Stores (l : List Entry) (c : ℕ) (nodes : List Node) : Type 0 where
  pub as_many : length nodes ≡ c
  pub holds : {k : ℕ} {n : Node} → At nodes k n → Holds l k n
