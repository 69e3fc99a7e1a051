-- The way from a place of the store back to place 0, and what reading a plan back along it gives.
use Rattle.std.specs.Prelude.{◌≡◌, ◌≢◌, List, [], ◌++◌, ℕ, ◌≤◌, ◌<◌, length, drop}
use Rattle.meaning.specs.Listing.{then}
use Rattle.store.specs.declared.Node.{Node}
use Rattle.store.specs.Nodes.{node_at}

-- p is the sequence of place k: that of its parent, and then its own command. Every parent on the way stands before its place.
pub data Path (l : List Node) : ℕ → List ℕ → Type 0 where
  start : {k : ℕ} {p : List ℕ} → k ≡ 0 → p ≡ [] → Path l k p
  step : {k : ℕ} {p q : List ℕ} → k ≢ 0 → k < length l → (node_at l k).parent < k → Path l (node_at l k).parent q → p ≡ then q (node_at l k).command → Path l k p

pub record HasPath (l : List Node) (at : ℕ) : Type 0 where
  pub path : List ℕ
  pub follows : Path l at path

-- its length is r
pub record LengthOf (l : List Node) (at r : ℕ) : Type 0 where
  pub path : List ℕ
  pub follows : Path l at path
  pub as_long : length path ≡ r

-- the plan buffer after the sequence of a place was written into its start
pub record WrittenBack (l : List Node) (at : ℕ) (before after : List ℕ) : Type 0 where
  pub path : List ℕ
  pub follows : Path l at path
  pub written : after ≡ path ++ drop (length path) before

-- the same where it fits, and a buffer unchanged where it does not; r is its length
pub record ReadBack (l : List Node) (at : ℕ) (before after : List ℕ) (r : ℕ) : Type 0 where
  pub path : List ℕ
  pub follows : Path l at path
  pub as_long : length path ≡ r
  pub fits : length path ≤ length before → after ≡ path ++ drop (length path) before
  pub too_long : length before < length path → after ≡ before
