-- Records of the store in the words of `meaning`, and what a look-up says.
use Rattle.std.specs.Prelude.{◌≡◌, ◌≢◌, List, ℕ, ◌<◌, get_or, Option, Some, None}
use Rattle.meaning.specs.Sets.{empty}
use Rattle.meaning.specs.Listing as listing
use Rattle.sets.specs.Words.{Value, set_of, set_for}
use Rattle.store.specs.declared.Node.{Node}

abbrev pub node : Value → ℕ → ℕ → Node
node y parent command = record { set = y; parent = parent; command = command }

-- stands for what lies past the end of a store
abbrev pub nothing : Node
nothing = node (set_for empty) 0 0

abbrev pub node_at : List Node → ℕ → Node
node_at l k = get_or l k nothing

-- the set at place k
abbrev pub set_at : List Node → ℕ → ℕ
set_at l k = set_of (node_at l k).set

-- the record that a place of the store stands for, and the one that stands for a record
abbrev pub meant : Node → listing.Node
meant n = record { set = set_of n.set; parent = n.parent; command = n.command }

abbrev pub node_for : listing.Node → Node
node_for n = node (set_for n.set) n.parent n.command

-- what is said of a look-up of the set y among the first `count` places: Some k is a place of them that holds it, and None says that none of them does
pub record Found (l : List Node) (count y : ℕ) (r : Option ℕ) : Type 0 where
  pub here : (k : ℕ) → r ≡ Some k → (k < count) × (set_at l k ≡ y)
  pub nowhere : r ≡ None → (k : ℕ) → k < count → set_at l k ≢ y
