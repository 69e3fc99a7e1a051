-- The listing, computed: each place in turn is expanded by the commands 0, 1, .., and a set that is new goes to the end. This is a device of
-- proofs: no promise to a caller names it, and it is shown to give the listing.
-- `next x a` is the set that command a gives from the set x, if a is sendable there; m is the number of commands.
use Rattle.std.specs.Prelude.{Bool, false, ◌||◌, cond, List, [], ◌∷◌, ◌++◌, ℕ, zero, suc, ◌^◌, eqb}
use Rattle.std.proofs.Math.Option.{Option, none, some}
use Rattle.std.proofs.Math.ListN.{get_elem?}
use Rattle.meaning.specs.Domain.{Domain}
use Rattle.meaning.specs.Walk.{step}
use Rattle.meaning.specs.Listing.{Entry, then}

unfoldable pub has_set : ℕ → List Entry → Bool
has_set y [] = false
has_set y (e ∷ l) = eqb y e.set || has_set y l

-- the list after the sequence p has given y, or has not been sendable
unfoldable pub add : List Entry → List ℕ → Option ℕ → List Entry
add l p none = l
add l p (some y) = cond (has_set y l) l (l ++ (record { set = y; seq = p } ∷ []))

abbrev pub on_entry : List Entry → Option Entry → (Entry → List Entry) → List Entry
on_entry l none w = l
on_entry l (some e) w = w e

module _ (next : ℕ → ℕ → Option ℕ) (m : ℕ) where
  -- the commands below a are tried in order on the entry e
  unfoldable pub tried : List Entry → Entry → ℕ → List Entry
  tried l e zero = l
  tried l e (suc a) = add (tried l e a) (then e.seq a) (next e.set a)

  -- places i, i + 1, .. are expanded, as far as the list goes and at most `rounds` of them
  unfoldable pub expanded : ℕ → List Entry → ℕ → List Entry
  expanded zero l i = l
  expanded (suc rounds) l i = on_entry l (get_elem? l i) (λ e. expanded rounds (tried l e m) (suc i))

abbrev pub root : ℕ → Entry
root init = record { set = init; seq = [] }

-- the listing of a domain from an initial set. There are fewer than 2 ^ states sets to expand.
unfoldable pub listing : Domain → ℕ → List Entry
listing D init = expanded (step D) D.commands (2 ^ D.states) (root init ∷ []) zero
