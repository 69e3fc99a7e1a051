-- The answers of the judge and of the search, and the store's records, computed. Like the enumeration these are devices of proofs: they show
-- that the statements of `Answers` can be met, and make examples computable.
use Rattle.std.specs.Prelude.{Bool, true, false, ◌&&◌, cond, List, [], ◌∷◌, map, ℕ, zero, suc, eqb, leb, ltb, length, take}
use Rattle.std.proofs.Math.Option.{Option, none, some}
use Rattle.std.specs.Int.Bits.{bit_and}
use Rattle.meaning.specs.Sets.{empty}
use Rattle.meaning.specs.Domain.{Domain}
use Rattle.meaning.specs.Walk.{Walked, ended, blocked, walk, step}
use Rattle.meaning.specs.Listing.{Entry, Node}
use Rattle.meaning.specs.Answers.{good, refused, Judged, judged, Searched, found, long_plan, none_of, out_of_room}

-- every state of x is in g, by a test
abbrev pub is_inside : ℕ → ℕ → Bool
is_inside x g = eqb (bit_and x g) x

-- ---- the judge

-- the index of the first number that is no command, in a list whose first index is k
unfoldable pub first_missing : ℕ → ℕ → List ℕ → Option ℕ
first_missing m k [] = none
first_missing m k (a ∷ p) = cond (ltb a m) (first_missing m (suc k) p) (some k)

-- by the walk's end, for a plan of n commands
abbrev pub by_walk : ℕ → ℕ → Walked → Judged
by_walk g n (ended y) = cond (is_inside y g) (judged good 0 y) (judged (refused 12) n y)
by_walk g n (blocked k y) = judged (refused 11) k y

abbrev pub unless_missing : Option ℕ → Judged → Judged
unless_missing none j = j
unless_missing (some k) j = judged (refused 10) k empty

unfoldable pub judge : Domain → ℕ → ℕ → List ℕ → Judged
judge D x g p = unless_missing (first_missing D.commands 0 p) (by_walk g (length p) (walk (step D) x p))

-- ---- the search

-- what w says of the first place whose set is inside the goal g, in a list whose first place is k; `otherwise` where there is none
unfoldable pub first_inside : ℕ → ℕ → List Entry → (ℕ → Entry → Searched) → Searched → Searched
first_inside g k [] w otherwise = otherwise
first_inside g k (e ∷ l) w otherwise = cond (is_inside e.set g) (w k e) (first_inside g (suc k) l w otherwise)

-- a plan, or refusal 14, for the set at place k
abbrev pub planned : ℕ → ℕ → Entry → Searched
planned b k e = cond (leb (length e.seq) b) (found k e.seq) (long_plan k e.seq)

-- the answer where l is the listing
unfoldable pub answer : List Entry → ℕ → ℕ → ℕ → Searched
answer l g c b = first_inside g 0 (take c l) (planned b) (cond (leb (length l) c) (none_of (length l)) (out_of_room c))

-- ---- the store

-- a sequence by its last command: z for the empty one, and w p a for p and then a
unfoldable pub by_last {ℓ} : {A : Type ℓ} → List ℕ → A → (List ℕ → ℕ → A) → A
by_last [] z w = z
by_last (a ∷ p) z w = by_last p (w [] a) (λ q b. w (a ∷ q) b)

unfoldable pub same_seq : List ℕ → List ℕ → Bool
same_seq [] [] = true
same_seq [] (b ∷ q) = false
same_seq (a ∷ p) [] = false
same_seq (a ∷ p) (b ∷ q) = eqb a b && same_seq p q

-- the place of a sequence in the list
unfoldable pub place_of : List ℕ → List Entry → ℕ
place_of p [] = zero
place_of p (e ∷ l) = cond (same_seq p e.seq) zero (suc (place_of p l))

-- the record of an entry of the listing l
unfoldable pub node_of : List Entry → Entry → Node
node_of l e = by_last e.seq (record { set = e.set; parent = 0; command = 255 }) (λ p a. record { set = e.set; parent = place_of p l; command = a })

-- the records of the first c places
unfoldable pub nodes : List Entry → ℕ → List Node
nodes l c = map (node_of l) (take c l)
