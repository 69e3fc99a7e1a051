-- Wrong searches, each ruled out on a sheet that the scope names: for an accepted sheet the promise leaves only the computed answer, store and plan
-- buffer, and they are computed from the sheet's bytes.
use mathlib.Core.Path.{◌≡◌, refl, sym, ap, ◌∙◌, subst₂}
use mathlib.Core.Logic.{◌≢◌}
use mathlib.Core.List.{List, [], ◌∷◌, ◌++◌, map}
use Prim.Native.Nat.{ℕ}
use native.Mathlib.Omega.{arith}
use lib.ListN.{length, take, drop, replicate, get_or}
use Rattle.std.specs.Prelude.{Ok}
use Rattle.meaning.specs.Walk.{sendable, image, step}
use Rattle.meaning.specs.Listing as records
use Rattle.meaning.specs.Answers.{Searched, Searches, room}
use Rattle.meaning.specs.Enumeration.{has_set, add, tried, expanded, listing}
use Rattle.meaning.specs.Computed as computed
use Rattle.meaning.specs.Computed.{first_inside, by_last, same_seq, place_of, node_of, nodes}
use Rattle.meaning.proofs.Meanings.{search_exists}
use Rattle.sets.specs.Words.{set_of, set_for}
use Rattle.sets.proofs.Values.{set_for_lem}
use Rattle.numbers.specs.Bytes.{number}
use Rattle.sheet.specs.Sheet.{sheet_in, domain, domain_in}
use Rattle.sheet.specs.Answers.{reading}
use Rattle.sheet.specs.declared.Head.{Head}
use Rattle.sheet.proofs.Bench.{S, partial, swap, drift, dead_end, reads_dead_end, reads_S, reads_S_two, reads_S_none, reads_partial, reads_swap, reads_swap_all, reads_drift}
use Rattle.store.specs.declared.Node.{Node}
use Rattle.store.specs.Nodes.{node, nothing, node_at, set_at, node_for}
use Rattle.sheet.specs.Refusals.{refusal}
use Rattle.sheet.specs.declared.Refusal.{Refusal}
use Rattle.sheet.specs.declared.Reason.TheVariants.{NoRoom}
use Rattle.search.specs.Done.{searched_of, answer, SheetSearched}
use Rattle.search.specs.declared.Verdict.TheVariants.{Plan, NoPlan, Refused}
use Rattle.search.specs.declared.Answer.{Answer}
use Rattle.search.proofs.SheetLaws.{sheet-ready}
use Rattle.search.proofs.Unique.{plan_not_refused, plan_not_none, none_not_refused, done_unique}

-- ---- the promise leaves what is computed

pub record Only (l : List ℕ) (store : List Node) (plan : List ℕ) (a : Answer) (s : List Node) (p : List ℕ) : Type 0 where
  pub answers : {b : Answer} {t : List Node} {q : List ℕ} → SheetSearched l store t plan q b → (b ≡ a) × (t ≡ s) × (q ≡ p)

module _ {l : List ℕ} {h : Head} (e : reading l ≡ Ok h) {store : List Node} {plan : List ℕ} {a : Answer} {s : List Node} {p : List ℕ} (w : List ℕ) where
  only : (m : List records.Node) → computed.answer (listing (domain_in l) (set_of h.initial)) (set_of h.goal) (room (length store)) (length plan) ≡ searched_of a w
      → nodes (listing (domain_in l) (set_of h.initial)) a.count ≡ m → take a.count s ≡ map node_for m → drop a.count s ≡ drop a.count store → p ≡ w ++ drop (length w) plan
      → Only l store plan a s p
  only m c n f d q = record {
    answers = λ u. done_unique (sheet-ready l e) (u.accepted e) (record {
      says = searched_of a w;
      nodes = m;
      searches = subst₂ (λ (r : Searched) (k : List records.Node). Searches (domain_in l) (set_of h.initial) (set_of h.goal) (room (length store)) (length plan) r k) c
          (ap (λ (r : Searched). nodes (listing (domain_in l) (set_of h.initial)) r.count) c ∙ n)
          (search_exists (domain_in l) (sheet-ready l e).well_formed (set_of h.initial) (sheet-ready l e).start (set_of h.goal) (room (length store)) (length plan));
      answer_is = refl;
      first_places = f;
      later_places = d;
      plan_is = q;
    });
  }

-- an empty store, and a plan buffer of four bytes
abbrev places : ℕ → List Node
places n = replicate n nothing

abbrev buffer : List ℕ
buffer = 9 ∷ 9 ∷ 9 ∷ 9 ∷ []

-- ---- what the promise leaves there

pub only_S : Only (S 1) (places 4) buffer (answer Plan 2 1) (node (set_for 3) 0 255 ∷ node (set_for 1) 0 1 ∷ places 2) (1 ∷ 9 ∷ 9 ∷ 9 ∷ [])
unfolding computed.answer first_inside listing expanded tried add has_set step sendable image nodes node_of place_of same_seq by_last domain sheet_in number set_of set_for
only_S = only reads_S (1 ∷ []) _ refl refl refl refl refl

pub only_S_two : Only (S 2) (places 4) buffer (answer Plan 3 2) (node (set_for 3) 0 255 ∷ node (set_for 1) 0 1 ∷ node (set_for 2) 1 0 ∷ places 1) (1 ∷ 0 ∷ 9 ∷ 9 ∷ [])
unfolding computed.answer first_inside listing expanded tried add has_set step sendable image nodes node_of place_of same_seq by_last domain sheet_in number set_of set_for
only_S_two = only reads_S_two (1 ∷ 0 ∷ []) _ refl refl refl refl refl

pub only_S_full : Only (S 1) (places 1) buffer (answer (Refused (refusal NoRoom 0)) 1 0) (node (set_for 3) 0 255 ∷ []) buffer
unfolding computed.answer first_inside listing expanded tried add has_set step sendable image nodes node_of place_of same_seq by_last domain sheet_in number set_of set_for
only_S_full = only reads_S [] _ refl refl refl refl refl

pub only_S_none : Only (S 0) (places 2) buffer (answer (Refused (refusal NoRoom 0)) 2 0) (node (set_for 3) 0 255 ∷ node (set_for 1) 0 1 ∷ []) buffer
unfolding computed.answer first_inside listing expanded tried add has_set step sendable image nodes node_of place_of same_seq by_last domain sheet_in number set_of set_for
only_S_none = only reads_S_none [] _ refl refl refl refl refl

pub only_partial : Only partial (places 4) buffer (answer NoPlan 1 0) (node (set_for 3) 0 255 ∷ places 3) buffer
unfolding computed.answer first_inside listing expanded tried add has_set step sendable image nodes node_of place_of same_seq by_last domain sheet_in number set_of set_for
only_partial = only reads_partial [] _ refl refl refl refl refl

pub only_swap : Only (swap 1 2) (places 4) buffer (answer Plan 2 1) (node (set_for 1) 0 255 ∷ node (set_for 2) 0 0 ∷ places 2) (0 ∷ 9 ∷ 9 ∷ 9 ∷ [])
unfolding computed.answer first_inside listing expanded tried add has_set step sendable image nodes node_of place_of same_seq by_last domain sheet_in number set_of set_for
only_swap = only reads_swap (0 ∷ []) _ refl refl refl refl refl

pub only_swap_all : Only (swap 3 1) (places 1) buffer (answer NoPlan 1 0) (node (set_for 3) 0 255 ∷ []) buffer
unfolding computed.answer first_inside listing expanded tried add has_set step sendable image nodes node_of place_of same_seq by_last domain sheet_in number set_of set_for
only_swap_all = only reads_swap_all [] _ refl refl refl refl refl

pub only_drift : Only drift (places 4) buffer (answer NoPlan 2 0) (node (set_for 1) 0 255 ∷ node (set_for 3) 0 0 ∷ places 2) buffer
unfolding computed.answer first_inside listing expanded tried add has_set step sendable image nodes node_of place_of same_seq by_last domain sheet_in number set_of set_for
only_drift = only reads_drift [] _ refl refl refl refl refl

pub only_dead_end : Only dead_end (places 4) buffer (answer Plan 2 1) (node (set_for 1) 0 255 ∷ node (set_for 2) 0 0 ∷ places 2) (0 ∷ 9 ∷ 9 ∷ 9 ∷ [])
unfolding computed.answer first_inside listing expanded tried add has_set step sendable image nodes node_of place_of same_seq by_last domain sheet_in number set_of set_for
only_dead_end = only reads_dead_end (0 ∷ []) _ refl refl refl refl refl

-- ---- the impostors

says : {a c : Answer} → a ≡ c → c.verdict ≡ a.verdict
says e = ap (λ (o : Answer). o.verdict) (sym e)

module _ {a : Answer} {s : List Node} {p : List ℕ} where
  -- one that refuses everything
  pub not_refuse_all : SheetSearched (S 1) (places 4) s buffer p a → (f : Refusal) → a.verdict ≢ Refused f
  not_refuse_all u n z = plan_not_refused (says (only_S.answers u).0 ∙ z)

  -- one that asks for a possible command in every state
  pub not_commands_everywhere : SheetSearched dead_end (places 4) s buffer p a → a.verdict ≡ Plan
  not_commands_everywhere u = ap (λ (o : Answer). o.verdict) (only_dead_end.answers u).0

  -- one fixed plan
  pub not_one_plan : {b : Answer} {t : List Node} {q : List ℕ} → SheetSearched (S 1) (places 4) s buffer p a → SheetSearched (swap 1 2) (places 4) t buffer q b → take 1 p ≢ take 1 q
  not_one_plan u v z = omega (arith, ap (λ (l : List ℕ). get_or l 0 9) (ap (take 1) (sym (only_S.answers u).2) ∙ z ∙ ap (take 1) (only_swap.answers v).2))

  -- 'no plan' always
  pub not_no_plan_always : SheetSearched (S 1) (places 4) s buffer p a → a.verdict ≢ NoPlan
  not_no_plan_always u z = plan_not_none (says (only_S.answers u).0 ∙ z)

  -- one that touches nothing
  pub not_untouched : SheetSearched (S 1) (places 4) s buffer p a → s ≢ places 4
  not_untouched u z = omega (arith, sym (set_for_lem 3) ∙ ap (λ (l : List Node). set_at l 0) (sym (only_S.answers u).1 ∙ z) ∙ set_for_lem 0)

  -- one that expands only the initial set: it finds two sets, whatever verdict it then invents
  pub not_first_only : SheetSearched (S 2) (places 4) s buffer p a → a.count ≢ 2
  not_first_only u z = omega (arith, ap (λ (o : Answer). o.count) (only_S_two.answers u).0, z)

  -- a made-up count
  pub not_another_count : SheetSearched (S 1) (places 4) s buffer p a → (n : ℕ) → n ≢ 2 → a.count ≢ n
  not_another_count u n ne z = ne (sym z ∙ ap (λ (o : Answer). o.count) (only_S.answers u).0)

  -- one that drops a set because a smaller one was seen: set 3 after set 1
  pub not_smaller_seen : SheetSearched drift (places 4) s buffer p a → a.count ≢ 1
  not_smaller_seen u z = omega (arith, ap (λ (o : Answer). o.count) (only_drift.answers u).0, z)

  -- one that writes a place beyond the count
  pub not_beyond : SheetSearched (S 1) (places 4) s buffer p a → (n : Node) → n ≢ nothing → node_at s 2 ≢ n
  not_beyond u n ne z = ne (sym z ∙ ap (λ (l : List Node). node_at l 2) (only_S.answers u).1)

  -- one that writes the plan buffer on 13
  pub not_written_on_13 : SheetSearched (S 1) (places 1) s buffer p a → (a.verdict ≡ Refused (refusal NoRoom 0)) × (p ≡ buffer)
  not_written_on_13 u = (ap (λ (o : Answer). o.verdict) (only_S_full.answers u).0, (only_S_full.answers u).2)

  -- one that sends a command which only some of the possible states can take, or counts the empty union as inside the goal
  pub not_some_states : SheetSearched partial (places 4) s buffer p a → a.verdict ≢ Plan
  not_some_states u z = plan_not_none (sym z ∙ ap (λ (o : Answer). o.verdict) (only_partial.answers u).0)

  -- one that says 'no plan' where the store is full and a new set remains
  pub not_none_when_full : SheetSearched (S 0) (places 2) s buffer p a → a.verdict ≢ NoPlan
  not_none_when_full u z = none_not_refused (sym z ∙ ap (λ (o : Answer). o.verdict) (only_S_none.answers u).0)

  -- one that says 'no room' where it is full and nothing new remains
  pub not_full_when_none : SheetSearched (swap 3 1) (places 1) s buffer p a → {k : ℕ} → a.verdict ≢ Refused (refusal NoRoom k)
  not_full_when_none u z = none_not_refused (says (only_swap_all.answers u).0 ∙ z)
