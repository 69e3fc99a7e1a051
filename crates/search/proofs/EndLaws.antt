-- The answer of a search that has ended. The parents of the store lead back along the listing's own sequences, so the plan that is read back is the
-- sequence of the last place.
use mathlib.Core.Path.{◌≡◌, refl, sym, ap, ◌∙◌, subst}
use mathlib.Core.Logic.{◌≢◌}
use mathlib.Core.List.{List, [], ◌∷◌, ◌++◌, map}
use Prim.Native.Nat.{ℕ, zero, suc, ◌-◌, ◌≤◌, ◌<◌, suc-le-suc}
use native.Mathlib.Nat.{lt_of_not-le, not-suc-le-zero}
use native.Mathlib.Decide.{dec_le}
use native.Mathlib.Omega.{arith}
use lib.ListN.{length, take, drop, length-map}
use lib.Seq.{length-take-le}
use Rattle.meaning.specs.Domain.{Domain}
use Rattle.meaning.specs.Walk as walk
use Rattle.meaning.specs.Listing.{Entry, At, Holds, Link, initial, later, Stores}
use Rattle.meaning.specs.Answers.{Searched, Answers, found, long_plan, none_of, out_of_room, room}
use Rattle.meaning.specs.Enumeration.{listing}
use Rattle.meaning.proofs.Places.{at_get_or, at_fun, at_take, take-lt, map_at}
use Rattle.meaning.proofs.StoreLaws.{parent-lt, then_not_nil}
use Rattle.meaning.proofs.SearchLaws.{answers-plan, answers_too_long, answers_no_plan, answers_no_room}
use Rattle.meaning.proofs.Enumerated.{listing_correct}
use Rattle.meaning.proofs.ProgressLaws.{place_0}
use Rattle.store.specs.declared.Node.{Node}
use Rattle.sets.specs.Words.{IsValue}
use Rattle.store.specs.Nodes.{node, nothing, node_at, meant, node_for}
use Rattle.store.specs.Paths.{Path, start, step}
use Rattle.explore.specs.Ready.{Ready}
use Rattle.explore.specs.Turns.{Stored, Ended, Explored, LastInside}
use Rattle.explore.specs.declared.Ending.{Ending}
use Rattle.explore.specs.declared.Ending.TheVariants as ending
use Rattle.search.specs.Done.{searched_of, answer, SearchDone}
use Rattle.search.specs.Endings.{Finished, CanRead, no_room_for, long_plan as long_answer}
use Rattle.search.specs.declared.Verdict.TheVariants.{Plan, NoPlan}
use Rattle.search.specs.declared.Answer.{Answer}
use Rattle.explore.specs.declared.End.{End}

-- ---- the way back

module _ {D : Domain} {x count : ℕ} {l : List Node} (r : Ready D x) (s : Stored D x count l) (b : count ≤ length l) where
  -- by induction on a bound n of the place
  back : (n k : ℕ) (e : Entry) → k < n → k < count → At (listing D x) k e → Path l k e.seq
  back zero k e h c u = absurd (not-suc-le-zero h)
  back (suc n) k e h c u = go (s.holds k c).link (λ j f i u'. back n j f i u')
    where
      same : (s.holds k c).entry ≡ e
      same = at_fun (s.holds k c).at_place u

      at_0 : k ≡ 0 → e.seq ≡ []
      at_0 z = ap (λ (f : Entry). f.seq) (at_fun (subst (λ (j : ℕ). At (listing D x) j e) z u) (place_0 D r.well_formed x r.start))

      go : Link (listing D x) k (s.holds k c).entry (meant (node_at l k)) → ((j : ℕ) (f : Entry) → j < n → j < count → At (listing D x) j f → Path l j f.seq) → Path l k e.seq
      go (initial z p q) ih = start z (at_0 z)
      go (later {f} v q) ih =
          let away : k ≢ 0 = λ z. then_not_nil f.seq (node_at l k).command (sym (sym (ap (λ (w : Entry). w.seq) same) ∙ q) ∙ at_0 z) in
          let sooner : (node_at l k).parent < k = parent-lt (walk.step D) x (listing_correct D r.well_formed x r.start).prefix (s.holds k c) away in
          step away (omega (arith, c, b)) sooner (ih (node_at l k).parent f (omega (arith, sooner, h)) (omega (arith, sooner, c)) v) (sym (ap (λ (w : Entry). w.seq) same) ∙ q)

  pub way_back : {k : ℕ} {e : Entry} → k < count → At (listing D x) k e → Path l k e.seq
  way_back {k} {e} c u = back (suc k) k e (omega arith) c u

-- a plan that was found can be read back
module _ {D : Domain} {x g room : ℕ} {t : End} {l : List Node} (v : Ended D x g room t l) where
  plan_back : (i : LastInside D x g t.count) → Path l (t.count - 1) i.entry.seq
  plan_back i = subst (λ (k : ℕ). Path l k i.entry.seq) (omega (arith, i.is_last)) (way_back v.ready v.stored (omega (arith, v.fits, v.there)) (omega (arith, i.is_last)) i.first.at_place)

  pub can_read : CanRead l t
  can_read z = let i = v.plan z in (omega (arith, i.is_last), record { path = i.entry.seq; follows = plan_back i })

-- ---- the store

pub stored-nodes : {D : Domain} {x count : ℕ} {l : List Node} → Stored D x count l → count ≤ length l → Stores (listing D x) count (map meant (take count l))
stored-nodes {D} {x} {count} {l} s b = record {
  as_many = length-map (take count l) meant ∙ length-take-le count l b;
  holds = λ {k} {n} u.
      let m = map_at (take count l) meant u in
      subst (Holds (listing D x) k) (ap meant (at_get_or nothing (at_take count m.1)) ∙ m.2) (s.holds k (take-lt l count m.1));
}

-- the first places are the values of what they stand for
own_values : (n : ℕ) (l : List Node) → ((k : ℕ) → k < n → IsValue (node_at l k).set) → take n l ≡ map node_for (map meant (take n l))
own_values zero l f = refl
own_values (suc n) [] f = refl
own_values (suc n) (m ∷ l) f = λ i. node (f 0 (omega arith) i) m.parent m.command ∷ own_values n l (λ k h. f (suc k) (suc-le-suc h)) i

-- ---- the answer

module _ {D : Domain} {x g : ℕ} {store store' : List Node} {t : End} {plan plan' : List ℕ} {a : Answer}
    (v : Explored D x g (room (length store)) 0 store store' t) (f : Finished store' t plan plan' a) where
  -- from the values that `meaning` asks for, with the count at the end
  with_says : (r : Searched) → r.count ≡ t.count → Answers (listing D x) g (room (length store)) (length plan) r → searched_of a r.written ≡ r → plan' ≡ r.written ++ drop (length r.written) plan
      → SearchDone D x g store store' plan plan' a
  with_says r c u q p = record {
    says = r;
    nodes = map meant (take r.count store');
    searches = record {
      listing = listing D x;
      is_listing = listing_correct D v.ended.ready.well_formed x v.ended.ready.start;
      answers = u;
      store = stored-nodes (subst (λ (n : ℕ). Stored D x n store') (sym c) v.ended.stored) (omega (arith, c, v.ended.fits, v.ended.there));
    };
    answer_is = q;
    first_places = own_values r.count store' (subst (λ (n : ℕ). Stored D x n store') (sym c) v.ended.stored).values;
    later_places = subst (λ (n : ℕ). drop n store' ≡ drop n store) (sym c) v.kept.later;
    plan_is = p;
  }

  pub done : SearchDone D x g store store' plan plan' a
  done = by_ending t.ending refl
    where
      found-plan : t.ending ≡ ending.Plan → SearchDone D x g store store' plan plan' a
      found-plan z = fits (dec_le (length i.entry.seq) (length plan))
        where
          i : LastInside D x g t.count
          i = v.ended.plan z

          last : suc i.place ≡ t.count
          last = omega (arith, i.is_last)

          below : i.place < room (length store)
          below = omega (arith, i.is_last, v.ended.fits)

          fits : Dec (length i.entry.seq ≤ length plan) → SearchDone D x g store store' plan plan' a
          fits (yes h) =
              let w = f.plan z (plan_back v.ended i) h in
              with_says (found i.place i.entry.seq) last (answers-plan g (listing D x) (room (length store)) (length plan) i.first below h)
              (ap (λ (b : Answer). searched_of b i.entry.seq) w.0 ∙ ap (λ (n : ℕ). searched_of (answer Plan n (length i.entry.seq)) i.entry.seq) (sym last)) w.1
          fits (no h) =
              let h' = lt_of_not-le h in
              let w = f.too_long z (plan_back v.ended i) h' in
              with_says (long_plan i.place i.entry.seq) last (answers_too_long g (listing D x) (room (length store)) (length plan) i.first below h')
              (ap (λ (b : Answer). searched_of b []) w.0 ∙ ap (λ (n : ℕ). searched_of (long_answer n (length i.entry.seq)) []) (sym last)) w.1

      no_plan : t.ending ≡ ending.NoPlan → SearchDone D x g store store' plan plan' a
      no_plan z =
          let i = v.ended.no_plan z in
          let w = f.no_plan z in
          with_says (none_of (length (listing D x))) (sym i.are_all) (answers_no_plan g (listing D x) (room (length store)) (length plan) i.none_inside (omega (arith, i.are_all, v.ended.fits)))
          (ap (λ (b : Answer). searched_of b []) w.0 ∙ ap (λ (n : ℕ). searched_of (answer NoPlan n 0) []) i.are_all) w.1

      no_room : t.ending ≡ ending.NoRoom → SearchDone D x g store store' plan plan' a
      no_room z =
          let i = v.ended.no_room z in
          let w = f.no_room z in
          with_says (out_of_room (room (length store))) (sym i.is_full) (answers_no_room g (listing D x) (room (length store)) (length plan) i.none_inside i.more)
          (ap (λ (b : Answer). searched_of b []) w.0 ∙ ap (λ (n : ℕ). searched_of (no_room_for n) []) i.is_full) w.1

      by_ending : (e : Ending) → t.ending ≡ e → SearchDone D x g store store' plan plan' a
      by_ending ending.Plan z = found-plan z
      by_ending ending.NoPlan z = no_plan z
      by_ending ending.NoRoom z = no_room z
