-- Each turn of the search's loops, as a plain fact: what a try, an expansion and the run keep of the listing and of the store. The laws of progress say
-- how the listing goes on; here stands what the store then holds.
use mathlib.Core.Path.{◌≡◌, refl, sym, ap, ◌∙◌, subst}
use mathlib.Core.Logic.{⊎_elim, ◌≢◌}
use mathlib.Core.Option.{none, some}
use mathlib.Core.List.{List}
use Prim.Native.Nat.{ℕ, ◌+◌, ◌-◌, ◌≤◌, ◌<◌}
use native.Mathlib.Nat.{lt_of_not-le, eq-or-lt_of_le, le_of_suc-le-suc, lt_irrefl, not-suc-le-zero}
use native.Mathlib.Numerals.{add-one}
use native.Mathlib.Omega.{arith}
use lib.Arith.{lt-one}
use lib.ListN.{length, drop, set, length-set}
use lib.Seq.{get_or-set_same, get_or-set_other, drop-set-lt, drop-drop}
use Rattle.meaning.specs.Sets.{◌⊆◌}
use Rattle.meaning.specs.Domain.{Domain}
use Rattle.meaning.specs.Walk.{step}
use Rattle.meaning.specs.Listing.{Entry, At, then, Holds, initial, later}
use Rattle.meaning.specs.Answers.{FirstInside}
use Rattle.meaning.specs.Enumeration.{listing, root}
use Rattle.meaning.specs.Progress.{Progress}
use Rattle.meaning.proofs.Places.{at_fun, at_lt}
use Rattle.meaning.proofs.ProgressLaws.{progress-none, progress-seen, progress_grow, new_place, not_all, progress-turn, progress_end, progress_start, place_0}
use Rattle.sets.specs.Words.{Value, set_of}
use Rattle.sets.proofs.Values.{own_value}
use Rattle.store.specs.declared.Node.{Node}
use Rattle.store.specs.Nodes.{node, nothing, node_at, set_at, meant}
use Rattle.explore.specs.Ready.{Ready}
use Rattle.explore.specs.Turns.{ended_as, Old, not_sendable, seen, Fresh, Tested, Stored, Kept, Going, GoneOn, LastInside, AllOutside, MoreThanRoom, Ended, Turned, Explored}
use Rattle.explore.specs.declared.Ending.TheVariants.{Plan, NoPlan, NoRoom}
use Rattle.explore.specs.declared.End.{End}
use Rattle.std.specs.declared.ops.ControlFlow.{ControlFlow}
use Rattle.std.specs.declared.ops.ControlFlow.TheVariants.{Continue, Break}

-- ---- the later places

pub kept_all : (count : ℕ) (l : List Node) → Kept count l l
kept_all count l = record { as_long = refl; later = refl }

pub kept_put : (l : List Node) (count : ℕ) (n : Node) → Kept (count + 1) l (set l count n)
kept_put l count n = record { as_long = length-set l count n; later = drop-set-lt (count + 1) l count n (omega arith) }

pub kept_on : {c d : ℕ} {l m n : List Node} → Kept c l m → Kept d m n → c ≤ d → Kept d l n
kept_on {c} {d} {l} {m} {n} a b h = record { as_long = b.as_long ∙ a.as_long; later = b.later ∙ more (d - c) (omega arith) }
  where
    more : (k : ℕ) → c + k ≡ d → drop d m ≡ drop d l
    more k e = subst (λ (j : ℕ). drop j m ≡ drop j l) e (sym (drop-drop k c m) ∙ ap (drop k) a.later ∙ drop-drop k c l)

-- ---- the records that are stored

-- what holds of each of the first places holds of one more
places-more : (P : ℕ → Node → Type 0) {count : ℕ} (l : List Node) {l' : List Node} (n : Node) → ((k : ℕ) → k < count → P k (node_at l k)) → count < length l → l' ≡ set l count n → P count n
    → (k : ℕ) → k < count + 1 → P k (node_at l' k)
places-more P {count} l {l'} n f h e new k b = subst (λ (m : List Node). P k (node_at m k)) (sym e)
    (⊎_elim (λ q. subst (λ (j : ℕ). P j (node_at (set l count n) j)) (sym q) last) before (eq-or-lt_of_le (le_of_suc-le-suc (subst (λ (j : ℕ). k < j) (add-one count) b))))
  where
    before : k < count → P k (node_at (set l count n) k)
    before c =
        let other : k ≢ count = λ q. lt_irrefl count (subst (λ (j : ℕ). j < count) q c) in
        subst (P k) (sym (get_or-set_other l count k n nothing other)) (f k c)

    last : P count (node_at (set l count n) count)
    last = subst (P count) (sym (get_or-set_same l count n nothing h)) new

stored_more : {D : Domain} {x count : ℕ} {l l' : List Node} (n : Node) → Stored D x count l → count < length l → l' ≡ set l count n → Holds (listing D x) count (meant n) → Stored D x (count + 1) l'
stored_more {D} {x} {l = l} n s h e new = record {
  values = λ k h'. own_value _;
  holds = places-more (λ k (m : Node). Holds (listing D x) k (meant m)) l n s.holds h e new;
}

stored-none : {D : Domain} {x : ℕ} {l : List Node} → Stored D x 0 l
stored-none = record { values = λ k h. absurd (not-suc-le-zero h); holds = λ k h. absurd (not-suc-le-zero h) }

-- place 0 holds the initial set
pub start_is : {D : Domain} {x g room i a count : ℕ} {l : List Node} → Going D x g room i a count l → 0 < count → set_at l 0 ≡ x
start_is {D} {x} r h =
    let s = r.stored.holds 0 h in
    s.its_set ∙ ap (λ (e : Entry). e.set) (at_fun s.at_place (place_0 D r.ready.well_formed x r.ready.start))

-- ---- what goes on, and what has ended

-- the same places and another command to be tried next
going_on : {D : Domain} {x g room i a j b count : ℕ} {l : List Node} → Going D x g room i a count l → Progress D x count j b → Going D x g room j b count l
going_on r p = record { ready = r.ready; progress = p; stored = r.stored; none_inside = r.none_inside; fits = r.fits; there = r.there; most = r.most }

module _ {D : Domain} {x g room count : ℕ} {l : List Node} (r : Ready D x) (s : Stored D x count l) (f : count ≤ room) (h : room ≤ length l) where
  ended-plan : LastInside D x g count → Ended D x g room (ended_as Plan count) l
  ended-plan v = record { ready = r; stored = s; fits = f; there = h; plan = λ p. v; no_plan = λ p. absurd (cc); no_room = λ p. absurd (cc) }

  ended-none : AllOutside D x g count → Ended D x g room (ended_as NoPlan count) l
  ended-none v = record { ready = r; stored = s; fits = f; there = h; plan = λ p. absurd (cc); no_plan = λ p. v; no_room = λ p. absurd (cc) }

  ended_full : MoreThanRoom D x g room count → Ended D x g room (ended_as NoRoom count) l
  ended_full v = record { ready = r; stored = s; fits = f; there = h; plan = λ p. absurd (cc); no_plan = λ p. absurd (cc); no_room = λ p. v }

-- where nothing more is stored
pub at_first : {D : Domain} {x g room i a count : ℕ} {l : List Node} → Going D x g room i a count l → GoneOn D x g room i a count l l count
at_first {count = count} {l} r = record { kept = kept_all count l; grown = omega arith; going = r }

-- ---- one try

module _ {D : Domain} {x g room i a count : ℕ} {l : List Node} (r : Going D x g room i a count l) (h : i < count) where
  here : Holds (listing D x) i (meant (node_at l i))
  here = r.stored.holds i h

  -- the command gives nothing new
  old-on : Old D l count i a → Going D x g room i (a + 1) count l
  unfolding here
  old-on o = going_on r (go o)
    where
      go : Old D l count i a → Progress D x count i (a + 1)
      go (not_sendable q) = progress-none D r.ready.well_formed x r.ready.start r.progress h here.at_place (subst (λ (y : ℕ). step D y a ≡ none) here.its_set q)
      go (seen {y} {k} q b e) =
          let s = r.stored.holds k b in
          progress-seen D r.ready.well_formed x r.ready.start r.progress h here.at_place (subst (λ (z : ℕ). step D z a ≡ some y) here.its_set q) b s.at_place (sym s.its_set ∙ e)

  pub tried-old : Old D l count i a → GoneOn D x g room i (a + 1) count l l count
  tried-old o = at_first (old-on o)

  module _ {z : Value} (f : Fresh D l count i a z) where
    abbrev y : ℕ
    y = set_of z

    taken : step D here.entry.set a ≡ some y
    unfolding here
    taken = subst (λ (z : ℕ). step D z a ≡ some y) here.its_set f.gives

    fresh : (k : ℕ) (e : Entry) → k < count → At (listing D x) k e → e.set ≢ y
    fresh k e b u q =
        let s = r.stored.holds k b in
        f.nowhere k b (s.its_set ∙ ap (λ (z : Entry). z.set) (at_fun s.at_place u) ∙ q)

    new_at : At (listing D x) count (record { set = y; seq = then here.entry.seq a })
    new_at = new_place D r.ready.well_formed x r.ready.start r.progress h here.at_place taken fresh

    -- there is no place for it
    pub tried_full : count ≡ room → Explored D x g room count l l (ended_as NoRoom count)
    tried_full q = record {
      kept = kept_all count l;
      grown = omega arith;
      ended = ended_full r.ready r.stored r.fits r.there (record {
        is_full = q;
        more = subst (λ (n : ℕ). n < length (listing D x)) q (not_all D r.ready.well_formed x r.ready.start r.progress h here.at_place taken fresh);
        none_inside = outside;
      });
    }
      where
        outside : (k : ℕ) (e : Entry) → FirstInside g (listing D x) k e → room ≤ k
        outside k e u = le_of_suc-le-suc (lt_of_not-le (λ b. r.none_inside k e (omega (arith, b, q)) u.at_place u.inside))

    -- it is stored
    module _ (b : count < room) {l' : List Node} (e : l' ≡ set l count (node z i a)) where
      more : Stored D x (count + 1) l'
      more = stored_more (node z i a) r.stored (omega (arith, b, r.there)) e (record {
        entry = record { set = y; seq = then here.entry.seq a };
        at_place = new_at;
        its_set = refl;
        link = later here.at_place refl;
      })

      as_long : length l' ≡ length l
      as_long = ap length e ∙ length-set l count (node z i a)

      new_on : ¬ (y ⊆ g) → Going D x g room i (a + 1) (count + 1) l'
      new_on out = record {
        ready = r.ready;
        progress = progress_grow D r.ready.well_formed x r.ready.start r.progress h here.at_place taken fresh;
        stored = more;
        none_inside = λ j f k u. ⊎_elim
            (λ q v. out (subst (λ (z : Entry). z.set ⊆ g) (at_fun (subst (λ (m : ℕ). At (listing D x) m f) q u) new_at) v))
            (λ q. r.none_inside j f q u)
            (eq-or-lt_of_le (le_of_suc-le-suc (subst (λ (m : ℕ). j < m) (add-one count) k)));
        fits = omega (arith, b);
        there = omega (arith, r.there, as_long);
        most = r.most;
      }

      new_ended : y ⊆ g → Ended D x g room (ended_as Plan (count + 1)) l'
      new_ended v = ended-plan r.ready more (omega (arith, b)) (omega (arith, r.there, as_long)) (record {
        place = count;
        entry = record { set = y; seq = then here.entry.seq a };
        is_last = refl;
        first = record { at_place = new_at; inside = v; none_before = r.none_inside };
      })

      kept_new : Kept (count + 1) l l'
      kept_new = subst (λ (m : List Node). Kept (count + 1) l m) (sym e) (kept_put l count (node z i a))

      pub tried_new : (t : ControlFlow End ℕ) → Tested y g (count + 1) t → Turned D x g room i (a + 1) count l l' t
      tried_new (Continue c) u = rw u.0 (record { kept = kept_new; grown = omega arith; going = new_on u.1 })
      tried_new (Break o) u = rw u.0 (record { kept = kept_new; grown = omega arith; ended = new_ended u.1 })

-- ---- from one turn to the next

-- a turn takes place 0 of its store for the start, which is the one that the search is from
pub asks : {D : Domain} {x g room i a count : ℕ} {l : List Node} → Going D x g room i a count l → 0 < count → Going D (set_at l 0) g room i a count l
asks {D} {g = g} {room} {i} {a} {count} {l} r h = subst (λ (z : ℕ). Going D z g room i a count l) (sym (start_is r h)) r

-- so what it gives goes on with what was before it
module _ {D : Domain} {x g room i a first : ℕ} {before mid after : List Node} {count : ℕ} (r : GoneOn D x g room i a first before mid count) (h : 0 < count) where
  pub and_goes_on : {j b c : ℕ} → GoneOn D (set_at mid 0) g room j b count mid after c → GoneOn D x g room j b first before after c
  and_goes_on {j} {b} {c} u = record {
    kept = kept_on r.kept u.kept u.grown;
    grown = omega (arith, r.grown, u.grown);
    going = subst (λ (z : ℕ). Going D z g room j b c after) (start_is r.going h) u.going;
  }

  pub and_ends : {o : End} → Explored D (set_at mid 0) g room count mid after o → Explored D x g room first before after o
  and_ends {o} u = record {
    kept = kept_on r.kept u.kept u.grown;
    grown = omega (arith, r.grown, u.grown);
    ended = subst (λ (z : ℕ). Ended D z g room o after) (start_is r.going h) u.ended;
  }

-- after the last command of a place the next place is to be expanded
pub expanded : {D : Domain} {x g room i a first : ℕ} {before after : List Node} {count : ℕ} → GoneOn D x g room i a first before after count → a ≡ D.commands → GoneOn D x g room (i + 1) 0 first before after count
expanded {D} {x} {i = i} {count = count} r e = record {
  kept = r.kept;
  grown = r.grown;
  going = going_on r.going (progress-turn D r.going.ready.well_formed x r.going.ready.start (subst (Progress D x count i) e r.going.progress));
}

-- after the last place the store holds the whole listing
pub ran : {D : Domain} {x g room i first : ℕ} {before after : List Node} {count : ℕ} → GoneOn D x g room i 0 first before after count → count ≤ i → Explored D x g room first before after (ended_as NoPlan count)
ran {D} {x} {count = count} r h = record {
  kept = r.kept;
  grown = r.grown;
  ended = ended-none r.going.ready r.going.stored r.going.fits r.going.there
      (record { are_all = all; none_inside = λ k f u. r.going.none_inside k f (omega (arith, at_lt u, all)) u });
}
  where
    all : count ≡ length (listing D x)
    all = progress_end D r.going.ready.well_formed x r.going.ready.start r.going.progress h

-- ---- the start

module _ {D : Domain} (z : Value) (r : Ready D (set_of z)) (g room : ℕ) (l : List Node) (there : room ≤ length l) where
  at_0 : At (listing D (set_of z)) 0 (root (set_of z))
  at_0 = place_0 D r.well_formed (set_of z) r.start

  -- there is no place at all
  pub no_place : room ≡ 0 → Explored D (set_of z) g room 0 l l (ended_as NoRoom 0)
  no_place e = record {
    kept = kept_all 0 l;
    grown = omega arith;
    ended = ended_full r stored-none (omega arith) there
        (record { is_full = sym e; more = omega (arith, at_lt at_0, e); none_inside = λ k f u. omega (arith, e) });
  }

  -- the initial set is stored at place 0
  module _ (some : room ≢ 0) {l' : List Node} (e : l' ≡ set l 0 (node z 0 255)) where
    as_long₀ : length l' ≡ length l
    as_long₀ = ap length e ∙ length-set l 0 (node z 0 255)

    stored_1 : Stored D (set_of z) 1 l'
    stored_1 = stored_more {count = 0} {l = l} (node z 0 255) stored-none (omega (arith, some, there)) e (record {
      entry = root (set_of z);
      at_place = at_0;
      its_set = refl;
      link = initial refl refl refl;
    })

    kept_1 : Kept 1 l l'
    kept_1 = subst (λ (m : List Node). Kept 1 l m) (sym e) (kept_put l 0 (node z 0 255))

    -- it is inside the goal
    pub started_ended : {o : End} → (o ≡ ended_as Plan 1) × (set_of z ⊆ g) → Explored D (set_of z) g room 0 l l' o
    started_ended v = rw v.0 (record {
      kept = kept_1;
      grown = omega arith;
      ended = ended-plan r stored_1 (omega (arith, some)) (omega (arith, there, as_long₀)) (record {
        place = 0;
        entry = root (set_of z);
        is_last = refl;
        first = record { at_place = at_0; inside = v.1; none_before = λ j f h. absurd (not-suc-le-zero h) };
      });
    })

    -- it is not
    pub started_on : room ≤ 65536 → ¬ (set_of z ⊆ g) → GoneOn D (set_of z) g room 0 0 0 l l' 1
    started_on most out = record {
      kept = kept_1;
      grown = omega arith;
      going = record {
        ready = r;
        progress = progress_start D r.well_formed (set_of z) r.start;
        stored = stored_1;
        none_inside = λ j f h w v. out (subst (λ (q : Entry). q.set ⊆ g) (at_fun (subst (λ (k : ℕ). At (listing D (set_of z)) k f) (lt-one h) w) at_0) v);
        fits = omega (arith, some);
        there = omega (arith, there, as_long₀);
        most = most;
      };
    }
