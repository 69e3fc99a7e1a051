-- The bench examples hold. The table is computed in one go, its sheets are seen to be well formed by a test, and the theorems turn both into the
-- statement at each row.
use mathlib.Core.Path.{◌≡◌, refl, sym, subst}
use mathlib.Core.Bool.{Bool, true, false, ◌&&◌, not, cond}
use mathlib.Core.List.{List, [], ◌∷◌, map}
use Prim.Native.Nat.{ℕ, zero, suc, ◌+◌, ◌*◌, ◌^◌, ◌<◌}
use lib.Dec.{T, eqb, ltb, ltb→lt, T_not, eqb_refl}
use lib.Count.{ones, ones_in}
use lib.ListN.{get_or}
use lib.Pow.{pow_pos}
use borrow.Author.Tests.{le-ltb}
use Rattle.meaning.specs.Domain.{WellFormed, Start}
use Rattle.meaning.specs.Walk.{sendable, image, step, walk}
use Rattle.meaning.specs.Enumeration.{has_set, add, tried, expanded, listing}
use Rattle.meaning.specs.Computed.{first_missing, judge, first_inside, answer, by_last, same_seq, place_of, node_of, nodes}
use Rattle.meaning.specs.Examples as bench
use Rattle.meaning.specs.Examples.{Bench, domain_of, Asked, Example, RightFor, examples, AllRight}
use Rattle.meaning.proofs.Places.{map_same}
use Rattle.meaning.proofs.JudgeLaws.{judge_meets}
use Rattle.meaning.proofs.Meanings.{search_exists}

-- ---- a sheet that passes the test is well formed

below : ℕ → List ℕ → Bool
below m [] = true
below m (y ∷ l) = ltb y m && below m l

is_well_formed : Bench → Bool
is_well_formed t = below (2 ^ t.states) t.sets && (ltb t.initial (2 ^ t.states) && not (eqb t.initial 0))

both : (a b : Bool) → a && b ≡ true → (a ≡ true) × (b ≡ true)
both true b e = (refl, e)
both false b e = absurd (subst T (sym e) tt)

below_get_or : (m : ℕ) → 0 < m → (l : List ℕ) (k : ℕ) → below m l ≡ true → get_or l k 0 < m
unfolding below
below_get_or m h [] k e = h
below_get_or m h (y ∷ l) zero e = ltb→lt y m (subst T (sym (both (ltb y m) (below m l) e).0) tt)
below_get_or m h (y ∷ l) (suc k) e = below_get_or m h l k (both (ltb y m) (below m l) e).1

module _ (t : Bench) (e : is_well_formed t ≡ true) where
  parts : (below (2 ^ t.states) t.sets ≡ true) × (ltb t.initial (2 ^ t.states) ≡ true) × (not (eqb t.initial 0) ≡ true)
  unfolding is_well_formed
  parts =
      let p = both _ _ e in
      let q = both _ _ p.1 in
      (p.0, q.0, q.1)

  well_formed : WellFormed (domain_of t)
  well_formed = record { rows = λ a s h. pick (ltb a t.commands && ltb s t.states) (a * t.states + s); no_other = λ a s h. simp (le-ltb a t.commands h) }
    where
      pick : (b : Bool) (i : ℕ) → cond b (get_or t.sets i 0) 0 < 2 ^ t.states
      pick true i = below_get_or (2 ^ t.states) (pow_pos t.states) t.sets i parts.0
      pick false i = pow_pos t.states

  a_start : Start (domain_of t) t.initial
  a_start = record {
    within = ltb→lt t.initial (2 ^ t.states) (subst T (sym parts.1) tt);
    some_state = λ q. T_not (eqb t.initial 0) (subst T (sym parts.2) tt) (subst (λ (x : ℕ). T (eqb x 0)) (sym q) (eqb_refl 0));
  }

-- ---- the replies, computed

computed : Bench → Asked → Asked
computed t (bench.search c b r n) =
    let l = listing (domain_of t) t.initial in
    bench.search c b (answer l t.goal c b) (nodes l (answer l t.goal c b).count)
computed t (bench.judge p j) = bench.judge p (judge (domain_of t) t.initial t.goal p)

computed_right : (t : Bench) → is_well_formed t ≡ true → (a : Asked) → RightFor (domain_of t) t.initial t.goal (computed t a)
unfolding computed
computed_right t e (bench.search c b r n) = search_exists (domain_of t) (well_formed t e) t.initial (a_start t e) t.goal c b
computed_right t e (bench.judge p j) = judge_meets (domain_of t) t.initial t.goal p

replies : map (λ (e : Example). computed e.sheet e.asked) examples ≡ map (λ (e : Example). e.asked) examples
unfolding computed judge first_missing walk step sendable image answer first_inside listing expanded tried add has_set nodes node_of place_of same_seq by_last ones ones_in
replies = refl

sheets : map (λ (e : Example). is_well_formed e.sheet) examples ≡ map (λ (e : Example). true) examples
unfolding is_well_formed below
sheets = refl

-- ---- the statement

pub examples_right : AllRight
examples_right k e u =
    let same : computed e.sheet e.asked ≡ e.asked = map_same (λ (x : Example). computed x.sheet x.asked) (λ (x : Example). x.asked) replies u in
    let fits : is_well_formed e.sheet ≡ true = map_same (λ (x : Example). is_well_formed x.sheet) (λ (x : Example). true) sheets u in
    subst (RightFor (domain_of e.sheet) e.sheet.initial e.sheet.goal) same (computed_right e.sheet fits e.asked)
