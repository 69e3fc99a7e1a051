-- What a search's answer means for plans. The sequence of the first set inside the goal is good and comes first among the good plans, since the
-- listing has every set by its first sequence, in order; and where no set of the whole listing is inside the goal, no plan is good.
use mathlib.Core.Path.{◌≡◌, sym, ap, ◌∙◌, subst, subst₂}
use mathlib.Core.Logic.{◌⊎◌, inl, inr, ⊎_elim, ◌≢◌}
use mathlib.Core.List.{List}
use Prim.Native.Nat.{ℕ, ◌-◌, ◌^◌, ◌≤◌, ◌<◌, suc-le-suc}
use native.Mathlib.Omega.{arith}
use lib.ListN.{length, take}
use lib.Pow.{pow_mono}
use Rattle.meaning.proofs.Tests.{clash}
use Rattle.meaning.specs.Sets.{◌⊆◌}
use Rattle.meaning.specs.Domain.{Domain, WellFormed, Start}
use Rattle.meaning.specs.Runs.{Good}
use Rattle.meaning.specs.Walk.{Gives, step, Solves}
use Rattle.meaning.specs.Order.{Before}
use Rattle.meaning.specs.Listing.{Entry, Listing, Node, Stores}
use Rattle.meaning.specs.Answers.{Verdict, plan, no_plan, refused, Searched, room, FirstInside, NoneInside, Answers, Searches}
use Rattle.meaning.specs.Enumeration.{listing}
use Rattle.meaning.specs.Computed.{answer, nodes}
use Rattle.meaning.proofs.OrderLaws.{before_total, before_trans}
use Rattle.meaning.proofs.Places.{place-lt}
use Rattle.meaning.proofs.ListingLaws.{listing_unique, seq-length}
use Rattle.meaning.proofs.Agreement.{good_solves, solves_good}
use Rattle.meaning.proofs.Enumerated.{domain-length, listing_correct}
use Rattle.meaning.proofs.JudgeLaws.{refused_inj}
use Rattle.meaning.proofs.StoreLaws.{nodes-stored, stores_unique}
use Rattle.meaning.proofs.SearchLaws as answers
use Rattle.meaning.proofs.SearchLaws.{none-take, Answered, answered, answers_unique, answer_meets, count_fits}

-- ---- the verdicts are told apart

plan_not_none : ¬ (plan ≡ no_plan)
plan_not_none e = clash (cc)

pub plan_not_refused : {n : ℕ} → ¬ (plan ≡ refused n)
plan_not_refused e = clash (cc)

pub none_not_refused : {n : ℕ} → ¬ (no_plan ≡ refused n)
none_not_refused e = clash (cc)

refusals_apart : ¬ (refused 13 ≡ refused 14)
refusals_apart e = let z : ◌≡◌ {A = ℕ} 13 14 = refused_inj e in omega arith

-- p is good, and no good plan comes before it
pub record FirstGood (D : Domain) (x g : ℕ) (p : List ℕ) : Type 0 where
  pub good : Good D x g p
  pub first : (q : List ℕ) → Good D x g q → ¬ Before q p

module _ (D : Domain) (ok : WellFormed D) (x : ℕ) (st : Start D x) (g : ℕ) where
  -- ---- the first set inside the goal, and where there is none

  pub first-plan : {l : List Entry} {k : ℕ} {e : Entry} → Listing (step D) x l → FirstInside g l k e → FirstGood D x g e.seq
  first-plan {l} {k} {e} L a = record {
    good = solves_good D ok st.within (record { last = e.set; gives = (L.prefix.first a.at_place).gives; inside = a.inside });
    first = λ q v h. sooner q (good_solves D ok st.within v) h;
  }
    where
      sooner : (q : List ℕ) → Solves D x g q → ¬ Before q e.seq
      sooner q v h =
          let m = L.complete.lists v.gives in
          let f = L.prefix.first m.at_place in
          let no_later : ¬ Before q m.entry.seq = f.least (subst (λ (y : ℕ). Gives (step D) x q y) (sym m.its_set) v.gives) in
          let earlier : Before m.entry.seq e.seq = ⊎_elim (λ b. before_trans b h)
          (λ r. ⊎_elim (λ q'. subst (λ (p : List ℕ). Before p e.seq) (sym q') h) (λ b. absurd (no_later b)) r) (before_total m.entry.seq q) in
          a.none_before m.place m.entry (place-lt L.prefix.sorted m.at_place a.at_place earlier) m.at_place
          (subst (λ (y : ℕ). y ⊆ g) (sym m.its_set) v.inside)

  pub no_good : {l : List Entry} → Listing (step D) x l → NoneInside g l → (q : List ℕ) → ¬ Good D x g q
  no_good L n q w =
      let v = good_solves D ok st.within w in
      let m = L.complete.lists v.gives in
      n m.place m.entry m.at_place (subst (λ (y : ℕ). y ⊆ g) (sym m.its_set) v.inside)

  module _ (c b : ℕ) where
    -- ---- the promise can be met, and leaves one answer and one store

    pub search_exists : Searches D x g c b (answer (listing D x) g c b) (nodes (listing D x) (answer (listing D x) g c b).count)
    search_exists =
        let L = listing_correct D ok x st in
        record {
          listing = listing D x;
          is_listing = L;
          answers = answer_meets g (listing D x) c b;
          store = nodes-stored (step D) x L.prefix (answer (listing D x) g c b).count (count_fits g (listing D x) c b (answer_meets g (listing D x) c b)).1;
        }

    pub search_unique : {r s : Searched} {m n : List Node} → Searches D x g c b r m → Searches D x g c b s n → (r ≡ s) × (m ≡ n)
    search_unique {r} {s} {m} {n} u v = (same, stores_unique (step D) x u.is_listing.prefix u.store other)
      where
        lists : v.listing ≡ u.listing
        lists = listing_unique (step D) x v.is_listing u.is_listing

        same : r ≡ s
        same = answers_unique g u.listing c b u.answers (subst (λ (l : List Entry). Answers l g c b s) lists v.answers)

        other : Stores u.listing r.count n
        other = subst₂ (λ (l : List Entry) (k : ℕ). Stores l k n) lists (ap (λ (a : Searched). a.count) (sym same)) v.store

    module _ {r : Searched} {n : List Node} (u : Searches D x g c b r n) where
      case : Answered g u.listing c b r
      case = answered g u.listing c b u.answers

      says : {s : Searched} {v : Verdict} → r ≡ s → r.verdict ≡ v → s.verdict ≡ v
      says f e = ap (λ (a : Searched). a.verdict) (sym f) ∙ e

      -- a plan that is found is good, and no good plan comes before it
      pub plan_is-first : r.verdict ≡ plan → FirstGood D x g r.written
      plan_is-first e = go case
        where
          go : Answered g u.listing c b r → FirstGood D x g r.written
          go (answers.plan a h q f) = subst (λ (s : Searched). FirstGood D x g s.written) (sym f) (first-plan u.is_listing a)
          go (answers.too_long a h q f) = absurd (plan_not_refused (sym (says f e)))
          go (answers.no_plan m h f) = absurd (plan_not_none (sym (says f e)))
          go (answers.no_room m h f) = absurd (plan_not_refused (sym (says f e)))

      -- refusal 14 gives the length of that plan, and the buffer is shorter
      pub too_long_means : r.verdict ≡ refused 14 → (p : List ℕ) × FirstGood D x g p × (r.plan_length ≡ length p) × (r.place ≡ length p) × (b < length p)
      too_long_means e = go case
        where
          go : Answered g u.listing c b r → (p : List ℕ) × FirstGood D x g p × (r.plan_length ≡ length p) × (r.place ≡ length p) × (b < length p)
          go (answers.plan a h q f) = absurd (plan_not_refused (says f e))
          go (answers.too_long {e = i} a h q f) =
              (i.seq, first-plan u.is_listing a, ap (λ (s : Searched). s.plan_length) f, ap (λ (s : Searched). s.place) f, q)
          go (answers.no_plan m h f) = absurd (none_not_refused (says f e))
          go (answers.no_room m h f) = absurd (refusals_apart (says f e))

      -- where the answer is 'no plan', no sequence of any length is good
      pub no_plan_means : r.verdict ≡ no_plan → (q : List ℕ) → ¬ Good D x g q
      no_plan_means e = go case
        where
          go : Answered g u.listing c b r → (q : List ℕ) → ¬ Good D x g q
          go (answers.plan a h q f) = absurd (plan_not_none (says f e))
          go (answers.too_long a h q f) = absurd (none_not_refused (sym (says f e)))
          go (answers.no_plan m h f) = no_good u.is_listing m
          go (answers.no_room m h f) = absurd (none_not_refused (sym (says f e)))

      -- 13 is given only where the listing goes on beyond the room, and no set that has a place is inside the goal
      pub no_room_means : r.verdict ≡ refused 13 → (r.count ≡ c) × (c < length u.listing) × NoneInside g (take c u.listing)
      no_room_means e = go case
        where
          go : Answered g u.listing c b r → (r.count ≡ c) × (c < length u.listing) × NoneInside g (take c u.listing)
          go (answers.plan a h q f) = absurd (plan_not_refused (says f e))
          go (answers.too_long a h q f) = absurd (refusals_apart (sym (says f e)))
          go (answers.no_plan m h f) = absurd (none_not_refused (says f e))
          go (answers.no_room m h f) = (ap (λ (s : Searched). s.count) f, h, none-take g u.listing c m)

      -- a plan is shorter than the count
      pub plan-shorter : (r.verdict ≡ plan) ⊎ (r.verdict ≡ refused 14) → r.plan_length < r.count
      plan-shorter w = go case w
        where
          Shorter : Searched → Type 0
          Shorter s = s.plan_length < s.count

          go : Answered g u.listing c b r → (r.verdict ≡ plan) ⊎ (r.verdict ≡ refused 14) → Shorter r
          go (answers.plan a h q f) w = subst Shorter (sym f) (suc-le-suc (seq-length (step D) x u.is_listing.prefix a.at_place))
          go (answers.too_long a h q f) w = subst Shorter (sym f) (suc-le-suc (seq-length (step D) x u.is_listing.prefix a.at_place))
          go (answers.no_plan m h f) (inl e) = absurd (plan_not_none (sym (says f e)))
          go (answers.no_plan m h f) (inr e) = absurd (none_not_refused (says f e))
          go (answers.no_room m h f) (inl e) = absurd (plan_not_refused (sym (says f e)))
          go (answers.no_room m h f) (inr e) = absurd (refusals_apart (says f e))

      -- with room for 2 ^ states - 1 sets, 13 is never given
      pub room_enough : 2 ^ D.states - 1 ≤ c → r.verdict ≢ refused 13
      room_enough h e = omega (arith, h, (no_room_means e).1, domain-length D ok x st u.is_listing.prefix)

  -- with at most 16 states and that many places in the store, 13 is never given
  pub room_suffices : (places b : ℕ) {r : Searched} {n : List Node} → Searches D x g (room places) b r n
      → D.states ≤ 16 → 2 ^ D.states - 1 ≤ places → r.verdict ≢ refused 13
  room_suffices places b u h k = room_enough (room places) b u (omega (arith, k, pow_mono {i = D.states} {j = 16} h))
