-- What the answer for an accepted sheet means, at the level of its bytes: 'no plan' leaves no good sequence of any length, and a plan that is found is
-- good and the first of the good ones. All is shown of the domain's listing in `meaning`; here it is said of the answer, the store and the plan buffer.
use mathlib.Core.Path.{◌≡◌, refl, sym, ap, ◌∙◌, subst}
use mathlib.Core.Logic.{◌⊎◌, inl, inr, ⊎_elim, ◌≢◌}
use mathlib.Core.List.{List}
use Prim.Native.Nat.{ℕ, ◌-◌, ◌^◌, ◌≤◌, ◌<◌}
use native.Mathlib.Omega.{arith}
use lib.ListN.{length, take, drop}
use lib.Seq.{take_at}
use Rattle.std.specs.Prelude.{Ok}
use Rattle.meaning.proofs.Tests.{clash}
use Rattle.meaning.specs.Domain.{Domain}
use Rattle.meaning.specs.Runs.{Good}
use Rattle.meaning.specs.Walk.{step}
use Rattle.meaning.specs.Listing.{Entry, Listing}
use Rattle.meaning.specs.Answers as meaning
use Rattle.meaning.specs.Answers.{Searched, Searches, NoneInside, Judged, Judges, room}
use Rattle.meaning.proofs.JudgeLaws.{judged-good}
use Rattle.meaning.proofs.SearchLaws as answers
use Rattle.meaning.proofs.SearchLaws.{Answered, answered}
use Rattle.meaning.proofs.Meanings.{FirstGood, plan_is-first, too_long_means, no_plan_means, no_room_means, plan-shorter, room_suffices}
use Rattle.sets.specs.Words.{set_of}
use Rattle.sheet.specs.Sheet.{domain_in}
use Rattle.sheet.specs.Answers.{reading}
use Rattle.sheet.specs.declared.Head.{Head}
use Rattle.sheet.proofs.DomainLaws.{domain-states}
use Rattle.store.specs.declared.Node.{Node}
use Rattle.explore.specs.Ready.{Ready}
use Rattle.sheet.specs.Refusals.{refusal}
use Rattle.sheet.specs.declared.Reason.TheVariants.{NoRoom, LongPlan}
use Rattle.search.specs.Done.{verdict_of, place_of, SearchDone, SheetSearched}
use Rattle.search.specs.declared.Verdict.{Verdict}
use Rattle.search.specs.declared.Verdict.TheVariants.{Plan, NoPlan, Refused}
use Rattle.search.specs.declared.Answer.{Answer}
use Rattle.search.proofs.SheetLaws.{sheet-ready}

-- a plan that is written has the length that is reported, and fits
pub record WrittenWhole (b : ℕ) (r : Searched) : Type 0 where
  pub as_long : length r.written ≡ r.plan_length
  pub fits : r.plan_length ≤ b

written_whole : {D : Domain} {x g c b : ℕ} {r : Searched} {n : List _} → Searches D x g c b r n → r.verdict ≡ meaning.plan → WrittenWhole b r
written_whole {g = g} {c} {b} {r} u e = go (answered g u.listing c b u.answers)
  where
    go : Answered g u.listing c b r → WrittenWhole b r
    go (answers.plan a h q f) = subst (WrittenWhole b) (sym f) (record { as_long = refl; fits = q })
    go (answers.too_long a h q f) = absurd (clash (cc))
    go (answers.no_plan m h f) = absurd (clash (cc))
    go (answers.no_room m h f) = absurd (clash (cc))

-- ---- the engine

module _ {D : Domain} {x g : ℕ} (r : Ready D x) {store s : List Node} {plan p : List ℕ} {a : Answer} (u : SearchDone D x g store s plan p a) where
  says : {v : Verdict} → a.verdict ≡ v → u.says.verdict ≡ verdict_of v
  says e = ap (λ (o : Searched). o.verdict) (sym u.answer_is) ∙ ap verdict_of e

  -- the plan that is found: what the start of the plan buffer then holds
  written_is : a.verdict ≡ Plan → u.says.written ≡ take a.length p
  written_is e =
      let w = written_whole u.searches (says e) in
      sym (ap (take a.length) u.plan_is
      ∙ take_at u.says.written (drop (length u.says.written) plan) a.length (w.as_long ∙ ap (λ (o : Searched). o.plan_length) (sym u.answer_is)))

  pub done-plan : a.verdict ≡ Plan → FirstGood D x g (take a.length p)
  done-plan e = subst (FirstGood D x g) (written_is e) (plan_is-first D r.well_formed x r.start g (room (length store)) (length plan) u.searches (says e))

  pub done-fits : a.verdict ≡ Plan → a.length ≤ length plan
  done-fits e = omega (arith, (written_whole u.searches (says e)).fits, ap (λ (o : Searched). o.plan_length) u.answer_is)

  pub done_too_long : {k : ℕ} → a.verdict ≡ Refused (refusal LongPlan k) → (q : List ℕ) × FirstGood D x g q × (a.length ≡ length q) × (k ≡ length q) × (length plan < length q)
  done_too_long e =
      let t = too_long_means D r.well_formed x r.start g (room (length store)) (length plan) u.searches (says e) in
      (t.0, t.1, ap (λ (o : Searched). o.plan_length) u.answer_is ∙ t.2, sym (ap place_of e) ∙ ap (λ (o : Searched). o.place) u.answer_is ∙ t.3, t.4)

  pub done_no_room : {k : ℕ} → a.verdict ≡ Refused (refusal NoRoom k)
      → (L : List Entry) × Listing (step D) x L × (room (length store) < length L) × NoneInside g (take (room (length store)) L) × (a.count ≡ room (length store))
  done_no_room e =
      let t = no_room_means D r.well_formed x r.start g (room (length store)) (length plan) u.searches (says e) in
      (u.searches.listing, u.searches.is_listing, t.1, t.2, ap (λ (o : Searched). o.count) u.answer_is ∙ t.0)

  pub done_no_plan : a.verdict ≡ NoPlan → (q : List ℕ) → ¬ Good D x g q
  done_no_plan e = no_plan_means D r.well_formed x r.start g (room (length store)) (length plan) u.searches (says e)

  pub done-shorter : {k : ℕ} → (a.verdict ≡ Plan) ⊎ (a.verdict ≡ Refused (refusal LongPlan k)) → a.length < a.count
  done-shorter w = omega (
    arith,
    plan-shorter D r.well_formed x r.start g (room (length store)) (length plan) u.searches (⊎_elim (λ e. inl (says e)) (λ e. inr (says e)) w),
    ap (λ (o : Searched). o.plan_length) u.answer_is,
    ap (λ (o : Searched). o.count) u.answer_is,
  )

  pub done-room : {k : ℕ} → D.states ≤ 16 → 2 ^ D.states - 1 ≤ length store → a.verdict ≢ Refused (refusal NoRoom k)
  done-room h k e = room_suffices D r.well_formed x r.start g (length store) (length plan) u.searches h k (says e)

-- ---- the search of a sheet

module _ (l : List ℕ) {h : Head} (e : reading l ≡ Ok h) {store s : List Node} {plan p : List ℕ} {a : Answer} (u : SheetSearched l store s plan p a) where
  -- a found plan is good, and no good plan comes before it
  pub found_is_first : a.verdict ≡ Plan → FirstGood (domain_in l) (set_of h.initial) (set_of h.goal) (take a.length p)
  found_is_first = done-plan (sheet-ready l e) (u.accepted e)

  -- the judge of this sheet and this plan says good
  pub found_is_judged_good : a.verdict ≡ Plan → {j : Judged} → Judges (domain_in l) (set_of h.initial) (set_of h.goal) (take a.length p) j → j.verdict ≡ meaning.good
  found_is_judged_good q v = (judged-good (domain_in l) (sheet-ready l e).well_formed (sheet-ready l e).start v).1 (found_is_first q).good

  -- 14 gives the length of that plan, and the plan buffer is shorter
  pub fourteen_means : {k : ℕ} → a.verdict ≡ Refused (refusal LongPlan k) → (q : List ℕ) × FirstGood (domain_in l) (set_of h.initial) (set_of h.goal) q × (a.length ≡ length q) × (k ≡ length q) × (length plan < length q)
  fourteen_means = done_too_long (sheet-ready l e) (u.accepted e)

  -- 13 says that the listing has more sets than there is room for, and that none of those with a place is inside the goal; the count is the room
  pub thirteen_means : {k : ℕ} → a.verdict ≡ Refused (refusal NoRoom k)
      → (L : List Entry) × Listing (step (domain_in l)) (set_of h.initial) L × (room (length store) < length L)
      × NoneInside (set_of h.goal) (take (room (length store)) L) × (a.count ≡ room (length store))
  thirteen_means = done_no_room (sheet-ready l e) (u.accepted e)

  -- where the answer is 'no plan', no sequence of any length is good
  pub no_plan_is_good : a.verdict ≡ NoPlan → (q : List ℕ) → ¬ Good (domain_in l) (set_of h.initial) (set_of h.goal) q
  no_plan_is_good = done_no_plan (sheet-ready l e) (u.accepted e)

  -- a plan is shorter than the count
  pub length_below_count : {k : ℕ} → (a.verdict ≡ Plan) ⊎ (a.verdict ≡ Refused (refusal LongPlan k)) → a.length < a.count
  length_below_count = done-shorter (sheet-ready l e) (u.accepted e)

  -- with at most 16 states and 2 ^ states - 1 places, 13 is never given
  pub never_no_room : {k : ℕ} → h.states ≤ 16 → 2 ^ h.states - 1 ≤ length store → a.verdict ≢ Refused (refusal NoRoom k)
  never_no_room m k = done-room (sheet-ready l e) (u.accepted e)
      (subst (λ (n : ℕ). n ≤ 16) (sym (domain-states l h e)) m) (subst (λ (n : ℕ). 2 ^ n - 1 ≤ length store) (sym (domain-states l h e)) k)
