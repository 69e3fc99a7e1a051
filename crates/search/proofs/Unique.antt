-- The promise of a search leaves one answer, one store and one plan buffer: the first places hold the values of the records of `meaning`, the later
-- places and the rest of the plan buffer are as lent, and a reading is one of two.
use mathlib.Core.Path.{◌≡◌, refl, sym, ap, ap₂, ◌∙◌}
use mathlib.Core.List.{List, ◌++◌, map}
use Prim.Native.Nat.{ℕ}
use lib.ListN.{length, take, drop, take-append-drop}
use Rattle.std.specs.Prelude.{Err, Ok}
use Rattle.meaning.proofs.Tests.{clash}
use Rattle.meaning.specs.Domain.{Domain}
use Rattle.meaning.specs.Answers.{Searched, room}
use Rattle.meaning.specs.Enumeration as enumeration
use Rattle.meaning.specs.Computed as computed
use Rattle.meaning.proofs.JudgeLaws.{refused_inj}
use Rattle.meaning.proofs.Meanings.{search_unique, search_exists}
use Rattle.sheet.specs.Answers.{reading, Reading}
use Rattle.store.specs.declared.Node.{Node}
use Rattle.store.specs.Nodes.{node_for}
use Rattle.explore.specs.Ready.{Ready}
use Rattle.sheet.specs.declared.Refusal.{Refusal}
use Rattle.sheet.specs.Refusals.{refusal}
use Rattle.sheet.proofs.Reasons.{refusal_inj}
use Rattle.search.specs.Done.{verdict_of, place_of, searched_of, SearchDone, SheetSearched, SearchedHere}
use Rattle.search.specs.declared.Verdict.{Verdict}
use Rattle.search.specs.declared.Verdict.TheVariants.{Plan, NoPlan, Refused}
use Rattle.search.specs.declared.Answer.{Answer}
use Rattle.search.proofs.SheetLaws.{sheet-ready}

-- ---- the values tell two of each kind apart

pub plan_not_refused : {f : Refusal} → ¬ (Plan ≡ Refused f)
plan_not_refused e = clash (cc)

pub plan_not_none : ¬ (Plan ≡ NoPlan)
plan_not_none e = clash (cc)

pub none_not_refused : {f : Refusal} → ¬ (NoPlan ≡ Refused f)
none_not_refused e = clash (cc)

pub verdict_inj : (v w : Verdict) → verdict_of v ≡ verdict_of w → place_of v ≡ place_of w → v ≡ w
verdict_inj Plan Plan e p = refl
verdict_inj Plan NoPlan e p = absurd (clash (cc))
verdict_inj Plan (Refused g) e p = absurd (clash (cc))
verdict_inj NoPlan Plan e p = absurd (clash (cc))
verdict_inj NoPlan NoPlan e p = refl
verdict_inj NoPlan (Refused g) e p = absurd (clash (cc))
verdict_inj (Refused f) Plan e p = absurd (clash (cc))
verdict_inj (Refused f) NoPlan e p = absurd (clash (cc))
verdict_inj (Refused f) (Refused g) e p = ap Refused (refusal_inj f g (refused_inj e) p)

-- a verdict whose refusal, if it is one, is at place k
abbrev pub at_place : ℕ → Verdict → Verdict
at_place k Plan = Plan
at_place k NoPlan = NoPlan
at_place k (Refused f) = Refused (refusal f.reason k)

-- all of a verdict but the place is told by its number alone
pub verdict_inj_at : (k : ℕ) (v w : Verdict) → verdict_of v ≡ verdict_of w → at_place k v ≡ at_place k w
verdict_inj_at k Plan Plan e = refl
verdict_inj_at k Plan NoPlan e = absurd (clash (cc))
verdict_inj_at k Plan (Refused g) e = absurd (clash (cc))
verdict_inj_at k NoPlan Plan e = absurd (clash (cc))
verdict_inj_at k NoPlan NoPlan e = refl
verdict_inj_at k NoPlan (Refused g) e = absurd (clash (cc))
verdict_inj_at k (Refused f) Plan e = absurd (clash (cc))
verdict_inj_at k (Refused f) NoPlan e = absurd (clash (cc))
verdict_inj_at k (Refused f) (Refused g) e = ap Refused (refusal_inj (refusal f.reason k) (refusal g.reason k) (refused_inj e) refl)

pub answer_inj : (a b : Answer) (p q : List ℕ) → searched_of a p ≡ searched_of b q → a ≡ b
answer_inj a b p q e = λ i. record {
  verdict = verdict_inj a.verdict b.verdict (ap (λ (r : Searched). r.verdict) e) (ap (λ (r : Searched). r.place) e) i;
  count = ap (λ (r : Searched). r.count) e i;
  length = ap (λ (r : Searched). r.plan_length) e i;
}

-- ---- the engine

module _ {D : Domain} {x g : ℕ} (r : Ready D x) {store : List Node} {plan : List ℕ} where
  pub done_unique : {s t : List Node} {p q : List ℕ} {a b : Answer} → SearchDone D x g store s plan p a → SearchDone D x g store t plan q b → (a ≡ b) × (s ≡ t) × (p ≡ q)
  done_unique {s} {t} {p} {q} {a} {b} u v = (
    answer_inj a b u.says.written v.says.written (u.answer_is ∙ same.0 ∙ sym v.answer_is),
    sym (take-append-drop u.says.count s) ∙ ap₂ ◌++◌ firsts rests ∙ take-append-drop u.says.count t,
    u.plan_is ∙ ap (λ (o : Searched). o.written ++ drop (length o.written) plan) same.0 ∙ sym v.plan_is,
  )
    where
      same : (u.says ≡ v.says) × (u.nodes ≡ v.nodes)
      same = search_unique D r.well_formed x r.start g (room (length store)) (length plan) u.searches v.searches

      counts : v.says.count ≡ u.says.count
      counts = ap (λ (o : Searched). o.count) (sym same.0)

      firsts : take u.says.count s ≡ take u.says.count t
      firsts = u.first_places ∙ ap (map node_for) same.1 ∙ sym v.first_places ∙ ap (λ (n : ℕ). take n t) counts

      rests : drop u.says.count s ≡ drop u.says.count t
      rests = u.later_places ∙ ap (λ (n : ℕ). drop n store) (sym counts) ∙ sym v.later_places ∙ ap (λ (n : ℕ). drop n t) counts

  -- the answer is the computed one
  pub done-value : {s : List Node} {p : List ℕ} {a : Answer} (u : SearchDone D x g store s plan p a) → u.says ≡ computed.answer (enumeration.listing D x) g (room (length store)) (length plan)
  done-value u = (search_unique D r.well_formed x r.start g (room (length store)) (length plan) u.searches
      (search_exists D r.well_formed x r.start g (room (length store)) (length plan))).0

-- ---- the search of a sheet

pub search-sheet_unique : {l : List ℕ} {store s t : List Node} {plan p q : List ℕ} {a b : Answer} → SheetSearched l store s plan p a → SheetSearched l store t plan q b → (a ≡ b) × (s ≡ t) × (p ≡ q)
search-sheet_unique {l} {store} {s} {t} {plan} {p} {q} {a} {b} u v = go (reading l) refl
  where
    go : (r : Reading) → reading l ≡ r → (a ≡ b) × (s ≡ t) × (p ≡ q)
    go (Ok h) e = done_unique (sheet-ready l e) (u.accepted e) (v.accepted e)
    go (Err f) e =
        let i = u.refused e in
        let j = v.refused e in
        (i.answer_is ∙ sym j.answer_is, i.store_is ∙ sym j.store_is, i.plan_is ∙ sym j.plan_is)

-- the same over a store that the caller does not see
pub search-here_unique : {places : ℕ} {l plan p q : List ℕ} {a b : Answer} → SearchedHere places l plan p a → SearchedHere places l plan q b → (a ≡ b) × (p ≡ q)
search-here_unique u v = let r = search-sheet_unique u.searched v.searched in (r.0, r.2)
