-- A larger store: it changes no answer but 13, and what it holds only goes on. Both stores hold the start of one listing, and the count never falls.
use mathlib.Core.Path.{◌≡◌, refl, sym, ap, ◌∙◌, subst}
use mathlib.Core.Logic.{◌⊎◌, inl, inr, ⊎_elim}
use mathlib.Core.List.{List, [], ◌∷◌, ◌++◌, map}
use Prim.Native.Nat.{ℕ, zero, suc, ◌≤◌, ◌<◌}
use native.Mathlib.Nat.{lt_of_lt_of_le, le_trans}
use native.Mathlib.Omega.{arith}
use lib.ListN.{length, take, drop}
use lib.Seq.{length-take-le, take-take}
use Rattle.std.specs.Prelude.{Ok}
use Rattle.meaning.specs.Domain.{Domain}
use Rattle.meaning.specs.Walk.{step}
use Rattle.meaning.specs.Listing as listing
use Rattle.meaning.specs.Listing.{Entry, Stores}
use Rattle.meaning.specs.Answers.{Searched, Answers, FirstInside, out_of_room, room}
use Rattle.meaning.proofs.Places.{at_take}
use Rattle.meaning.proofs.ListingLaws.{listing_unique}
use Rattle.meaning.proofs.StoreLaws.{stores_unique}
use Rattle.meaning.proofs.SearchLaws as answers
use Rattle.meaning.proofs.SearchLaws.{Answered, answered, answers_unique, larger_room, answers-plan, answers_too_long, answers_no_plan}
use Rattle.sheet.specs.Answers.{reading}
use Rattle.sheet.specs.declared.Head.{Head}
use Rattle.store.specs.declared.Node.{Node}
use Rattle.store.specs.Nodes.{node_for}
use Rattle.explore.specs.Ready.{Ready}
use Rattle.sheet.specs.Refusals.{refusal}
use Rattle.sheet.specs.declared.Reason.TheVariants.{NoRoom}
use Rattle.search.specs.Done.{SearchDone, SheetSearched}
use Rattle.search.specs.declared.Verdict.TheVariants.{Refused}
use Rattle.search.specs.declared.Answer.{Answer}
use Rattle.search.proofs.SheetLaws.{sheet-ready}
use Rattle.search.proofs.Unique.{verdict_inj, answer_inj}

-- ---- over a list

-- with more room the count does not fall
counts_grow : (g : ℕ) {l : List Entry} {c d b : ℕ} {r s : Searched} → c ≤ d → Answers l g c b r → Answers l g d b s → r.count ≤ s.count
counts_grow g {l} {c} {d} {b} {r} {s} h u v = go (answered g l c b u)
  where
    equal : Answers l g d b r → r.count ≤ s.count
    equal w = omega (arith, ap (λ (o : Searched). o.count) (answers_unique g l d b w v))

    full : ((k : ℕ) (e : Entry) → FirstInside g l k e → c ≤ k) → c < length l → r ≡ out_of_room c → r.count ≤ s.count
    full p m e = within (answered g l d b v)
      where
        within : Answered g l d b s → r.count ≤ s.count
        within (answers.plan {k} {e = f} a j q w) = omega (arith, p k f a, ap (λ (o : Searched). o.count) w, ap (λ (o : Searched). o.count) e)
        within (answers.too_long {k} {e = f} a j q w) = omega (arith, p k f a, ap (λ (o : Searched). o.count) w, ap (λ (o : Searched). o.count) e)
        within (answers.no_plan n j w) = omega (arith, m, ap (λ (o : Searched). o.count) w, ap (λ (o : Searched). o.count) e)
        within (answers.no_room n j w) = omega (arith, h, ap (λ (o : Searched). o.count) w, ap (λ (o : Searched). o.count) e)

    go : Answered g l c b r → r.count ≤ s.count
    go (answers.plan a k q e) = equal (subst (Answers l g d b) (sym e) (answers-plan g l d b a (lt_of_lt_of_le k h) q))
    go (answers.too_long a k q e) = equal (subst (Answers l g d b) (sym e) (answers_too_long g l d b a (lt_of_lt_of_le k h) q))
    go (answers.no_plan n k e) = equal (subst (Answers l g d b) (sym e) (answers_no_plan g l d b n (le_trans k h)))
    go (answers.no_room p k e) = full p k e

-- ---- two stores

-- the records of the first c places, where those of the first d are known
fewer : {l : List Entry} {c d : ℕ} {m : List listing.Node} → c ≤ d → Stores l d m → Stores l c (take c m)
fewer {l} {c} {d} {m} h u = record { as_many = length-take-le c m (omega (arith, u.as_many, h)); holds = λ {k} {n} v. u.holds (at_take c v) }

map-take : {A B : Type 0} (f : A → B) (n : ℕ) (l : List A) → take n (map f l) ≡ map f (take n l)
map-take f zero l = refl
map-take f (suc n) [] = refl
map-take {B = B} f (suc n) (e ∷ l) = ap (λ (r : List B). f e ∷ r) (map-take f n l)

module _ {D : Domain} {x g : ℕ} (r : Ready D x) {store s more t : List Node} {plan p q : List ℕ} {a b : Answer}
    (u : SearchDone D x g store s plan p a) (v : SearchDone D x g more t plan q b) (h : length store ≤ length more) where
  rooms : room (length store) ≤ room (length more)
  rooms = omega arith

  -- both speak of one listing
  same : v.searches.listing ≡ u.searches.listing
  same = listing_unique (step D) x v.searches.is_listing u.searches.is_listing

  there : Answers u.searches.listing g (room (length more)) (length plan) v.says
  there = subst (λ (l : List Entry). Answers l g (room (length more)) (length plan) v.says) same v.searches.answers

  grow : u.says.count ≤ v.says.count
  grow = counts_grow g rooms u.searches.answers there

  -- the larger store begins with what the smaller holds
  pub store_goes_on : (a.count ≤ b.count) × (take a.count t ≡ take a.count s)
  store_goes_on = (
    omega (arith, grow, ap (λ (o : Searched). o.count) u.answer_is, ap (λ (o : Searched). o.count) v.answer_is),
    subst (λ (n : ℕ). take n t ≡ take n s) (ap (λ (o : Searched). o.count) (sym u.answer_is))
        (sym (take-take n v.says.count t grow) ∙ ap (take n) v.first_places ∙ map-take node_for n v.nodes ∙ ap (map node_for) records ∙ sym u.first_places),
  )
    where
      n : ℕ
      n = u.says.count

      larger : Stores u.searches.listing v.says.count v.nodes
      larger = subst (λ (l : List Entry). Stores l v.says.count v.nodes) same v.searches.store

      records : take n v.nodes ≡ u.nodes
      records = stores_unique (step D) x u.searches.is_listing.prefix (fewer grow larger) u.searches.store

  -- and the answer is the same, but for 13
  pub answer_stays : (a.verdict ≡ Refused (refusal NoRoom 0)) ⊎ ((b ≡ a) × (q ≡ p))
  answer_stays = ⊎_elim
      (λ e. inl (verdict_inj a.verdict (Refused (refusal NoRoom 0)) (ap (λ (o : Searched). o.verdict) (u.answer_is ∙ e)) (ap (λ (o : Searched). o.place) (u.answer_is ∙ e))))
      (λ w.
      let e : v.says ≡ u.says = answers_unique g u.searches.listing (room (length more)) (length plan) there w in
      inr (
        answer_inj b a v.says.written u.says.written (v.answer_is ∙ e ∙ sym u.answer_is),
        v.plan_is ∙ ap (λ (o : Searched). o.written ++ drop (length o.written) plan) e ∙ sym u.plan_is,
      ))
      (larger_room g rooms u.searches.answers)

-- ---- the search of a sheet

module _ (l : List ℕ) {h : Head} (e : reading l ≡ Ok h) {store s more t : List Node} {plan p q : List ℕ} {a b : Answer}
    (u : SheetSearched l store s plan p a) (v : SheetSearched l more t plan q b) (m : length store ≤ length more) where
  pub larger_store_goes_on : (a.count ≤ b.count) × (take a.count t ≡ take a.count s)
  larger_store_goes_on = store_goes_on (sheet-ready l e) (u.accepted e) (v.accepted e) m

  pub larger_store_answers : (a.verdict ≡ Refused (refusal NoRoom 0)) ⊎ ((b ≡ a) × (q ≡ p))
  larger_store_answers = answer_stays (sheet-ready l e) (u.accepted e) (v.accepted e) m
