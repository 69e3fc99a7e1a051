-- The answer from how the search ended: with the plan read back, where one was found.
use mathlib.Core.Path.{◌≡◌, refl, sym, ap, ◌∙◌, subst}
use mathlib.Core.Bool.{Bool, cond}
use mathlib.Core.List.{List, ◌++◌}
use Prim.Native.Nat.{ℕ, ◌-◌, ◌≤◌, ◌<◌}
use native.Mathlib.Omega.{arith}
use lib.ListN.{length, drop}
use borrow.Author.Tests.{le-leb, lt-leb}
use Rattle.store.specs.declared.Node.{Node}
use Rattle.store.specs.Paths.{ReadBack}
use Rattle.store.proofs.PathLaws.{path_fun}
use Rattle.meaning.proofs.Tests.{clash}
use Rattle.explore.specs.declared.Ending.TheVariants as ending
use Rattle.search.specs.Done.{answer}
use Rattle.search.specs.Endings.{with_plan, no_room_for, long_plan, Finished}
use Rattle.search.specs.declared.Verdict.TheVariants.{Plan, NoPlan}
use Rattle.search.specs.declared.Answer.{Answer}
use Rattle.explore.specs.declared.End.{End}

pub plan-fits : (count long bytes : ℕ) → long ≤ bytes → with_plan count long bytes ≡ answer Plan count long
plan-fits count long bytes h = ap (λ (b : Bool). cond b (answer Plan count long) (long_plan count long)) (le-leb long bytes h)

pub plan-long : (count long bytes : ℕ) → bytes < long → with_plan count long bytes ≡ long_plan count long
plan-long count long bytes h = ap (λ (b : Bool). cond b (answer Plan count long) (long_plan count long)) (lt-leb long bytes h)

pub finished_none : {l : List Node} {t : End} {plan : List ℕ} {a : Answer} → t.ending ≡ ending.NoPlan → a ≡ answer NoPlan t.count 0 → Finished l t plan plan a
finished_none k e = record {
  plan = λ z. absurd (clash (cc));
  too_long = λ z. absurd (clash (cc));
  no_plan = λ z. (e, refl);
  no_room = λ z. absurd (clash (cc));
}

pub finished_full : {l : List Node} {t : End} {plan : List ℕ} {a : Answer} → t.ending ≡ ending.NoRoom → a ≡ no_room_for t.count → Finished l t plan plan a
finished_full k e = record {
  plan = λ z. absurd (clash (cc));
  too_long = λ z. absurd (clash (cc));
  no_plan = λ z. absurd (clash (cc));
  no_room = λ z. (e, refl);
}

pub finished_with : {l : List Node} {t : End} {before after : List ℕ} {n : ℕ} {a : Answer} → t.ending ≡ ending.Plan → ReadBack l (t.count - 1) before after n → a ≡ with_plan t.count n (length before)
    → Finished l t before after a
finished_with {l} {t} {before} {after} {n} {a} k r e = record {
  plan = λ {p} z f h. subst (λ (q : List ℕ). (a ≡ answer Plan t.count (length q)) × (after ≡ q ++ drop (length q) before)) (path_fun r.follows f)
      (here (path_fun r.follows f) h);
  too_long = λ {p} z f h. subst (λ (q : List ℕ). (a ≡ long_plan t.count (length q)) × (after ≡ before)) (path_fun r.follows f)
      (beyond (path_fun r.follows f) h);
  no_plan = λ z. absurd (clash (cc));
  no_room = λ z. absurd (clash (cc));
}
  where
    says : a ≡ with_plan t.count (length r.path) (length before)
    says = e ∙ ap (λ (m : ℕ). with_plan t.count m (length before)) (sym r.as_long)

    here : {p : List ℕ} → r.path ≡ p → length p ≤ length before → (a ≡ answer Plan t.count (length r.path)) × (after ≡ r.path ++ drop (length r.path) before)
    here q h =
        let h' : length r.path ≤ length before = omega (arith, ap length q, h) in
        (says ∙ plan-fits t.count (length r.path) (length before) h', r.fits h')

    beyond : {p : List ℕ} → r.path ≡ p → length before < length p → (a ≡ long_plan t.count (length r.path)) × (after ≡ before)
    beyond q h =
        let h' : length before < length r.path = omega (arith, ap length q, h) in
        (says ∙ plan-long t.count (length r.path) (length before) h', r.too_long h')
