-- A plan is judged good exactly when the sheet is accepted and the plan is good by its domain.
use mathlib.Core.Path.{◌≡◌, refl, sym, ap, ◌∙◌}
use mathlib.Core.Logic.{◌↔◌}
use mathlib.Core.Bool.{true≢false}
use mathlib.Core.List.{List, []}
use Prim.Native.Nat.{ℕ}
use Rattle.std.specs.Prelude.{Result, Ok, Err, ⊤}
use Rattle.std.specs.Result.{is_ok}
use Rattle.meaning.specs.Sets.{Tells}
use Rattle.meaning.specs.Runs as runs
use Rattle.meaning.specs.Answers as answers
use Rattle.meaning.proofs.Agreement.{never_fails_iff_good}
use Rattle.meaning.proofs.JudgeLaws.{judged-good, refused_not_good}
use Rattle.sets.specs.Words.{set_of}
use Rattle.sheet.specs.Sheet.{domain_in}
use Rattle.sheet.specs.Answers.{reading, Reading}
use Rattle.sheet.specs.declared.Head.{Head}
use Rattle.sheet.specs.declared.Refusal.{Refusal}
use Rattle.sheet.proofs.DomainLaws.{domain_well_formed, initial-start}
use Rattle.judge.specs.declared.Judged.{Judged}
use Rattle.std.specs.Borrow.{Bor}
use Rattle.judge.specs.Verdicts.{verdict_of, JudgedBy, GoodFor, ChoiceOf, BetterOf}

good_is : (v : Result ⊤ Refusal) → verdict_of v ≡ answers.good → v ≡ Ok tt
good_is (Ok u) e = refl
good_is (Err f) e = absurd (refused_not_good e)

module _ {l p : List ℕ} {j : Judged} (u : JudgedBy l p j) where
  by-head : (h : Head) → reading l ≡ Ok h → (verdict_of j.verdict ≡ answers.good) ↔ runs.Good (domain_in l) (set_of h.initial) (set_of h.goal) p
  by-head h e = judged-good (domain_in l) (domain_well_formed l h e) (initial-start l h e) (u.accepted e)

  -- the judge says good exactly of the plans that are good for the sheet
  pub good_iff_runs : (j.verdict ≡ Ok tt) ↔ GoodFor l p
  good_iff_runs = (go (reading l) refl, λ g. good_is j.verdict ((by-head g.head g.accepted).1 g.good))
    where
      go : (r : Reading) → reading l ≡ r → j.verdict ≡ Ok tt → GoodFor l p
      go (Ok h) e v = record { head = h; accepted = e; good = (by-head h e).0 (ap verdict_of v) }
      go (Err f) e v = absurd (refused_not_good (ap (λ (i : Judged). verdict_of i.verdict) (sym (u.refused e)) ∙ ap verdict_of v))

  -- the same in the product's words: the sheet is accepted, no run gets stuck, and every full run ends in the goal
  pub good_iff_never_fails : (j.verdict ≡ Ok tt) ↔ ((h : Head) × (reading l ≡ Ok h) × runs.NeverFails (domain_in l) (set_of h.initial) (set_of h.goal) p)
  good_iff_never_fails = (
    λ v. let g = good_iff_runs.0 v in (g.head, g.accepted, (same g.head g.accepted).1 g.good),
    λ (h, e, n). good_iff_runs.1 (record { head = h; accepted = e; good = (same h e).0 n }),
  )
    where
      same : (h : Head) → reading l ≡ Ok h
          → runs.NeverFails (domain_in l) (set_of h.initial) (set_of h.goal) p ↔ runs.Good (domain_in l) (set_of h.initial) (set_of h.goal) p
      same h e = never_fails_iff_good (domain_in l) (domain_well_formed l h e) (initial-start l h e).within

  pub verdict_tells : Tells (is_ok j.verdict) (GoodFor l p)
  verdict_tells = go j.verdict refl
    where
      go : (v : Result ⊤ Refusal) → j.verdict ≡ v → Tells (is_ok v) (GoodFor l p)
      go (Ok u) e = record { if_true = λ _. good_iff_runs.0 e; if_false = λ q. absurd (true≢false q) }
      go (Err f) e = record { if_true = λ q. absurd (true≢false (sym q)); if_false = λ _ g. let q = good_iff_runs.1 g in cc }

-- where neither plan is chosen, the first's empty start is what is handed back
pub hands_nothing : (l : List ℕ) (a b : Bor (List ℕ)) {c : ℕ} → ChoiceOf l a.now b.now c → {r : Bor (List ℕ)} → ¬ (c ≡ 1) → ¬ (c ≡ 2) → r.now ≡ [] → r.ref_ptr ≡ a.ref_ptr → BetterOf l a b r
hands_nothing l a b u n m e p = record {
  first = λ g h. absurd (n (u.first g h));
  second = λ g h. absurd (m (u.second g h));
  neither = λ _ _. (e, p);
}
