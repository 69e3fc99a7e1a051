-- The judge's promise and the better's each leave one answer: the reading is one of two, and the scope's values tell two judgements apart.
use mathlib.Core.Path.{◌≡◌, refl, sym, ap, ◌∙◌, subst}
use mathlib.Core.Logic.{◌⊎◌, inl, inr, ⊎_elim, ◌↔◌}
use mathlib.Core.List.{List}
use Prim.Native.Nat.{ℕ, zero, suc, ◌≤◌, ◌<◌}
use native.Mathlib.Nat.{lt_of_not-le}
use native.Mathlib.Decide.{dec_le}
use denote.Ref.{Bor}
use lib.ListN.{length}
use Rattle.std.specs.Prelude.{Result, Ok, Err, ⊤, Option, Some, None}
use Rattle.meaning.specs.Answers as answers
use Rattle.meaning.specs.Answers.{judged, AllCommands, NotSendable}
use Rattle.meaning.specs.Runs as runs
use Rattle.meaning.specs.Computed as computed
use Rattle.meaning.proofs.JudgeLaws as laws
use Rattle.meaning.proofs.JudgeLaws.{judges_unique, judge_meets, judged_11, good_dec}
use Rattle.meaning.proofs.Agreement.{Blocks, blocked_is_stuck}
use Rattle.sets.specs.Words.{set_of, set_for}
use Rattle.sheet.specs.Sheet.{domain_in}
use Rattle.sheet.specs.Answers.{reading, Reading}
use Rattle.sheet.specs.declared.Head.{Head}
use Rattle.sheet.specs.declared.Refusal.{Refusal}
use Rattle.sheet.proofs.Reasons.{refusal_inj}
use Rattle.sheet.proofs.DomainLaws.{domain_well_formed, initial-start}
use Rattle.judge.specs.declared.Judged.{Judged}
use Rattle.judge.specs.declared.Which.{Which}
use Rattle.judge.specs.declared.Which.TheVariants.{First, Second}
use Rattle.judge.specs.Verdicts.{verdict_of, place_of, values_of, choice_number, JudgedBy, GoodFor, ChoiceOf, BetterOf}
use Rattle.sheet.proofs.Readings.{not_both, accepted_inj}

-- ---- the judge

verdict_inj : (v w : Result ⊤ Refusal) → verdict_of v ≡ verdict_of w → place_of v ≡ place_of w → v ≡ w
verdict_inj (Ok u) (Ok t) e f = refl
verdict_inj (Ok u) (Err g) e f = absurd (laws.refused_not_good (sym e))
verdict_inj (Err g) (Ok u) e f = absurd (laws.refused_not_good e)
verdict_inj (Err g) (Err h) e f = ap Err (refusal_inj g h (laws.refused_inj e) f)

values_inj : {l p : List ℕ} {i j : Judged} → JudgedBy l p i → JudgedBy l p j → values_of i ≡ values_of j → i ≡ j
values_inj {i} {j} u v e = λ k. record {
  verdict = verdict_inj i.verdict j.verdict (ap (λ (v : answers.Judged). v.verdict) e) (ap (λ (v : answers.Judged). v.place) e) k;
  set = (u.value ∙ ap (λ (v : answers.Judged). set_for v.set) e ∙ sym v.value) k;
  left = ap (λ (v : answers.Judged). v.left) e k;
}

module _ {l p : List ℕ} where
  pub judge_unique : {i j : Judged} → JudgedBy l p i → JudgedBy l p j → i ≡ j
  judge_unique {i} {j} u v = go (reading l) refl
    where
      go : (r : Reading) → reading l ≡ r → i ≡ j
      go (Ok h) e = values_inj u v (judges_unique (domain_in l) (set_of h.initial) (set_of h.goal) p (u.accepted e) (v.accepted e))
      go (Err f) e = u.refused e ∙ sym (v.refused e)

  module _ {j : Judged} {h : Head} (u : JudgedBy l p j) (e : reading l ≡ Ok h) where
    -- for an accepted sheet the answer is the computed one
    pub judge-value : values_of j ≡ computed.judge (domain_in l) (set_of h.initial) (set_of h.goal) p
    judge-value = judges_unique (domain_in l) (set_of h.initial) (set_of h.goal) p (u.accepted e) (judge_meets (domain_in l) (set_of h.initial) (set_of h.goal) p)

    -- 11 is given exactly when the command at that index is the first that is not sendable; there some run is stuck
    pub eleven_iff : (k y : ℕ) → (values_of j ≡ judged (answers.refused 11) k y) ↔ (AllCommands (domain_in l).commands p × NotSendable (domain_in l) (set_of h.initial) p k y)
    eleven_iff k y = judged_11 (domain_in l) (set_of h.initial) (set_of h.goal) p (u.accepted e) k y

    pub eleven_stuck : (k y : ℕ) → values_of j ≡ judged (answers.refused 11) k y → Blocks (domain_in l) (domain_well_formed l h e) (set_of h.initial) p k y
    eleven_stuck k y q = blocked_is_stuck (domain_in l) (domain_well_formed l h e) (initial-start l h e).within ((eleven_iff k y).0 q).1

-- ---- the better of two plans

pub good_for_dec : (l p : List ℕ) → GoodFor l p ⊎ (¬ GoodFor l p)
good_for_dec l p = go (reading l) refl
  where
    go : (r : Reading) → reading l ≡ r → GoodFor l p ⊎ (¬ GoodFor l p)
    go (Err f) e = inr (λ g. not_both (sym g.accepted ∙ e))
    go (Ok h) e = ⊎_elim
        (λ g. inl (record { head = h; accepted = e; good = g }))
        (λ n. inr (λ g. n (subst (λ (k : Head). runs.Good (domain_in l) (set_of k.initial) (set_of k.goal) p) (accepted_inj (sym g.accepted ∙ e)) g.good)))
        (good_dec (domain_in l) (domain_well_formed l h e) (initial-start l h e) (set_of h.goal) p)

-- every two plans are in one of the three cases
data Case (l a b : List ℕ) : Type 0 where
  first : GoodFor l a → (GoodFor l b → length a ≤ length b) → Case l a b
  second : GoodFor l b → (GoodFor l a → length b < length a) → Case l a b
  neither : ¬ GoodFor l a → ¬ GoodFor l b → Case l a b

case : (l a b : List ℕ) → Case l a b
case l a b = go (good_for_dec l a) (good_for_dec l b) (dec_le (length a) (length b))
  where
    go : GoodFor l a ⊎ (¬ GoodFor l a) → GoodFor l b ⊎ (¬ GoodFor l b) → Dec (length a ≤ length b) → Case l a b
    go (inl g) (inl h) (yes d) = first g (λ _. d)
    go (inl g) (inl h) (no d) = second h (λ _. lt_of_not-le d)
    go (inl g) (inr h) d = first g (λ k. absurd (h k))
    go (inr g) (inl h) d = second h (λ k. absurd (g k))
    go (inr g) (inr h) d = neither g h

pub choice_unique : {l a b : List ℕ} {c d : ℕ} → ChoiceOf l a b c → ChoiceOf l a b d → c ≡ d
choice_unique {l} {a} {b} {c} {d} u v = go (case l a b)
  where
    go : Case l a b → c ≡ d
    go (first g h) = u.first g h ∙ sym (v.first g h)
    go (second g h) = u.second g h ∙ sym (v.second g h)
    go (neither g h) = u.neither g h ∙ sym (v.neither g h)

-- the choice that a number stands for
abbrev numbered : ℕ → Option Which
numbered zero = None
numbered (suc zero) = Some First
numbered (suc (suc n)) = Some Second

undone : (w : Option Which) → numbered (choice_number w) ≡ w
undone None = refl
undone (Some First) = refl
undone (Some Second) = refl

-- and so a choice is told by its number
pub which_unique : {l a b : List ℕ} {w v : Option Which} → ChoiceOf l a b (choice_number w) → ChoiceOf l a b (choice_number v) → w ≡ v
which_unique {w = w} {v = v} u t = sym (undone w) ∙ ap numbered (choice_unique u t) ∙ undone v

module _ {l : List ℕ} {a b : Bor (List ℕ)} where
  -- one content, at one place in memory
  pub better_unique : {r s : Bor (List ℕ)} → BetterOf l a b r → BetterOf l a b s → (r.now ≡ s.now) × (r.ref_ptr ≡ s.ref_ptr)
  better_unique {r} {s} u v = go (case l a.now b.now)
    where
      same : r ≡ s → (r.now ≡ s.now) × (r.ref_ptr ≡ s.ref_ptr)
      same e = (ap (λ (x : Bor (List ℕ)). x.now) e, ap (λ (x : Bor (List ℕ)). x.ref_ptr) e)

      go : Case l a.now b.now → (r.now ≡ s.now) × (r.ref_ptr ≡ s.ref_ptr)
      go (first g h) = same (u.first g h ∙ sym (v.first g h))
      go (second g h) = same (u.second g h ∙ sym (v.second g h))
      go (neither g h) = let x = u.neither g h in let y = v.neither g h in (x.0 ∙ sym y.0, x.1 ∙ sym y.1)

  -- it is good whenever one of the two is
  pub better_good : {r : Bor (List ℕ)} → BetterOf l a b r → GoodFor l a.now ⊎ GoodFor l b.now → GoodFor l r.now
  better_good {r} u w = go (case l a.now b.now)
    where
      go : Case l a.now b.now → GoodFor l r.now
      go (first g h) = subst (λ (x : Bor (List ℕ)). GoodFor l x.now) (sym (u.first g h)) g
      go (second g h) = subst (λ (x : Bor (List ℕ)). GoodFor l x.now) (sym (u.second g h)) g
      go (neither g h) = absurd (⊎_elim g h w)
