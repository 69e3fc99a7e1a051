-- From a judgement by the head that the reader gave to the judge's promise: the reading is one of the two, and the domain by the head is the sheet's.
use mathlib.Core.Path.{◌≡◌, sym, ◌∙◌, subst}
use mathlib.Core.List.{List}
use Prim.Native.Nat.{ℕ}
use Rattle.std.specs.Prelude.{Err, Ok}
use Rattle.meaning.specs.Sets.{empty}
use Rattle.meaning.specs.Domain.{Domain}
use Rattle.meaning.specs.Answers.{Judges}
use Rattle.sets.specs.Words.{Value, set_of, set_for}
use Rattle.sets.proofs.Values.{own_value}
use Rattle.sheet.specs.Sheet.{domain_in}
use Rattle.sheet.specs.Answers.{reading}
use Rattle.sheet.specs.declared.Head.{Head}
use Rattle.sheet.specs.declared.Refusal.{Refusal}
use Rattle.sheet.proofs.Readings.{accepted_inj, refused_inj, not_both}
use Rattle.follow.specs.Following.{domain_by}
use Rattle.follow.proofs.DomainLaws.{domain_is}
use Rattle.judge.specs.declared.Judged.{Judged}
use Rattle.judge.specs.Verdicts.{values_of, JudgedBy}

module _ (l p : List ℕ) where
  -- a refused sheet's answer, however its set was made
  pub by_refusal : {f : Refusal} {x : Value} → reading l ≡ Err f → x ≡ set_for empty → JudgedBy l p (record { verdict = Err f; set = x; left = 0 })
  by_refusal {f} {x} e q = record {
    value = own_value x;
    refused = λ {f = g} d. let same : f ≡ g = refused_inj (sym e ∙ d) in λ i. record { verdict = Err (same i); set = q i; left = 0 };
    accepted = λ {h} d. absurd (not_both (sym d ∙ e));
  }

  pub by-head : (j : Judged) {h : Head} → reading l ≡ Ok h → Judges (domain_by h l) (set_of h.initial) (set_of h.goal) p (values_of j) → JudgedBy l p j
  by-head j {h} e u = record {
    value = own_value j.set;
    refused = λ {f} d. absurd (not_both (sym e ∙ d));
    accepted = λ {h = k} d. subst (λ (g : Head). Judges (domain_in l) (set_of g.initial) (set_of g.goal) p (values_of j)) (accepted_inj (sym e ∙ d))
        (subst (λ (D : Domain). Judges D (set_of h.initial) (set_of h.goal) p (values_of j)) (domain_is l h e) u);
  }
