-- What an answer tells by itself: a plan and 'no plan' are given for accepted sheets only, since the answer for a refused sheet is its refusal. So what
-- `Means` shows of them holds with no premise on the sheet.
use mathlib.Core.Path.{◌≡◌, refl, sym, ap, ◌∙◌}
use mathlib.Core.List.{List}
use Prim.Native.Nat.{ℕ}
use lib.ListN.{take}
use Rattle.std.specs.Prelude.{Err, Ok}
use Rattle.meaning.specs.Runs.{Good}
use Rattle.meaning.proofs.Meanings.{FirstGood}
use Rattle.sets.specs.Words.{set_of}
use Rattle.sheet.specs.Sheet.{domain_in}
use Rattle.sheet.specs.Answers.{reading, Reading}
use Rattle.sheet.specs.declared.Head.{Head}
use Rattle.store.specs.declared.Node.{Node}
use Rattle.sheet.specs.declared.Refusal.{Refusal}
use Rattle.search.specs.Done.{SheetSearched}
use Rattle.search.specs.declared.Verdict.TheVariants.{Plan, NoPlan, Refused}
use Rattle.search.specs.declared.Answer.{Answer}
use Rattle.search.proofs.Unique.{plan_not_refused, none_not_refused}
use Rattle.search.proofs.Means.{found_is_first, no_plan_is_good}

-- the sheet is accepted, with that head
pub record AcceptedAs (l : List ℕ) : Type 0 where
  pub head : Head
  pub accepted : reading l ≡ Ok head

module _ (l : List ℕ) {store s : List Node} {plan p : List ℕ} {a : Answer} (u : SheetSearched l store s plan p a) where
  -- a verdict that is no refusal
  no_refusal : ((f : Refusal) → ¬ (Refused f ≡ a.verdict)) → AcceptedAs l
  no_refusal ne = go (reading l) refl
    where
      go : (r : Reading) → reading l ≡ r → AcceptedAs l
      go (Ok h) e = record { head = h; accepted = e }
      go (Err f) e = absurd (ne f (sym (ap (λ (o : Answer). o.verdict) (u.refused e).answer_is)))

  pub plan_tells : a.verdict ≡ Plan → (t : AcceptedAs l) × FirstGood (domain_in l) (set_of t.head.initial) (set_of t.head.goal) (take a.length p)
  plan_tells q = let t = no_refusal (λ n e. plan_not_refused (sym (e ∙ q))) in (t, found_is_first l t.accepted u q)

  pub no_plan_tells : a.verdict ≡ NoPlan → (t : AcceptedAs l) × ((q : List ℕ) → ¬ Good (domain_in l) (set_of t.head.initial) (set_of t.head.goal) q)
  no_plan_tells q = let t = no_refusal (λ n e. none_not_refused (sym (e ∙ q))) in (t, no_plan_is_good l t.accepted u q)
