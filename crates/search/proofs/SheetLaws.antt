-- From a reading to the search of a sheet: an accepted sheet gives a domain and a start that the engine takes, and its answer is the sheet's.
use mathlib.Core.Path.{◌≡◌, refl, sym, ◌∙◌, subst}
use mathlib.Core.List.{List}
use Prim.Native.Nat.{ℕ}
use lib.ListN.{replicate}
use Rattle.std.specs.Prelude.{Err, Ok}
use Rattle.meaning.specs.Domain.{Domain}
use Rattle.sets.specs.Words.{set_of}
use Rattle.sheet.specs.Sheet.{domain, domain_in}
use Rattle.sheet.specs.Answers.{reading}
use Rattle.sheet.specs.declared.Head.{Head}
use Rattle.sheet.specs.declared.Refusal.{Refusal}
use Rattle.sheet.proofs.Readings.{accepted_inj, refused_inj, not_both}
use Rattle.sheet.proofs.Accepts.{reading_accepts}
use Rattle.sheet.proofs.DomainLaws.{domain_well_formed, initial-start}
use Rattle.follow.specs.Following.{domain_by}
use Rattle.follow.proofs.DomainLaws.{domain_is}
use Rattle.store.specs.declared.Node.{Node}
use Rattle.store.specs.Nodes.{nothing}
use Rattle.explore.specs.Ready.{Ready}
use Rattle.search.specs.declared.Verdict.TheVariants.{Refused}
use Rattle.search.specs.Done.{answer, SearchDone, SheetRefused, SheetSearched, SearchedHere}
use Rattle.search.specs.declared.Answer.{Answer}

-- ---- an accepted sheet

pub sheet-ready : (l : List ℕ) {h : Head} → reading l ≡ Ok h → Ready (domain_in l) (set_of h.initial)
unfolding domain
sheet-ready l {h} e = record { well_formed = domain_well_formed l h e; start = initial-start l h e; few = (reading_accepts l h e).accepts.is_valid.commands_fit }

module _ (l : List ℕ) {h : Head} (taken : reading l ≡ Ok h) where
  -- the engine may be called
  pub engine_ready : Ready (domain_by h l) (set_of h.initial)
  engine_ready = subst (λ (D : Domain). Ready D (set_of h.initial)) (sym (domain_is l h taken)) (sheet-ready l taken)

  -- and its answer is the sheet's
  pub engine_done : {store store' : List Node} {plan plan' : List ℕ} {a : Answer} → SearchDone (domain_by h l) (set_of h.initial) (set_of h.goal) store store' plan plan' a → SheetSearched l store store' plan plan' a
  engine_done {store} {store'} {plan} {plan'} {a} d = record {
    refused = λ f. absurd (not_both (sym taken ∙ f));
    accepted = λ f. subst (λ (k : Head). SearchDone (domain_in l) (set_of k.initial) (set_of k.goal) store store' plan plan' a) (accepted_inj (sym taken ∙ f))
        (subst (λ (D : Domain). SearchDone D (set_of h.initial) (set_of h.goal) store store' plan plan' a) (domain_is l h taken) d);
  }

-- ---- a refused sheet

pub sheet-refused : (l : List ℕ) {f : Refusal} {store : List Node} {plan : List ℕ} {a : Answer} → reading l ≡ Err f → a ≡ answer (Refused f) 0 0 → SheetSearched l store store plan plan a
sheet-refused l {f} {store} {plan} {a} e p = record {
  refused = λ k. subst (λ (j : Refusal). SheetRefused j store store plan plan a) (refused_inj (sym e ∙ k)) (record { answer_is = p; store_is = refl; plan_is = refl });
  accepted = λ k. absurd (not_both (sym k ∙ e));
}

-- a store that is made here, of places that hold nothing
pub searched-here : (places : ℕ) {bytes plan plan' : List ℕ} {n : Node} {s : List Node} {a : Answer} → n ≡ nothing → SheetSearched bytes (replicate places n) s plan plan' a → SearchedHere places bytes plan plan' a
searched-here places {bytes} {plan} {plan'} {n} {s} {a} e u = record { store' = s; searched = subst (λ (m : Node). SheetSearched bytes (replicate places m) s plan plan' a) e u }
