-- The domain by a head and bytes is the sheet's own domain where the head is what the reader gave: the two agree at every command and state.
use mathlib.Core.Path.{◌≡◌, sym, ap, subst, fun_ext}
use mathlib.Core.Option.{some}
use mathlib.Core.List.{List}
use Prim.Native.Nat.{ℕ}
use Rattle.std.specs.Prelude.{Ok}
use Rattle.meaning.specs.Domain.{WellFormed, Start}
use Rattle.meaning.specs.Walk.{step}
use Rattle.meaning.proofs.StepLaws.{step_some, image_some}
use Rattle.sheet.specs.Sheet.{domain, domain_in}
use Rattle.sheet.specs.Answers.{reading}
use Rattle.sheet.specs.declared.Head.{Head}
use Rattle.sheet.proofs.Accepts.{reading_accepts}
use Rattle.shown.proofs.Follows.{set_is_follow}
use Rattle.sheet.proofs.DomainLaws.{domain_well_formed}
use Rattle.follow.specs.Following.{domain_by}

pub domain_is : (l : List ℕ) (h : Head) → reading l ≡ Ok h → domain_by h l ≡ domain_in l
unfolding domain
domain_is l h e =
    let t = reading_accepts l h e in
    λ i. record {
      states = ap (λ (g : Head). g.states) t.head i;
      commands = ap (λ (g : Head). g.commands) t.head i;
      follow = fun_ext (λ a. fun_ext (λ s. set_is_follow l h e a s)) i;
    }

-- so there the image of a sendable command from a set that is not empty is not empty
pub image_not_empty : (l : List ℕ) (h : Head) → reading l ≡ Ok h → (a : ℕ) {x y : ℕ} → Start (domain_by h l) x → step (domain_by h l) x a ≡ some y → Start (domain_by h l) y
image_not_empty l h e a st q =
    let ok : WellFormed (domain_by h l) = subst WellFormed (sym (domain_is l h e)) (domain_well_formed l h e) in
    image_some (domain_by h l) ok st (step_some (domain_by h l) ok st.within q)
