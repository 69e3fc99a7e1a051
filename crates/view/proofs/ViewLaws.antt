-- By the counts that a sheet has, a view shows what the sheet itself says.
-- The idea: where the command is there, the sheet's own law says it; where it is missing, both show nothing.
use mathlib.Core.Path.{◌≡◌, refl, sym, ap, ◌∙◌, subst₂, subst₃}
use mathlib.Core.Bool.{Bool, true, false, cond}
use mathlib.Core.List.{List, []}
use Prim.Native.Nat.{ℕ}
use lib.Dec.{ltb}
use denote.Ref.{Bor}
use Rattle.numbers.specs.Bytes.{IsPart}
use Rattle.shown.specs.Following.{following, following_from}
use Rattle.shown.specs.Shown.{shown_at, shown_from}
use Rattle.shown.proofs.Follows.{shown_following, from-following}
use Rattle.view.specs.Views.{states_of, commands_of, viewed, viewed_from}
use Rattle.view.specs.declared.View.{View}

module _ (l : List ℕ) (a s : ℕ) where
  pub viewed-following : viewed l (states_of l) (commands_of l) a s ≡ following l a s
  viewed-following = go (ltb a (commands_of l)) refl
    where
      go : (b : Bool) → ltb a (commands_of l) ≡ b → viewed l (states_of l) (commands_of l) a s ≡ following l a s
      go true e = ap (λ (b : Bool). cond b (shown_at l (states_of l) a s) []) e ∙ shown_following l a s
      go false e = simp e

  pub viewed-from : viewed_from l (states_of l) (commands_of l) a s ≡ following_from l a s
  viewed-from = go (ltb a (commands_of l)) refl
    where
      go : (b : Bool) → ltb a (commands_of l) ≡ b → viewed_from l (states_of l) (commands_of l) a s ≡ following_from l a s
      go true e = ap (λ (b : Bool). cond b (shown_from l (states_of l) a s) 0) e ∙ from-following l a s
      go false e = simp e

-- a view of the bytes l, with their counts
pub record Of (v : View) (x : Bor (List ℕ)) : Type 0 where
  pub sheet : v.sheet ≡ x
  pub states : v.states ≡ states_of x.now
  pub commands : v.commands ≡ commands_of x.now

-- what such a view hands back is the sheet's own part
pub of_following : (v : View) (x z : Bor (List ℕ)) → Of v x → (a s : ℕ)
    → IsPart v.sheet (viewed_from v.sheet.now v.states v.commands a s) (viewed v.sheet.now v.states v.commands a s) z
    → IsPart x (following_from x.now a s) (following x.now a s) z
of_following v x z o a s p =
    let by-counts : IsPart x (viewed_from x.now (states_of x.now) (commands_of x.now) a s) (viewed x.now (states_of x.now) (commands_of x.now) a s) z =
    subst₃ (λ (y : Bor (List ℕ)) (n m : ℕ). IsPart y (viewed_from y.now n m a s) (viewed y.now n m a s) z) o.sheet o.states o.commands p in
    subst₂ (λ (k : ℕ) (l : List ℕ). IsPart x k l z) (viewed-from x.now a s) (viewed-following x.now a s) by-counts

-- two views that `View::of` may give of one sheet are equal
pub make_unique : (v w : View) (x : Bor (List ℕ)) → Of v x → Of w x → v ≡ w
make_unique v w x o p = λ i. record {
  sheet = (o.sheet ∙ sym p.sheet) i;
  states = (o.states ∙ sym p.states) i;
  commands = (o.commands ∙ sym p.commands) i;
}
