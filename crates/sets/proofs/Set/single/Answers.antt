-- `Set::single` meets its contract: below 64 the shifted bit, and from there on there is no such state.
use mathlib.Core.Path.{refl, sym, ap, ◌∙◌}
use mathlib.Core.Bool.{Bool, cond}
use mathlib.Core.List.{[]}
use Prim.Native.Nat.{◌^◌}
use borrow.Author.Rules.{rules}
use borrow.Author.Tests.{lt-ltb, le-ltb}
use Rattle.sets.specs.Words.{most, set_for}
use Rattle.sets.proofs.Masks.{one_shl}
use Rattle.sets.proofs.ByWord.{lone_word}
use Rattle.sets.proofs.Set.single.Goals as goal

pub returns-then-s-lt-MOST : goal.returns-then-s-lt-MOST
unfolding set_for
returns-then-s-lt-MOST c =
    let s = c.args.s in
    ap set_for (one_shl 64 s (search rules) ∙ sym (lone_word 64 (2 ^ s) [] refl) ∙ sym (ap (λ (b : Bool). cond b (2 ^ s) 0) (lt-ltb s most (search rules))))

pub returns-else-s-lt-MOST : goal.returns-else-s-lt-MOST
unfolding set_for
returns-else-s-lt-MOST c = let s = c.args.s in ap set_for (sym (ap (λ (b : Bool). cond b (2 ^ s) 0) (le-ltb s most (search rules))))
