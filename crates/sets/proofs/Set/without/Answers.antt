-- `Set::without` meets its contract: a state that the set has is taken out of its word, and any other leaves the set as it is.
use mathlib.Core.Path.{◌≡◌, sym, ap, ◌∙◌, subst}
use mathlib.Core.Logic.{⊎_elim}
use mathlib.Core.List.{[]}
use Prim.Native.Nat.{ℕ, ◌-◌, ◌*◌, ◌%◌, ◌^◌, ◌≤◌, ◌<◌}
use borrow.Author.Rules.{rules}
use Rattle.meaning.specs.Sets.{◌∈◌}
use Rattle.meaning.proofs.SetLaws.{∈_lt, ∈_cases}
use Rattle.meaning.proofs.SizeLaws.{member_ge, without_in, without_not}
use Rattle.sets.specs.Words.{Value, set_of, set_for}
use Rattle.sets.proofs.Masks.{one_shl}
use Rattle.sets.proofs.ByWord.{without-here}
use Rattle.sets.proofs.Set.without.Goals as goal

-- the word of a set has the states that the set has, and each is one of its 64
present : (x : Value) (s : ℕ) → s ∈ set_of x → s ∈ x.word
unfolding set_of
present x s m = m

shifted : (x s : ℕ) → x < 2 ^ 64 → s ∈ x → (1 * 2 ^ s) % 2 ^ 64 ≡ 2 ^ s
shifted x s h m = one_shl 64 s (∈_lt 64 h m)

pub overflow_shl-result : goal.overflow_shl-result
overflow_shl-result c = ∈_lt 64 (search rules) (present c.args.self c.args.s (c.has.ensures.if_true c.if-not-has.false))

pub overflow_sub-result : goal.overflow_sub-result
overflow_sub-result c =
    let m = present c.args.self c.args.s (c.has.ensures.if_true c.if-not-has.false) in
    subst (λ (p : ℕ). p ≤ c.args.self.word) (sym (shifted c.args.self.word c.args.s (search rules) m)) (member_ge m)

pub returns-then-not-has : goal.returns-then-not-has
unfolding set_of set_for
returns-then-not-has c =
    let a = c.args in
    ap set_for (sym (without_not a.s a.self.word (⊎_elim (λ e. e) (λ m. absurd (c.has.ensures.if_false c.if-not-has.true m)) (∈_cases a.s a.self.word))))

pub returns : goal.returns
unfolding set_of set_for
returns c =
    let a = c.args in
    let m = present a.self a.s (c.has.ensures.if_true c.if-not-has.false) in
    ap set_for (ap (λ (p : ℕ). a.self.word - p) (shifted a.self.word a.s (search rules) m) ∙ sym (without_in m) ∙ without-here 64 a.self.word [] (search rules) a.s (∈_lt 64 (search rules) m))
