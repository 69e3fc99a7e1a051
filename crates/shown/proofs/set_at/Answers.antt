-- `shown::set_at` meets its contract: a part as wide as a set has its bytes, and a missing set has no bytes.
use mathlib.Core.Path.{sym, ap, ◌∙◌}
use mathlib.Core.List.{List}
use Prim.Native.Nat.{ℕ}
use lib.ListN.{length}
use Rattle.sets.specs.Words.{set_for}
use Rattle.numbers.specs.Bytes.{number}
use Rattle.shown.proofs.Shown.{shown_length}
use Rattle.shown.proofs.set_at.Goals as goal

pub returns-else-set-eq-SET_WIDTH : goal.returns-else-set-eq-SET_WIDTH
unfolding number
returns-else-set-eq-SET_WIDTH c =
    let a = c.args in
    c.empty.ensures ∙ sym (ap (λ (b : List ℕ). set_for (number b)) (shown_length a.sheet.now a.states a.command a.state (λ e. c.if-set-eq-SET_WIDTH.false (ap length c.shown_at-set.ensures.bytes ∙ e))))
