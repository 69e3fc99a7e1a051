-- `shown::following_span` meets its contract: by the count of states that the sheet has, which is read once.
use mathlib.Core.Path.{ap, ◌∙◌}
use mathlib.Core.List.{List}
use Prim.Native.Nat.{ℕ}
use lib.ListN.{length}
use Rattle.shown.specs.Shown.{shown_at, shown_from}
use Rattle.shown.proofs.Follows.{shown_following, from-following}
use Rattle.shown.proofs.following_span.Goals as goal

pub returns-clause-from_value : goal.returns-clause-from_value
returns-clause-from_value c =
    let a = c.args in
    let l : List ℕ = a.sheet.now in
    c.shown_from.ensures ∙ ap (λ (n : ℕ). shown_from l n a.command a.state) c.states-states.ensures ∙ from-following l a.command a.state

pub returns-clause-length_value : goal.returns-clause-length_value
returns-clause-length_value c =
    let a = c.args in
    let l : List ℕ = a.sheet.now in
    ap length (c.shown_at-set.ensures.bytes ∙ ap (λ (n : ℕ). shown_at l n a.command a.state) c.states-states.ensures ∙ shown_following l a.command a.state)
