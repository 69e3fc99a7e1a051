-- `shown::following` meets its contract: by the count of states that the sheet has.
use mathlib.Core.Path.{ap, ◌∙◌}
use Prim.Native.Nat.{ℕ, ◌+◌}
use Rattle.shown.specs.Shown.{shown_at, shown_from}
use Rattle.shown.proofs.Follows.{shown_following, from-following}
use Rattle.shown.proofs.following.Goals as goal

pub returns : goal.returns
returns c =
    let a = c.args in
    let q = c.states.ensures in
    record {
      bytes = c.shown_at.ensures.bytes ∙ ap (λ (n : ℕ). shown_at a.sheet.now n a.command a.state) q ∙ shown_following a.sheet.now a.command a.state;
      place = c.shown_at.ensures.place
          ∙ ap (λ (k : ℕ). (a.sheet.ref_ptr.0, k + a.sheet.ref_ptr.1))
          (ap (λ (n : ℕ). shown_from a.sheet.now n a.command a.state) q ∙ from-following a.sheet.now a.command a.state);
    }
