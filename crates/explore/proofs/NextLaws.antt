-- What a command gives at a place, as plain facts: the step of `meaning` by the sendable test and the image, and the look-up among the places.
use Rattle.std.proofs.Common.{◌≡◌, refl, sym, ap, ◌∙◌, subst, Bool, true, false, List, ℕ, Some, None}
use mathlib.Core.Option as found
use Rattle.meaning.specs.Domain.{Domain}
use Rattle.meaning.specs.Walk.{sendable, image, step}
use Rattle.meaning.proofs.StepLaws.{step_sends, step_stops}
use Rattle.sets.specs.Words.{Value, set_of, set_for}
use Rattle.sets.proofs.Values.{stands_for, is_value}
use Rattle.store.specs.declared.Node.{Node}
use Rattle.store.specs.Nodes.{node_at, set_at, Found}
use Rattle.explore.specs.Turns.{not_sendable, seen, Fresh, NextAt}

module _ (D : Domain) (l : List Node) (count i a : ℕ) {m : Node} (e : m ≡ node_at l i) {b : Bool} (s : b ≡ sendable (D.follow a) (set_of m.set) D.states) where
  -- the test at the record is the test at the set of its place
  sends : sendable (D.follow a) (set_at l i) D.states ≡ b
  sends = ap (λ (n : Node). sendable (D.follow a) (set_of n.set) D.states) (sym e) ∙ sym s

  -- it is not sendable
  pub next_none : b ≡ false → NextAt D l count i a None
  next_none q = record { old = λ z. not_sendable (step_stops D (set_at l i) a (sends ∙ q)); fresh = λ y z. absurd (cc) }

  -- it gives the set y, which was looked up
  module _ {y : Value} (q : b ≡ true) (v : y ≡ set_for (image (D.follow a) (set_of m.set) D.states)) where
    gives : step D (set_at l i) a ≡ found.some (set_of y)
    gives = step_sends D (set_at l i) a (sends ∙ q) ∙ ap {B = found.Option ℕ} found.some (ap (λ (x : Node). image (D.follow a) (set_of x.set) D.states) (sym e) ∙ sym (stands_for v))

    pub next_seen : {k : ℕ} → Found l count (set_of y) (Some k) → NextAt D l count i a None
    next_seen {k} f = record { old = λ z. let h = f.here k refl in seen gives h.0 h.1; fresh = λ y z. absurd (cc) }

    pub next_new : Found l count (set_of y) None → NextAt D l count i a (Some y)
    next_new f = record {
      old = λ z. absurd (cc);
      fresh = λ x z. let same : y ≡ x = cc in subst (Fresh D l count i a) same (record { value = is_value _ v; gives = gives; nowhere = f.nowhere refl });
    }
