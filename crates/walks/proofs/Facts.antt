-- The names of plain facts that a walk uses, passed on from where they stand: equations, lists, numbers, and what a test tells.
pub use mathlib.Core.Path.{refl, ◌≡◌, ap, sym, ◌∙◌, subst}
pub use mathlib.Core.Logic.{◌⊎◌, inl, inr, ◌≢◌}
pub use mathlib.Core.Bool.{false}
pub use mathlib.Core.List.{[], ◌∷◌, List}
pub use Prim.Native.Nat.{ℕ, ◌<◌, ◌≤◌, ◌+◌, ◌-◌}
pub use native.Mathlib.Nat.{eq-or-lt_of_le}
pub use native.Mathlib.Omega.{arith}
pub use lib.Dec.{lit<}
pub use lib.ListN.{length, length-set}
pub use borrow.Author.Tests.{ltb-true, ltb-false, eqb-true, eqb-false, not-true, not-false, leb-true, leb-false}
pub use lib.Seq.{length-take-le}
