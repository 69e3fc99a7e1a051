-- What an exploration asks of the domain and the start set: an accepted sheet's domain and initial set are so.
use Rattle.std.specs.Prelude.{ℕ, ◌≤◌}
use Rattle.meaning.specs.Domain.{Domain, WellFormed, Start}

pub record Ready (D : Domain) (x : ℕ) : Type 0 where
  pub well_formed : WellFormed D
  pub start : Start D x
  pub few : D.commands ≤ 32
