-- A planning domain (document 001, Definition 1), with its states and commands numbered from 0. The initial set and the goal are no part of
-- it: they are arguments of whatever speaks of them.
use Rattle.std.specs.Prelude.{◌≡◌, ◌≢◌, ℕ, ◌^◌, ◌≤◌, ◌<◌}
use Rattle.meaning.specs.Sets.{empty}

-- `follow a s` is the set of the states that may follow state s by command a. It is empty where a cannot be taken in s.
pub record Domain : Type 0 where
  pub states : ℕ
  pub commands : ℕ
  pub follow : ℕ → ℕ → ℕ

-- x names no missing state
abbrev pub Within : Domain → ℕ → Type 0
Within D x = x < 2 ^ D.states

-- no following set names a missing state, and a missing command can be taken nowhere
pub record WellFormed (D : Domain) : Type 0 where
  pub rows : (a s : ℕ) → s < D.states → Within D (D.follow a s)
  pub no_other : (a s : ℕ) → D.commands ≤ a → D.follow a s ≡ empty

-- a set to start from: it names no missing state and is not empty
pub record Start (D : Domain) (x : ℕ) : Type 0 where
  pub within : Within D x
  pub some_state : x ≢ empty
