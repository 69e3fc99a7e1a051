-- What a view shows, by the sheet's bytes and the two counts that the view holds.
use Rattle.std.specs.Prelude.{cond, List, [], ℕ, ltb}
use Rattle.sheet.specs.Answers.{shown_head, reading}
use Rattle.shown.specs.Shown.{shown_at, shown_from}

-- the counts of a sheet, 0 where it is refused
abbrev pub states_of : List ℕ → ℕ
states_of l = (shown_head (reading l)).states

abbrev pub commands_of : List ℕ → ℕ
commands_of l = (shown_head (reading l)).commands

-- the bytes of the following set of command a and state s, and none where either is missing
abbrev pub viewed : List ℕ → ℕ → ℕ → ℕ → ℕ → List ℕ
viewed l states commands a s = cond (ltb a commands) (shown_at l states a s) []

-- where they begin: at the start of the sheet where there are none
abbrev pub viewed_from : List ℕ → ℕ → ℕ → ℕ → ℕ → ℕ
viewed_from l states commands a s = cond (ltb a commands) (shown_from l states a s) 0
