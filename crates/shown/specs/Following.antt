-- The following sets that a sheet shows, as parts of its bytes.
use Rattle.std.specs.Prelude.{cond, ◌&&◌, List, [], ℕ, ◌+◌, ◌*◌, ltb}
use Rattle.numbers.specs.Bytes.{part}
use Rattle.sheet.specs.Sheet.{set_width, set_offset}
use Rattle.sheet.specs.Answers.{reading, shown_head}

-- the bytes of the following set of command a and state s: none where either is missing
abbrev pub following : List ℕ → ℕ → ℕ → List ℕ
following l a s = let h = shown_head (reading l) in cond (ltb a h.commands && ltb s h.states) (part (set_offset (a * h.states + s)) set_width l) []

-- where they begin: at the start of the sheet where there are none
abbrev pub following_from : List ℕ → ℕ → ℕ → ℕ
following_from l a s = let h = shown_head (reading l) in cond (ltb a h.commands && ltb s h.states) (set_offset (a * h.states + s)) 0
