-- A sheet as a record, what makes one valid, its bytes, and the planning domain that it describes.
use Rattle.std.specs.Prelude.{◌≡◌, ◌≢◌, cond, ◌&&◌, List, [], ◌∷◌, ◌++◌, map, ℕ, zero, suc, ◌+◌, ◌*◌, ◌^◌, ◌≤◌, ◌<◌, ltb, length, get_or}
use Rattle.meaning.specs.Domain.{Domain}
use Rattle.numbers.specs.Bytes.{bytes_of, bytes_of_each, number_at}

-- `sets` are the following sets: all states of command 0, then of command 1, and so on
pub record Sheet : Type 0 where
  pub states : ℕ
  pub commands : ℕ
  pub initial : ℕ
  pub goal : ℕ
  pub sets : List ℕ

abbrev pub sheet_with : ℕ → ℕ → ℕ → ℕ → List ℕ → Sheet
sheet_with states commands initial goal sets = record { states = states; commands = commands; initial = initial; goal = goal; sets = sets }

pub record Valid (s : Sheet) : Type 0 where
  pub some_state : 1 ≤ s.states
  pub states_fit : s.states ≤ 64
  pub some_command : 1 ≤ s.commands
  pub commands_fit : s.commands ≤ 32
  pub complete : length s.sets ≡ s.commands * s.states
  pub initial_some : s.initial ≢ 0
  pub initial_within : s.initial < 2 ^ s.states
  pub goal-within : s.goal < 2 ^ s.states
  pub sets-within : (i : ℕ) → get_or s.sets i 0 < 2 ^ s.states

-- ---- the layout, version 1: offsets and widths are those of the scope's table

-- the bytes of a set, and where the following set at place i stands
abbrev pub set_width : ℕ
set_width = 8

abbrev pub sets_at : ℕ
sets_at = 23

abbrev pub set_offset : ℕ → ℕ
set_offset i = sets_at + set_width * i

-- the stated length, and the length of the whole sheet
abbrev pub stated_for : ℕ → ℕ → ℕ
stated_for states commands = 18 + set_width * (commands * states)

abbrev pub length_for : ℕ → ℕ → ℕ
length_for states commands = sets_at + set_width * (commands * states)

-- the bytes before the following sets, and those of the whole sheet
abbrev pub head_bytes : ℕ → ℕ → ℕ → ℕ → List ℕ
head_bytes states commands initial goal = bytes_of 1 1 ++ bytes_of 4 (stated_for states commands) ++ bytes_of 1 states ++ bytes_of 1 commands ++ bytes_of set_width initial ++ bytes_of set_width goal

abbrev pub encode : Sheet → List ℕ
encode s = head_bytes s.states s.commands s.initial s.goal ++ bytes_of_each set_width s.sets

-- ---- the sheet that bytes hold, and its domain

-- k numbers from i on
abbrev pub from : ℕ → ℕ → List ℕ
from i zero = []
from i (suc k) = i ∷ from (suc i) k

abbrev pub set_in : List ℕ → ℕ → ℕ
set_in l i = number_at (set_offset i) set_width l

abbrev pub states_in : List ℕ → ℕ
states_in l = number_at 5 1 l

abbrev pub commands_in : List ℕ → ℕ
commands_in l = number_at 6 1 l

unfoldable pub sheet_in : List ℕ → Sheet
sheet_in l = record {
  states = states_in l;
  commands = commands_in l;
  initial = number_at 7 set_width l;
  goal = number_at 15 set_width l;
  sets = map (set_in l) (from 0 (commands_in l * states_in l));
}

unfoldable pub domain : Sheet → Domain
domain s = record {
  states = s.states;
  commands = s.commands;
  follow = λ a t. cond (ltb a s.commands && ltb t s.states) (get_or s.sets (a * s.states + t) 0) 0;
}

abbrev pub domain_in : List ℕ → Domain
domain_in l = domain (sheet_in l)
