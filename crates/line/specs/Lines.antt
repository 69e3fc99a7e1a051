-- The lines of the printing program: a word, then fields, each with one blank before it, then a line feed.
use Rattle.std.specs.Prelude.{List, [], ◌∷◌, ◌++◌, ℕ}
use Rattle.decimal.specs.Fields.{spaced}
use Rattle.line.specs.declared.Line.{Line}
use Rattle.line.specs.declared.Line.TheVariants.{Plan, None, Room, Long, Bad}

abbrev pub line_feed : ℕ
line_feed = 10

-- a line of a word and some fields
unfoldable pub row : List ℕ → List ℕ → List ℕ
row word fields = word ++ spaced fields ++ (line_feed ∷ [])

-- the five words
abbrev pub PLAN : List ℕ
PLAN = 80 ∷ 76 ∷ 65 ∷ 78 ∷ []

abbrev pub NONE : List ℕ
NONE = 78 ∷ 79 ∷ 78 ∷ 69 ∷ []

abbrev pub ROOM : List ℕ
ROOM = 82 ∷ 79 ∷ 79 ∷ 77 ∷ []

abbrev pub LONG : List ℕ
LONG = 76 ∷ 79 ∷ 78 ∷ 71 ∷ []

abbrev pub BAD : List ℕ
BAD = 66 ∷ 65 ∷ 68 ∷ []

-- what is printed: a plan has its count, its length and its commands; no plan and no room a count; too long a plan its count and its length; a refusal its number and its place
pub data Answer : Type 0 where
  plan : ℕ → ℕ → List ℕ → Answer
  none : ℕ → Answer
  room : ℕ → Answer
  long : ℕ → ℕ → Answer
  bad : ℕ → ℕ → Answer

-- an answer of the code, with the commands that are printed where it is a plan
abbrev pub answer_of : Line → List ℕ → Answer
answer_of (Plan count length) commands = plan count length commands
answer_of (None count) commands = none count
answer_of (Room count) commands = room count
answer_of (Long count length) commands = long count length
answer_of (Bad refusal place) commands = bad refusal place

abbrev pub word : Answer → List ℕ
word (plan count length commands) = PLAN
word (none count) = NONE
word (room count) = ROOM
word (long count length) = LONG
word (bad refusal place) = BAD

abbrev pub fields : Answer → List ℕ
fields (plan count length commands) = count ∷ length ∷ commands
fields (none count) = count ∷ 0 ∷ []
fields (room count) = count ∷ 0 ∷ []
fields (long count length) = count ∷ length ∷ []
fields (bad refusal place) = refusal ∷ place ∷ []

-- the bytes of an answer's line
abbrev pub line_of : Answer → List ℕ
line_of a = row (word a) (fields a)
