-- The line that is printed for a sheet: that of the search's answer, over a store of 4,096 places and a plan buffer of 4,096 bytes.
use Rattle.std.specs.Prelude.{cond, List, ℕ, eqb, take, replicate, Result}
use Rattle.sheet.specs.Refusals.{number_of}
use Rattle.search.specs.declared.Verdict.TheVariants as verdict-is
use Rattle.search.specs.declared.Answer as search-answer
use Rattle.search.specs.Done.{SearchedHere}
use Rattle.line.specs.declared.Line.{Line}
use Rattle.line.specs.declared.Line.TheVariants.{Plan, None, Room, Long, Bad}
use Rattle.line.specs.declared.Short.{Short}
use Rattle.line.specs.Lines.{line_of, answer_of}
use Rattle.line.specs.Placing.{Placed}

-- 13 is printed as ROOM, 14 as LONG, and every other refusal as BAD
abbrev pub refusal_line : ℕ → ℕ → ℕ → ℕ → Line
refusal_line number place count long = cond (eqb number 13) (Room count) (cond (eqb number 14) (Long count long) (Bad number place))

abbrev pub verdict_line : verdict-is.the_data → ℕ → ℕ → Line
verdict_line verdict-is.Plan count long = Plan count long
verdict_line verdict-is.NoPlan count long = None count
verdict_line (verdict-is.Refused f) count long = refusal_line (number_of f.reason) f.place count long

-- the line of an answer
abbrev pub line_for : search-answer.Answer → Line
line_for a = verdict_line a.verdict a.count a.length

abbrev pub places : ℕ
places = 4096

-- what is printed for the sheet: the output before and after, and the answer of printing
pub record Replied (sheet before after : List ℕ) (r : Result ℕ Short) : Type 0 where
  pub plan : List ℕ
  pub answer : search-answer.Answer
  pub searched : SearchedHere places sheet (replicate places 0) plan answer
  pub printed : Placed (line_of (answer_of (line_for answer) (take answer.length plan))) 0 before after r
