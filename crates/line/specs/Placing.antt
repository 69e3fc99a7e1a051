-- Bytes put at a place of a buffer: the answer, and the whole buffer afterwards.
use Rattle.std.specs.Prelude.{◌≡◌, cond, List, ◌++◌, ℕ, ◌+◌, leb, length, take, drop, Result, Ok, Err}
use Rattle.decimal.specs.Fields.{capped}
use Rattle.line.specs.declared.Short.{Short}

-- the answer by where the bytes end and by the length of the buffer
unfoldable pub answered : ℕ → ℕ → Result ℕ Short
answered end room = cond (leb end room) (Ok end) (Err (record { needed = capped end }))

-- the buffer with the bytes from a place on, all else as it was; as it was where they do not fit
unfoldable pub placed : List ℕ → ℕ → List ℕ → List ℕ
placed bytes at before = cond (leb (at + length bytes) (length before)) (take at before ++ bytes ++ drop (at + length bytes) before) before

-- what putting bytes at a place promises
pub record Placed (bytes : List ℕ) (at : ℕ) (before after : List ℕ) (r : Result ℕ Short) : Type 0 where
  pub answer : r ≡ answered (at + length bytes) (length before)
  pub output : after ≡ placed bytes at before
