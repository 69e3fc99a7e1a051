-- A line of a word, fields and commands as its four parts, counted and stored.
-- The idea: the fields and the commands are one list of fields, and runs of stores that follow one another are one run.
use mathlib.Core.Path.{◌≡◌, sym, ap, ◌∙◌}
use mathlib.Core.List.{List, [], ◌∷◌, ◌++◌, append_assoc}
use Prim.Native.Nat.{ℕ, suc, ◌+◌, ◌*◌, ◌^◌, ◌≤◌, ◌<◌}
use native.Mathlib.Omega.{arith}
use lib.ListN.{length, get_or, length-append}
use lib.Seq.{sets}
use Rattle.decimal.specs.Fields.{spaced}
use Rattle.line.specs.Lines.{line_feed, row}
use Rattle.decimal.proofs.Stores.{sets-on}
use Rattle.decimal.proofs.FieldLaws.{spaced-append, length-spaced}

module _ (word fields commands : List ℕ) where
  row_parts : row word (fields ++ commands) ≡ ((word ++ spaced fields) ++ spaced commands) ++ (line_feed ∷ [])
  unfolding row
  row_parts = simp (spaced-append, append_assoc)

  pub length-row : length (row word (fields ++ commands)) ≡ length word + length (spaced fields) + length (spaced commands) + 1
  length-row = ap length row_parts ∙ simp length-append

  -- the word stands up to i, the fields up to j, the commands up to k, and then the line feed
  pub row-stored : (l : List ℕ) (at : ℕ) {a b d o : List ℕ} {i j k : ℕ}
      → a ≡ sets l at word → i ≡ at + length word
      → b ≡ sets a i (spaced fields) → j ≡ i + length (spaced fields)
      → d ≡ sets b j (spaced commands) → k ≡ j + length (spaced commands)
      → o ≡ sets d k (line_feed ∷ [])
      → o ≡ sets l at (row word (fields ++ commands))
  row-stored l at ea ei eb ej ed ek eo =
      eo
      ∙ sets-on l at ((word ++ spaced fields) ++ spaced commands) (line_feed ∷ [])
      (ed ∙ sets-on l at (word ++ spaced fields) (spaced commands) (eb ∙ sets-on l at word (spaced fields) ea ei) (omega (arith, ei, ej, length-append word (spaced fields))))
      (omega (arith, ei, ej, ek, length-append (word ++ spaced fields) (spaced commands), length-append word (spaced fields)))
      ∙ ap (λ (r : List ℕ). sets l at r) (sym row_parts)

-- how long a line is, for the functions that count it
pub ruleset row_lengths = length-row

-- fields of at most j + 1 digits and commands of at most k + 1
pub length-by_digits : (j k : ℕ) (word fields commands : List ℕ) → ((i : ℕ) → get_or fields i 0 < 10 ^ suc j) → ((i : ℕ) → get_or commands i 0 < 10 ^ suc k)
    → length (row word (fields ++ commands)) ≤ length word + (j + 2) * length fields + (k + 2) * length commands + 1
length-by_digits j k word fields commands f c = omega (arith, length-row word fields commands, length-spaced j fields f, length-spaced k commands c)
