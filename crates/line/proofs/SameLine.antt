-- Two answers with the same line are equal: the line tells all of an answer.
-- The idea: letters and digits go on up to the first blank or line feed, so the word and each field can be told from what follows; and the five words
-- differ in their first letter.
use mathlib.Core.Path.{◌≡◌, refl, sym, ap₂, ◌∙◌}
use mathlib.Core.Bool.{cond}
use mathlib.Core.List.{List, [], ◌∷◌, ◌++◌, append_assoc}
use Prim.Native.Nat.{ℕ, ◌≤◌, ◌<◌}
use native.Mathlib.Omega.{arith}
use lib.Dec.{eqb}
use lib.ListN.{get_or, drop}
use Rattle.decimal.specs.Decimal.{digit, decimal}
use Rattle.decimal.specs.Fields.{blank, spaced}
use Rattle.line.specs.Lines.{line_feed, row, PLAN, NONE, ROOM, LONG, BAD, Answer, plan, none, room, long, bad, word, fields, line_of}
use Rattle.decimal.proofs.DecimalLaws.{Within, nothing, also, decimal_digits, decimal_same}

-- ---- bytes from `low` on, and then one below it

data Stops (low : ℕ) : List ℕ → Type 0 where
  stop : {b : ℕ} {bs : List ℕ} → b < low → Stops low (b ∷ bs)

seam : {low high : ℕ} {a b r q : List ℕ} → Within low high a → Within low high b → Stops low r → Stops low q → a ++ r ≡ b ++ q → (a ≡ b) × (r ≡ q)
seam nothing nothing s t e = (refl, e)
seam nothing (also {b = c} l h w) (stop {b = x} k) t e = let f : x ≡ c = cc in absurd (omega arith)
seam (also {b = c} l h w) nothing s (stop {b = x} k) e = let f : c ≡ x = cc in absurd (omega arith)
seam {r = r} {q = q} (also {b = c} {bs = a} l h w) (also {b = d} {bs = b} m i v) s t e =
    let f : c ≡ d = cc in
    let g : a ++ r ≡ b ++ q = cc in
    let p = seam w v s t g in
    (ap₂ (λ (x : ℕ) (xs : List ℕ). x ∷ xs) f p.0, p.1)

-- ---- fields

fields-stop : (low : ℕ) → blank < low → (ns : List ℕ) → Stops low (spaced ns ++ (line_feed ∷ []))
unfolding spaced
fields-stop low h [] = stop {b = line_feed} (omega arith)
fields-stop low h (n ∷ ns) = stop h

same_fields : (ms ns : List ℕ) → spaced ms ++ (line_feed ∷ []) ≡ spaced ns ++ (line_feed ∷ []) → ms ≡ ns
unfolding spaced
same_fields [] [] e = refl
same_fields [] (n ∷ ns) e = let f : ◌≡◌ {A = ℕ} line_feed blank = cc in absurd (omega arith)
same_fields (m ∷ ms) [] e = let f : ◌≡◌ {A = ℕ} blank line_feed = cc in absurd (omega arith)
same_fields (m ∷ ms) (n ∷ ns) e =
    let f : (decimal m ++ spaced ms) ++ (line_feed ∷ []) ≡ (decimal n ++ spaced ns) ++ (line_feed ∷ []) = cc in
    let g = sym (append_assoc (decimal m) (spaced ms) (line_feed ∷ [])) ∙ f ∙ append_assoc (decimal n) (spaced ns) (line_feed ∷ []) in
    let p = seam (decimal_digits m) (decimal_digits n) (fields-stop (digit 0) (omega arith) ms) (fields-stop (digit 0) (omega arith) ns) g in
    ap₂ (λ (x : ℕ) (xs : List ℕ). x ∷ xs) (decimal_same m n p.0) (same_fields ms ns p.1)

-- ---- words

abbrev Capitals : List ℕ → Type 0
Capitals [] = Unit {0}
Capitals (b ∷ bs) = (65 ≤ b) × (b ≤ 90) × Capitals bs

letters : (w : List ℕ) → Capitals w → Within 65 90 w
letters [] e = nothing
letters (b ∷ bs) e = also e.0 e.1 (letters bs e.2)

word_letters : (a : Answer) → Within 65 90 (word a)
word_letters (plan count length commands) = letters PLAN (omega arith)
word_letters (none count) = letters NONE (omega arith)
word_letters (room count) = letters ROOM (omega arith)
word_letters (long count length) = letters LONG (omega arith)
word_letters (bad refusal place) = letters BAD (omega arith)

-- ---- the answer by its word and fields

told : List ℕ → List ℕ → Answer
told w ns =
    cond (eqb (get_or w 0 0) 80) (plan (get_or ns 0 0) (get_or ns 1 0) (drop 2 ns))
    (cond (eqb (get_or w 0 0) 78) (none (get_or ns 0 0))
    (cond (eqb (get_or w 0 0) 82) (room (get_or ns 0 0))
    (cond (eqb (get_or w 0 0) 76) (long (get_or ns 0 0) (get_or ns 1 0))
    (bad (get_or ns 0 0) (get_or ns 1 0)))))

told_back : (a : Answer) → told (word a) (fields a) ≡ a
unfolding told
told_back (plan count length commands) = refl
told_back (none count) = refl
told_back (room count) = refl
told_back (long count length) = refl
told_back (bad refusal place) = refl

pub same_line : (a b : Answer) → line_of a ≡ line_of b → a ≡ b
unfolding row
same_line a b e =
    let g = sym (append_assoc (word a) (spaced (fields a)) (line_feed ∷ [])) ∙ e ∙ append_assoc (word b) (spaced (fields b)) (line_feed ∷ []) in
    let p = seam (word_letters a) (word_letters b) (fields-stop 65 (omega arith) (fields a)) (fields-stop 65 (omega arith) (fields b)) g in
    sym (told_back a) ∙ ap₂ told p.0 (same_fields (fields a) (fields b) p.1) ∙ told_back b
