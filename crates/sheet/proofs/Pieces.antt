-- The bytes of a sheet are bytes where those of its parts are.
-- The idea: parts that stand one after the other are one part.
use Rattle.std.proofs.Common.{◌≡◌, refl, sym, ◌∙◌, subst, List, ℕ, ◌+◌, ◌*◌, ◌≤◌, ◌<◌, length, get_or, arith}
use Rattle.std.specs.Prelude.{Err}
use lib.Seq.{take_all}
use Rattle.numbers.specs.Bytes.{part, AreBytes}
use Rattle.numbers.proofs.Inverse.{bytes_one, bytes-add}
use Rattle.sheet.specs.Sheet.{sets_at, set_width}
use Rattle.sheet.specs.Answers.{Reading, BytesIf}
use Rattle.sheet.specs.declared.Refusal.{Refusal}
use Rattle.sheet.proofs.Readings.{not_both}

-- a refusal says nothing of them
pub refused-bytes : {r : Reading} {q : Refusal} {l : List ℕ} → r ≡ Err q → BytesIf r l
refused-bytes e = record { are_bytes = λ f. absurd (not_both (sym f ∙ e)) }

-- the parts that follow the stated length, with k following sets
pub bytes-stated : (l : List ℕ) (k : ℕ) {n : ℕ} → n ≡ 18 + set_width * k → 23 ≤ length l → get_or l 5 0 < 256 → get_or l 6 0 < 256 → AreBytes (part 7 set_width l) → AreBytes (part 15 set_width l) → AreBytes (part sets_at (set_width * k) l)
    → AreBytes (part 5 n l)
bytes-stated l k {n} e h a b c d f =
    bytes-add 5 1 (17 + set_width * k) n l (omega (arith, e)) (bytes_one 5 l (omega arith) a)
    (bytes-add 6 1 (16 + set_width * k) (17 + set_width * k) l (omega arith) (bytes_one 6 l (omega arith) b)
    (bytes-add 7 set_width (8 + set_width * k) (16 + set_width * k) l (omega arith) c
    (bytes-add 15 set_width (set_width * k) (8 + set_width * k) l (omega arith) d f)))

-- the version, the stated length, and all that it counts
pub bytes_all : (l : List ℕ) (n : ℕ) → length l ≡ 5 + n → get_or l 0 0 ≡ 1 → AreBytes (part 1 4 l) → AreBytes (part 5 n l) → AreBytes l
bytes_all l n e v a b = subst AreBytes (take_all (5 + n) l (omega (arith, e)))
    (bytes-add 0 1 (4 + n) (5 + n) l (omega arith) (bytes_one 0 l (omega (arith, e)) (omega (arith, v))) (bytes-add 1 4 n (4 + n) l refl a b))
