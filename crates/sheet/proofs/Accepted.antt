-- The reader accepts exactly the bytes that some valid sheet has, and its head is that sheet's.
-- The idea: the sheet is the one that the bytes hold.
use mathlib.Core.Path.{◌≡◌, sym, ap, ◌∙◌}
use mathlib.Core.Logic.{◌↔◌}
use mathlib.Core.List.{List}
use Prim.Native.Nat.{ℕ}
use Rattle.sheet.specs.Sheet.{Sheet, Valid, encode, sheet_in}
use Rattle.sheet.specs.Answers.{head_of, reading, ReadAs}
use Rattle.sheet.specs.declared.Head.{Head}
use Rattle.sheet.specs.Answers.{Reading}
use Rattle.std.specs.Prelude.{Ok}
use Rattle.sheet.proofs.Accepts.{accepts_reading, reading_accepts}
use Rattle.sheet.proofs.RoundTrip.{sheet_of_encode, accepts_encode, encode_in}

-- l is the bytes of a valid sheet with the head h
pub record IsSheet (l : List ℕ) (h : Head) : Type 0 where
  pub sheet : Sheet
  pub is_valid : Valid sheet
  pub bytes : encode sheet ≡ l
  pub head : head_of sheet ≡ h

-- a valid sheet's bytes are accepted
pub encoded_accepted : (s : Sheet) → Valid s → reading (encode s) ≡ Ok (head_of s)
encoded_accepted s v = accepts_reading (encode s) (accepts_encode s v) ∙ ap (λ (t : Sheet). Ok (head_of t)) (sheet_of_encode s v)

-- what the reader answers of lent bytes accepts them exactly where they are a valid sheet's
pub accepted_iff : (l : List ℕ) {r : Reading} → ReadAs l r → (h : Head) → (r ≡ Ok h) ↔ IsSheet l h
accepted_iff l {r} u h = (there, back)
  where
    there : r ≡ Ok h → IsSheet l h
    there e =
        let t = reading_accepts l h (sym u.answer ∙ e) in
        record { sheet = sheet_in l; is_valid = t.accepts.is_valid; bytes = encode_in l (u.bytes.are_bytes e) t.accepts; head = sym t.head }

    back : IsSheet l h → r ≡ Ok h
    back i = u.answer ∙ ap reading (sym i.bytes) ∙ encoded_accepted i.sheet i.is_valid ∙ ap Ok i.head

-- only one valid sheet has given bytes
pub sheet_unique : (s t : Sheet) → Valid s → Valid t → encode s ≡ encode t → s ≡ t
sheet_unique s t v w e = sym (sheet_of_encode s v) ∙ ap sheet_in e ∙ sheet_of_encode t w
