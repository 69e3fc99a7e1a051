-- Big-endian numbers of any width, each way by one definition. A byte is a number below 256.
use Rattle.std.specs.Prelude.{◌≡◌, List, [], ◌∷◌, ◌++◌, ℕ, zero, suc, ◌+◌, ◌*◌, ◌/◌, ◌%◌, ◌^◌, ◌<◌, length, get_or, take, drop}
use Rattle.std.specs.Borrow.{Bor}

-- the number that bytes stand for: the first byte counts most
unfoldable pub number : List ℕ → ℕ
number [] = 0
number (b ∷ bs) = b * 256 ^ length bs + number bs

-- the k bytes of the number n
unfoldable pub bytes_of : ℕ → ℕ → List ℕ
bytes_of zero n = []
bytes_of (suc k) n = n / 256 ^ k % 256 ∷ bytes_of k n

-- the same of some numbers, one after the other
unfoldable pub bytes_of_each : ℕ → List ℕ → List ℕ
bytes_of_each k [] = []
bytes_of_each k (n ∷ ns) = bytes_of k n ++ bytes_of_each k ns

-- the k bytes at an offset, and the number that they stand for
abbrev pub part : ℕ → ℕ → List ℕ → List ℕ
part at k l = take k (drop at l)

abbrev pub number_at : ℕ → ℕ → List ℕ → ℕ
number_at at k l = number (part at k l)

-- what a slice of bytes holds
pub record AreBytes (l : List ℕ) : Type 0 where
  pub each : (i : ℕ) → get_or l i 0 < 256

-- r is a part of the lent bytes s: it lies in them from an offset on, and holds the content
pub record IsPart (s : Bor (List ℕ)) (from : ℕ) (content : List ℕ) (r : Bor (List ℕ)) : Type 0 where
  pub bytes : r.now ≡ content
  pub place : r.ref_ptr ≡ (s.ref_ptr.0, from + s.ref_ptr.1)
