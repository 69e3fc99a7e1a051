-- A number in decimal, as the bytes of its digits, and the number that such bytes stand for.
use Rattle.std.specs.Prelude.{cond, List, [], ◌∷◌, ◌++◌, ℕ, zero, suc, ◌+◌, ◌-◌, ◌*◌, ◌/◌, ◌%◌, ltb}

-- the byte of a digit: 48 for 0, up to 57 for 9
abbrev pub digit : ℕ → ℕ
digit d = 48 + d

-- a number below ten is one digit; any other is a tenth of it, spelled, and then its last digit. The first argument bounds the number of digits.
unfoldable pub spelled : ℕ → ℕ → List ℕ
spelled zero n = []
spelled (suc most) n =
    let longer = spelled most (n / 10) ++ (digit (n % 10) ∷ []) in
    cond (ltb n 10) (digit n ∷ []) longer

-- the digits of a number, of which there are at most n + 1
unfoldable pub decimal : ℕ → List ℕ
decimal n = spelled (suc n) n

-- the number that digits stand for, read from the left: each further digit makes it ten times as much, and adds its own value
unfoldable pub read_on : ℕ → List ℕ → ℕ
read_on n [] = n
read_on n (b ∷ bs) = read_on (n * 10 + (b - 48)) bs

abbrev pub value : List ℕ → ℕ
value bs = read_on 0 bs
