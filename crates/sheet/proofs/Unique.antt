-- Two answers that a contract permits are equal.
-- The idea: each contract is an equation with a definition, for a part one for its content and one for its place.
use mathlib.Core.Path.{◌≡◌, sym, ◌∙◌}
use mathlib.Core.List.{List}
use Prim.Native.Nat.{ℕ}
use Rattle.sheet.specs.Answers.{ReadAs}
use Rattle.sheet.specs.Answers.{Reading}

-- whatever an equation fixes: the counts of states and commands, and the set at a command and a state, too
pub one_answer : {A : Type 0} {x y z : A} → x ≡ z → y ≡ z → x ≡ y
one_answer p q = p ∙ sym q

pub read_unique : {l : List ℕ} {r q : Reading} → ReadAs l r → ReadAs l q → r ≡ q
read_unique u v = one_answer u.answer v.answer
