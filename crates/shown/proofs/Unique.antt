-- Two answers that a contract permits are equal: a part of the lent bytes has one content, at one place in memory.
-- The idea: the contract is an equation for each.
use mathlib.Core.Path.{◌≡◌}
use mathlib.Core.List.{List}
use Prim.Native.Nat.{ℕ}
use denote.Ref.{Bor}
use Rattle.numbers.specs.Bytes.{IsPart}
use Rattle.sheet.proofs.Unique.{one_answer}
use Rattle.shown.specs.Following.{following, following_from}

pub part_unique : {s p q : Bor (List ℕ)} {from : ℕ} {content : List ℕ} → IsPart s from content p → IsPart s from content q → (p.now ≡ q.now) × (p.ref_ptr ≡ q.ref_ptr)
part_unique u v = (one_answer u.bytes v.bytes, one_answer u.place v.place)

pub view_unique : (x : Bor (List ℕ)) (a s : ℕ) (p q : Bor (List ℕ)) → IsPart x (following_from x.now a s) (following x.now a s) p
    → IsPart x (following_from x.now a s) (following x.now a s) q → (p.now ≡ q.now) × (p.ref_ptr ≡ q.ref_ptr)
view_unique x a s p q = part_unique
