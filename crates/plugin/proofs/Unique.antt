-- Each promise of the boundary leaves one content of the array, and one content of every other buffer that is lent.
-- The idea: the library's promise leaves one answer, and the numbers are a function of the answer. The promises of reading, writing and the view of a set
-- are equations already, and the choice between two plans is the library's own.
use mathlib.Core.Path.{◌≡◌, sym, ap, ◌∙◌}
use mathlib.Core.List.{List}
use Prim.Native.Nat.{ℕ}
use Rattle.judge.specs.Verdicts.{values_of}
use Rattle.judge.specs.declared.Judged.{Judged}
use Rattle.judge.proofs.Unique.{judge_unique}
use Rattle.store.specs.declared.Node.{Node}
use Rattle.search.proofs.Unique.{search-sheet_unique, search-here_unique}
use Rattle.plugin.specs.Boundary.{judged_numbers, search_numbers, JudgedInto, SearchedInto, SearchedHereInto}

pub judged_one : {l p n m : List ℕ} → JudgedInto l p n → JudgedInto l p m → n ≡ m
judged_one u v = u.are_its ∙ ap (λ (j : Judged). judged_numbers (values_of j)) (judge_unique u.judged v.judged) ∙ sym v.are_its

pub searched_one : {l : List ℕ} {store s t : List Node} {plan p q n m : List ℕ} → SearchedInto l store s plan p n → SearchedInto l store t plan q m → (n ≡ m) × (s ≡ t) × (p ≡ q)
searched_one u v =
    let one = search-sheet_unique u.searched v.searched in
    (u.are_its ∙ ap search_numbers one.0 ∙ sym v.are_its, one.1, one.2)

pub searched-here_one : {places : ℕ} {l plan p q n m : List ℕ} → SearchedHereInto places l plan p n → SearchedHereInto places l plan q m → (n ≡ m) × (p ≡ q)
searched-here_one u v =
    let one = search-here_unique u.searched v.searched in
    (u.are_its ∙ ap search_numbers one.0 ∙ sym v.are_its, one.1)
