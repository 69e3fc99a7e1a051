-- The contract of `explore` leaves one end and one store. The idea: the listing is one, so the three ends exclude each other and each fixes the count; each
-- counted place holds the value that stands for the listing's record, and the later places are as lent.
use mathlib.Core.Path.{◌≡◌, refl, sym, ap, ap₂, ◌∙◌}
use mathlib.Core.List.{List, ◌++◌}
use Prim.Native.Nat.{ℕ, ◌≤◌, ◌<◌}
use native.Mathlib.Omega.{arith}
use lib.ListN.{length, take, drop, take-append-drop}
use lib.Seq.{length-take-le}
use Rattle.meaning.specs.Domain.{Domain}
use Rattle.meaning.specs.Walk.{step}
use Rattle.meaning.specs.Listing as records
use Rattle.meaning.specs.Listing.{At}
use Rattle.meaning.proofs.Places.{at_ext, at_take, take-lt, at_get_or}
use Rattle.meaning.proofs.ListingLaws.{place_fun}
use Rattle.meaning.proofs.SearchLaws.{first-place}
use Rattle.meaning.proofs.StoreLaws.{holds_fun}
use Rattle.meaning.proofs.Enumerated.{listing_correct}
use Rattle.sets.specs.Words.{set_for}
use Rattle.store.specs.declared.Node.{Node}
use Rattle.store.specs.Nodes.{nothing, node_at, set_at, meant}
use Rattle.explore.specs.Turns.{LastInside, AllOutside, MoreThanRoom, Stored, Ended, Explored}
use Rattle.explore.specs.Ready.{Ready}
use Rattle.explore.specs.declared.Ending.{Ending}
use Rattle.explore.specs.declared.Ending.TheVariants.{Plan, NoPlan, NoRoom}
use Rattle.explore.specs.declared.End.{End}

-- ---- the end

-- how a search that has ended did
data Case (D : Domain) (x g room : ℕ) (e : End) : Type 0 where
  plan : e.ending ≡ Plan → LastInside D x g e.count → Case D x g room e
  none : e.ending ≡ NoPlan → AllOutside D x g e.count → Case D x g room e
  full : e.ending ≡ NoRoom → MoreThanRoom D x g room e.count → Case D x g room e

case : {D : Domain} {x g room : ℕ} {e : End} {l : List Node} → Ended D x g room e l → Case D x g room e
case {D} {x} {g} {room} {e} u = go e.ending refl
  where
    go : (n : Ending) → e.ending ≡ n → Case D x g room e
    go Plan q = plan q (u.plan q)
    go NoPlan q = none q (u.no_plan q)
    go NoRoom q = full q (u.no_room q)

end_unique : {D : Domain} {x g room : ℕ} {a b : End} {s t : List Node} → Ended D x g room a s → Ended D x g room b t → a ≡ b
end_unique {D} {x} {g} {room} {a} {b} u v = go (case u) (case v)
  where
    both : a.ending ≡ b.ending → a.count ≡ b.count → a ≡ b
    both e f = λ i. record { ending = e i; count = f i }

    go : Case D x g room a → Case D x g room b → a ≡ b
    go (plan e p) (plan f q) = both (e ∙ sym f) (omega (arith, p.is_last, q.is_last, first-place g p.first q.first))
    go (plan e p) (none f q) = absurd (q.none_inside p.place p.entry p.first.at_place p.first.inside)
    go (plan e p) (full f q) = absurd (omega (arith, q.none_inside p.place p.entry p.first, p.is_last, u.fits))
    go (none e p) (plan f q) = absurd (p.none_inside q.place q.entry q.first.at_place q.first.inside)
    go (none e p) (none f q) = both (e ∙ sym f) (p.are_all ∙ sym q.are_all)
    go (none e p) (full f q) = absurd (omega (arith, p.are_all, q.more, u.fits))
    go (full e p) (plan f q) = absurd (omega (arith, p.none_inside q.place q.entry q.first, q.is_last, v.fits))
    go (full e p) (none f q) = absurd (omega (arith, q.are_all, p.more, v.fits))
    go (full e p) (full f q) = both (e ∙ sym f) (p.is_full ∙ sym q.is_full)

-- ---- the store

-- a counted place of two stores holds one record
node_unique : {D : Domain} {x c d : ℕ} {s t : List Node} → Ready D x → Stored D x c s → Stored D x d t → (k : ℕ) → k < c → k < d → node_at s k ≡ node_at t k
node_unique {D} {x} {s = s} {t} r u v k h j =
    let same : meant (node_at s k) ≡ meant (node_at t k) = holds_fun (step D) x (listing_correct D r.well_formed x r.start).prefix (u.holds k h) (v.holds k j) in
    λ i. record {
      set = (u.values k h ∙ ap (λ (n : records.Node). set_for n.set) same ∙ sym (v.values k j)) i;
      parent = ap (λ (n : records.Node). n.parent) same i;
      command = ap (λ (n : records.Node). n.command) same i;
    }

-- the sets of the counted places are distinct, so a look-up among them has one answer (`found_unique` of `store`)
pub stored-distinct : {D : Domain} {x count : ℕ} {l : List Node} → Ready D x → Stored D x count l → (j k : ℕ) → j < count → k < count → set_at l j ≡ set_at l k → j ≡ k
stored-distinct {D} {x} r s j k h i e =
    place_fun (step D) x (listing_correct D r.well_formed x r.start).prefix (s.holds j h).at_place (s.holds k i).at_place (sym (s.holds j h).its_set ∙ e ∙ (s.holds k i).its_set)

pub explored_unique : {D : Domain} {x g room first : ℕ} {before s t : List Node} {a b : End} → Explored D x g room first before s a → Explored D x g room first before t b → (a ≡ b) × (s ≡ t)
explored_unique {before = before} {s} {t} {a} {b} u v = (ends, sym (take-append-drop a.count s) ∙ ap₂ ◌++◌ firsts rests ∙ take-append-drop a.count t)
  where
    ends : a ≡ b
    ends = end_unique u.ended v.ended

    counts : b.count ≡ a.count
    counts = ap (λ (o : End). o.count) (sym ends)

    long : length s ≡ length t
    long = u.kept.as_long ∙ sym v.kept.as_long

    enough : a.count ≤ length s
    enough = omega (arith, u.ended.fits, u.ended.there)

    firsts : take a.count s ≡ take a.count t
    firsts = at_ext (take a.count s) (take a.count t) (length-take-le a.count s enough ∙ sym (length-take-le a.count t (omega (arith, enough, long)))) same
      where
        same : (k : ℕ) (n m : Node) → At (take a.count s) k n → At (take a.count t) k m → n ≡ m
        same k n m p q =
            let h : k < a.count = take-lt s a.count p in
            sym (at_get_or nothing (at_take a.count p)) ∙ node_unique u.ended.ready u.ended.stored v.ended.stored k h (omega (arith, counts)) ∙ at_get_or nothing (at_take a.count q)

    rests : drop a.count s ≡ drop a.count t
    rests = u.kept.later ∙ ap (λ (n : ℕ). drop n before) (sym counts) ∙ sym v.kept.later ∙ ap (λ (n : ℕ). drop n t) counts
