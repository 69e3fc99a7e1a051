-- What a search's loop keeps, said of the computed listing L and of how many of its sets the store holds, so that there is no list to guess: each
-- turn of the loop is one law.
use mathlib.Core.Path.{◌≡◌, sym, ap, ◌∙◌, subst, subst₂}
use mathlib.Core.Logic.{◌≢◌}
use mathlib.Core.Option.{none, some, none-ne-some, some-injective}
use mathlib.Core.List.{List, [], ◌∷◌, ◌++◌}
use Prim.Native.Nat.{ℕ, zero, suc, ◌+◌, ◌≤◌, ◌<◌}
use native.Mathlib.Nat.{le_trans, le_of_eq, lt_of_not-le, le_of_suc-le-suc, le_antisymm}
use native.Mathlib.Numerals.{add-one}
use native.Mathlib.Omega.{arith}
use lib.ListN.{length, take, length-append}
use lib.Seq.{length-take-le}
use Rattle.meaning.specs.Domain.{Domain, WellFormed, Start}
use Rattle.meaning.specs.Walk.{step}
use Rattle.meaning.specs.Listing.{Entry, At, then, Prefix}
use Rattle.meaning.specs.Enumeration.{root, listing}
use Rattle.meaning.specs.Progress.{Reached, Progress}
use Rattle.meaning.proofs.Places.{at_take, take_at, take-lt, at_last}
use Rattle.meaning.proofs.ListingLaws.{complete_longest}
use Rattle.meaning.proofs.Expansion.{skip, grow, turn, begin, reached-prefix, reached-complete}
use Rattle.meaning.proofs.Enumerated.{listing_correct, prefix_is, below}

module _ (D : Domain) (ok : WellFormed D) (init : ℕ) (st : Start D init) where
  abbrev pub L : List Entry
  L = listing D init

  -- a start of the listing is as long as the listing or shorter
  prefix-fits : {l : List Entry} → Prefix (step D) init l → length l ≤ length L
  prefix-fits s = le_of_suc-le-suc (lt_of_not-le (λ h. complete_longest (step D) init (listing_correct D ok init st).prefix (listing_correct D ok init st).complete s h))

  -- any list that is reached
  pub progress : {l : List Entry} {i a : ℕ} → Reached (step D) init l i a → Progress D init (length l) i a
  progress {l} {i} {a} s =
      let p = reached-prefix (step D) init s in
      record { fits = prefix-fits p; reached = subst (λ (r : List Entry). Reached (step D) init r i a) (prefix_is D ok init st p) s }

  pub progress_start : Progress D init 1 0 0
  progress_start = progress (begin (step D) init)

  -- the initial set stands at place 0
  pub place_0 : At L 0 (root init)
  place_0 = at_take 1 progress_start.reached.rooted

  module _ {c i a : ℕ} (s : Progress D init c i a) {e : Entry} (h : i < c) (u : At L i e) where
    here : At (take c L) i e
    here = take_at h u

    -- the command is not sendable
    pub progress-none : step D e.set a ≡ none → Progress D init c i (a + 1)
    progress-none q = record {
      fits = s.fits;
      reached = subst (λ (n : ℕ). Reached (step D) init (take c L) i n) (sym (add-one a))
          (skip (step D) init s.reached here (λ y g. absurd (none-ne-some y (sym q ∙ g))));
    }

    -- the set is stored already, at place k
    pub progress-seen : {y k : ℕ} {f : Entry} → step D e.set a ≡ some y → k < c → At L k f → f.set ≡ y → Progress D init c i (a + 1)
    progress-seen {y} {k} {f} q b v w = record {
      fits = s.fits;
      reached = subst (λ (n : ℕ). Reached (step D) init (take c L) i n) (sym (add-one a))
          (skip (step D) init s.reached here (λ z g. record { place = k; entry = f; at_place = take_at b v; its_set = w ∙ some-injective y z (sym q ∙ g) }));
    }

    module _ {y : ℕ} (q : step D e.set a ≡ some y) (fresh : (k : ℕ) (f : Entry) → k < c → At L k f → f.set ≢ y) where
      new : Entry
      new = record { set = y; seq = then e.seq a }

      grown : Reached (step D) init (take c L ++ (new ∷ [])) i (suc a)
      unfolding new
      grown = grow (step D) init s.reached here q (λ m. fresh m.place m.entry (take-lt L c m.at_place) (at_take c m.at_place) m.its_set)

      grown-length : length (take c L ++ (new ∷ [])) ≡ c + 1
      grown-length = length-append (take c L) (new ∷ []) ∙ ap (λ (n : ℕ). n + 1) (length-take-le c L s.fits)

      -- the set is new: it is the next of the listing
      pub progress_grow : Progress D init (c + 1) i (a + 1)
      progress_grow = subst₂ (λ (n m : ℕ). Progress D init n i m) grown-length (sym (add-one a)) (progress grown)

      pub new_place : At L c (record { set = y; seq = then e.seq a })
      unfolding new
      new_place = at_take (length (take c L ++ (new ∷ []))) (subst₂ (λ (r : List Entry) (n : ℕ). At r n new)
          (prefix_is D ok init st (reached-prefix (step D) init grown)) (length-take-le c L s.fits) (at_last (take c L) new))

      -- so the listing is longer than c
      pub not_all : c < length L
      not_all = omega (arith, progress_grow.fits)

  -- all commands of place i are tried
  pub progress-turn : {c i : ℕ} → Progress D init c i D.commands → Progress D init c (i + 1) 0
  progress-turn {c} {i} s = record {
    fits = s.fits;
    reached = subst (λ (n : ℕ). Reached (step D) init (take c L) n zero) (sym (add-one i))
        (turn (step D) init D.commands (below D ok init st) s.reached);
  }

  -- all places are expanded: the store holds the whole listing
  pub progress_end : {c i : ℕ} → Progress D init c i 0 → c ≤ i → c ≡ length L
  progress_end {c} {i} s h =
      let n : length (take c L) ≡ c = length-take-le c L s.fits in
      let z = reached-complete (step D) init s.reached (le_trans (le_of_eq n) h) in
      let p = reached-prefix (step D) init s.reached in
      le_antisymm s.fits (le_trans (le_of_suc-le-suc (lt_of_not-le (λ g. complete_longest (step D) init p z (listing_correct D ok init st).prefix g))) (le_of_eq n))
