-- The expansion of places by commands: what holds while it goes on (`Reached`), and that it makes the listing. Whatever gives a set has been tried,
-- or comes after all that was tried.
use mathlib.Core.Path.{◌≡◌, refl, sym, ap, ◌∙◌, subst}
use mathlib.Core.Logic.{◌⊎◌, inl, inr, ⊎_elim}
use mathlib.Core.Option.{Option, some, none-ne-some, some-injective}
use mathlib.Core.List.{List, [], ◌∷◌, ◌++◌}
use Prim.Native.Nat.{ℕ, zero, suc, ◌≤◌, ◌<◌}
use native.Mathlib.Nat.{not-suc-le-zero, le_refl, lt_trans, lt_of_lt_of_le}
use native.Mathlib.Omega.{arith}
use lib.ListN.{length}
use Rattle.meaning.specs.Walk.{Gives}
use Rattle.meaning.specs.Order.{Before}
use Rattle.meaning.specs.Listing.{Entry, At, Lists, then, Prefix, Complete}
use Rattle.meaning.specs.Enumeration.{root}
use Rattle.meaning.specs.Progress.{Sooner, place, command, Known, From, start, by, Reached}
use Rattle.meaning.proofs.OrderLaws.{before_irrefl, before_trans, before_asym, before_total, before-then, before_last, before-then_self, then-before, not_before_nil, nil-before-then, compare3, then_ind}
use Rattle.meaning.proofs.WalkLaws.{gives_nil, nil-gives, gives_snoc, snoc_gives}
use Rattle.meaning.proofs.Places.{at_head, at_lt, at_fun, at-append, at_last, at_snoc, place-lt, place_of-seq}

pub sooner_suc : {j b i a : ℕ} → Sooner j b i a → Sooner j b i (suc a)
sooner_suc (place h) = place h
sooner_suc (command e h) = command e (omega arith)

pub suc_sooner : {j b i a : ℕ} → Sooner j b i (suc a) → Sooner j b i a ⊎ ((j ≡ i) × (b ≡ a))
suc_sooner (place h) = inl (place h)
suc_sooner {j} {b} {i} {a} (command e h) = go (compare3 b a)
  where
    go : (b < a) ⊎ ((b ≡ a) ⊎ (a < b)) → Sooner j b i a ⊎ ((j ≡ i) × (b ≡ a))
    go (inl k) = inl (command e k)
    go (inr (inl k)) = inr (e, k)
    go (inr (inr k)) = absurd (omega (arith, h, k))

pub known_lists : {l : List Entry} {p : List ℕ} {y : ℕ} → Known l p y → Lists l y
known_lists k = record { place = k.at; entry = k.entry; at_place = k.at_place; its_set = k.its_set }

pub known_append : {l : List Entry} {p : List ℕ} {y : ℕ} (r : List Entry) → Known l p y → Known (l ++ r) p y
known_append r k = record { at = k.at; entry = k.entry; at_place = at-append r k.at_place; its_set = k.its_set; no_later = k.no_later }

module _ (next : ℕ → ℕ → Option ℕ) (init : ℕ) where
  -- ---- what it says

  module _ {l : List Entry} {i a : ℕ} (s : Reached next init l i a) where
    -- whatever gives a set before an entry of the list does: the set is listed, and not later
    known : {k : ℕ} {e : Entry} → At l k e → (p : List ℕ) → (y : ℕ) → Gives next init p y → Before p e.seq → Known l p y
    known {k} {e} u = then_ind (λ p. (y : ℕ) → Gives next init p y → Before p e.seq → Known l p y)
        (λ y g h. record { at = zero; entry = root init; at_place = s.rooted; its_set = nil-gives next g; no_later = before_irrefl })
        more
      where
        more : (q : List ℕ) (b : ℕ) → ((y : ℕ) → Gives next init q y → Before q e.seq → Known l q y)
            → (y : ℕ) → Gives next init (then q b) y → Before (then q b) e.seq → Known l (then q b) y
        more q b ih y g h = end (s.from u) (leq (before_total f.seq q))
          where
            r : (z : ℕ) × Gives next init q z × (next z b ≡ some y)
            r = snoc_gives next q g

            m : Known l q r.0
            m = ih r.0 r.1 (before_trans (before-then_self q b) h)

            f : Entry
            f = m.entry

            -- the command b was tried at the place of f
            finish : Sooner m.at b i a → (Before f.seq q ⊎ (f.seq ≡ q)) → Known l (then q b) y
            finish o c =
                let d = s.done m.at_place o (subst (λ (z : ℕ). next z b ≡ some y) (sym m.its_set) r.2) in
                record {
                  at = d.at;
                  entry = d.entry;
                  at_place = d.at_place;
                  its_set = d.its_set;
                  no_later = λ v. d.no_later (⊎_elim (λ x. before_trans (before-then b b x) v) (λ x. subst (λ (w : List ℕ). Before (then w b) d.entry.seq) (sym x) v) c);
                }

            nearer : {j c : ℕ} → m.at < j → Sooner j c i a → Sooner m.at b i a
            nearer n (place x) = place (lt_trans n x)
            nearer n (command x w) = place (omega (arith, n, x))

            same_place : {j c : ℕ} → m.at ≡ j → b < c → Sooner j c i a → Sooner m.at b i a
            same_place n x (place w) = place (omega (arith, n, w))
            same_place n x (command w z) = command (n ∙ w) (lt_trans x z)

            leq : Before f.seq q ⊎ ((f.seq ≡ q) ⊎ Before q f.seq) → Before f.seq q ⊎ (f.seq ≡ q)
            leq (inl x) = inl x
            leq (inr (inl x)) = inr x
            leq (inr (inr x)) = absurd (m.no_later x)

            end : From init l i a e → Before f.seq q ⊎ (f.seq ≡ q) → Known l (then q b) y
            end (start x) c = absurd (not_before_nil (subst (λ (n : Entry). Before (then q b) n.seq) x h))
            end (by {b = c} {f = n} v o w) (inl x) =
                let t = then-before q n.seq b c (subst (λ (p : List ℕ). Before (then q b) p) w h) in
                finish (nearer (place-lt s.sorted m.at_place v (⊎_elim (λ z. before_trans x z) (λ z. subst (λ (p : List ℕ). Before f.seq p) z.0 x) t)) o) (inl x)
            end (by {b = c} {f = n} v o w) (inr x) = ⊎_elim
                (λ z. finish (nearer (place-lt s.sorted m.at_place v (subst (λ (p : List ℕ). Before p n.seq) (sym x) z)) o) (inr x))
                (λ z. finish (same_place (place_of-seq s.sorted m.at_place v (x ∙ z.0)) z.1 o) (inr x))
                (then-before q n.seq b c (subst (λ (p : List ℕ). Before (then q b) p) w h))

    -- so the list is a start of the listing
    pub reached-prefix : Prefix next init l
    reached-prefix = record {
      first = λ {k} {e} u. record {
        gives = s.gives u;
        least = λ {q} g h. (let m = known u q e.set g h in
            m.no_later (subst (λ (f : Entry). Before q f.seq)
            (at_fun u (subst (λ (n : ℕ). At l n m.entry) (s.distinct m.at_place u m.its_set) m.at_place)) h));
      };
      sorted = s.sorted;
      no_gap = λ {k} {e} {p} {y} u f h. known_lists (known u p y f.gives h);
    }

    -- when every place is expanded, the list is the listing
    pub reached-complete : length l ≤ i → Complete next init l
    reached-complete n = record { lists = λ {p} {y} g. all p y g }
      where
        all : (p : List ℕ) (y : ℕ) → Gives next init p y → Lists l y
        all = then_ind (λ p. (y : ℕ) → Gives next init p y → Lists l y)
            (λ y g. record { place = zero; entry = root init; at_place = s.rooted; its_set = nil-gives next g })
            (λ q b ih y g.
            let r = snoc_gives next q g in
            let m = ih r.0 r.1 in
            known_lists (s.done m.at_place (place (lt_of_lt_of_le (at_lt m.at_place) n)) (subst (λ (z : ℕ). next z b ≡ some y) (sym m.its_set) r.2)))

    -- the sequence that is tried next comes after all that are listed
    entry-before : {k : ℕ} {e f : Entry} → At l i e → At l k f → Before f.seq (then e.seq a)
    entry-before {k} {e} {f} u v = go (s.from v)
      where
        go : From init l i a f → Before f.seq (then e.seq a)
        go (start x) = subst (λ (g : Entry). Before g.seq (then e.seq a)) (sym x) (nil-before-then e.seq a)
        go (by {b = b} {f = g} w (place h) q) = subst (λ (p : List ℕ). Before p (then e.seq a)) (sym q) (before-then b a (s.sorted.before w u h))
        go (by {b = b} {f = g} w (command c h) q) =
            let same : g ≡ e = at_fun (subst (λ (n : ℕ). At l n g) c w) u in
            subst (λ (p : List ℕ). Before p (then e.seq a)) (sym (q ∙ ap (λ (x : Entry). then x.seq b) same)) (before_last e.seq h)

    -- ---- how it goes on

    from_suc : (r : List Entry) {e : Entry} → From init l i a e → From init (l ++ r) i (suc a) e
    from_suc r (start x) = start x
    from_suc r (by w o q) = by (at-append r w) (sooner_suc o) q

    from_stay : {e : Entry} → From init l i a e → From init l i (suc a) e
    from_stay (start x) = start x
    from_stay (by w o q) = by w (sooner_suc o) q

    -- the command is not sendable, or it gives a set that is listed
    pub skip : {e : Entry} → At l i e → ((y : ℕ) → next e.set a ≡ some y → Lists l y) → Reached next init l i (suc a)
    skip {e} u seen = record {
      rooted = s.rooted;
      from = λ v. from_stay (s.from v);
      gives = s.gives;
      sorted = s.sorted;
      distinct = s.distinct;
      done = λ v o h. go v h (suc_sooner o);
    }
      where
        go : {j b y : ℕ} {f : Entry} → At l j f → next f.set b ≡ some y → Sooner j b i a ⊎ ((j ≡ i) × (b ≡ a)) → Known l (then f.seq b) y
        go v h (inl o) = s.done v o h
        go {j} {b} {y} {f} v h (inr (c, d)) =
            let same : f ≡ e = at_fun (subst (λ (n : ℕ). At l n f) c v) u in
            let m = seen y (subst (λ (n : ℕ). next e.set n ≡ some y) d (subst (λ (g : Entry). next g.set b ≡ some y) same h)) in
            record {
              at = m.place;
              entry = m.entry;
              at_place = m.at_place;
              its_set = m.its_set;
              no_later = λ w. before_asym (entry-before u m.at_place)
                  (subst (λ (n : ℕ). Before (then e.seq n) m.entry.seq) d (subst (λ (g : Entry). Before (then g.seq b) m.entry.seq) same w));
            }

    -- the command gives a set that is not listed: it goes to the end of the list
    pub grow : {e : Entry} {y : ℕ} → At l i e → next e.set a ≡ some y → ¬ Lists l y
        → Reached next init (l ++ (record { set = y; seq = then e.seq a } ∷ [])) i (suc a)
    grow {e} {y} u g fresh = record {
      rooted = at-append tail s.rooted;
      from = λ v. from' (at_snoc l v);
      gives = λ v. gives' (at_snoc l v);
      sorted = record { before = λ v w h. sorted' (at_snoc l v) (at_snoc l w) h };
      distinct = λ v w q. distinct' (at_snoc l v) (at_snoc l w) q;
      done = λ v o h. done' (at_snoc l v) (suc_sooner o) o h;
    }
      where
        n : Entry
        n = record { set = y; seq = then e.seq a }

        tail : List Entry
        tail = n ∷ []

        from' : {k : ℕ} {f : Entry} → At l k f ⊎ ((k ≡ length l) × (n ≡ f)) → From init (l ++ tail) i (suc a) f
        from' (inl v) = from_suc tail (s.from v)
        from' (inr (c, d)) = by (at-append tail u) (command refl (le_refl (suc a))) (ap (λ (f : Entry). f.seq) (sym d))

        gives' : {k : ℕ} {f : Entry} → At l k f ⊎ ((k ≡ length l) × (n ≡ f)) → Gives next init f.seq f.set
        gives' (inl v) = s.gives v
        gives' (inr (c, d)) = subst (λ (f : Entry). Gives next init f.seq f.set) d (gives_snoc next (s.gives u) g)

        sorted' : {j k : ℕ} {f h : Entry} → At l j f ⊎ ((j ≡ length l) × (n ≡ f)) → At l k h ⊎ ((k ≡ length l) × (n ≡ h)) → j < k → Before f.seq h.seq
        sorted' (inl v) (inl w) b = s.sorted.before v w b
        sorted' {f = f} (inl v) (inr (c, d)) b = subst (λ (x : Entry). Before f.seq x.seq) d (entry-before u v)
        sorted' (inr (c, d)) (inl w) b = absurd (omega (arith, c, at_lt w, b))
        sorted' (inr (c, d)) (inr (c', d')) b = absurd (omega (arith, c, c', b))

        distinct' : {j k : ℕ} {f h : Entry} → At l j f ⊎ ((j ≡ length l) × (n ≡ f)) → At l k h ⊎ ((k ≡ length l) × (n ≡ h)) → f.set ≡ h.set → j ≡ k
        distinct' (inl v) (inl w) q = s.distinct v w q
        distinct' {j} {f = f} (inl v) (inr (c, d)) q = absurd (fresh (record { place = j; entry = f; at_place = v; its_set = q ∙ ap (λ (x : Entry). x.set) (sym d) }))
        distinct' {k = k} {h = h} (inr (c, d)) (inl w) q = absurd (fresh (record { place = k; entry = h; at_place = w; its_set = sym q ∙ ap (λ (x : Entry). x.set) (sym d) }))
        distinct' (inr (c, d)) (inr (c', d')) q = c ∙ sym c'

        late : {j b : ℕ} → j ≡ length l → ¬ Sooner j b i (suc a)
        late c (place h) = omega (arith, c, at_lt u, h)
        late c (command d h) = omega (arith, c, at_lt u, d)

        done' : {j b z : ℕ} {f : Entry} → At l j f ⊎ ((j ≡ length l) × (n ≡ f)) → Sooner j b i a ⊎ ((j ≡ i) × (b ≡ a)) → Sooner j b i (suc a)
            → next f.set b ≡ some z → Known (l ++ tail) (then f.seq b) z
        done' (inr (c, d)) o t h = absurd (late c t)
        done' (inl v) (inl o) t h = known_append tail (s.done v o h)
        done' {j} {b} {z} {f} (inl v) (inr (c, d)) t h =
            let same : f ≡ e = at_fun (subst (λ (x : ℕ). At l x f) c v) u in
            let h' : next e.set a ≡ some z = subst (λ (x : ℕ). next e.set x ≡ some z) d (subst (λ (x : Entry). next x.set b ≡ some z) same h) in
            record {
              at = length l;
              entry = n;
              at_place = at_last l n;
              its_set = some-injective y z (sym g ∙ h');
              no_later = λ w. before_irrefl (subst (λ (x : ℕ). Before (then e.seq x) (then e.seq a)) d (subst (λ (x : Entry). Before (then x.seq b) (then e.seq a)) same w));
            }

  -- all commands of place i are tried
  pub turn : {l : List Entry} {i : ℕ} (m : ℕ) → ((p : List ℕ) (x b y : ℕ) → Gives next init p x → next x b ≡ some y → b < m)
      → Reached next init l i m → Reached next init l (suc i) zero
  turn {l} {i} m below s = record {
    rooted = s.rooted;
    from = λ v. go (s.from v);
    gives = s.gives;
    sorted = s.sorted;
    distinct = s.distinct;
    done = λ {j} {b} {y} {e} v o h. s.done v (back (below e.seq e.set b y (s.gives v) h) o) h;
  }
    where
      go : {e : Entry} → From init l i m e → From init l (suc i) zero e
      go (start x) = start x
      go (by w (place h) q) = by w (place (omega arith)) q
      go (by w (command c h) q) = by w (place (omega arith)) q

      back : {j b : ℕ} → b < m → Sooner j b (suc i) zero → Sooner j b i m
      back {j} {b} h (place k) = ⊎_elim (λ (c : j < i). place c) (λ c. ⊎_elim (λ (d : j ≡ i). command d h) (λ (d : i < j). absurd (omega (arith, k, d))) c) (compare3 j i)
      back h (command c k) = absurd (not-suc-le-zero k)

  -- before anything is tried
  pub begin : Reached next init (root init ∷ []) zero zero
  begin = record {
    rooted = at_head (root init) [];
    from = λ v. start (sym (only v).1);
    gives = λ v. subst (λ (e : Entry). Gives next init e.seq e.set) (only v).1 (gives_nil next init);
    sorted = record { before = λ v w h. absurd (omega (arith, h, (only v).0, (only w).0)) };
    distinct = λ v w q. (only v).0 ∙ sym (only w).0;
    done = λ v o h. absurd (none_yet o);
  }
    where
      only : {k : ℕ} {e : Entry} → At (root init ∷ []) k e → (k ≡ zero) × (root init ≡ e)
      only {k} {e} v = ⊎_elim (λ (u : At [] k e). absurd (none-ne-some e u.held)) (λ r. r) (at_snoc [] v)

      none_yet : {j b : ℕ} → ¬ Sooner j b zero zero
      none_yet (place h) = not-suc-le-zero h
      none_yet (command c h) = not-suc-le-zero h
