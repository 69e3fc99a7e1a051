-- The loops that read a plan back, as plain facts. Each keeps the commands that it has passed: put after the sequence of the place where it stands
-- they are the sequence of the place where it began.
use mathlib.Core.Path.{◌≡◌, refl, sym, ap, ◌∙◌, subst}
use mathlib.Core.Logic.{◌≢◌}
use mathlib.Core.List.{List, [], ◌∷◌, ◌++◌}
use Prim.Native.Nat.{ℕ, suc, ◌+◌, ◌-◌, ◌≤◌, ◌<◌}
use native.Mathlib.Nat.{add-zero}
use Rattle.std.proofs.Common.{zero-add}
use Rattle.std.proofs.lemmas.List.{append-nil}
use native.Mathlib.Omega.{arith}
use lib.ListN.{length, take, drop, set, get_or, length-append, take-append-drop}
use lib.Seq.{take-suc, append_snoc, set_at, length-take-le}
use Rattle.meaning.specs.Listing.{then}
use Rattle.store.specs.declared.Node.{Node}
use Rattle.store.specs.Nodes.{node_at}
use Rattle.store.specs.Paths.{Path, start, step, HasPath, LengthOf, WrittenBack, ReadBack}

-- what a path says of a place other than 0
pub record Stepped (l : List Node) (k : ℕ) (p : List ℕ) : Type 0 where
  pub rest : List ℕ
  pub there : k < length l
  pub sooner : (node_at l k).parent < k
  pub follows : Path l (node_at l k).parent rest
  pub last : p ≡ then rest (node_at l k).command

pub stepped : {l : List Node} {k : ℕ} {p : List ℕ} → Path l k p → k ≢ 0 → Stepped l k p
stepped (start z e) ne = absurd (ne z)
stepped (step {q = q} z h s f e) ne = record { rest = q; there = h; sooner = s; follows = f; last = e }

pub at_zero : {l : List Node} {k : ℕ} {p : List ℕ} → Path l k p → k ≡ 0 → p ≡ []
at_zero (start z e) q = e
at_zero (step z h s f e) q = absurd (z q)

then-long : (p : List ℕ) (a : ℕ) → length (then p a) ≡ length p + 1
then-long p a = length-append p (a ∷ [])

-- a place with commands on its way is not 0
pub not_zero : {l : List Node} {k : ℕ} {p : List ℕ} → Path l k p → length p ≢ 0 → k ≢ 0
not_zero f ne z = ne (ap length (at_zero f z))

-- ---- the length

-- the way from place `at` back to place i has n commands, and i has a way on
pub record Behind (l : List Node) (at i n : ℕ) : Type 0 where
  pub rest : HasPath l i
  pub passed : List ℕ
  pub as_long : length passed ≡ n
  pub joins : {p : List ℕ} → Path l i p → Path l at (p ++ passed)
  pub below : n + i ≤ at

pub behind_start : {l : List Node} {at : ℕ} → HasPath l at → Behind l at at 0
behind_start {l} {at} h = record {
  rest = h;
  passed = [];
  as_long = refl;
  joins = λ {p} f. subst (λ (q : List ℕ). Path l at q) (sym (append-nil p)) f;
  below = omega arith;
}

module _ {l : List Node} {at i n : ℕ} (b : Behind l at i n) (ne : i ≢ 0) where
  pub behind_more : Behind l at (node_at l i).parent (n + 1)
  behind_more =
      let s = stepped b.rest.follows ne in
      let a : ℕ = (node_at l i).command in
      let lt : (node_at l i).parent < i = s.sooner in
      record {
        rest = record { path = s.rest; follows = s.follows };
        passed = a ∷ b.passed;
        as_long = omega (arith, b.as_long);
        joins = λ {p} f. subst (λ (q : List ℕ). Path l at q) (append_snoc p a b.passed) (b.joins (step ne s.there s.sooner f refl));
        below = omega (arith, b.below, lt);
      }

pub behind_end : {l : List Node} {at i n : ℕ} → Behind l at i n → i ≡ 0 → LengthOf l at n
behind_end b z = record { path = b.passed; follows = b.joins (start z refl); as_long = b.as_long }

-- ---- the writing

-- of a plan of `total` commands the last ones are written, and `left` of them are not
pub record Writing (l : List Node) (at total : ℕ) (before after : List ℕ) (i left : ℕ) : Type 0 where
  pub rest : LengthOf l i left
  pub passed : List ℕ
  pub joins : {p : List ℕ} → Path l i p → Path l at (p ++ passed)
  pub as_long : left + length passed ≡ total
  pub fits : total ≤ length before
  pub now_is : after ≡ take left before ++ (passed ++ drop total before)

pub writing_start : {l : List Node} {at total : ℕ} {before : List ℕ} → LengthOf l at total → total ≤ length before → Writing l at total before before at total
writing_start {l} {at} {total} {before} h f = record {
  rest = h;
  passed = [];
  joins = λ {p} q. subst (λ (r : List ℕ). Path l at r) (sym (append-nil p)) q;
  as_long = add-zero total;
  fits = f;
  now_is = sym (take-append-drop total before);
}

module _ {l : List Node} {at total : ℕ} {before after : List ℕ} {i left : ℕ} (w : Writing l at total before after i left) (ne : left ≢ 0) where
  pub writing_away : i ≢ 0
  writing_away = not_zero w.rest.follows (λ z. ne (sym w.rest.as_long ∙ z))

  pub writing-room : left - 1 < length after
  writing-room = omega (arith, ap length w.now_is, length-append (take left before) (w.passed ++ drop total before), length-take-le left before (omega (arith, w.as_long, w.fits)))

  pub writing_more : Writing l at total before (set after (left - 1) (node_at l i).command) (node_at l i).parent (left - 1)
  writing_more =
      let s = stepped w.rest.follows writing_away in
      let a : ℕ = (node_at l i).command in
      record {
        rest = record { path = s.rest; follows = s.follows; as_long = omega (arith, w.rest.as_long, ap length s.last, then-long s.rest a) };
        passed = a ∷ w.passed;
        joins = λ {p} f. subst (λ (q : List ℕ). Path l at q) (append_snoc p a w.passed) (w.joins (step writing_away s.there s.sooner f refl));
        as_long = omega (arith, w.as_long);
        fits = w.fits;
        now_is = put (left - 1) (omega arith);
      }
    where
      X : List ℕ
      X = w.passed ++ drop total before

      put : (m : ℕ) → suc m ≡ left → set after m (node_at l i).command ≡ take m before ++ ((node_at l i).command ∷ X)
      put m e =
          let h : m < length before = omega (arith, w.as_long, w.fits, e) in
          ap (λ (r : List ℕ). set r m (node_at l i).command)
          (w.now_is ∙ ap (λ (k : ℕ). take k before ++ X) (sym e) ∙ ap (λ (r : List ℕ). r ++ X) (take-suc before m 0 h) ∙ append_snoc (take m before) (get_or before m 0) X)
          ∙ set_at (take m before) (get_or before m 0) X (node_at l i).command m (length-take-le m before (omega (arith, h)))

pub writing_end : {l : List Node} {at total : ℕ} {before after : List ℕ} {i left : ℕ} → Writing l at total before after i left → left ≡ 0 → WrittenBack l at before after
writing_end {l} {at} {total} {before} {after} {i} {left} w z = record {
  path = w.passed;
  follows = w.joins (subst (λ (p : List ℕ). Path l i p) (none w.rest.path (w.rest.as_long ∙ z)) w.rest.follows);
  written = w.now_is ∙ ap (λ (k : ℕ). take k before ++ (w.passed ++ drop total before)) z ∙ ap (λ (k : ℕ). w.passed ++ drop k before) (sym w.as_long ∙ ap (λ (k : ℕ). k + length w.passed) z ∙ zero-add (length w.passed));
}
  where
    none : (p : List ℕ) → length p ≡ 0 → p ≡ []
    none [] e = refl
    none (a ∷ p) e = absurd (omega (arith, e))

-- ---- both

-- two paths of one place are the same
pub path_fun : {l : List Node} {k : ℕ} {p q : List ℕ} → Path l k p → Path l k q → p ≡ q
path_fun (start z e) g = e ∙ sym (at_zero g z)
path_fun {l} {k} (step z h s f e) g =
    let t = stepped g z in
    e ∙ ap (λ (r : List ℕ). then r (node_at l k).command) (path_fun f t.follows) ∙ sym t.last

pub read_fits : {l : List Node} {at r : ℕ} {before after : List ℕ} → LengthOf l at r → WrittenBack l at before after → r ≤ length before → ReadBack l at before after r
read_fits {l} {at} {r} {before} {after} n w f =
    let same : w.path ≡ n.path = path_fun w.follows n.follows in
    record {
      path = w.path;
      follows = w.follows;
      as_long = ap length same ∙ n.as_long;
      fits = λ h. w.written;
      too_long = λ h. absurd (omega (arith, h, f, ap length same, n.as_long));
    }
