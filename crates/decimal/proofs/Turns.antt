-- The turns of the two loops over fields: one counts where the fields end, the other puts them.
-- The idea: a loop that has come to the field at i has done those of `take i`, and one turn adds a blank and the digits of one number.
use Rattle.std.proofs.Common.{◌≡◌, ℕ, ◌+◌, ◌≤◌, ◌<◌, List, [], ◌∷◌, ◌++◌, length, get_or, take, drop, map, sym, ap, ap₂, ◌∙◌, arith, append-nil, length-append, take-append-drop}
use Rattle.std.proofs.lemmas.List.{take_more, map-append}
use lib.Seq.{sets}
use Rattle.decimal.specs.Decimal.{decimal}
use Rattle.decimal.specs.Fields.{blank, spaced}
use Rattle.decimal.proofs.FieldLaws.{spaced-append}
use Rattle.decimal.proofs.Stores.{sets-on}

module _ {N : Type 0} {value : N → ℕ} {values : List N → List ℕ} (in_turn : (ns : List N) → values ns ≡ map value ns) where
  -- the bytes of some fields
  abbrev bytes : List N → List ℕ
  bytes ns = spaced (values ns)

  pub no_bytes : bytes [] ≡ []
  unfolding spaced
  no_bytes = ap spaced (in_turn [])

  bytes-append : (a b : List N) → bytes (a ++ b) ≡ bytes a ++ bytes b
  bytes-append a b = ap spaced (in_turn (a ++ b) ∙ map-append value a b) ∙ spaced-append (map value a) (map value b) ∙ sym (ap₂ (λ (x y : List ℕ). spaced x ++ spaced y) (in_turn a) (in_turn b))

  one_bytes : (n : N) → bytes (n ∷ []) ≡ blank ∷ decimal (value n)
  unfolding spaced
  one_bytes n = ap spaced (in_turn (n ∷ [])) ∙ append-nil (blank ∷ decimal (value n))

  -- x is the field at i, and m its number
  module _ (ns : List N) (i : ℕ) (h : i < length ns) {x : N} {m : ℕ} (r : x ≡ get_or ns i x) (e : m ≡ value x) where
    bytes_more : bytes (take (i + 1) ns) ≡ bytes (take i ns) ++ (blank ∷ decimal m)
    bytes_more =
        ap bytes (take_more ns i x h)
        ∙ bytes-append (take i ns) (get_or ns i x ∷ [])
        ∙ ap (λ (b : List ℕ). bytes (take i ns) ++ b) (one_bytes (get_or ns i x) ∙ ap (λ (n : ℕ). blank ∷ decimal n) (ap value (sym r) ∙ sym e))

    pub length_more : length (bytes (take (i + 1) ns)) ≡ length (bytes (take i ns)) + length (blank ∷ decimal m)
    length_more = ap length bytes_more ∙ length-append (bytes (take i ns)) (blank ∷ decimal m)

    -- it is among the bytes of all
    pub length_within : length (bytes (take i ns)) + length (blank ∷ decimal m) ≤ length (bytes ns)
    length_within =
        let rest = drop (i + 1) ns in
        omega (
          arith,
          length_more,
          ap (λ (ms : List N). length (bytes ms)) (take-append-drop (i + 1) ns),
          ap length (bytes-append (take (i + 1) ns) rest),
          length-append (bytes (take (i + 1) ns)) (bytes rest),
        )

    pub stored_more : (at : ℕ) (before : List ℕ) {end : ℕ} {out after : List ℕ} → end ≡ at + length (bytes (take i ns)) → out ≡ sets before at (bytes (take i ns)) → after ≡ sets out end (blank ∷ decimal m) → after ≡ sets before at (bytes (take (i + 1) ns))
    stored_more at before e s f = f ∙ sets-on before at (bytes (take i ns)) (blank ∷ decimal m) s e ∙ ap (sets before at) (sym bytes_more)
