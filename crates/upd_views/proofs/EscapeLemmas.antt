-- What is escaped has no markup.
use Rattle.std.proofs.Common.{◌≡◌, ℕ, ◌==◌, Bool, true, false, if◌then◌else◌, List, [], ◌∷◌, ◌++◌, refl}
use Rattle.std.specs.Prelude.{codes}
use Rattle.std.specs.List.{list_any}
use Rattle.std.proofs.lemmas.List.Folds.{list_any-append}
use Rattle.upd_views.specs.Escaped.{are_entities, escaped, escaped_byte, is_markup}

byte_unmarked : (b : ℕ) → list_any is_markup (escaped_byte b) ≡ false
byte_unmarked b = by (b == 38) (b == 60) (b == 62) (b == 34) (b == 39) refl refl refl refl
  where
    by : (amp lt gt quot apos : Bool) → (b == 60) ≡ lt → (b == 62) ≡ gt → (b == 34) ≡ quot → (b == 39) ≡ apos
        → list_any is_markup (if amp then codes "&amp;" else if lt then codes "&lt;" else if gt then codes "&gt;"
        else if quot then codes "&quot;" else if apos then codes "&#39;" else b ∷ []) ≡ false
    by true lt gt quot apos e f g h = refl
    by false true gt quot apos e f g h = refl
    by false false true quot apos e f g h = refl
    by false false false true apos e f g h = refl
    by false false false false true e f g h = refl
    by false false false false false e f g h = rw (e, f, g, h) refl

pub unmarked : (text : List ℕ) → list_any is_markup (escaped text) ≡ false
unmarked [] = refl
unmarked (b ∷ text) = rw (list_any-append is_markup (escaped_byte b) (escaped text), byte_unmarked b) (unmarked text)

byte_entity : (b : ℕ) (rest : List ℕ) → are_entities rest ≡ true → are_entities (escaped_byte b ++ rest) ≡ true
byte_entity b rest are = by (b == 38) (b == 60) (b == 62) (b == 34) (b == 39) refl
  where
    by : (amp lt gt quot apos : Bool) → (b == 38) ≡ amp
        → are_entities ((if amp then codes "&amp;" else if lt then codes "&lt;" else if gt then codes "&gt;"
        else if quot then codes "&quot;" else if apos then codes "&#39;" else b ∷ []) ++ rest) ≡ true
    by true lt gt quot apos e = are
    by false true gt quot apos e = are
    by false false true quot apos e = are
    by false false false true apos e = are
    by false false false false true e = are
    by false false false false false e = rw e are

pub entities : (text : List ℕ) → are_entities (escaped text) ≡ true
entities [] = refl
entities (b ∷ text) = byte_entity b (escaped text) (entities text)
