-- Steps of the loops over card diffs.
use Rattle.upd_diff.proofs.Common.{◌≡◌, ℕ, ◌+◌, ◌<◌, false, List, [], ◌∷◌, map, length, drop, get_or, refl, ap, sym, ◌∙◌, arith, and_right, drop_more, Entry}
use Rattle.upd_diff.proofs.Common.{Ident, card_diff_view, begins, ident_changes, same_entry}
use Rattle.upd_diff.specs.declared.card_diffs.CardDiff.{CardDiff}

-- the card diffs from an index on
pub next_diffs : (xs : List CardDiff) (i : ℕ) (x : CardDiff) → i < length xs → x ≡ get_or xs i x → map card_diff_view (drop i xs)
    ≡ card_diff_view x ∷ map card_diff_view (drop (i + 1) xs)
next_diffs xs i x within is = ap (map card_diff_view) (drop_more xs i x within) ∙ ap (λ y. card_diff_view y ∷ map card_diff_view (drop (i + 1) xs)) (sym is)

pub no_idents_more : (old : List Ident) → ident_changes old [] ≡ []
no_idents_more [] = refl
no_idents_more (i ∷ old) = refl

pub too_short : (es fs : List Entry) → length fs < length es → begins es fs ≡ false
too_short [] fs short = absurd (omega arith)
too_short (e ∷ es) [] short = refl
too_short (e ∷ es) (f ∷ fs) short = and_right (same_entry e f) (begins es fs) (too_short es fs (omega arith))
