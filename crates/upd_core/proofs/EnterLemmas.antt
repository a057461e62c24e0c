-- Cards that had an entry for a while.
use Rattle.upd_core.proofs.Common.{◌≡◌, ℕ, ◌-◌, ◌<◌, List, [], ◌∷◌, ◌++◌, map, length, take, drop, get_or, set, refl, ap, ◌∙◌, arith, common_steps}
use Rattle.upd_core.proofs.Common.{length-map, length-take-le, Entry, entered, CardView, without_last}
use Rattle.std.proofs.lemmas.List.{set-get_or, take-append-drop, take_at, drop_at}

pushed_left : (es : List Entry) (e : Entry) → take (length (es ++ e ∷ []) - 1) (es ++ e ∷ []) ≡ es
pushed_left es e = grind (arith, common_steps)

-- what takes the last entry off takes the new one off
entered_left : (e : Entry) (cards : List CardView) → map without_last (map (entered e) cards) ≡ cards
entered_left e [] = refl
entered_left e (c ∷ cs) = rw (pushed_left c.history e, entered_left e cs) refl

-- where the next card x gets no entry, those that have it lose it again
pub all_left : (e : Entry) (first cards : List CardView) (i : ℕ) (d x y : CardView) → i < length first →
    cards ≡ map (entered e) (take i first) ++ drop i first →
    x ≡ get_or cards i d → y ≡ x → map without_last (take i (set cards i y)) ++ drop i (set cards i y) ≡ first
all_left e first cards i d x y within so_far read same =
    let kept : set cards i y ≡ cards = ap (set cards i) (same ∙ read) ∙ set-get_or cards i d in
    let reached : length (map (entered e) (take i first)) ≡ i = length-map (take i first) (entered e) ∙ length-take-le i first (omega arith) in
    let had : List CardView = map (entered e) (take i first) in
    rw (kept, so_far, take_at had (drop i first) i reached, drop_at had (drop i first) i reached, entered_left e (take i first)) (take-append-drop i first)
