-- Texts that lie in one buffer, when the buffer grows.
use Rattle.upd_core.proofs.Common.{◌≡◌, ℕ, suc, ◌+◌, ◌-◌, ◌≤◌, List, [], ◌∷◌, ◌++◌, length, take, drop, map, refl, ap, ◌∙◌, arith, All, length-append}
use Rattle.upd_core.proofs.Common.{length-drop, card_in_texts}
use Rattle.std.specs.Prelude.{slice_range}
use Rattle.std.proofs.lemmas.List.{take-append-le, drop-append-le, map-append}
use Rattle.std.proofs.Math.Seq.{drop-append_seam, take-length}
use Rattle.upd_core.specs.ActiveTexts.{LiesIn}
use Rattle.upd_core.specs.declared.actives.Ranged.{Ranged}
use Rattle.upd_text.specs.Units.{Bytes}

-- a range that lies within a text is the same in a longer one
range_kept : (texts more : Bytes) (from to : ℕ) → from ≤ to → to ≤ length texts →
    slice_range (texts ++ more) from to ≡ slice_range texts from to
range_kept texts more from to rises within =
    let long : length (drop from texts) ≡ length texts - from = length-drop from texts in
    let enough : to - from ≤ length (drop from texts) = omega arith in
    ap (λ t. take (to - from) t) (drop-append-le from texts more (omega arith)) ∙ take-append-le (to - from) (drop from texts) more enough

-- what is added is at the end
range_added : (texts more : Bytes) → slice_range (texts ++ more) (length texts) (length texts + length more) ≡ more
range_added texts more =
    let width : length texts + length more - length texts ≡ length more = omega arith in
    rw (drop-append_seam texts more, width) (take-length more)

-- cards show the same in longer texts
pub cards_kept : (texts more : Bytes) (cards : List Ranged) → All (LiesIn texts) cards →
    map (card_in_texts (texts ++ more)) cards ≡ map (card_in_texts texts) cards
cards_kept texts more [] lie = refl
cards_kept texts more (c ∷ cs) lie =
    let here : LiesIn texts c = lie 0 c (omega arith) in
    let first : slice_range (texts ++ more) c.start c.end ≡ slice_range texts c.start c.end = range_kept texts more c.start c.end here.0 here.1 in
    let rest : map (card_in_texts (texts ++ more)) cs ≡ map (card_in_texts texts) cs =
    cards_kept texts more cs (λ k d less. lie (suc k) d (omega arith)) in
    rw (first, rest) refl

-- a card whose text is added at the end
pub card_added : (texts more : Bytes) (cards : List Ranged) (ident number start end : ℕ) → All (LiesIn texts) cards → start ≡ length texts →
    end ≡ length (texts ++ more) →
    map (card_in_texts (texts ++ more)) (cards ++ record { ident = ident; number = number; start = start; end = end } ∷ [])
    ≡ map (card_in_texts texts) cards ++ record { ident = ident; number = number; text = more } ∷ []
card_added texts more cards ident number start end lie from to =
    let whole : end ≡ length texts + length more = to ∙ length-append texts more in
    let text : slice_range (texts ++ more) start end ≡ more = rw (from, whole) (range_added texts more) in
    map-append _ cards _ ∙ rw (cards_kept texts more cards lie, text) refl
