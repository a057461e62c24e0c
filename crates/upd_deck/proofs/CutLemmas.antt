-- The lines of a run.
use Rattle.upd_deck.proofs.Common.{◌≡◌, ℕ, ◌+◌, ◌-◌, ◌<◌, List, [], ◌∷◌, length, refl, arith, slice_split, strip_carriage_return, cut_from, is_feed}
use Rattle.std.proofs.lemmas.List.Splits.{length-slice_split}

-- a piece with others after it is a line
cut_from-more : (number start : ℕ) (piece : List ℕ) (pieces : List (List ℕ)) → 0 < length pieces
    → cut_from number start (piece ∷ pieces)
    ≡ record { number = number; start = start; bytes = strip_carriage_return piece } ∷ cut_from (number + 1) (start + length piece + 1) pieces
cut_from-more number start piece [] some = absurd (omega (arith, some))
cut_from-more number start piece (next ∷ pieces) some = refl

-- the first line of a run with a line feed, and the lines after it
pub cut_from-first : (bytes piece after line : List ℕ) → slice_split is_feed bytes ≡ piece ∷ slice_split is_feed after
    → length piece + 1 + length after ≡ length bytes
    → line ≡ strip_carriage_return piece → (number start : ℕ) → cut_from number start (slice_split is_feed bytes)
    ≡ record { number = number; start = start; bytes = line } ∷ cut_from (number + 1) (start + (length bytes - length after)) (slice_split is_feed after)
cut_from-first bytes piece after line pieces lengths stripped number start =
    let behind : start + (length bytes - length after) ≡ start + length piece + 1 = omega arith in
    let some : 0 < length (slice_split is_feed after) = omega (arith, length-slice_split is_feed after) in
    rw (pieces, behind, stripped) (cut_from-more number start piece (slice_split is_feed after) some)
