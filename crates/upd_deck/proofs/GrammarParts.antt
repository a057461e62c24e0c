-- The parts of a line: the bytes before a byte and from it on, ink and blanks, and pieces between commas.
use Rattle.upd_deck.proofs.Common.{◌≡◌, ℕ, zero, suc, ◌<◌, Bool, true, false, cond, eqb, not, List, [], ◌∷◌, ◌++◌, length, refl, sym, ap, ◌∙◌, append_assoc}
use Rattle.upd_deck.proofs.Common.{append-nil, arith, cond_both, or_parts, ne_eqb, eqb-false, AllByRecursion, slice_split, onto_first, is_blank, is_comma}
use Rattle.upd_deck.proofs.Common.{ends_word, up_to, from_first, after_blanks, after_comma, field, remark, fields_of, blanks, IsInk, IsField, Comma, IsLead}
use Rattle.upd_deck.proofs.Common.{Blanks, Separator, BeginsInked}

pub all_weaker : {A : Type 0} (P Q : A → Type 0) → ((x : A) → P x → Q x) → (xs : List A) → AllByRecursion P xs → AllByRecursion Q xs
all_weaker P Q f [] h = tt
all_weaker P Q f (x ∷ xs) h = (f x h.0, all_weaker P Q f xs h.1)

-- ---- up to the first byte that passes a test, and from it on

-- the first byte, if there is one, passes
abbrev pub Begins : (ℕ → Bool) → List ℕ → Type 0
Begins test [] = Unit {0}
Begins test (b ∷ bs) = test b ≡ true

pub up_to_end : (ends : ℕ → Bool) (front rest : List ℕ) → AllByRecursion (λ b. ends b ≡ false) front → Begins ends rest → up_to ends (front ++ rest) ≡ front
up_to_end ends [] [] h e = refl
up_to_end ends [] (b ∷ bs) h e = rw e refl
up_to_end ends (b ∷ bs) rest h e = rw (h.0, up_to_end ends bs rest h.1 e) refl

pub from_end : (ends : ℕ → Bool) (front rest : List ℕ) → AllByRecursion (λ b. ends b ≡ false) front → Begins ends rest → from_first ends (front ++ rest) ≡ rest
from_end ends [] [] h e = refl
from_end ends [] (b ∷ bs) h e = rw e refl
from_end ends (b ∷ bs) rest h e = rw (h.0, from_end ends bs rest h.1 e) refl

-- the two parts, and what they are
pub both_parts : (ends : ℕ → Bool) (text : List ℕ) → up_to ends text ++ from_first ends text ≡ text
both_parts ends [] = refl
both_parts ends (b ∷ bs) = by_test (ends b) (both_parts ends bs)
  where
    by_test : (t : Bool) → up_to ends bs ++ from_first ends bs ≡ bs → cond t [] (b ∷ up_to ends bs) ++ cond t (b ∷ bs) (from_first ends bs) ≡ b ∷ bs
    by_test true ih = refl
    by_test false ih = ap (λ l. b ∷ l) ih

pub up_to_all : (ends : ℕ → Bool) (text : List ℕ) → AllByRecursion (λ b. ends b ≡ false) (up_to ends text)
up_to_all ends [] = tt
up_to_all ends (b ∷ bs) = cond_both (ends b) [] (b ∷ up_to ends bs) (AllByRecursion (λ b. ends b ≡ false)) (λ e. tt) (λ e. (e, up_to_all ends bs))

pub from_begins : (ends : ℕ → Bool) (text : List ℕ) → Begins ends (from_first ends text)
from_begins ends [] = tt
from_begins ends (b ∷ bs) = cond_both (ends b) (b ∷ bs) (from_first ends bs) (Begins ends) (λ e. e) (λ e. from_begins ends bs)

-- ---- ink and blanks

abbrev pub not_blank : ℕ → Bool
not_blank b = not (is_blank b)

pub ink_no_blank : (b : ℕ) → IsInk b → is_blank b ≡ false
ink_no_blank b ink = ne_eqb b 32 ink.0

pub ink_no_comma : (b : ℕ) → IsInk b → is_comma b ≡ false
ink_no_comma b ink = ne_eqb b 44 ink.1

pub ink_no_end : (b : ℕ) → IsInk b → ends_word b ≡ false
ink_no_end b ink = rw (ink_no_blank b ink, ink_no_comma b ink) refl

pub no_end_ink : (b : ℕ) → ends_word b ≡ false → IsInk b
no_end_ink b e = (eqb-false b 32 (or_parts _ _ e).0, eqb-false b 44 (or_parts _ _ e).1)

pub blanks_gone : (n : ℕ) (text : List ℕ) → after_blanks (blanks n ++ text) ≡ after_blanks text
blanks_gone zero text = refl
blanks_gone (suc n) text = blanks_gone n text

pub blanks_only : (n : ℕ) → after_blanks (blanks n) ≡ []
blanks_only n = ap after_blanks (sym (append-nil (blanks n))) ∙ blanks_gone n []

pub ink_stays : (text : List ℕ) → BeginsInked text → after_blanks text ≡ text
ink_stays [] ink = refl
ink_stays (b ∷ bs) ink = rw (ink_no_blank b ink) refl

pub no_comma_gone : (text : List ℕ) → BeginsInked text → after_comma text ≡ text
no_comma_gone [] ink = refl
no_comma_gone (b ∷ bs) ink = rw (ink_no_comma b ink) refl

-- the rest of the line after a lead
pub lead_gone : (lead text : List ℕ) → IsLead lead → BeginsInked text → after_blanks (after_comma (after_blanks (lead ++ text))) ≡ text
lead_gone lead text (Blanks n) ink = rw (blanks_gone n text, ink_stays text ink, no_comma_gone text ink, ink_stays text ink) refl
lead_gone lead text (Separator separator (Comma m n)) ink =
    rw (append_assoc, blanks_gone m, blanks_gone n, ink_stays text ink) refl

-- ---- pieces between commas

-- no byte of the list is a comma
abbrev pub HasNoComma : List ℕ → Type 0
HasNoComma text = AllByRecursion (λ b. is_comma b ≡ false) text

pub blanks_no_comma : (n : ℕ) → HasNoComma (blanks n)
blanks_no_comma zero = tt
blanks_no_comma (suc n) = (refl, blanks_no_comma n)

pub all_append : {A : Type 0} (P : A → Type 0) (xs ys : List A) → AllByRecursion P xs → AllByRecursion P ys → AllByRecursion P (xs ++ ys)
all_append P [] ys g h = h
all_append P (x ∷ xs) ys g h = (g.0, all_append P xs ys g.1 h)

pub field_no_comma : (f : List ℕ) → IsField f → HasNoComma f
field_no_comma f h = all_weaker IsInk (λ b. is_comma b ≡ false) ink_no_comma f h.1

pub split_at_comma : (front rest : List ℕ) → HasNoComma front → slice_split is_comma (front ++ 44 ∷ rest) ≡ front ∷ slice_split is_comma rest
split_at_comma [] rest h = refl
split_at_comma (b ∷ bs) rest h = rw (h.0, split_at_comma bs rest h.1) refl

pub split_onto : (front text piece : List ℕ) (pieces : List (List ℕ)) → HasNoComma front → slice_split is_comma text ≡ piece ∷ pieces
    → slice_split is_comma (front ++ text) ≡ (front ++ piece) ∷ pieces
split_onto [] text piece pieces h e = e
split_onto (b ∷ bs) text piece pieces h e = rw (h.0, split_onto bs text piece pieces h.1 e) refl

-- the first piece and the others
pub first_piece : (at : ℕ → Bool) (text : List ℕ) → (piece : List ℕ) × (pieces : List (List ℕ)) × (slice_split at text ≡ piece ∷ pieces)
first_piece at [] = ([], [], refl)
first_piece at (b ∷ bs) = by_test (at b) (first_piece at bs)
  where
    by_test : (t : Bool) → (piece : List ℕ) × (pieces : List (List ℕ)) × (slice_split at bs ≡ piece ∷ pieces)
        → (piece : List ℕ) × (pieces : List (List ℕ)) × (cond t ([] ∷ slice_split at bs) (onto_first b (slice_split at bs)) ≡ piece ∷ pieces)
    by_test true first = ([], slice_split at bs, refl)
    by_test false (piece, pieces, e) = (b ∷ piece, pieces, ap (onto_first b) e)

-- ---- the field of a piece

pub begins_field : (f rest : List ℕ) → IsField f → BeginsInked (f ++ rest)
begins_field [] rest h = absurd (omega (arith, h.0))
begins_field (b ∷ bs) rest h = h.1.0

pub field_is : (f rest : List ℕ) → IsField f → Begins is_blank rest → field (f ++ rest) ≡ f
field_is f rest h e =
    rw (ink_stays (f ++ rest) (begins_field f rest h)) (up_to_end is_blank f rest (all_weaker IsInk (λ b. is_blank b ≡ false) ink_no_blank f h.1) e)

pub remark_is : (f rest : List ℕ) → IsField f → Begins is_blank rest → remark (f ++ rest) ≡ after_blanks rest
remark_is f rest h e =
    rw (ink_stays (f ++ rest) (begins_field f rest h), from_end is_blank f rest (all_weaker IsInk (λ b. is_blank b ≡ false) ink_no_blank f h.1) e) refl

pub begins_blanks : (n : ℕ) → Begins is_blank (blanks n)
begins_blanks zero = tt
begins_blanks (suc n) = refl

pub begins_more : (test : ℕ → Bool) (front rest : List ℕ) → 0 < length front → Begins test front → Begins test (front ++ rest)
begins_more test [] rest some h = absurd (omega arith)
begins_more test (b ∷ bs) rest some h = h

pub some_not_none : (n : ℕ) → eqb (suc n) 0 ≡ false
some_not_none n = ne_eqb (suc n) 0 (λ e. omega arith)

pub fields_more : (piece : List ℕ) (pieces : List (List ℕ)) → remark piece ≡ [] → fields_of (piece ∷ pieces) ≡ field piece ∷ fields_of pieces
fields_more piece pieces e = ap (λ r. cond (eqb (length r) 0) (field piece ∷ fields_of pieces) (field piece ∷ [])) e

pub fields_last : (piece : List ℕ) (pieces : List (List ℕ)) (b : ℕ) (bs : List ℕ) → remark piece ≡ b ∷ bs → fields_of (piece ∷ pieces) ≡ field piece ∷ []
fields_last piece pieces b bs e =
    ap (λ r. cond (eqb (length r) 0) (field piece ∷ fields_of pieces) (field piece ∷ [])) e
    ∙ ap (λ t. cond t (field piece ∷ fields_of pieces) (field piece ∷ [])) (some_not_none (length bs))

-- blanks before a field don't matter
pub blanks_before : (n : ℕ) (text : List ℕ) → fields_of (slice_split is_comma (blanks n ++ text)) ≡ fields_of (slice_split is_comma text)
blanks_before n text =
    let first = first_piece is_comma text in
    rw (split_onto (blanks n) text first.0 first.1 (blanks_no_comma n) first.2, first.2)
    (ap (λ p. cond (eqb (length (after_blanks (from_first is_blank p))) 0) (up_to is_blank p ∷ fields_of first.1) (up_to is_blank p ∷ []))
    (blanks_gone n first.0))
