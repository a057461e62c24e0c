-- A card reference has one text.
use Rattle.std.proofs.Common.{◌≡◌, ℕ, ◌+◌, ◌<◌, ◌≤◌, ◌^◌, ◌==◌, nat_le, zero, suc, Bool, true, false, cond, not, ◌&&◌, List, [], ◌∷◌, ◌++◌, length, take, drop}
use Rattle.std.proofs.Common.{get_or, decimal, Some, None, IfSome, sym, ap, ◌∙◌, subst, refl, arith, rules, lit<}
use Rattle.std.specs.List.{list_all, position_or_len, before_first, after_first}
use Rattle.std.proofs.lemmas.Bool.{eqb-true, false≢true, and_parts, and_from, cond_both, cond-true}
use Rattle.std.proofs.lemmas.Bool.Decides.{nat_tests}
use Rattle.std.proofs.lemmas.Fmt.{decimal-digits_value, decimal_digit, digits_decimal, digits_value-decimal, decimal_nonempty, length-decimal-le, first_decimal}
use Rattle.std.proofs.lemmas.Grind.{common_steps}
use Rattle.std.proofs.lemmas.List.{take-append-drop}
use Rattle.std.proofs.lemmas.List.Sums.{prefix_len_stops}
use Rattle.std.proofs.lemmas.Str.Parse.{IsNumeralModel, numerals_by_fold, digits_value_short}
use Rattle.std.proofs.Math.Seq.{drop-cons, take-append_seam, drop-append-add}
use Rattle.upd_text.specs.declared.card_ref.CardRef.{CardRef}
use Rattle.upd_text.specs.Names.{IsReference, card_of, card_text, is_card_number, is_digit, is_name, is_name_byte, is_point, number_behind}

-- these digits are those of std's numerals
pub numeral_model : IsNumeralModel (λ ds. list_all is_digit ds ≡ true) (number_behind 0)
numeral_model = numerals_by_fold _ (search rules) number_behind (search rules)

-- what is before the first point, the point, and what follows it
parts_again : (field : List ℕ) → 0 < length (after_first is_point field) → before_first is_point field ++ 46 ∷ after_first is_point field ≡ field
parts_again field some = at_place (position_or_len is_point field) within (of_not _ (prefix_len_stops (λ b. not (is_point b)) field 0 within))
  where
    within : position_or_len is_point field < length field
    within = grind (arith, common_steps)

    of_not : (b : ℕ) → not (b == 46) ≡ false → b ≡ 46
    of_not b e = grind (arith, nat_tests)

    at_place : (at : ℕ) → at < length field → get_or field at 0 ≡ 46 → take at field ++ 46 ∷ drop (at + 1) field ≡ field
    at_place at within e = grind (arith, common_steps, drop-cons field at 0, take-append-drop at field)

record IsNumber (ds : List ℕ) : Type 0 where
  some : 0 < length ds
  short : length ds ≤ 6
  digits : list_all is_digit ds ≡ true
  first : get_or ds 0 0 ≡ 48 → ⊥

number_facts : (ds : List ℕ) → is_card_number ds ≡ true → IsNumber ds
number_facts ds ok =
    let f = of (length ds) (get_or ds 0 0) (list_all is_digit ds) ok in
    record { some = f.0; short = f.1; digits = f.2; first = f.3 }
  where
    of : (n first : ℕ) (all : Bool) → ((nat_le 1 n && nat_le n 6) && all && not (first == 48)) ≡ true → (0 < n) × (n ≤ 6) × (all ≡ true) × (first ≡ 48 → ⊥)
    of n first all ok = (grind (arith, nat_tests), grind (arith, nat_tests), grind (arith, nat_tests), λ e. grind (arith, nat_tests))

-- a card number is what is written of its value
decimal-number : (ds : List ℕ) → is_card_number ds ≡ true → decimal (number_behind 0 ds) ≡ ds
decimal-number ds ok =
    let f = number_facts ds ok in
    let small : number_behind 0 ds < 10 ^ 6 = digits_value_short numeral_model ds 6 f.digits f.short in
    decimal-digits_value numeral_model ds f.digits f.some (λ e. absurd (f.first e)) (omega (arith, small))

-- the number is between 1 and 999,999
number_is_within : (ds : List ℕ) → is_card_number ds ≡ true → (0 < number_behind 0 ds) × (number_behind 0 ds < 10 ^ 6)
number_is_within ds ok =
    let f = number_facts ds ok in
    (positive (number_behind 0 ds) (decimal-number ds ok) f.first, digits_value_short numeral_model ds 6 f.digits f.short)
  where
    positive : (n : ℕ) → decimal n ≡ ds → (get_or ds 0 0 ≡ 48 → ⊥) → 0 < n
    positive zero e first = absurd (first (ap (λ xs. get_or xs 0 0) (sym e ∙ decimal_digit 0 (lit< tt))))
    positive (suc n) e first = omega arith

-- a name has no point
not_point : (b : ℕ) → is_name_byte b ≡ true → is_point b ≡ false
not_point b ok = of (is_point b) (eqb-true b 46)
  where
    of : (point : Bool) → (point ≡ true → b ≡ 46) → point ≡ false
    of false same = refl
    of true same = let P : ℕ → Type 0 = λ c. is_name_byte c ≡ true in absurd (false≢true (subst P (same refl) ok))

no_point : (name : List ℕ) (ds : List ℕ) → list_all is_name_byte name ≡ true → position_or_len is_point (name ++ 46 ∷ ds) ≡ length name
no_point [] ds ok = refl
no_point (b ∷ name) ds ok = more (is_name_byte b) (list_all is_name_byte name) (is_point b) _ (length name) ok (not_point b) (no_point name ds)
  where
    more : (here later point : Bool) (at n : ℕ) → (here && later) ≡ true → (here ≡ true → point ≡ false) → (later ≡ true → at ≡ n) →
        cond (not point) (1 + at) 0 ≡ suc n
    more here later point at n ok first rest = grind (arith, nat_tests)

-- the digits of a number
is_card_number-decimal : (n : ℕ) → 0 < n → n < 10 ^ 6 → is_card_number (decimal n) ≡ true
is_card_number-decimal n low high =
    of (length (decimal n)) (get_or (decimal n) 0 0) (list_all is_digit (decimal n)) (decimal_nonempty n fits) (length-decimal-le 6 n (lit< tt) high fits)
    (digits_decimal numeral_model n fits) (first_decimal n low fits)
  where
    fits : n < 2 ^ 64
    fits = omega (arith, high)

    of : (len first : ℕ) (all : Bool) → 0 < len → len ≤ 6 → all ≡ true → 48 < first → ((nat_le 1 len && nat_le len 6) && all && not (first == 48)) ≡ true
    of len first all some short digits above = grind (arith, nat_tests)

-- what is known of a field that is read
if_read : (field : List ℕ) (P : CardRef → Type 0)
    → (is_name (before_first is_point field) ≡ true → is_card_number (after_first is_point field) ≡ true →
    P (record { name = before_first is_point field; number = number_behind 0 (after_first is_point field) }))
    → IfSome (card_of field) P
if_read field P holds =
    cond_both (is_name (before_first is_point field) && is_card_number (after_first is_point field))
    (Some (record { name = before_first is_point field; number = number_behind 0 (after_first is_point field) })) None (λ o. IfSome o P)
    (λ ok. holds (and_parts _ _ ok).0 (and_parts _ _ ok).1)
    (λ _. tt)

pub card_text-card_of : (field : List ℕ) → IfSome (card_of field) (λ card. field ≡ card_text card)
card_text-card_of field = if_read field (λ card. field ≡ card_text card)
    (λ name number. rw decimal-number (sym (parts_again field (number_facts (after_first is_point field) number).some)))

pub card_of_is_reference : (field : List ℕ) → IfSome (card_of field) IsReference
card_of_is_reference field = if_read field IsReference (λ name number. (
  name,
  (number_is_within (after_first is_point field) number).0,
  (number_is_within (after_first is_point field) number).1,
))

pub name_bytes : (name : List ℕ) → is_name name ≡ true → list_all is_name_byte name ≡ true
name_bytes name ok = (and_parts _ _ (and_parts _ _ ok).0).1

same_card : (card : CardRef) (name : List ℕ) (number : ℕ) → name ≡ card.name → number ≡ card.number
    → (let read : CardRef = record { name = name; number = number } in read) ≡ card
same_card card name number e f i = record { name = e i; number = f i }

pub card_of-card_text : (card : CardRef) → IsReference card → card_of (card_text card) ≡ Some card
card_of-card_text card ok = again _ _ before behind
  where
    place : position_or_len is_point (card_text card) ≡ length card.name
    place = no_point card.name (decimal card.number) (name_bytes card.name ok.0)

    before : before_first is_point (card_text card) ≡ card.name
    before = rw place (take-append_seam card.name (46 ∷ decimal card.number))

    behind : after_first is_point (card_text card) ≡ decimal card.number
    behind = rw place (drop-append-add card.name (46 ∷ decimal card.number) 1)

    value : number_behind 0 (decimal card.number) ≡ card.number
    value = digits_value-decimal numeral_model card.number (omega (arith, ok.2))

    again : (name digits : List ℕ) → name ≡ card.name → digits ≡ decimal card.number
        → cond (is_name name && is_card_number digits) (Some (record { name = name; number = number_behind 0 digits })) None ≡ Some card
    again name digits e f =
        let named : is_name name ≡ true = rw e ok.0 in
        let numbered : is_card_number digits ≡ true = rw f (is_card_number-decimal card.number ok.1 ok.2) in
        cond-true _ _ _ (and_from _ _ named numbered) ∙ ap Some (same_card card name (number_behind 0 digits) e (ap (number_behind 0) f ∙ value))
