-- Names, ranges, pairs and card references are read exactly when the grammar spells them.
use Rattle.upd_deck.proofs.Common.{◌≡◌, ℕ, zero, suc, ◌+◌, ◌<◌, Bool, true, false, cond, eqb, leb, not, ◌&&◌, ◌||◌, List, [], ◌∷◌, ◌++◌, length, refl, sym}
use Rattle.upd_deck.proofs.Common.{ap, ◌∙◌, subst, get_or, Some, None, Result, Ok, Err, arith, take-append_seam, or_right, or_parts, and_parts, and_from}
use Rattle.upd_deck.proofs.Common.{not_from_false, not-true, ne_eqb, eqb-true, eqb-false, leb-true, le-leb, false≢true, AllByRecursion, AllZip, list_any}
use Rattle.upd_deck.proofs.Common.{list_all, before_first, after_first, bytes_eq, CardRef, FaultKind, is_name, is_point, ◌>>=◌, need, NameRange, IdentIn}
use Rattle.upd_deck.proofs.Common.{IsName, IsCard, Card, IsRange, Two, Lone, IsPair, Pair, name_in, card_ref_in, names_in, ident_in, range_in, one_in, each_in}
use Rattle.std.proofs.Common.{◌^◌, rules}
use Rattle.std.proofs.Math.Seq.{drop-append-add}
use Rattle.std.proofs.lemmas.Fmt.{decimal_digit, decimal_nonempty, length-decimal-le, first_decimal, digits_decimal, digits_value-decimal, decimal-digits_value}
use Rattle.std.proofs.lemmas.List.{drop_all}
use Rattle.std.proofs.lemmas.Str.Parse.{digits_value_short}
use Rattle.std.specs.Fmt.{decimal}
use Rattle.std.specs.List.{prefix_len}
use Rattle.upd_text.specs.declared.fault.FaultKind.TheVariants as fault
use Rattle.upd_text.specs.Names.{is_between, is_digit, is_name_byte, is_card_number, number_behind, card_text}
use Rattle.upd_text.proofs.CardRefLemmas.{numeral_model}
use Rattle.upd_deck.proofs.GrammarParts.{all_weaker}

-- ---- results in steps

abbrev pub done : {A : Type 0} → A → Result A FaultKind
done x = Ok x

-- an Ok result after a step has an Ok result before it
pub step_back : {A B E : Type 0} (r : Result A E) (f : A → Result B E) (y : B) → (r >>= f) ≡ Ok y → (x : A) × (r ≡ Ok x) × (f x ≡ Ok y)
step_back (Ok x) f y e = (x, refl, e)
step_back (Err x) f y e = absurd cc

pub ok_same : {A E : Type 0} (x y : A) → (let r : Result A E = Ok x in r) ≡ Ok y → x ≡ y
ok_same x y e = cc

pub all_of : {A : Type 0} (test : A → Bool) (xs : List A) → list_all test xs ≡ true → AllByRecursion (λ x. test x ≡ true) xs
all_of test [] e = tt
all_of test (x ∷ xs) e = let both = and_parts (test x) (list_all test xs) e in (both.0, all_of test xs both.1)

pub all_to : {A : Type 0} (test : A → Bool) (xs : List A) → AllByRecursion (λ x. test x ≡ true) xs → list_all test xs ≡ true
all_to test [] h = refl
all_to test (x ∷ xs) h = and_from (test x) (list_all test xs) h.0 (all_to test xs h.1)

-- ---- points

abbrev HasNoPoint : List ℕ → Type 0
HasNoPoint text = AllByRecursion (λ b. is_point b ≡ false) text

name_byte_no_point : (b : ℕ) → is_name_byte b ≡ true → is_point b ≡ false
name_byte_no_point b h = by_point (is_point b) refl
  where
    by_point : (t : Bool) → is_point b ≡ t → t ≡ false
    by_point true e = absurd (false≢true (subst (λ x. is_name_byte x ≡ true) (eqb-true b 46 e) h))
    by_point false e = refl

pub name_parts : (name : List ℕ) → IsName name → (0 < length name) × AllByRecursion (λ b. is_name_byte b ≡ true) name
name_parts name h =
    let three = and_parts (is_between 1 9 (length name) && list_all is_name_byte name) (not (bytes_eq name (42 ∷ []))) h in
    let two = and_parts (is_between 1 9 (length name)) (list_all is_name_byte name) three.0 in
    (leb-true 1 (length name) (and_parts (leb 1 (length name)) (leb (length name) 9) two.0).0, all_of is_name_byte name two.1)

point_place : (a b : List ℕ) → HasNoPoint a → prefix_len (λ x. not (is_point x)) (a ++ 46 ∷ b) ≡ length a
point_place [] b h = refl
point_place (x ∷ xs) b h = rw (h.0, point_place xs b h.1) (omega arith)

before_point : (a b : List ℕ) → HasNoPoint a → before_first is_point (a ++ 46 ∷ b) ≡ a
before_point a b h = rw (point_place a b h) (take-append_seam a (46 ∷ b))

after_point : (a b : List ℕ) → HasNoPoint a → after_first is_point (a ++ 46 ∷ b) ≡ b
after_point a b h = rw (point_place a b h) (drop-append-add a (46 ∷ b) 1)

any_point : (a b : List ℕ) → list_any is_point (a ++ 46 ∷ b) ≡ true
any_point [] b = refl
any_point (x ∷ xs) b = or_right (is_point x) (list_any is_point (xs ++ 46 ∷ b)) (any_point xs b)

no_point : (a : List ℕ) → HasNoPoint a → list_any is_point a ≡ false
no_point [] h = refl
no_point (x ∷ xs) h = rw (h.0, no_point xs h.1) refl

-- nothing follows the first point of a text without points
after_none : (a : List ℕ) → HasNoPoint a → after_first is_point a ≡ []
after_none a h = drop_all (prefix_len (λ x. not (is_point x)) a + 1) a (rw (place a h) (omega arith))
  where
    place : (a : List ℕ) → HasNoPoint a → prefix_len (λ x. not (is_point x)) a ≡ length a
    place [] h = refl
    place (x ∷ xs) h = rw (h.0, place xs h.1) (omega arith)

cut_at_point : (f : List ℕ) → list_any is_point f ≡ true → (a : List ℕ) × (b : List ℕ) × (f ≡ a ++ 46 ∷ b) × HasNoPoint a
cut_at_point [] h = absurd (false≢true h)
cut_at_point (x ∷ xs) h = by_point (is_point x) refl (cut_at_point xs) h
  where
    by_point : (t : Bool) → is_point x ≡ t → (list_any is_point xs ≡ true → (a : List ℕ) × (b : List ℕ) × (xs ≡ a ++ 46 ∷ b) × HasNoPoint a)
        → (t || list_any is_point xs) ≡ true → (a : List ℕ) × (b : List ℕ) × (x ∷ xs ≡ a ++ 46 ∷ b) × HasNoPoint a
    by_point true e ih h = ([], xs, ap (λ c. c ∷ xs) (eqb-true x 46 e), tt)
    by_point false e ih h = let rest = ih h in (x ∷ rest.0, rest.1, ap (λ l. x ∷ l) rest.2, (e, rest.3))

name_no_point : (name : List ℕ) → IsName name → HasNoPoint name
name_no_point name h = all_weaker (λ b. is_name_byte b ≡ true) (λ b. is_point b ≡ false) name_byte_no_point name (name_parts name h).1

-- ---- one name

pub name_read : (name : List ℕ) → IsName name → name_in name ≡ Ok name
name_read name h = rw h refl

pub name_back : (f a : List ℕ) → name_in f ≡ Ok a → IsName f × (f ≡ a)
name_back f a e = by_name (is_name f) refl e
  where
    by_name : (t : Bool) → is_name f ≡ t → cond t (Ok f) (Err fault.BadName) ≡ Ok a → IsName f × (f ≡ a)
    by_name true h e = (h, cc)
    by_name false h e = absurd cc

-- ---- two names

pair_read : {R : Type 0} (make : List ℕ → List ℕ → R) (a b : List ℕ) → IsName a → IsName b
    → (name_in (before_first is_point (a ++ 46 ∷ b)) >>= (λ x. name_in (after_first is_point (a ++ 46 ∷ b)) >>= (λ y. Ok (make x y)))) ≡ Ok (make a b)
pair_read make a b g h =
    let none = name_no_point a g in
    rw (before_point a b none, after_point a b none, name_read a g, name_read b h) refl

no_point_from : (f : List ℕ) → list_any is_point f ≡ false → HasNoPoint f
no_point_from [] h = tt
no_point_from (x ∷ xs) h = let both = or_parts (is_point x) (list_any is_point xs) h in (both.0, no_point_from xs both.1)

-- what precedes the first point and what follows it, where something does
point_back : (f : List ℕ) → (after_first is_point f ≡ [] → ⊥) → f ≡ before_first is_point f ++ 46 ∷ after_first is_point f
point_back f h = by_point (list_any is_point f) refl
  where
    by_point : (t : Bool) → list_any is_point f ≡ t → f ≡ before_first is_point f ++ 46 ∷ after_first is_point f
    by_point true e =
        let cut =
        cut_at_point f e in subst (λ g. g ≡ before_first is_point g ++ 46 ∷ after_first is_point g) (sym cut.2)
        (rw (before_point cut.0 cut.1 cut.3, after_point cut.0 cut.1 cut.3) refl)
    by_point false e = absurd (h (after_none f (no_point_from f e)))

pair_back : {R : Type 0} (make : List ℕ → List ℕ → R) (f : List ℕ) (r : R)
    → (name_in (before_first is_point f) >>= (λ x. name_in (after_first is_point f) >>= (λ y. Ok (make x y)))) ≡ Ok r
    → (a : List ℕ) × (b : List ℕ) × IsName a × IsName b × (f ≡ a ++ 46 ∷ b) × (make a b ≡ r)
pair_back make f r e =
    let first = step_back (name_in (before_first is_point f)) (λ x. name_in (after_first is_point f) >>= (λ y. Ok (make x y))) r e in
    let second = step_back (name_in (after_first is_point f)) (λ y. Ok (make first.0 y)) r first.2 in
    let a = name_back (before_first is_point f) first.0 first.1 in
    let b = name_back (after_first is_point f) second.0 second.1 in (
      before_first is_point f,
      after_first is_point f,
      a.0,
      b.0,
      point_back f (λ none. false≢true (subst (λ l. is_name l ≡ true) none b.0)),
      ap
          (λ x. make x (after_first is_point f)) a.1 ∙ ap (make first.0) b.1 ∙ ok_same _ _ second.2,
    )

pub ident_read : (f : List ℕ) (p : IdentIn) → IsPair f p → ident_in f ≡ Ok p
ident_read f p (Pair d z g h) = pair_read (λ x y. record { deck = x; ident = y }) d z g h

pub ident_back : (f : List ℕ) (p : IdentIn) → ident_in f ≡ Ok p → IsPair f p
ident_back f p e =
    let pair = pair_back {R = IdentIn} (λ x y. record { deck = x; ident = y }) f p e in
    subst (IsPair f) pair.5 (subst (λ g. IsPair g (record { deck = pair.0; ident = pair.1 })) (sym pair.4) (Pair pair.0 pair.1 pair.2 pair.3))

pub range_read : (f : List ℕ) (r : NameRange) → IsRange f r → range_in f ≡ Ok r
range_read f r (Two a b g h) = rw (any_point a b) (pair_read (λ x y. record { first = x; last = y }) a b g h)
range_read f r (Lone a g) = rw (no_point a (name_no_point a g), name_read a g) refl

pub range_back : (f : List ℕ) (r : NameRange) → range_in f ≡ Ok r → IsRange f r
range_back f r e = by_point (list_any is_point f) refl e
  where
    by_point : (t : Bool) → list_any is_point f ≡ t → cond t (names_in f) (name_in f >>= (λ a. Ok (record { first = a; last = a }))) ≡ Ok r → IsRange f r
    by_point true p e =
        let pair = pair_back {R = NameRange} (λ x y. record { first = x; last = y }) f r e in
        subst (IsRange f) pair.5 (subst (λ g. IsRange g (record { first = pair.0; last = pair.1 })) (sym pair.4) (Two pair.0 pair.1 pair.2 pair.3))
    by_point false p e =
        let step = step_back {B = NameRange} (name_in f) (λ a. Ok (record { first = a; last = a })) r e in
        let name = name_back f step.0 step.1 in
        subst (IsRange f) (ap (λ a. record { first = a; last = a }) name.1 ∙ ok_same _ _ step.2) (Lone f name.0)

-- ---- card references

number_small : (n : ℕ) → n < 10 ^ 6 → n < 2 ^ 64
number_small n h = omega arith

number_read : (n : ℕ) → 0 < n → n < 10 ^ 6 → is_card_number (decimal n) ≡ true
number_read n some small =
    let wide = number_small n small in
    let ds : List ℕ = decimal n in
    let length_in : is_between 1 6 (length ds) ≡ true =
    and_from (leb 1 (length ds)) (leb (length ds) 6) (le-leb 1 (length ds) (decimal_nonempty n wide))
    (le-leb (length ds) 6 (length-decimal-le 6 n (omega arith) small wide)) in
    let first = first_decimal n some wide in
    and_from _ _ (and_from _ _ length_in (digits_decimal numeral_model n wide)) (not_from_false _ (ne_eqb (get_or ds 0 0) 48 (λ e. omega arith)))

number_back : (ds : List ℕ) → is_card_number ds ≡ true → (0 < number_behind 0 ds) × (number_behind 0 ds < 10 ^ 6) × (decimal (number_behind 0 ds) ≡ ds)
number_back ds h =
    let three = and_parts (is_between 1 6 (length ds) && list_all is_digit ds) (not (eqb (get_or ds 0 0) 48)) h in
    let two = and_parts (is_between 1 6 (length ds)) (list_all is_digit ds) three.0 in
    let between = and_parts (leb 1 (length ds)) (leb (length ds) 6) two.0 in
    let no_zero : get_or ds 0 0 ≡ 48 → ⊥ = eqb-false (get_or ds 0 0) 48 (not-true (eqb (get_or ds 0 0) 48) three.1) in
    let small : number_behind 0 ds < 10 ^ 6 = digits_value_short numeral_model ds 6 two.1 (leb-true (length ds) 6 between.1) in
    let same : decimal (number_behind 0 ds) ≡ ds =
    decimal-digits_value numeral_model ds two.1 (leb-true 1 (length ds) between.0) (λ e. absurd (no_zero e)) (number_small _ small) in
    (by_zero (number_behind 0 ds) same no_zero, small, same)
  where
    by_zero : (n : ℕ) → decimal n ≡ ds → (get_or ds 0 0 ≡ 48 → ⊥) → 0 < n
    by_zero zero same no_zero = absurd (no_zero (ap (λ l. get_or l 0 0) (sym same ∙ decimal_digit 0 (omega arith))))
    by_zero (suc n) same no_zero = omega arith

pub card_read : (f : List ℕ) (c : CardRef) → IsCard f c → card_ref_in f ≡ Ok c
card_read f d (Card c name some small) =
    let none = name_no_point c.name name in
    let ds : List ℕ = decimal c.number in
    rw (
      before_point c.name ds none,
      after_point c.name ds none,
      name,
      number_read c.number some small,
      digits_value-decimal numeral_model c.number
          (number_small c.number small),
    ) refl

pub card_back : (f : List ℕ) (c : CardRef) → card_ref_in f ≡ Ok c → IsCard f c
card_back f c e = by_test (is_name (before_first is_point f) && is_card_number (after_first is_point f)) refl e
  where
    a : List ℕ
    a = before_first is_point f

    ds : List ℕ
    ds = after_first is_point f

    card : CardRef
    card = record { name = a; number = number_behind 0 ds }

    by_test : (t : Bool) → (is_name a && is_card_number ds) ≡ t → need fault.BadCard (cond t (Some card) None) ≡ Ok c → IsCard f c
    by_test false h e = absurd cc
    by_test true h e =
        let both = and_parts (is_name a) (is_card_number ds) h in
        let number = number_back ds both.1 in
        let same : f ≡ card_text card =
        point_back f (λ none. false≢true (subst (λ l. is_card_number l ≡ true) none both.1)) ∙ ap (λ l. a ++ 46 ∷ l) (sym number.2) in
        subst (IsCard f) (ok_same _ _ e) (subst (λ g. IsCard g card) (sym same) (Card card both.0 number.0 number.1))

-- ---- one after another

pub each_read : {A : Type 0} (R : List ℕ → A → Type 0) (reads : List ℕ → Result A FaultKind) → ((f : List ℕ) (x : A) → R f x → reads f ≡ Ok x)
    → (fs : List (List ℕ)) (xs : List A) → AllZip R fs xs → each_in reads fs ≡ Ok xs
each_read R reads one [] [] h = refl
each_read R reads one [] (x ∷ xs) h = absurd h
each_read R reads one (f ∷ fs) [] h = absurd h
each_read R reads one (f ∷ fs) (x ∷ xs) h = rw (one f x h.0, each_read R reads one fs xs h.1) refl

pub each_back : {A : Type 0} (R : List ℕ → A → Type 0) (reads : List ℕ → Result A FaultKind) → ((f : List ℕ) (x : A) → reads f ≡ Ok x → R f x)
    → (fs : List (List ℕ)) (xs : List A) → each_in reads fs ≡ Ok xs → AllZip R fs xs
each_back R reads one [] xs e = subst (AllZip R []) (ok_same _ _ e) tt
each_back R reads one (f ∷ fs) xs e =
    let found = step_back (one_in reads f) (λ found. each_in reads fs >>= (λ more. Ok (found ++ more))) xs e in
    let first = step_back (reads f) (λ x. Ok (x ∷ [])) found.0 found.1 in
    let rest = step_back (each_in reads fs) (λ more. Ok (found.0 ++ more)) xs found.2 in
    subst (AllZip R (f ∷ fs)) (ap (λ front. front ++ rest.0) (ok_same _ _ first.2) ∙ ok_same _ _ rest.2)
    (one f first.0 first.1, each_back R reads one fs rest.0 rest.1)
