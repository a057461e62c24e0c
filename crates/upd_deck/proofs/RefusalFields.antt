-- The fields of a word are refused exactly as the order of refusals says.
use Rattle.upd_deck.proofs.Common.{◌≡◌, ℕ, zero, suc, Bool, true, false, cond, eqb, not, ◌&&◌, ◌⊎◌, inl, inr, ⊎_elim, List, [], ◌∷◌, ◌++◌, length, codes}
use Rattle.upd_deck.proofs.Common.{refl, sym, ap, ◌∙◌, subst, Option, Some, None, Result, Ok, Err, arith, and_parts, or_left, or_right, or_cases, both_ways}
use Rattle.upd_deck.proofs.Common.{false_from_ne_true, false≢true, eqb-true, bytes_eq-Decides, AllByRecursion, AllZip, Contains, list_any, before_first}
use Rattle.upd_deck.proofs.Common.{after_first, bytes_eq, CardRef, FaultKind, is_name, is_point, ◌>>=◌, need, refuse_if, NameRange, IdentIn, Word, ItemView}
use Rattle.upd_deck.proofs.Common.{Call, Ident, Deck, CommonDeck, Insert, Before, Delete, Restore, Yank, SelYank, YankDeck, Purge, PurgeFrom, SelPurge}
use Rattle.upd_deck.proofs.Common.{PurDeck, Compile, IsName, IsCard, IsRange, IsPair, Takes, TakesCall, TakesIdent, TakesDeck, TakesCommon, TakesMarked}
use Rattle.upd_deck.proofs.Common.{TakesInsert, TakesBefore, TakesDelete, TakesDeletes, TakesRestore, TakesRestores, TakesYank, TakesSelYank, TakesYankDeck}
use Rattle.upd_deck.proofs.Common.{TakesPurge, TakesPurgeFrom, TakesSelPurge, TakesPurDeck, TakesCompile, first_field, last_of_two, are_its_fields, name_in}
use Rattle.upd_deck.proofs.Common.{card_ref_in, names_in, ident_in, range_in, one_in, each_in, is_from_name, item_with, item_by}
use Rattle.upd_text.specs.declared.fault.FaultKind.TheVariants as fault
use Rattle.upd_text.specs.Names.{card_of}
use Rattle.upd_deck.specs.declared.word.Word.TheVariants as words
use Rattle.upd_deck.specs.Reading.{may_have, is_marked_right}
use Rattle.upd_deck.specs.Refusals.{AreMisplaced, Count, Empty, Mark, IsWanted, field_fault, EndsInStar, FromName, FieldsFail, Whole, Leftmost}
use Rattle.upd_deck.proofs.GrammarNames.{done, name_read, ident_read, ident_back, range_read, range_back, card_read, card_back}
use Rattle.upd_deck.proofs.GrammarItems.{takes_read, takes_back}

-- ---- results in steps

pub ok_not_err : {A E : Type 0} (r : Result A E) (x : A) (e : E) → r ≡ Ok x → r ≡ Err e → ⊥
ok_not_err (Ok y) x e ok err = absurd cc
ok_not_err (Err e') x e ok err = absurd cc

pub err_same : {A E : Type 0} (e e' : E) → (let r : Result A E = Err e in r) ≡ Err e' → e ≡ e'
err_same e e' h = cc

-- ---- fields as a whole

no_bytes : (f : List ℕ) → eqb (length f) 0 ≡ true → f ≡ []
no_bytes [] e = refl
no_bytes (b ∷ bs) e = absurd (omega (arith, eqb-true (length (b ∷ bs)) 0 e))

abbrev is_empty : List ℕ → Bool
is_empty f = eqb (length f) 0

empty_in : (fs : List (List ℕ)) → list_any is_empty fs ≡ true → Contains fs []
empty_in [] h = absurd (false≢true h)
empty_in (f ∷ fs) h = ⊎_elim (λ e. (0, omega arith, no_bytes f e)) (λ e. further (empty_in fs e)) (or_cases (is_empty f) (list_any is_empty fs) h)
  where
    further : Contains fs [] → Contains (f ∷ fs) []
    further (k, lt, e) = (suc k, omega arith, e)

any_empty : (fs : List (List ℕ)) → Contains fs [] → list_any is_empty fs ≡ true
any_empty [] (k, lt, e) = absurd (omega arith)
any_empty (f ∷ fs) (zero, lt, e) = or_left (is_empty f) (list_any is_empty fs) (ap is_empty e)
any_empty (f ∷ fs) (suc k, lt, e) = or_right (is_empty f) (list_any is_empty fs) (any_empty fs (k, omega arith, e))

mark_back : (fs : List (List ℕ)) → may_have words.CommonDeck (length fs) ≡ true → is_marked_right words.CommonDeck fs ≡ false
    → AreMisplaced words.CommonDeck fs
mark_back [] count h = absurd (false≢true count)
mark_back (f ∷ []) count h = absurd (false≢true (sym h))
mark_back (f ∷ g ∷ []) count h = Mark f g (λ e. both_ways (bytes_eq g (codes "NOPROP")) h ((bytes_eq-Decides g (codes "NOPROP")).1 e))
mark_back (f ∷ g ∷ x ∷ fs) count h =
    absurd (⊎_elim (λ e. omega (arith, eqb-true (length (f ∷ g ∷ x ∷ fs)) 1 e)) (λ e. omega (arith, eqb-true (length (f ∷ g ∷ x ∷ fs)) 2 e))
    (or_cases (eqb (length (f ∷ g ∷ x ∷ fs)) 1) (eqb (length (f ∷ g ∷ x ∷ fs)) 2) count))

marked_back : (w : Word) (fs : List (List ℕ)) → may_have w (length fs) ≡ true → is_marked_right w fs ≡ false → AreMisplaced w fs
marked_back words.CommonDeck fs count h = mark_back fs count h
marked_back _ fs count h = absurd (false≢true (sym h))

misplaced_back : (w : Word) (fs : List (List ℕ)) → are_its_fields w fs ≡ false → AreMisplaced w fs
misplaced_back w fs h = by_count (may_have w (length fs)) refl
  where
    by_empty : (t : Bool) → may_have w (length fs) ≡ true → list_any is_empty fs ≡ t → AreMisplaced w fs
    by_empty true count e = Empty w fs (empty_in fs e)
    by_empty false count e = marked_back w fs count (sym (rw (count, e) refl) ∙ h)

    by_count : (t : Bool) → may_have w (length fs) ≡ t → AreMisplaced w fs
    by_count false e = Count w fs e
    by_count true e = by_empty (list_any is_empty fs) e refl

pub and_no : (t : Bool) → (t && false) ≡ false
and_no true = refl
and_no false = refl

misplaced_read : (w : Word) (fs : List (List ℕ)) → AreMisplaced w fs → are_its_fields w fs ≡ false
misplaced_read w fs (Count _ _ e) = rw e refl
misplaced_read w fs (Empty _ _ e) = rw (any_empty fs e, and_no (may_have w (length fs))) refl
misplaced_read w fs (Mark name mark other) =
    let differs : bytes_eq mark (codes "NOPROP") ≡ false = false_from_ne_true _ (λ e. other ((bytes_eq-Decides mark (codes "NOPROP")).0 e)) in
    ap (λ t. (may_have w (length fs) && not (list_any is_empty fs)) && t) differs ∙ and_no (may_have w (length fs) && not (list_any is_empty fs))

-- ---- the fault of a field

-- a value read in one step is refused by that step
pub made_err : {A B E : Type 0} (r : Result A E) (make : A → B) (e : E) → (r >>= (λ x. Ok (make x))) ≡ Err e → r ≡ Err e
made_err (Ok x) make e h = absurd cc
made_err (Err e') make e h = ap Err (err_same e' e h)

made_fault : {A B : Type 0} (r : Result A FaultKind) (make : A → B) (kind k : FaultKind) → ((e : FaultKind) → r ≡ Err e → e ≡ kind)
    → (r >>= (λ x. Ok (make x))) ≡ Err k → k ≡ kind
made_fault (Ok x) make kind k own h = absurd cc
made_fault (Err e) make kind k own h = own k cc

name_fault : (f : List ℕ) (k : FaultKind) → name_in f ≡ Err k → k ≡ fault.BadName
name_fault f k e = by_test (is_name f) e
  where
    by_test : (t : Bool) → cond t (done f) (Err fault.BadName) ≡ Err k → k ≡ fault.BadName
    by_test true e = absurd cc
    by_test false e = cc

card_fault : (f : List ℕ) (k : FaultKind) → card_ref_in f ≡ Err k → k ≡ fault.BadCard
card_fault f k e = by_card (card_of f) e
  where
    by_card : (card : Option CardRef) → need fault.BadCard card ≡ Err k → k ≡ fault.BadCard
    by_card (Some card) e = absurd cc
    by_card None e = cc

-- a value read in two steps is refused by one of them
two_fault : {A B C : Type 0} (r : Result A FaultKind) (s : Result B FaultKind) (make : A → B → C) (kind k : FaultKind)
    → ((e : FaultKind) → r ≡ Err e → e ≡ kind) → ((e : FaultKind) → s ≡ Err e → e ≡ kind)
    → (r >>= (λ x. s >>= (λ y. Ok (make x y)))) ≡ Err k → k ≡ kind
two_fault (Ok x) s make kind k first second h = made_fault s (make x) kind k second h
two_fault (Err e) s make kind k first second h = first k cc

pair_fault : (f : List ℕ) (k : FaultKind) → ident_in f ≡ Err k → k ≡ fault.BadName
pair_fault f k e =
    two_fault {C = IdentIn} (name_in (before_first is_point f)) (name_in (after_first is_point f)) (λ d z. record { deck = d; ident = z }) fault.BadName k
    (name_fault (before_first is_point f)) (name_fault (after_first is_point f)) e

range_fault : (f : List ℕ) (k : FaultKind) → range_in f ≡ Err k → k ≡ fault.BadName
range_fault f k e = by_point (list_any is_point f) e
  where
    by_point : (t : Bool) → cond t (names_in f) (name_in f >>= (λ a. Ok (record { first = a; last = a }))) ≡ Err k → k ≡ fault.BadName
    by_point true e =
        two_fault {C = NameRange} (name_in (before_first is_point f)) (name_in (after_first is_point f)) (λ a b. record { first = a; last = b })
        fault.BadName k (name_fault (before_first is_point f)) (name_fault (after_first is_point f)) e
    by_point false e = made_fault {B = NameRange} (name_in f) (λ a. record { first = a; last = a }) fault.BadName k (name_fault f) e

each_fault : {A : Type 0} (reads : List ℕ → Result A FaultKind) (kind : FaultKind) → ((f : List ℕ) (k : FaultKind) → reads f ≡ Err k → k ≡ kind)
    → (fs : List (List ℕ)) (k : FaultKind) → each_in reads fs ≡ Err k → k ≡ kind
each_fault reads kind own [] k e = absurd cc
each_fault {A = A} reads kind own (f ∷ fs) k e =
    two_fault (one_in reads f) (each_in reads fs) (λ found more. found ++ more) kind k (λ k' e'. made_fault (reads f) (λ x. x ∷ []) kind k' (own f) e')
    (each_fault reads kind own fs) e

purge_fault : (fs : List (List ℕ)) (k : FaultKind) → item_with words.Purge fs ≡ Err k → k ≡ fault.BadName
purge_fault fs k e = by_star (is_from_name fs) e
  where
    by_star : (t : Bool) → cond t (done (PurgeFrom (first_field fs))) (each_in range_in fs >>= (λ rs. Ok (Purge rs))) ≡ Err k → k ≡ fault.BadName
    by_star true e = absurd cc
    by_star false e = made_fault (each_in range_in fs) Purge fault.BadName k (each_fault range_in fault.BadName range_fault fs) e

-- all fields of a word have one fault
item_fault : (w : Word) (fs : List (List ℕ)) (k : FaultKind) → item_with w fs ≡ Err k → k ≡ field_fault w
item_fault words.Call fs k e = made_fault (name_in (first_field fs)) Call fault.BadName k (name_fault (first_field fs)) e
item_fault words.Ident fs k e = made_fault (name_in (first_field fs)) Ident fault.BadName k (name_fault (first_field fs)) e
item_fault words.Deck fs k e = made_fault (name_in (first_field fs)) Deck fault.BadName k (name_fault (first_field fs)) e
item_fault words.CommonDeck fs k e =
    made_fault (name_in (first_field fs)) (λ name. CommonDeck name (eqb (length fs) 2)) fault.BadName k (name_fault (first_field fs)) e
item_fault words.Insert fs k e = made_fault (card_ref_in (first_field fs)) Insert fault.BadCard k (card_fault (first_field fs)) e
item_fault words.Before fs k e = made_fault (card_ref_in (first_field fs)) Before fault.BadCard k (card_fault (first_field fs)) e
item_fault words.Delete fs k e =
    two_fault (card_ref_in (first_field fs)) (card_ref_in (last_of_two fs)) Delete fault.BadCard k (card_fault (first_field fs)) (card_fault (last_of_two fs)) e
item_fault words.Restore fs k e =
    two_fault (card_ref_in (first_field fs)) (card_ref_in (last_of_two fs)) Restore fault.BadCard k
    (card_fault (first_field fs)) (card_fault (last_of_two fs)) e
item_fault words.Yank fs k e = made_fault (each_in range_in fs) Yank fault.BadName k (each_fault range_in fault.BadName range_fault fs) e
item_fault words.SelYank fs k e = made_fault (each_in ident_in fs) SelYank fault.BadName k (each_fault ident_in fault.BadName pair_fault fs) e
item_fault words.YankDeck fs k e = made_fault (each_in name_in fs) YankDeck fault.BadName k (each_fault name_in fault.BadName name_fault fs) e
item_fault words.Purge fs k e = purge_fault fs k e
item_fault words.SelPurge fs k e = made_fault (each_in ident_in fs) SelPurge fault.BadName k (each_fault ident_in fault.BadName pair_fault fs) e
item_fault words.PurDeck fs k e = made_fault (each_in range_in fs) PurDeck fault.BadName k (each_fault range_in fault.BadName range_fault fs) e
item_fault words.Compile fs k e = made_fault (each_in range_in fs) Compile fault.BadName k (each_fault range_in fault.BadName range_fault fs) e

-- ---- what the word requires

zip_all : {A : Type 0} (R : List ℕ → A → Type 0) (fs : List (List ℕ)) (xs : List A) → AllZip R fs xs → AllByRecursion (λ f. (x : A) × R f x) fs
zip_all R [] xs h = tt
zip_all R (f ∷ fs) [] h = absurd h
zip_all R (f ∷ fs) (x ∷ xs) h = ((x, h.0), zip_all R fs xs h.1)

-- the fields that a word takes are what it requires, except for the one star
takes_wanted : (w : Word) (fs : List (List ℕ)) (item : ItemView) → Takes w fs item → AllByRecursion (IsWanted w) fs ⊎ EndsInStar w fs
takes_wanted w fs item (TakesCall a h) = inl (h, tt)
takes_wanted w fs item (TakesIdent a h) = inl (h, tt)
takes_wanted w fs item (TakesDeck a h) = inl (h, tt)
takes_wanted w fs item (TakesCommon a h) = inl (h, tt)
takes_wanted w fs item (TakesMarked a h) = inl (h, (refl, tt))
takes_wanted w fs item (TakesInsert f c h) = inl ((c, h), tt)
takes_wanted w fs item (TakesBefore f c h) = inl ((c, h), tt)
takes_wanted w fs item (TakesDelete f c h) = inl ((c, h), tt)
takes_wanted w fs item (TakesDeletes f g c d h k) = inl ((c, h), ((d, k), tt))
takes_wanted w fs item (TakesRestore f c h) = inl ((c, h), tt)
takes_wanted w fs item (TakesRestores f g c d h k) = inl ((c, h), ((d, k), tt))
takes_wanted w fs item (TakesYank gs rs some h) = inl (zip_all IsRange gs rs h)
takes_wanted w fs item (TakesSelYank gs ps some h) = inl (zip_all IsPair gs ps h)
takes_wanted w fs item (TakesYankDeck gs some h) = inl h
takes_wanted w fs item (TakesPurge gs rs some h) = inl (zip_all IsRange gs rs h)
takes_wanted w fs item (TakesPurgeFrom a h) = inr (FromName a h)
takes_wanted w fs item (TakesSelPurge gs ps some h) = inl (zip_all IsPair gs ps h)
takes_wanted w fs item (TakesPurDeck gs rs some h) = inl (zip_all IsRange gs rs h)
takes_wanted w fs item (TakesCompile gs rs some h) = inl (zip_all IsRange gs rs h)

-- ---- the leftmost field that is not what the word requires

done_wanted : {A B : Type 0} (r : Result A FaultKind) (make : A → B) (x : A) (k : FaultKind) → r ≡ Ok x → (r >>= (λ y. Ok (make y))) ≡ Err k → ⊥
done_wanted (Ok y) make x k ok e = absurd cc
done_wanted (Err e') make x k ok e = absurd cc

cards_wanted : (make : CardRef → CardRef → ItemView) (f g : List ℕ) (k : FaultKind) → (c : CardRef) × IsCard f c → (c : CardRef) × IsCard g c
    → (card_ref_in f >>= (λ a. card_ref_in g >>= (λ b. Ok (make a b)))) ≡ Err k → ⊥
cards_wanted make f g k (c, h) (d, i) e = ok_not_err _ (make c d) k (rw (card_read f c h, card_read g d i) refl) e

each_wanted : {A : Type 0} (reads : List ℕ → Result A FaultKind) (P : List ℕ → Type 0) → ((f : List ℕ) → P f → (x : A) × (reads f ≡ Ok x))
    → (fs : List (List ℕ)) → AllByRecursion P fs → (xs : List A) × (each_in reads fs ≡ Ok xs)
each_wanted reads P ok [] all = ([], refl)
each_wanted reads P ok (f ∷ fs) all =
    let first = ok f all.0 in
    let rest = each_wanted reads P ok fs all.1 in
    (first.0 ∷ rest.0, rw (first.1, rest.1) refl)

ranges_wanted : (make : List NameRange → ItemView) (fs : List (List ℕ)) (k : FaultKind) → AllByRecursion (λ f. (r : NameRange) × IsRange f r) fs
    → (each_in range_in fs >>= (λ rs. Ok (make rs))) ≡ Err k → ⊥
ranges_wanted make fs k all e =
    let read = each_wanted range_in (λ f. (r : NameRange) × IsRange f r) (λ f h. (h.0, range_read f h.0 h.1)) fs all in
    done_wanted (each_in range_in fs) make read.0 k read.1 e

pairs_wanted : (make : List IdentIn → ItemView) (fs : List (List ℕ)) (k : FaultKind) → AllByRecursion (λ f. (p : IdentIn) × IsPair f p) fs
    → (each_in ident_in fs >>= (λ ps. Ok (make ps))) ≡ Err k → ⊥
pairs_wanted make fs k all e =
    let read = each_wanted ident_in (λ f. (p : IdentIn) × IsPair f p) (λ f h. (h.0, ident_read f h.0 h.1)) fs all in
    done_wanted (each_in ident_in fs) make read.0 k read.1 e

purge_wanted : (fs : List (List ℕ)) (k : FaultKind) → AllByRecursion (λ f. (r : NameRange) × IsRange f r) fs → item_with words.Purge fs ≡ Err k → ⊥
purge_wanted fs k all e = by_star (is_from_name fs) e
  where
    by_star : (t : Bool) → cond t (done (PurgeFrom (first_field fs))) (each_in range_in fs >>= (λ rs. Ok (Purge rs))) ≡ Err k → ⊥
    by_star true e = absurd cc
    by_star false e = ranges_wanted Purge fs k all e

-- a word that may have this number of fields, each of them what it requires, isn't refused
wanted_read : (w : Word) (fs : List (List ℕ)) → may_have w (length fs) ≡ true → AllByRecursion (IsWanted w) fs → (k : FaultKind)
    → item_with w fs ≡ Err k → ⊥
wanted_read words.Call [] some all k e = false≢true some
wanted_read words.Call (f ∷ fs) some all k e = done_wanted (name_in f) Call f k (name_read f all.0) e
wanted_read words.Ident [] some all k e = false≢true some
wanted_read words.Ident (f ∷ fs) some all k e = done_wanted (name_in f) Ident f k (name_read f all.0) e
wanted_read words.Deck [] some all k e = false≢true some
wanted_read words.Deck (f ∷ fs) some all k e = done_wanted (name_in f) Deck f k (name_read f all.0) e
wanted_read words.CommonDeck [] some all k e = false≢true some
wanted_read words.CommonDeck (f ∷ fs) some all k e =
    done_wanted (name_in f) (λ name. CommonDeck name (eqb (length (f ∷ fs)) 2)) f k (name_read f all.0) e
wanted_read words.Insert [] some all k e = false≢true some
wanted_read words.Insert (f ∷ fs) some all k e = done_wanted (card_ref_in f) Insert all.0.0 k (card_read f all.0.0 all.0.1) e
wanted_read words.Before [] some all k e = false≢true some
wanted_read words.Before (f ∷ fs) some all k e = done_wanted (card_ref_in f) Before all.0.0 k (card_read f all.0.0 all.0.1) e
wanted_read words.Delete [] some all k e = false≢true some
wanted_read words.Delete (f ∷ []) some all k e = cards_wanted Delete f f k all.0 all.0 e
wanted_read words.Delete (f ∷ g ∷ fs) some all k e = cards_wanted Delete f g k all.0 all.1.0 e
wanted_read words.Restore [] some all k e = false≢true some
wanted_read words.Restore (f ∷ []) some all k e = cards_wanted Restore f f k all.0 all.0 e
wanted_read words.Restore (f ∷ g ∷ fs) some all k e = cards_wanted Restore f g k all.0 all.1.0 e
wanted_read words.Yank fs some all k e = ranges_wanted Yank fs k all e
wanted_read words.SelYank fs some all k e = pairs_wanted SelYank fs k all e
wanted_read words.YankDeck fs some all k e =
    let read = each_wanted name_in IsName (λ f h. (f, name_read f h)) fs all in
    done_wanted (each_in name_in fs) YankDeck read.0 k read.1 e
wanted_read words.Purge fs some all k e = purge_wanted fs k all e
wanted_read words.SelPurge fs some all k e = pairs_wanted SelPurge fs k all e
wanted_read words.PurDeck fs some all k e = ranges_wanted PurDeck fs k all e
wanted_read words.Compile fs some all k e = ranges_wanted Compile fs k all e

-- a field has the value that is read from it, or no value
read_or_not : {A : Type 0} (R : A → Type 0) (r : Result A FaultKind) → ((x : A) → r ≡ Ok x → R x) → ((x : A) → R x → r ≡ Ok x)
    → ((x : A) × R x) ⊎ ¬ ((x : A) × R x)
read_or_not R (Ok x) back read = inl (x, back x refl)
read_or_not R (Err k) back read = inr (λ h. ok_not_err (Err k) h.0 k (read h.0 h.1) refl)

name_or_not : (f : List ℕ) → IsName f ⊎ ¬ (IsName f)
name_or_not f = by_test (is_name f)
  where
    by_test : (t : Bool) → (t ≡ true) ⊎ ¬ (t ≡ true)
    by_test true = inl refl
    by_test false = inr false≢true

card_or_not : (f : List ℕ) → ((c : CardRef) × IsCard f c) ⊎ ¬ ((c : CardRef) × IsCard f c)
card_or_not f = read_or_not (IsCard f) (card_ref_in f) (card_back f) (card_read f)

range_or_not : (f : List ℕ) → ((r : NameRange) × IsRange f r) ⊎ ¬ ((r : NameRange) × IsRange f r)
range_or_not f = read_or_not (IsRange f) (range_in f) (range_back f) (range_read f)

pair_or_not : (f : List ℕ) → ((p : IdentIn) × IsPair f p) ⊎ ¬ ((p : IdentIn) × IsPair f p)
pair_or_not f = read_or_not (IsPair f) (ident_in f) (ident_back f) (ident_read f)

wanted_or_not : (w : Word) (f : List ℕ) → IsWanted w f ⊎ ¬ (IsWanted w f)
wanted_or_not words.Call f = name_or_not f
wanted_or_not words.Ident f = name_or_not f
wanted_or_not words.Deck f = name_or_not f
wanted_or_not words.CommonDeck f = name_or_not f
wanted_or_not words.Insert f = card_or_not f
wanted_or_not words.Before f = card_or_not f
wanted_or_not words.Delete f = card_or_not f
wanted_or_not words.Restore f = card_or_not f
wanted_or_not words.Yank f = range_or_not f
wanted_or_not words.SelYank f = pair_or_not f
wanted_or_not words.YankDeck f = name_or_not f
wanted_or_not words.Purge f = range_or_not f
wanted_or_not words.SelPurge f = pair_or_not f
wanted_or_not words.PurDeck f = range_or_not f
wanted_or_not words.Compile f = range_or_not f

abbrev Unwanted : (List ℕ → Type 0) → List (List ℕ) → Type 0
Unwanted P fs = (front : List (List ℕ)) × (f : List ℕ) × (behind : List (List ℕ)) × (fs ≡ front ++ f ∷ behind) × AllByRecursion P front × ¬ (P f)

leftmost : (P : List ℕ → Type 0) → ((f : List ℕ) → P f ⊎ ¬ (P f)) → (fs : List (List ℕ)) → AllByRecursion P fs ⊎ Unwanted P fs
leftmost P test [] = inl tt
leftmost P test (f ∷ fs) = by_first (test f) (leftmost P test fs)
  where
    by_first : P f ⊎ ¬ (P f) → AllByRecursion P fs ⊎ Unwanted P fs → AllByRecursion P (f ∷ fs) ⊎ Unwanted P (f ∷ fs)
    by_first (inr bad) rest = inr ([], f, fs, refl, tt, bad)
    by_first (inl h) (inl all) = inl (h, all)
    by_first (inl h) (inr (front, g, behind, e, all, bad)) = inr (f ∷ front, g, behind, ap (λ l. f ∷ l) e, (h, all), bad)

-- what holds of all holds of each
all_at : {A : Type 0} (P : A → Type 0) (front behind : List A) (x : A) → AllByRecursion P (front ++ x ∷ behind) → P x
all_at P [] behind x h = h.0
all_at P (y ∷ front) behind x h = all_at P front behind x h.1

-- ---- the fields of a word

its_fields : (w : Word) (fs : List (List ℕ)) → ¬ (AreMisplaced w fs) → are_its_fields w fs ≡ true
its_fields w fs placed = by_test (are_its_fields w fs) refl
  where
    by_test : (t : Bool) → are_its_fields w fs ≡ t → t ≡ true
    by_test true e = refl
    by_test false e = absurd (placed (misplaced_back w fs e))

pub fields_fail_read : (w : Word) (fs : List (List ℕ)) (k : FaultKind) → FieldsFail w fs k → item_by (Some w) fs ≡ Err k
fields_fail_read w fs k (Whole _ _ misplaced) = ap (λ t. refuse_if (not t) fault.BadField >>= (λ _. item_with w fs)) (misplaced_read w fs misplaced)
fields_fail_read w fs k (Leftmost _ _ front behind f placed star parts wanted bad) =
    let its = its_fields w fs placed in
    ap (λ t. refuse_if (not t) fault.BadField >>= (λ _. item_with w fs)) its ∙ by_item its (item_with w fs) refl
  where
    by_item : are_its_fields w fs ≡ true → (r : Result ItemView FaultKind) → item_with w fs ≡ r → r ≡ Err (field_fault w)
    by_item its (Err k) e = ap Err (item_fault w fs k e)
    by_item its (Ok item) e =
        absurd (⊎_elim (λ all. bad (all_at (IsWanted w) front behind f (subst (AllByRecursion (IsWanted w)) parts all))) star
        (takes_wanted w fs item (takes_back w fs item its e)))

no_star : (w : Word) (fs : List (List ℕ)) (k : FaultKind) → item_with w fs ≡ Err k → ¬ (EndsInStar w fs)
no_star w fs k e (FromName a h) = ok_not_err (item_with w fs) (PurgeFrom a) k (takes_read w fs (PurgeFrom a) (TakesPurgeFrom a h)).1 e

pub fields_fail_back : (w : Word) (fs : List (List ℕ)) (k : FaultKind) → item_by (Some w) fs ≡ Err k → FieldsFail w fs k
fields_fail_back w fs k e = by_test (are_its_fields w fs) refl e
  where
    by_wanted : are_its_fields w fs ≡ true → item_with w fs ≡ Err k → AllByRecursion (IsWanted w) fs ⊎ Unwanted (IsWanted w) fs → FieldsFail w fs k
    by_wanted its e (inl all) = absurd (wanted_read w fs (and_parts _ _ (and_parts _ _ its).0).0 all k e)
    by_wanted its e (inr (front, f, behind, parts, wanted, bad)) =
        subst (FieldsFail w fs) (sym (item_fault w fs k e))
        (Leftmost w fs front behind f (λ m. both_ways (are_its_fields w fs) (misplaced_read w fs m) its) (no_star w fs k e) parts wanted bad)

    by_test : (t : Bool) → are_its_fields w fs ≡ t → (refuse_if (not t) fault.BadField >>= (λ _. item_with w fs)) ≡ Err k → FieldsFail w fs k
    by_test false its e = subst (FieldsFail w fs) (err_same _ _ e) (Whole w fs (misplaced_back w fs its))
    by_test true its e = by_wanted its e (leftmost (IsWanted w) (wanted_or_not w) fs)
