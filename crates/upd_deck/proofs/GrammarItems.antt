-- A word takes fields exactly when the grammar spells them.
use Rattle.upd_deck.proofs.Common.{◌≡◌, ℕ, ◌<◌, Bool, true, false, cond, eqb, leb, not, ◌&&◌, ◌||◌, List, [], ◌∷◌, ◌++◌, length, length-append, refl, sym, ap}
use Rattle.upd_deck.proofs.Common.{◌∙◌, subst, ⊎_elim, codes, Result, Ok, arith, and_parts, and_from, or_cases, ne_eqb, eqb-true, leb-true, le-leb}
use Rattle.upd_deck.proofs.Common.{false≢true, not_from_false, bytes_eq-Decides, AllByRecursion, AllZip, list_any, bytes_eq, CardRef, FaultKind, is_name}
use Rattle.upd_deck.proofs.Common.{◌>>=◌, NameRange, IdentIn, Word, ItemView, Call, Ident, Deck, CommonDeck, Insert, Before, Delete, Restore, Yank, SelYank}
use Rattle.upd_deck.proofs.Common.{YankDeck, Purge, PurgeFrom, SelPurge, PurDeck, Compile, IsName, IsCard, Card, IsRange, Two, Lone, IsPair, Pair, Takes}
use Rattle.upd_deck.proofs.Common.{TakesCall, TakesIdent, TakesDeck, TakesCommon, TakesMarked, TakesInsert, TakesBefore, TakesDelete, TakesDeletes}
use Rattle.upd_deck.proofs.Common.{TakesRestore, TakesRestores, TakesYank, TakesSelYank, TakesYankDeck, TakesPurge, TakesPurgeFrom, TakesSelPurge}
use Rattle.upd_deck.proofs.Common.{TakesPurDeck, TakesCompile, first_field, last_of_two, are_its_fields, name_in, card_ref_in, ident_in, range_in, each_in}
use Rattle.upd_deck.proofs.Common.{is_from_name, item_with}
use Rattle.upd_deck.specs.declared.word.Word.TheVariants as words
use Rattle.upd_deck.specs.Reading.{two_cards_in}
use Rattle.upd_deck.proofs.GrammarNames.{done, step_back, ok_same, name_parts, name_read, name_back, ident_read, ident_back, range_read, range_back, card_read}
use Rattle.upd_deck.proofs.GrammarNames.{card_back, each_read, each_back}

-- ---- no field is empty

name_filled : (f : List ℕ) → IsName f → 0 < length f
name_filled f h = (name_parts f h).0

joint_filled : (a b : List ℕ) → 0 < length (a ++ 46 ∷ b)
joint_filled a b = rw length-append (omega arith)

card_filled : (f : List ℕ) (c : CardRef) → IsCard f c → 0 < length f
card_filled f d (Card c name some small) = rw length-append (omega arith)

range_filled : (f : List ℕ) (r : NameRange) → IsRange f r → 0 < length f
range_filled f r (Two a b g h) = joint_filled a b
range_filled f r (Lone a g) = name_filled a g

pair_filled : (f : List ℕ) (p : IdentIn) → IsPair f p → 0 < length f
pair_filled f p (Pair d z g h) = joint_filled d z

no_empty : (fs : List (List ℕ)) → AllByRecursion (λ f. 0 < length f) fs → list_any (λ f. eqb (length f) 0) fs ≡ false
no_empty [] h = refl
no_empty (f ∷ fs) h = rw (ne_eqb (length f) 0 (λ e. omega (arith, h.0)), no_empty fs h.1) refl

all_filled : {A : Type 0} (R : List ℕ → A → Type 0) → ((f : List ℕ) (x : A) → R f x → 0 < length f) → (fs : List (List ℕ)) (xs : List A) → AllZip R fs xs
    → AllByRecursion (λ f. 0 < length f) fs
all_filled R filled [] [] h = tt
all_filled R filled [] (x ∷ xs) h = absurd h
all_filled R filled (f ∷ fs) [] h = absurd h
all_filled R filled (f ∷ fs) (x ∷ xs) h = (filled f x h.0, all_filled R filled fs xs h.1)

-- ---- the fields that a word takes are read

has_byte : (f : List ℕ) → 0 < length f → eqb (length f) 0 ≡ false
has_byte f h = ne_eqb (length f) 0 (λ e. omega arith)

-- one field or more, none of them empty
many_filled : (fs : List (List ℕ)) → 0 < length fs → AllByRecursion (λ f. 0 < length f) fs
    → (leb 1 (length fs) && not (list_any (λ f. eqb (length f) 0) fs) && true) ≡ true
many_filled fs some filled = and_from _ _ (and_from _ _ (le-leb 1 (length fs) some) (not_from_false _ (no_empty fs filled))) refl

each_item : {A : Type 0} (R : List ℕ → A → Type 0) (reads : List ℕ → Result A FaultKind) (make : List A → ItemView)
    → ((f : List ℕ) (x : A) → R f x → reads f ≡ Ok x) → (fs : List (List ℕ)) (xs : List A) → AllZip R fs xs
    → (each_in reads fs >>= (λ ys. Ok (make ys))) ≡ Ok (make xs)
each_item R reads make one fs xs h = rw (each_read R reads one fs xs h) refl

-- a name is read as itself
abbrev IsSameName : List ℕ → List ℕ → Type 0
IsSameName f a = IsName f × (f ≡ a)

same_name_read : (f a : List ℕ) → IsSameName f a → name_in f ≡ Ok a
same_name_read f a h = name_read f h.0 ∙ ap Ok h.1

zip_names : (fs : List (List ℕ)) → AllByRecursion IsName fs → AllZip IsSameName fs fs
zip_names [] h = tt
zip_names (f ∷ fs) h = ((h.0, refl), zip_names fs h.1)

one_field : (fs : List (List ℕ)) → eqb (length fs) 1 ≡ true → fs ≡ first_field fs ∷ []
one_field [] e = absurd (false≢true e)
one_field (f ∷ []) e = refl
one_field (f ∷ g ∷ fs) e = absurd (omega (arith, eqb-true (length (f ∷ g ∷ fs)) 1 e))

two_fields : (fs : List (List ℕ)) → eqb (length fs) 2 ≡ true → fs ≡ first_field fs ∷ last_of_two fs ∷ []
two_fields [] e = absurd (false≢true e)
two_fields (f ∷ []) e = absurd (false≢true e)
two_fields (f ∷ g ∷ []) e = refl
two_fields (f ∷ g ∷ h ∷ fs) e = absurd (omega (arith, eqb-true (length (f ∷ g ∷ h ∷ fs)) 2 e))

-- a name and a star
from_name : (fs : List (List ℕ)) → is_from_name fs ≡ true → IsName (first_field fs) × (fs ≡ first_field fs ∷ codes "*" ∷ [])
from_name fs e =
    let three = and_parts (eqb (length fs) 2 && is_name (first_field fs)) (bytes_eq (last_of_two fs) (codes "*")) e in
    let two = and_parts (eqb (length fs) 2) (is_name (first_field fs)) three.0 in
    let star = (bytes_eq-Decides (last_of_two fs) (codes "*")).0 three.1 in
    (two.1, two_fields fs two.0 ∙ ap (λ g. first_field fs ∷ g ∷ []) star)

star_no_range : (r : NameRange) → range_in (codes "*") ≡ Ok r → ⊥
star_no_range r e = absurd cc

-- where the fields are ranges they aren't a name and a star
not_from_name : (fs : List (List ℕ)) (rs : List NameRange) → AllZip IsRange fs rs → is_from_name fs ≡ false
not_from_name fs rs h = by_test (is_from_name fs) refl
  where
    second : (f : List ℕ) (rs : List NameRange) → AllZip IsRange (f ∷ codes "*" ∷ []) rs → ⊥
    second f [] h = h
    second f (r ∷ []) h = h.1
    second f (r ∷ s ∷ more) h = star_no_range s (range_read (codes "*") s h.1.0)

    by_test : (t : Bool) → is_from_name fs ≡ t → t ≡ false
    by_test true e = absurd (second (first_field fs) rs (subst (λ l. AllZip IsRange l rs) (from_name fs e).1 h))
    by_test false e = refl

pub takes_read : (w : Word) (fs : List (List ℕ)) (item : ItemView) → Takes w fs item → (are_its_fields w fs ≡ true) × (item_with w fs ≡ Ok item)
takes_read w fs item (TakesCall a h) = (rw (has_byte a (name_filled a h)) refl, rw (name_read a h) refl)
takes_read w fs item (TakesIdent a h) = (rw (has_byte a (name_filled a h)) refl, rw (name_read a h) refl)
takes_read w fs item (TakesDeck a h) = (rw (has_byte a (name_filled a h)) refl, rw (name_read a h) refl)
takes_read w fs item (TakesCommon a h) = (rw (has_byte a (name_filled a h)) refl, rw (name_read a h) refl)
takes_read w fs item (TakesMarked a h) = (rw (has_byte a (name_filled a h)) refl, rw (name_read a h) refl)
takes_read w fs item (TakesInsert f c h) = (rw (has_byte f (card_filled f c h)) refl, rw (card_read f c h) refl)
takes_read w fs item (TakesBefore f c h) = (rw (has_byte f (card_filled f c h)) refl, rw (card_read f c h) refl)
takes_read w fs item (TakesDelete f c h) = (rw (has_byte f (card_filled f c h)) refl, rw (card_read f c h) refl)
takes_read w fs item (TakesDeletes f g c d h k) =
    (rw (has_byte f (card_filled f c h), has_byte g (card_filled g d k)) refl, rw (card_read f c h, card_read g d k) refl)
takes_read w fs item (TakesRestore f c h) = (rw (has_byte f (card_filled f c h)) refl, rw (card_read f c h) refl)
takes_read w fs item (TakesRestores f g c d h k) =
    (rw (has_byte f (card_filled f c h), has_byte g (card_filled g d k)) refl, rw (card_read f c h, card_read g d k) refl)
takes_read w fs item (TakesYank gs rs some h) =
    (many_filled gs some (all_filled IsRange range_filled gs rs h), each_item IsRange range_in Yank range_read gs rs h)
takes_read w fs item (TakesSelYank gs ps some h) =
    (many_filled gs some (all_filled IsPair pair_filled gs ps h), each_item IsPair ident_in SelYank ident_read gs ps h)
takes_read w fs item (TakesYankDeck gs some h) = (
  many_filled gs some (all_filled IsSameName (λ f a k. name_filled f k.0) gs gs (zip_names gs h)),
  each_item IsSameName name_in YankDeck same_name_read gs gs
      (zip_names gs h),
)
takes_read w fs item (TakesPurge gs rs some h) =
    (many_filled gs some (all_filled IsRange range_filled gs rs h), rw (not_from_name gs rs h) (each_item IsRange range_in Purge range_read gs rs h))
takes_read w fs item (TakesPurgeFrom a h) = (rw (has_byte a (name_filled a h)) refl, rw h refl)
takes_read w fs item (TakesSelPurge gs ps some h) =
    (many_filled gs some (all_filled IsPair pair_filled gs ps h), each_item IsPair ident_in SelPurge ident_read gs ps h)
takes_read w fs item (TakesPurDeck gs rs some h) =
    (many_filled gs some (all_filled IsRange range_filled gs rs h), each_item IsRange range_in PurDeck range_read gs rs h)
takes_read w fs item (TakesCompile gs rs some h) =
    (many_filled gs some (all_filled IsRange range_filled gs rs h), each_item IsRange range_in Compile range_read gs rs h)

-- ---- the fields that are read are those the word takes

right_count : (x y z : Bool) → (x && y && z) ≡ true → x ≡ true
right_count x y z e = (and_parts x y (and_parts (x && y) z e).0).0

name_taken : (w : Word) (make : List ℕ → ItemView) → ((a : List ℕ) → IsName a → Takes w (a ∷ []) (make a)) → (fs : List (List ℕ)) (item : ItemView)
    → eqb (length fs) 1 ≡ true → (name_in (first_field fs) >>= (λ a. Ok (make a))) ≡ Ok item → Takes w fs item
name_taken w make row fs item one e =
    let step = step_back (name_in (first_field fs)) (λ a. Ok (make a)) item e in
    let name = name_back (first_field fs) step.0 step.1 in
    subst (Takes w fs) (ap make name.1
    ∙ ok_same _ _ step.2) (subst (λ l. Takes w l (make (first_field fs))) (sym (one_field fs one)) (row (first_field fs) name.0))

card_taken : (w : Word) (make : CardRef → ItemView) → ((f : List ℕ) (c : CardRef) → IsCard f c → Takes w (f ∷ []) (make c))
    → (fs : List (List ℕ)) (item : ItemView) → eqb (length fs) 1 ≡ true → (card_ref_in (first_field fs) >>= (λ c. Ok (make c))) ≡ Ok item → Takes w fs item
card_taken w make row fs item one e =
    let step = step_back (card_ref_in (first_field fs)) (λ c. Ok (make c)) item e in
    subst (Takes w fs) (ok_same _ _ step.2)
    (subst (λ l. Takes w l (make step.0)) (sym (one_field fs one)) (row (first_field fs) step.0 (card_back (first_field fs) step.0 step.1)))

cards_taken : (w : Word) (make : CardRef → CardRef → ItemView) → ((f : List ℕ) (c : CardRef) → IsCard f c → Takes w (f ∷ []) (make c c))
    → ((f g : List ℕ) (c d : CardRef) → IsCard f c → IsCard g d → Takes w (f ∷ g ∷ []) (make c d)) → (fs : List (List ℕ)) (item : ItemView)
    → (eqb (length fs) 1 || eqb (length fs) 2) ≡ true → two_cards_in fs make ≡ Ok item → Takes w fs item
cards_taken w make one two fs item count e = ⊎_elim (λ h. by_one h) (λ h. by_two h) (or_cases _ _ count)
  where
    f : List ℕ
    f = first_field fs

    g : List ℕ
    g = last_of_two fs

    first : (c : CardRef) × (card_ref_in f ≡ Ok c) × ((card_ref_in g >>= (λ d. Ok (make c d))) ≡ Ok item)
    first = step_back (card_ref_in f) (λ c. card_ref_in g >>= (λ d. Ok (make c d))) item e

    second : (d : CardRef) × (card_ref_in g ≡ Ok d) × (done (make first.0 d) ≡ Ok item)
    second = step_back (card_ref_in g) (λ d. Ok (make first.0 d)) item first.2

    by_one : eqb (length fs) 1 ≡ true → Takes w fs item
    by_one h =
        let alone = one_field fs h in
        let same : f ≡ g = sym (ap last_of_two alone) in
        let card : first.0 ≡ second.0 = ok_same _ _ (sym first.1 ∙ ap card_ref_in same ∙ second.1) in
        subst (Takes w fs) (ap (make first.0) card ∙ ok_same _ _ second.2)
        (subst (λ l. Takes w l (make first.0 first.0)) (sym alone) (one f first.0 (card_back f first.0 first.1)))

    by_two : eqb (length fs) 2 ≡ true → Takes w fs item
    by_two h =
        subst (Takes w fs) (ok_same _ _ second.2)
        (subst (λ l. Takes w l (make first.0 second.0)) (sym (two_fields fs h))
        (two f g first.0 second.0 (card_back f first.0 first.1) (card_back g second.0 second.1)))

each_taken : {A : Type 0} (w : Word) (R : List ℕ → A → Type 0) (reads : List ℕ → Result A FaultKind) (make : List A → ItemView)
    → ((f : List ℕ) (x : A) → reads f ≡ Ok x → R f x) → ((fs : List (List ℕ)) (xs : List A) → 0 < length fs → AllZip R fs xs → Takes w fs (make xs))
    → (fs : List (List ℕ)) (item : ItemView) → leb 1 (length fs) ≡ true → (each_in reads fs >>= (λ xs. Ok (make xs))) ≡ Ok item → Takes w fs item
each_taken w R reads make back row fs item some e =
    let step = step_back (each_in reads fs) (λ xs. Ok (make xs)) item e in
    subst (Takes w fs) (ok_same _ _ step.2) (row fs step.0 (leb-true 1 (length fs) some) (each_back R reads back fs step.0 step.1))

names_of_zip : (fs gs : List (List ℕ)) → AllZip IsSameName fs gs → AllByRecursion IsName fs × (fs ≡ gs)
names_of_zip [] [] h = (tt, refl)
names_of_zip [] (g ∷ gs) h = absurd h
names_of_zip (f ∷ fs) [] h = absurd h
names_of_zip (f ∷ fs) (g ∷ gs) h = let rest = names_of_zip fs gs h.1 in ((h.0.0, rest.0), cc (h.0.1, rest.1))

yank_decks : (fs gs : List (List ℕ)) → 0 < length fs → AllZip IsSameName fs gs → Takes words.YankDeck fs (YankDeck gs)
yank_decks fs gs some h = let names = names_of_zip fs gs h in subst (λ l. Takes words.YankDeck fs (YankDeck l)) names.1 (TakesYankDeck fs some names.0)

common_taken : (fs : List (List ℕ)) (item : ItemView) → are_its_fields words.CommonDeck fs ≡ true → item_with words.CommonDeck fs ≡ Ok item
    → Takes words.CommonDeck fs item
common_taken fs item a e = ⊎_elim by_one by_two (or_cases (eqb (length fs) 1) (eqb (length fs) 2) (right_count _ _ _ a))
  where
    f : List ℕ
    f = first_field fs

    step : (x : List ℕ) × (name_in f ≡ Ok x) × (done (CommonDeck x (eqb (length fs) 2)) ≡ Ok item)
    step = step_back (name_in f) (λ x. Ok (CommonDeck x (eqb (length fs) 2))) item e

    name : IsName f × (f ≡ step.0)
    name = name_back f step.0 step.1

    same : CommonDeck f (eqb (length fs) 2) ≡ item
    same = ap (λ x. CommonDeck x (eqb (length fs) 2)) name.1 ∙ ok_same _ _ step.2

    by_one : eqb (length fs) 1 ≡ true → Takes words.CommonDeck fs item
    by_one h =
        let alone = one_field fs h in
        let plain : CommonDeck f false ≡ item = ap (λ l. CommonDeck f (eqb (length l) 2)) (sym alone) ∙ same in
        subst (Takes words.CommonDeck fs) plain (subst (λ l. Takes words.CommonDeck l (CommonDeck f false)) (sym alone) (TakesCommon f name.0))

    by_two : eqb (length fs) 2 ≡ true → Takes words.CommonDeck fs item
    by_two h =
        let two = two_fields fs h in
        let right = (and_parts _ (eqb (length fs) 1 || bytes_eq (last_of_two fs) (codes "NOPROP")) a).1 in
        let no_one : eqb (length fs) 1 ≡ false = ne_eqb (length fs) 1 (λ one. omega (arith, one, eqb-true (length fs) 2 h)) in
        let mark : last_of_two fs ≡ codes "NOPROP" =
        (bytes_eq-Decides (last_of_two fs) (codes "NOPROP")).0 (sym (ap (λ t. t || bytes_eq (last_of_two fs) (codes "NOPROP")) no_one) ∙ right) in
        let marked : CommonDeck f true ≡ item = ap (CommonDeck f) (sym h) ∙ same in
        subst (Takes words.CommonDeck fs) marked (subst (λ l. Takes words.CommonDeck l (CommonDeck f true)) (sym (two
        ∙ ap (λ g. f ∷ g ∷ []) mark)) (TakesMarked f name.0))

purge_taken : (fs : List (List ℕ)) (item : ItemView) → leb 1 (length fs) ≡ true → item_with words.Purge fs ≡ Ok item → Takes words.Purge fs item
purge_taken fs item some e = by_test (is_from_name fs) refl e
  where
    by_test : (t : Bool) → is_from_name fs ≡ t → cond t (Ok (PurgeFrom (first_field fs))) (each_in range_in fs >>= (λ rs. Ok (Purge rs))) ≡ Ok item
        → Takes words.Purge fs item
    by_test true h e =
        let from =
        from_name fs h in subst (Takes words.Purge fs) (ok_same _ _ e)
        (subst (λ l. Takes words.Purge l (PurgeFrom (first_field fs))) (sym from.1) (TakesPurgeFrom (first_field fs) from.0))
    by_test false h e = each_taken words.Purge IsRange range_in Purge range_back TakesPurge fs item some e

pub takes_back : (w : Word) (fs : List (List ℕ)) (item : ItemView) → are_its_fields w fs ≡ true → item_with w fs ≡ Ok item → Takes w fs item
takes_back words.Call fs item a e = name_taken words.Call Call TakesCall fs item (right_count _ _ _ a) e
takes_back words.Ident fs item a e = name_taken words.Ident Ident TakesIdent fs item (right_count _ _ _ a) e
takes_back words.Deck fs item a e = name_taken words.Deck Deck TakesDeck fs item (right_count _ _ _ a) e
takes_back words.CommonDeck fs item a e = common_taken fs item a e
takes_back words.Insert fs item a e = card_taken words.Insert Insert TakesInsert fs item (right_count _ _ _ a) e
takes_back words.Before fs item a e = card_taken words.Before Before TakesBefore fs item (right_count _ _ _ a) e
takes_back words.Delete fs item a e = cards_taken words.Delete Delete TakesDelete TakesDeletes fs item (right_count _ _ _ a) e
takes_back words.Restore fs item a e = cards_taken words.Restore Restore TakesRestore TakesRestores fs item (right_count _ _ _ a) e
takes_back words.Yank fs item a e = each_taken words.Yank IsRange range_in Yank range_back TakesYank fs item (right_count _ _ _ a) e
takes_back words.SelYank fs item a e = each_taken words.SelYank IsPair ident_in SelYank ident_back TakesSelYank fs item (right_count _ _ _ a) e
takes_back words.YankDeck fs item a e = each_taken words.YankDeck IsSameName name_in YankDeck name_back yank_decks fs item (right_count _ _ _ a) e
takes_back words.Purge fs item a e = purge_taken fs item (right_count _ _ _ a) e
takes_back words.SelPurge fs item a e = each_taken words.SelPurge IsPair ident_in SelPurge ident_back TakesSelPurge fs item (right_count _ _ _ a) e
takes_back words.PurDeck fs item a e = each_taken words.PurDeck IsRange range_in PurDeck range_back TakesPurDeck fs item (right_count _ _ _ a) e
takes_back words.Compile fs item a e = each_taken words.Compile IsRange range_in Compile range_back TakesCompile fs item (right_count _ _ _ a) e
