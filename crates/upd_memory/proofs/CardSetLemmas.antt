-- Rows of a set of cards that go, and the decks in which they were.
use Rattle.upd_memory.proofs.Common.{◌≡◌, ℕ, ◌+◌, ◌<◌, ◌==◌, Bool, true, false, not, cond, if◌then◌else◌, List, [], ◌∷◌, ◌++◌, length, take, get_or, ap, sym}
use Rattle.upd_memory.proofs.Common.{refl}
use Rattle.upd_memory.proofs.Common.{◌∙◌, ◌&&◌, ◌||◌, subst, filter, list_any, BTreeMap, Vec, CardRef, CardRow, StateRow, IsSame, same_ref, same_filter}
use Rattle.upd_memory.proofs.Common.{filter_twice}
use Rattle.upd_memory.proofs.Common.{AreCards, AreHomes, cards_at, is_home}
use Rattle.std.proofs.lemmas.List.{take_more}
use Rattle.upd_memory.proofs.Common.{None, Some, Decides-eqb, by_name, get, is_eq, option_map_or}
use Rattle.upd_memory.proofs.NameOrderLemmas.{same_by_order}
use Rattle.upd_records.proofs.EffectLemmas.{any_append}
use Rattle.upd_core.specs.Edits as serials
use Rattle.upd_row_store.specs.Ranges.{is_among}
use Rattle.upd_row_store.proofs.RangeLemmas.{among_more, filter_alike, filter_both, filter_none}
use Rattle.upd_memory.proofs.KeyedLemmas.{apart_stay}

-- one card more
pub seen_more : (cards : List CardRef) (i : ℕ) (card x : CardRef) → i < length cards → card ≡ get_or cards i card
    → is_among (take (i + 1) cards) x ≡ (is_among (take i cards) x || same_ref card x)
seen_more cards i card x within is =
    among_more (take i cards) (take (i + 1) cards) card (take_more cards i card within ∙ ap (λ c. take i cards ++ c ∷ []) (sym is)) x

-- a set with one card more
pub put_in : (card x : CardRef) (has among : Bool) → has ≡ among → (if is_eq (by_name card x) then true else has) ≡ (among || same_ref card x)
put_in card x has among is =
    ap (λ b. if is_eq (by_name card x) then true else b) is ∙ go (is_eq (by_name card x)) among ∙ ap (λ b. among || b) (sym (same_by_order card x))
  where
    go : (a b : Bool) → (if a then true else b) ≡ (b || a)
    go true true = refl
    go true false = refl
    go false true = refl
    go false false = refl

-- rows go, as often as they are to go
pub once_or_twice : {A : Type 0} (gone : A → Bool) (a b : Bool) (rows mid new : List A) → mid ≡ (if a then filter (λ x. not (gone x)) rows else rows)
    → new ≡ (if b then filter (λ x. not (gone x)) mid else mid) → new ≡ (if a || b then filter (λ x. not (gone x)) rows else rows)
once_or_twice gone true true rows mid new first second =
    second ∙ ap (filter (λ x. not (gone x))) first ∙ sym (filter_both gone gone gone rows (λ x. twice (gone x)))
  where
    twice : (c : Bool) → c ≡ (c || c)
    twice true = refl
    twice false = refl
once_or_twice gone true false rows mid new first second = second ∙ first
once_or_twice gone false true rows mid new first second = second ∙ ap (filter (λ x. not (gone x))) first
once_or_twice gone false false rows mid new first second = second ∙ first

-- rows of one card more go
pub rows_left : {A : Type 0} (card_of : A → CardRef) (cards : List CardRef) (i : ℕ) (card : CardRef) (rows : List A) → i < length cards → card
    ≡ get_or cards i card
    → filter (λ r. not (same_ref card (card_of r))) (filter (λ r. not (is_among (take i cards) (card_of r))) rows)
    ≡ filter (λ r. not (is_among (take (i + 1) cards) (card_of r))) rows
rows_left card_of cards i card rows within is =
    sym (filter_both (λ r. is_among (take i cards) (card_of r)) (λ r. same_ref card (card_of r)) (λ r. is_among (take (i + 1) cards) (card_of r)) rows
    (λ r. seen_more cards i card (card_of r) within is))

-- where none of the cards is in a deck, none of its rows is of these cards
none_here : (d : ℕ) (cards : List CardRef) (rows : List CardRow) → list_any (λ c. list_any (λ r. (r.deck == d) && same_ref c r.card) rows) cards ≡ false
    → list_any (λ r. (r.deck == d) && is_among cards r.card) rows ≡ false
none_here d [] rows none = nothing rows
  where
    no : (b : Bool) → (b && false) ≡ false
    no true = refl
    no false = refl

    nothing : (rs : List CardRow) → list_any (λ r. (r.deck == d) && false) rs ≡ false
    nothing [] = refl
    nothing (r ∷ rs) = ap (λ b. b || list_any (λ x. (x.deck == d) && false) rs) (no (r.deck == d)) ∙ nothing rs
none_here d (c ∷ cards) rows none =
    either rows (first _ _ none) (none_here d cards rows (second _ _ none))
  where
    first : (a b : Bool) → (a || b) ≡ false → a ≡ false
    first true b e = e
    first false b e = refl

    second : (a b : Bool) → (a || b) ≡ false → b ≡ false
    second true b e = absurd (cc)
    second false b e = e

    none_of : (x s m : Bool) → (x && s) ≡ false → (x && m) ≡ false → (x && (s || m)) ≡ false
    none_of true true m e f = e
    none_of true false m e f = f
    none_of false s m e f = refl

    either : (rs : List CardRow) → list_any (λ r. (r.deck == d) && same_ref c r.card) rs ≡ false
        → list_any (λ r. (r.deck == d) && is_among cards r.card) rs ≡ false
        → list_any (λ r. (r.deck == d) && (same_ref c r.card || is_among cards r.card)) rs ≡ false
    either [] e f = refl
    either (r ∷ rs) e f =
        ap (λ b. b || list_any (λ x. (x.deck == d) && (same_ref c x.card || is_among cards x.card)) rs)
        (none_of (r.deck == d) (same_ref c r.card) (is_among cards r.card) (first _ _ e) (first _ _ f)) ∙ either rs (second _ _ e) (second _ _ f)

-- the rows of all decks, once those of the decks in which cards were have lost theirs
pub cards_left : {Z : Type 0} (old new : BTreeMap ℕ (Vec CardRow Z)) (homes : BTreeMap CardRef ℕ) (rows : List CardRow) (cards : List CardRef)
    (gone : CardRef → Bool)
    (listed : List ℕ) → ((card : CardRef) → gone card ≡ is_among cards card)
    → ((d : ℕ) → serials.is_among listed d ≡ list_any (λ c. is_home homes c d) cards)
    → ((d : ℕ) → cards_at new d ≡ cond (serials.is_among listed d) (filter (λ r. not (gone r.card)) (cards_at old d)) (cards_at old d))
    → AreHomes homes rows → AreCards old rows → AreCards new (filter (λ r. not (is_among cards r.card)) rows)
cards_left old new homes rows cards gone listed same lists left known are d =
    subst (λ xs. IsSame xs (filter (λ r. r.deck == d) (filter (λ r. not (is_among cards r.card)) rows))) (sym (left d)) (go (serials.is_among listed d) refl)
  where
    any_known : (cs : List CardRef) → list_any (λ c. is_home homes c d) cs ≡ list_any (λ c. list_any (λ r. (r.deck == d) && same_ref c r.card) rows) cs
    any_known [] = refl
    any_known (c ∷ cs) = λ i. known c d i || any_known cs i

    go : (b : Bool) → serials.is_among listed d ≡ b → IsSame (cond b (filter (λ r. not (gone r.card)) (cards_at old d)) (cards_at old d))
        (filter (λ r. r.deck == d) (filter (λ r. not (is_among cards r.card)) rows))
    go true e =
        subst (IsSame _) (sym (filter_twice (λ r. r.deck == d) (λ r. not (is_among cards r.card)) rows))
        (subst (λ xs. IsSame xs (filter (λ r. not (is_among cards r.card)) (filter (λ r. r.deck == d) rows)))
        (sym (filter_alike (λ r. gone r.card) (λ r. is_among cards r.card) (cards_at old d) (λ r. same r.card)))
        (same_filter (λ r. not (is_among cards r.card)) (are d)))
    go false e =
        subst (IsSame (cards_at old d)) (sym (apart_stay (λ r. r.deck == d) (λ r. is_among cards r.card) rows
        (none_here d cards rows (sym (any_known cards) ∙ sym (lists d) ∙ e)))) (are d)

-- ---- the decks that are listed

or_none : (a : Bool) → (a || false) ≡ a
or_none true = refl
or_none false = refl

pub listed_more : (decks more : List ℕ) (deck d : ℕ) → more ≡ decks ++ deck ∷ [] → serials.is_among more d ≡ (serials.is_among decks d || (deck == d))
listed_more decks more deck d is =
    ap (λ ds. serials.is_among ds d) is ∙ any_append (λ a. a == d) decks (deck ∷ []) ∙ ap (λ b. serials.is_among decks d || b) (or_none (deck == d))

pub listed_already : (decks : List ℕ) (deck d : ℕ) → serials.is_among decks deck ≡ true → serials.is_among decks d ≡ (serials.is_among decks d || (deck == d))
listed_already decks deck d there = go (deck == d) refl
  where
    go : (b : Bool) → (deck == d) ≡ b → serials.is_among decks d ≡ (serials.is_among decks d || b)
    go true is = let same : deck ≡ d = (Decides-eqb deck d).0 is in
        let here : serials.is_among decks d ≡ true = ap (serials.is_among decks) (sym same) ∙ there in
        here ∙ ap (λ b. b || true) (sym here)
    go false is = sym (or_none (serials.is_among decks d))

pub home_more : (decks more : List ℕ) (homes : BTreeMap CardRef ℕ) (card : CardRef) (deck d : ℕ) → get by_name homes card ≡ Some deck
    → serials.is_among more d ≡ (serials.is_among decks d || (deck == d)) → serials.is_among more d ≡ (serials.is_among decks d || is_home homes card d)
home_more decks more homes card deck d is listed = listed ∙ ap (λ o. serials.is_among decks d || option_map_or (λ home. home == d) o false) (sym is)

pub no_home : (decks : List ℕ) (homes : BTreeMap CardRef ℕ) (card : CardRef) (d : ℕ) → get by_name homes card ≡ None
    → serials.is_among decks d ≡ (serials.is_among decks d || is_home homes card d)
no_home decks homes card d is =
    sym (or_none (serials.is_among decks d)) ∙ ap (λ o. serials.is_among decks d || option_map_or (λ home. home == d) o false) (sym is)
