-- Which cards are in the decks of their own idents, as decks are edited.
use Rattle.upd_core.proofs.Common.{◌≡◌, ℕ, suc, ◌+◌, Bool, true, false, not, ◌||◌, ◌&&◌, if◌then◌else◌, ◌-◌, List, [], ◌∷◌, ◌++◌, length, map, take, drop}
use Rattle.upd_core.proofs.Common.{get_or, insert, Option, Some, None, refl, arith, All, nat_tests, ◌==◌, Entry, entered_in, inserted_in, deck_without}
use Rattle.upd_core.proofs.Common.{entered, entered_range, without_entries, without_idents, at_first, index_from, AreHome, StayNoted, is_home, CardView}
use Rattle.upd_core.proofs.Common.{DeckView, is_card, is_deck}
use Rattle.std.proofs.Common.{filter}
use Rattle.std.proofs.lemmas.List.Elements.{All-append, All-cons, All-drop, All-filter, All-map, All-take}
use Rattle.upd_core.specs.Edits.{decks_without}
use Rattle.upd_core.specs.Homes.{IsHome, may_stray}

-- ---- flags

or_kept : (a b c : Bool) → (b ≡ true → c ≡ true) → (a || b) ≡ true → (a || c) ≡ true
or_kept true b c more e = refl
or_kept false b c more e = more e

pub home_kept : (old new : List Bool) (deck : ℕ) (c : CardView) → StayNoted old new → is_home old deck c ≡ true → is_home new deck c ≡ true
home_kept old new deck c more home = or_kept (c.ident == deck) (may_stray old c.ident) (may_stray new c.ident) (more c.ident) home

-- more flags leave the cards of a deck home
pub deck_kept : (old new : List Bool) (deck : ℕ) (cards : List CardView) → StayNoted old new → All (λ c. is_home old deck c ≡ true) cards →
    All (λ c. is_home new deck c ≡ true) cards
deck_kept old new deck cards more home = λ k c within. home_kept old new deck (get_or cards k c) more (home k c within)

-- and those of all decks
pub decks_kept : (old new : List Bool) (decks : List DeckView) → StayNoted old new → AreHome old decks → AreHome new decks
decks_kept old new decks more home = λ k d within.
    deck_kept old new (get_or decks k d).ident (get_or decks k d).cards more (home k d within)

-- ---- edits

changed_first : {A : Type 0} (P : A → Type 0) (x changed : A) (xs later : List A) (b : Bool) → P x → All P xs → All P later → (b ≡ true → P changed) →
    All P (if b then changed ∷ xs else x ∷ later)
changed_first P x changed xs later true here all same changes = All-cons P changed xs (changes refl) all
changed_first P x changed xs later false here all same changes = All-cons P x later here same

-- what holds of each element still holds after a change of the first that passes a test, where it holds of the changed one
pub at_first_all : {A : Type 0} (P : A → Type 0) (test : A → Bool) (change : A → A) (xs : List A) → ((x : A) → test x ≡ true → P x → P (change x)) →
    All P xs → All P (at_first test change xs)
at_first_all P test change [] keeps all = all
at_first_all P test change (x ∷ xs) keeps all =
    let here : P x = all 0 x (omega arith) in
    let rest : All P xs = λ k d within. all (suc k) d (omega arith) in
    changed_first P x (change x) xs (at_first test change xs) (test x) here rest (at_first_all P test change xs keeps rest) (λ e. keeps x e here)

-- a card that is home in the deck with a serial
pub home_inserted : (flags : List Bool) (age behind : ℕ) (card : CardView) (decks : List DeckView) → is_home flags age card ≡ true → AreHome flags decks →
    AreHome flags (inserted_in age behind card decks)
home_inserted flags age behind card decks here home = at_first_all (IsHome flags) (is_deck age) _ decks added home
  where
    added : (d : DeckView) → is_deck age d ≡ true → IsHome flags d → IsHome flags (record d { cards = insert d.cards (length d.cards - behind) card })
    added d is all =
        let P : CardView → Type 0 = λ c. is_home flags d.ident c ≡ true in
        let same : d.ident ≡ age = grind (arith, nat_tests) in
        let one : P card = rw same here in
        let at = length d.cards - behind in
        All-append P (take at d.cards) (card ∷ drop at d.cards) (All-take P at d.cards all) (All-cons P card (drop at d.cards) one (All-drop P at d.cards all))

-- entries on a range of cards
pub home_entered : (flags : List Bool) (age from to : ℕ) (e : Entry) (decks : List DeckView) → AreHome flags decks
    → AreHome flags (entered_in age from to e decks)
home_entered flags age from to e decks home = at_first_all (IsHome flags) (is_deck age) _ decks entered_there home
  where
    entered_there : (d : DeckView) → is_deck age d ≡ true → IsHome flags d → IsHome flags (record d { cards = entered_range from to e d.cards })
    entered_there d is all =
        let P : CardView → Type 0 = λ c. is_home flags d.ident c ≡ true in
        let middle = drop from (take (to + 1) d.cards) in
        All-append P (take from d.cards ++ map (entered e) middle) (drop (to + 1) d.cards)
        (All-append P (take from d.cards) (map (entered e) middle) (All-take P from d.cards all)
        (All-map P (entered e) middle (All-drop P from (take (to + 1) d.cards) (All-take P (to + 1) d.cards all))))
        (All-drop P (to + 1) d.cards all)

-- what is left of the cards of a deck
cards_left : (flags : List Bool) (deck : ℕ) (gone : ℕ → Bool) (cards : List CardView) → All (λ c. is_home flags deck c ≡ true) cards →
    All (λ c. is_home flags deck c ≡ true) (without_idents gone cards)
cards_left flags deck gone cards all =
    let P : CardView → Type 0 = λ c. is_home flags deck c ≡ true in
    All-map P (without_entries gone) (filter (λ c. not (gone c.ident)) cards) (All-filter (λ c. not (gone c.ident)) P cards all)

-- what is left of decks
pub home_left : (flags : List Bool) (gone : ℕ → Bool) (decks : List DeckView) → AreHome flags decks → AreHome flags (decks_without gone decks)
home_left flags gone decks home =
    let kept = filter (λ d. not (gone d.ident)) decks in
    let all : AreHome flags kept = All-filter (λ d. not (gone d.ident)) (IsHome flags) decks home in
    All-map (IsHome flags) (deck_without gone) kept
    (λ k d within. cards_left flags (get_or kept k d).ident gone (get_or kept k d).cards (all k d within))

-- what is left of one deck
pub home_left_in : (flags : List Bool) (age : ℕ) (gone : ℕ → Bool) (decks : List DeckView) → AreHome flags decks →
    AreHome flags (at_first (is_deck age) (λ d. record d { cards = without_idents gone d.cards }) decks)
home_left_in flags age gone decks home =
    at_first_all (IsHome flags) (is_deck age) _ decks (λ d is all. cards_left flags d.ident gone d.cards all) home

-- ---- look-ups

-- a card in a deck other than that of an ident that doesn't stray isn't of that ident
is_other : (flags : List Bool) (deck ident own : ℕ) → ((own == deck) || may_stray flags own) ≡ true → may_stray flags ident ≡ false →
    (deck == ident) ≡ false → (own == ident) ≡ false
is_other flags deck ident own home stays other = by_test (own == ident) refl
  where
    by_test : (b : Bool) → (own == ident) ≡ b → b ≡ false
    by_test false e = refl
    by_test true e =
        let same : own ≡ ident = grind (arith, nat_tests) in
        let stays_too : may_stray flags own ≡ false = rw same stays in
        let away : (own == deck) ≡ false = rw same (grind (arith, nat_tests)) in
        absurd (cc)

none_first : (n : ℕ) (b : Bool) (later : Option ℕ) → b ≡ false → later ≡ None → (if b then Some n else later) ≡ None
none_first n true later e none = absurd (cc)
none_first n false later e none = none

test_fails : (a b : Bool) → a ≡ false → (a && b) ≡ false
test_fails true b e = absurd (cc)
test_fails false b e = refl

-- a deck of another ident has no card of one that doesn't stray
pub no_card_away : (flags : List Bool) (deck ident number n : ℕ) (cards : List CardView) → may_stray flags ident ≡ false → (deck == ident) ≡ false →
    All (λ c. is_home flags deck c ≡ true) cards → index_from (is_card ident number) n cards ≡ None
no_card_away flags deck ident number n [] stays other all = refl
no_card_away flags deck ident number n (c ∷ cs) stays other all =
    let here : is_card ident number c ≡ false =
    test_fails (c.ident == ident) (c.number == number) (is_other flags deck ident c.ident (all 0 c (omega arith)) stays other) in
    none_first n (is_card ident number c) (index_from (is_card ident number) (n + 1) cs) here
    (no_card_away flags deck ident number (n + 1) cs stays other (λ k d within. all (suc k) d (omega arith)))
