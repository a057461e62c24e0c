-- Walks one after the other.
use Rattle.upd_compile.proofs.Common.{◌≡◌, ℕ, zero, suc, ◌+◌, ◌-◌, ◌<◌, true, false, ◌==◌, ◌&&◌, List, [], ◌∷◌, ◌++◌, map, drop, length, get_or, Some, None}
use Rattle.upd_compile.proofs.Common.{Ok, Err, Result, refl, arith, ◌∙◌, flat_map, at_drop_more, FaultKind, Ident, ActiveCardView, ActiveDeckView}
use Rattle.upd_compile.proofs.Common.{ActivesView, is_call, called, ◌>>=◌, ProgressView, after_event, after_events, WalkEvent, Line, Follow, Unknown}
use Rattle.upd_compile.proofs.Common.{common_named, card_events, walk}
use Rattle.std.proofs.Common.{sub-one, Bor}

-- events after events
pub after_events-append : (idents : List Ident) (es fs : List WalkEvent) (p : ProgressView)
    → after_events idents (es ++ fs) p ≡ after_events idents es p >>= after_events idents fs
after_events-append idents [] fs p = refl
after_events-append idents (e ∷ es) fs p =
    elim (after_event idents e p) as (λ r. (r >>= after_events idents (es ++ fs)) ≡ (r >>= after_events idents es) >>= after_events idents fs)
    [ Ok q ↦ after_events-append idents es fs q | Err fault ↦ refl ]

-- the events of a card that isn't a call
pub events-text : (deep : ℕ) (a : ActivesView) (c : ActiveCardView) → is_call c.text ≡ false → card_events deep a c ≡ Line c ∷ []
events-text zero a c text = rw text refl
events-text (suc deep) a c text = rw text refl

-- the events of a call whose name is not a held common deck
pub events-unknown : (deep : ℕ) (a : ActivesView) (c : ActiveCardView) → 0 < deep → is_call c.text ≡ true → common_named (called c.text) a ≡ None
    → card_events deep a c ≡ Unknown ∷ []
events-unknown zero a c h call none = absurd (omega arith)
events-unknown (suc deep) a c h call none = rw (call, none) refl

-- the events of a call of a held common deck
pub events-followed : (deep : ℕ) (a : ActivesView) (c : ActiveCardView) (d : ActiveDeckView) → 0 < deep → is_call c.text ≡ true
    → common_named (called c.text) a ≡ Some d
    → card_events deep a c ≡ Follow ∷ walk (deep - 1) a d
events-followed zero a c d h call named = absurd (omega arith)
events-followed (suc deep) a c d h call named = rw (call, named, sub-one) refl

-- the events of a deck from a card on that isn't its first
pub walk-at_card : (deep : ℕ) (a : ActivesView) (d : ActiveDeckView) (i : ℕ) (c : ActiveCardView) (idents : List Ident) (p : ProgressView)
    → i < length d.cards → c ≡ get_or d.cards i c → (c.ident == d.ident) && (c.number == 1) ≡ false
    → after_events idents (walk deep a (record d { cards = drop i d.cards })) p
    ≡ after_events idents (card_events deep a c) p >>= after_events idents (walk deep a (record d { cards = drop (i + 1) d.cards }))
walk-at_card deep a d i c idents p h e first =
    let F : List ActiveCardView → Result ProgressView FaultKind = λ cards. after_events idents (walk deep a (record d { cards = cards })) p in
    at_drop_more F d.cards i c h ∙ rw (← e, first) (after_events-append idents (card_events deep a c) _ p)

-- its first card has no events
pub walk-at_first : (deep : ℕ) (a : ActivesView) (d : ActiveDeckView) (i : ℕ) (c : ActiveCardView) → i < length d.cards → c ≡ get_or d.cards i c
    → (c.ident == d.ident) && (c.number == 1) ≡ true
    → walk deep a (record d { cards = drop i d.cards }) ≡ walk deep a (record d { cards = drop (i + 1) d.cards })
walk-at_first deep a d i c h e first =
    let F : List ActiveCardView → List WalkEvent = λ cards. walk deep a (record d { cards = cards }) in
    at_drop_more F d.cards i c h ∙ rw (← e, first) refl

-- walks through decks, from one of them on
pub walks-at_deck : (deep : ℕ) (a : ActivesView) (decks : List (Bor ActiveDeckView)) (i : ℕ) (d : Bor ActiveDeckView) (idents : List Ident)
    (p : ProgressView) → i < length decks → d ≡ get_or decks i d
    → after_events idents (flat_map (walk deep a) (map (λ d. d.now) (drop i decks))) p
    ≡ after_events idents (walk deep a d.now) p >>= after_events idents (flat_map (walk deep a) (map (λ d. d.now) (drop (i + 1) decks)))
walks-at_deck deep a decks i d idents p h e =
    let F : List (Bor ActiveDeckView) → Result ProgressView FaultKind = λ decks. after_events idents (flat_map (walk deep a) (map (λ d. d.now) decks)) p in
    at_drop_more F decks i d h ∙ rw (← e) (after_events-append idents (walk deep a d.now) _ p)
