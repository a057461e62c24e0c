-- Each line keeps a state sound.
use Rattle.upd_laws.proofs.Common.{◌≡◌, ℕ, ◌+◌, ◌-◌, ◌<◌, ◌≤◌, Bool, true, false, List, [], ◌∷◌, length, inl, inr, refl, sym, ap, ◌∙◌, subst, arith, Option}
use Rattle.upd_laws.proofs.Common.{Some, None, is_some, Ok, ◌==◌, ◌⊎◌, insert, IsTrue, IfSome, AllByRecursion, CardRef, Ident, Kind, Place, Target}
use Rattle.upd_laws.proofs.Common.{introduced, next_age, new_card, with_deck, with_card, with_yank, purged_in, CardView, DeckView, LibraryView, all_decks}
use Rattle.upd_laws.proofs.Common.{cards_of, held_named, is_deck, is_deck_kind, refuse_if, all_cards, is_held, is_held_deck, stands, IsSound, IdentIn}
use Rattle.upd_laws.proofs.Common.{ItemView, CurrentSet, Inside, State, NewSet, NewDeck, AddsAtEnd, AddsInside, AddsYank, carried, ended, purged_in_all}
use Rattle.upd_laws.proofs.Common.{bind_ok, holds_of, is_reserved, known_deck, known_ident, IsNext, IsCurrentSet, IsHandSound, IsAtEnd, IsInside, IsSpotSound}
use Rattle.upd_laws.proofs.Common.{IsSoundState, all_front, flat}
use Rattle.std.proofs.lemmas.List.Edits.{length-insert}
use Rattle.std.proofs.lemmas.Option.{slice_get_within}
use Rattle.upd_text.specs.declared.fault.FaultKind.TheVariants as fault
use Rattle.upd_core.specs.declared.ident.Kind.TheVariants as kind
use Rattle.upd_core.specs.Library.{place_of}
use Rattle.upd_apply.specs.LineEdits.{after_card}
use Rattle.upd_apply.specs.Step.{is_deck_card, new_name}
use Rattle.upd_apply.proofs.EditLemmas.{IsMove}
use Rattle.upd_apply.specs.Purges.{AgesIn, pair_ages, pairs_purged}
use Rattle.upd_laws.proofs.SoundOutcomeLemmas.{each_all, refusal_ok}
use Rattle.upd_laws.proofs.SoundListLemmas.{is_same_number, other_number, any_last, all_append, all_weaker, HasMore}
use Rattle.upd_laws.proofs.SoundIdentLemmas.{held_within, held_more, held_last, held_deck_last, held_deck_held, not_some}
use Rattle.upd_laws.proofs.SoundCardLemmas.{idents_with, yanks_with, standing_with, cards_with, standing, more_with_card, more_with_yank, more_with_deck}
use Rattle.upd_laws.proofs.SoundYankLemmas.{AreYanked}
use Rattle.upd_laws.proofs.SoundEditLemmas.{none_beyond, introduced_sound, cards_below, deck_sound, card_sound, yank_sound, purged_in_sound}
use Rattle.upd_laws.proofs.SoundNumberLemmas.{next_first, next_own, next_other, next_new}
use Rattle.upd_core.proofs.FoundLemmas.{card_of_place}

-- ---- new idents

name_free : (name : List ℕ) (l : LibraryView) (b : Bool) → new_name name l ≡ Ok b → (held_named name l.idents ≡ None) × (is_reserved name ≡ false)
name_free name l b h = refusal_ok (is_reserved name) fault.Reserved _ b _ h (λ e h1. (go (is_some (held_named name l.idents)) refl h1, e))
  where
    go : (taken : Bool) → is_some (held_named name l.idents) ≡ taken → refuse_if taken fault.NameTaken ≡ Ok b → held_named name l.idents ≡ None
    go true e h1 = absurd (cc)
    go false e h1 = not_some (held_named name l.idents) e

-- no yank card is younger than a serial that no card exceeds
yanks_below : (l : LibraryView) (z : ℕ) → length l.idents ≤ z → IsSound l → AllByRecursion (λ c. c.ident ≤ z) l.yanks
yanks_below l z below s =
    all_weaker (λ (c : CardView). c.ident ≤ length l.idents) _ l.yanks (λ c h. omega arith) (all_front _ l.yanks (flat l.decks) (none_beyond l s))

pub set_sound : (name : List ℕ) (b : Bool) (s : State) → new_name name s.library ≡ Ok b → IsSoundState s → IsSoundState (carried (NewSet name) s)
set_sound name b s new sound = record {
  library = introduced_sound name s.library sound.library free.0 free.1;
  current_set = record {
    held = held_last s.library.idents i refl;
    youngest = yanks_below s.library (next_age s.library) (omega arith) sound.library;
    next =
        next_first (next_age s.library) l (all_weaker (λ (c : CardView). c.ident ≤ length s.library.idents) _ (all_cards s.library)
        (λ c h e. absurd (omega arith)) (none_beyond s.library sound.library));
  };
  insert_point = tt;
}
  where
    l : LibraryView
    l = introduced name kind.Set false s.library

    i : Ident
    i = record { name = name; age = next_age s.library; kind = kind.Set; noprop = false; held = true }

    free : (held_named name s.library.idents ≡ None) × (is_reserved name ≡ false)
    free = name_free name s.library b new

-- ---- the current set while the library changes

hand_moved : (current_set : Option CurrentSet) (l m : LibraryView) → ((h : CurrentSet) → IsCurrentSet h l → IsCurrentSet h m) → IsHandSound current_set l
    → IsHandSound current_set m
hand_moved None l m k h = tt
hand_moved (Some current_set) l m k h = k current_set h

hand_apart : (current_set : Option CurrentSet) (d : ℕ) (l m : LibraryView) → ((h : CurrentSet) → (h.ident ≡ d → ⊥) → IsCurrentSet h l → IsCurrentSet h m)
    → IfSome current_set (λ h. h.ident ≡ d → ⊥) → IsHandSound current_set l → IsHandSound current_set m
hand_apart None d l m k other h = tt
hand_apart (Some current_set) d l m k other h = k current_set other h

hand_is_not : (current_set : Option CurrentSet) (l : LibraryView) (d : ℕ) → ((h : CurrentSet) → IsCurrentSet h l → h.ident ≡ d → ⊥) → IsHandSound current_set l
    → IfSome current_set (λ h. h.ident ≡ d → ⊥)
hand_is_not None l d k h = tt
hand_is_not (Some current_set) l d k h = k current_set h

-- ---- a new deck

pub deck_sound_state : (name : List ℕ) (sort : Kind) (noprop : Bool) (text : List ℕ) (b : Bool) (s : State) → is_deck_kind sort ≡ true
    → new_name name s.library ≡ Ok b → IsSoundState s → IsSoundState (carried (NewDeck name sort noprop text) s)
deck_sound_state name sort noprop text b s deck new sound = record {
  library = deck_sound name sort noprop text s.library deck sound.library free.0 free.1;
  current_set = hand_moved s.current_set s.library m in_hand_after sound.current_set;
  insert_point = record {
    held = held;
    standing = any_last (is_deck a) (all_decks l) d (is_same_number a a refl);
    next =
        next_own a 1 c l m (more_with_deck a c l) refl refl
        (next_first a l (all_weaker (λ (b : CardView). b.ident < a) _ (all_cards l) (λ b h e. absurd (omega arith)) (cards_below s.library sound.library)));
    other = hand_is_not s.current_set s.library a in_hand_below sound.current_set;
  };
}
  where
    a : ℕ
    a = next_age s.library

    c : CardView
    c = new_card a 1 text []

    d : DeckView
    d = record { ident = a; cards = c ∷ [] }

    l : LibraryView
    l = introduced name sort noprop s.library

    m : LibraryView
    m = with_deck d l

    i : Ident
    i = record { name = name; age = a; kind = sort; noprop = noprop; held = true }

    held : is_held_deck l.idents a ≡ true
    held = held_deck_last s.library.idents i refl deck

    in_hand_below : (h : CurrentSet) → IsCurrentSet h s.library → h.ident ≡ a → ⊥
    in_hand_below h in_hand same = let w = held_within 1 s.library.idents h.ident sound.library.ages in_hand.held in omega arith

    in_hand_after : (h : CurrentSet) → IsCurrentSet h s.library → IsCurrentSet h m
    in_hand_after h in_hand = record {
      held = held_more s.library.idents (i ∷ []) h.ident in_hand.held;
      youngest = in_hand.youngest;
      next = next_other h.ident h.next c s.library m (more_with_deck a c l) (λ same. in_hand_below h in_hand (sym same)) in_hand.next;
    }

    free : (held_named name s.library.idents ≡ None) × (is_reserved name ≡ false)
    free = name_free name s.library b new

-- ---- the insertion point

-- a card that is found is in the deck that is named
pub place_within : (card : CardRef) (l : LibraryView) (p : Place) → IsSound l → place_of card l ≡ Some p → p.index < length (cards_of p.deck l)
place_within card l p sound e = let found = card_of_place l card p sound e in slice_get_within (cards_of p.deck l) p.index found.0 found.1

pub behind_within : (n i : ℕ) → i < n → n - (i + 1) < n
behind_within n i h = omega arith

pub move_sound : (item : ItemView) (n : ℕ) (p : Place) (s : State) → IsMove item s p → n < length (cards_of p.deck s.library) → IsSoundState s
    → IsSoundState (record s { insert_point = Inside p.deck n })
move_sound item n p s move within sound =
    record { library = sound.library; current_set = sound.current_set; insert_point = record { in_hand = ap is_some move.held; within = inr within } }

pub before_within : (p : Place) (n : ℕ) → (p.deck == 0) ≡ false → is_deck_card p ≡ false → p.index < n → n - (p.index + 1) + 1 < n
before_within p n outside later within =
    let first : (p.index == 0) ≡ false = rw outside at later in
    let other = other_number p.index 0 first in
    up n p.index within (positive p.index other)
  where
    positive : (i : ℕ) → (i ≡ 0 → ⊥) → 0 < i
    positive i other = grind arith

    up : (n i : ℕ) → i < n → 0 < i → n - (i + 1) + 1 < n
    up n i a b = omega arith

-- ---- text

hand_card : (d after : ℕ) (c : CardView) (l : LibraryView) (h : CurrentSet) (n : ℕ) → (d ≡ 0 → ⊥) → IsCurrentSet h l → IsNext h.ident n (with_card d after c l)
    → IsCurrentSet (record { ident = h.ident; next = n }) (with_card d after c l)
hand_card d after c l h n other in_hand next =
    let change : List CardView → List CardView = λ cards. insert cards (length cards - after) c in
    record {
      held = subst (λ idents. IsTrue (is_held idents h.ident)) (sym (idents_with d change l)) in_hand.held;
      youngest = subst (AllByRecursion (λ (c : CardView). c.ident ≤ h.ident)) (sym (yanks_with d change l other)) in_hand.youngest;
      next = next;
    }

-- at the end of a deck
pub end_sound : (text : List ℕ) (d n : ℕ) (s : State) → IsSoundState s → IsAtEnd d n s.current_set s.library → IsSoundState (carried (AddsAtEnd d n text) s)
end_sound text d n s sound at = record {
  library = card_sound d 0 c l sound.library at.standing positive (next_new d n text [] l (held_deck_held l.idents d at.held) at.next) refl (inl refl);
  current_set = hand_apart s.current_set d l m in_hand_after at.other sound.current_set;
  insert_point = record {
    held = subst (λ idents. IsTrue (is_held_deck idents d)) (sym (idents_with d change l)) at.held;
    standing = standing_with d change l ∙ at.standing;
    next = next_own d n c l m more refl refl at.next;
    other = at.other;
  };
}
  where
    l : LibraryView
    l = s.library

    c : CardView
    c = new_card d n text []

    m : LibraryView
    m = with_card d 0 c l

    change : List CardView → List CardView
    change cards = insert cards (length cards - 0) c

    positive : d ≡ 0 → ⊥
    positive e = let w = held_within 1 l.idents d sound.library.ages (held_deck_held l.idents d at.held) in omega arith

    more : HasMore c (all_cards l) (all_cards m)
    more = more_with_card d 0 c l at.standing

    in_hand_after : (h : CurrentSet) → (h.ident ≡ d → ⊥) → IsCurrentSet h l → IsCurrentSet h m
    in_hand_after h other in_hand = hand_card d 0 c l h h.next positive in_hand (next_other h.ident h.next c l m more (λ e. other (sym e)) in_hand.next)

-- inside a deck
pub inside_sound : (text : List ℕ) (d after : ℕ) (h : CurrentSet) (s : State) → s.insert_point ≡ Inside d after → s.current_set ≡ Some h → (d == 0) ≡ false
    → IsSoundState s → IsSoundState (carried (AddsInside d after h text) s)
inside_sound text d after h s point held outside sound =
    let more = more_with_card d after c l stands_there in
    record {
      library = card_sound d after c l sound.library stands_there other (next_new h.ident h.next text [] l was.held was.next) refl (inr inside);
      current_set = hand_card d after c l h (h.next + 1) other was (next_own h.ident h.next c l m more refl refl was.next);
      insert_point = subst (λ point. IsSpotSound point (Some (after_card h)) m) (sym point) (record { in_hand = refl; within = inr longer });
    }
  where
    l : LibraryView
    l = s.library

    c : CardView
    c = new_card h.ident h.next text []

    m : LibraryView
    m = with_card d after c l

    was : IsCurrentSet h l
    was = subst (λ o. IsHandSound o l) held sound.current_set

    at : IsInside d after s.current_set l
    at = subst (λ point. IsSpotSound point s.current_set l) point sound.insert_point

    other : d ≡ 0 → ⊥
    other = other_number d 0 outside

    inside : after < length (cards_of d l)
    inside = in_deck at.within
      where
        in_deck : (d ≡ 0) ⊎ (after < length (cards_of d l)) → after < length (cards_of d l)
        in_deck (inl zero) = absurd (other zero)
        in_deck (inr within) = within

    stands_there : stands d l ≡ true
    stands_there = standing d l after inside

    longer : after < length (cards_of d m)
    longer =
        let cards = cards_of d l in
        let e = ap length (cards_with d (λ cards. insert cards (length cards - after) c) l stands_there) in
        let f = length-insert cards (length cards - after) c (omega (arith, inside)) in
        omega (arith, inside)

-- ---- yanks

pub yank_sound_state : (text : List ℕ) (found : List Target) (h : CurrentSet) (s : State) → s.current_set ≡ Some h → AreYanked h.ident found
    → IsSoundState s → IsSoundState (carried (AddsYank h text found) s)
yank_sound_state text found h s held yanked sound =
    let l = s.library in
    let c : CardView = new_card h.ident h.next text found in
    let was : IsCurrentSet h l = subst (λ o. IsHandSound o l) held sound.current_set in
    record {
      library = yank_sound h.ident h.next text found l sound.library (next_new h.ident h.next text found l was.held was.next) was.youngest yanked;
      current_set = record {
        held = was.held;
        youngest = all_append (λ (b : CardView). b.ident ≤ h.ident) l.yanks (c ∷ []) was.youngest (omega arith, tt);
        next = next_own h.ident h.next c l (with_yank c l) (more_with_yank c l) refl refl was.next;
      };
      insert_point = tt;
    }

-- ---- purges

-- an ident and a deck that isn't its own
abbrev pub AreOthers : List AgesIn → Type 0
AreOthers ages = AllByRecursion (λ a. a.ident ≡ a.deck → ⊥) ages

pub others_found : (pairs : List IdentIn) (l : LibraryView) (ages : List AgesIn) → pairs_purged pairs l ≡ Ok ages → AreOthers ages
others_found pairs l ages h = each_all (λ (a : AgesIn). a.ident ≡ a.deck → ⊥) (pair_ages l) pairs ages one h
  where
    one : (pair : IdentIn) (found : List AgesIn) → pair_ages l pair ≡ Ok found → AreOthers found
    one pair found h =
        bind_ok (known_deck pair.deck l) _ found (AreOthers found) h (λ d e h1.
        bind_ok (known_ident pair.ident l) _ found (AreOthers found) h1 (λ z f h2.
        refusal_ok (z == d) fault.DeckCard _ found (AreOthers found) h2 (λ g h3. holds_of AreOthers _ found h3 (other_number z d g, tt))))

pub purged_in_all_sound : (ages : List AgesIn) (l : LibraryView) → AreOthers ages → IsSound l → IsSound (purged_in_all ages l)
purged_in_all_sound [] l others s = s
purged_in_all_sound (a ∷ ages) l others s = purged_in_all_sound ages (purged_in a.deck a.ident l) others.1 (purged_in_sound a.deck a.ident l others.0 s)

pub ended_sound : (l : LibraryView) → IsSound l → IsSoundState (ended l)
ended_sound l s = record { library = s; current_set = tt; insert_point = tt }
