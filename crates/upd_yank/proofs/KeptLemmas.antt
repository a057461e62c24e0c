-- A card that a run didn't touch was in its deck before, with the same history, and had the status that this gives by the counts before.
use Rattle.upd_yank.proofs.Common.{◌≡◌, ℕ, zero, suc, ◌-◌, ◌<◌, Bool, true, false, not, ◌&&◌, List, [], ◌∷◌, map, slice_get, Some, inl, inr, refl, ap, sym}
use Rattle.upd_yank.proofs.Common.{◌∙◌, arith, ◌==◌, ◌⊎◌, list_any, filter, flat_map, AllByRecursion, Contains, and_parts, or_parts, nat_tests, Decides-eqb}
use Rattle.upd_yank.proofs.Common.{list_any-append, same_Some, all_of_contained, contained_at, status_at, Entry, Ident, counted_card, CardView, DeckView}
use Rattle.upd_yank.proofs.Common.{LibraryView, all_decks, cards_of, ref_of, Continues, IsSound, is_active, live_cards, live_targets, status_of, live_count}
use Rattle.upd_yank.proofs.Common.{touched, same_ref, same_ref_own, is_touched, status_before, is_active_by}
use Rattle.upd_core.proofs.FoundLemmas.{card_at, card_held, card_place, held_at, in_flat}
use Rattle.upd_core.specs.Library.{is_card, name_of}
use Rattle.upd_core.specs.Sound.{is_held}
use Rattle.upd_core.specs.Entries.{same_entry}
use Rattle.upd_apply.specs.Applying.{same_history, stood_in}
use Rattle.upd_yank.proofs.FindLemmas.{any_at, cards_found}
use Rattle.upd_yank.proofs.FlipLemmas.{status_is}
use Rattle.upd_records.proofs.EqualLemmas.{same_entry_is}

-- ---- what a test of none finds

none_flat : {A B : Type 0} (test : B → Bool) (f : A → List B) (xs : List A) → list_any test (flat_map f xs) ≡ false →
    AllByRecursion (λ x. list_any test (f x) ≡ false) xs
none_flat test f [] e = tt
none_flat test f (x ∷ xs) e =
    let p = or_parts (list_any test (f x)) (list_any test (flat_map f xs)) (sym (list_any-append test (f x) (flat_map f xs)) ∙ e) in
    (p.0, none_flat test f xs p.1)

none_listed : {A B : Type 0} (test : B → Bool) (f : A → B) (p : A → Bool) (xs : List A) → list_any test (map f (filter p xs)) ≡ false →
    AllByRecursion (λ x. p x ≡ true → test (f x) ≡ false) xs
none_listed test f p [] e = tt
none_listed test f p (x ∷ xs) e = go (p x) refl (none_listed test f p xs)
  where
    go : (b : Bool) → p x ≡ b → (list_any test (map f (filter p xs)) ≡ false → AllByRecursion (λ x. p x ≡ true → test (f x) ≡ false) xs) →
        (p x ≡ true → test (f x) ≡ false) × AllByRecursion (λ x. p x ≡ true → test (f x) ≡ false) xs
    go true g later = let both = or_parts (test (f x)) (list_any test (map f (filter p xs))) (rw g at e) in ((λ _. both.0), later both.1)
    go false g later = ((λ h. absurd (let q = sym g ∙ h in cc)), later (rw g at e))

not_false : (b : Bool) → (not b ≡ true → true ≡ false) → b ≡ true
not_false true h = refl
not_false false h = absurd (let q = h refl in cc)

-- a card that isn't touched was in its deck
pub untouched_stood : (old new : LibraryView) (d : DeckView) (c : CardView) → Contains (all_decks new) d → Contains d.cards c →
    list_any (same_ref (ref_of new.idents c)) (touched old new) ≡ false → stood_in (cards_of d.ident old) c ≡ true
untouched_stood old new d c in_decks in_cards none =
    let r = ref_of new.idents c in
    let decks = none_flat (same_ref r) (λ (d : DeckView). map (ref_of new.idents) (filter (λ c. not (stood_in (cards_of d.ident old) c)) d.cards))
    (all_decks new) none in
    let here = all_of_contained (λ (d : DeckView). list_any (same_ref r) (map (ref_of new.idents)
    (filter (λ c. not (stood_in (cards_of d.ident old) c)) d.cards)) ≡ false) (all_decks new) d decks in_decks in
    let cards = none_listed (same_ref r) (ref_of new.idents) (λ c. not (stood_in (cards_of d.ident old) c)) d.cards here in
    let card = all_of_contained (λ (x : CardView). not (stood_in (cards_of d.ident old) x) ≡ true →
    same_ref r (ref_of new.idents x) ≡ false) d.cards c cards in_cards in
    not_false (stood_in (cards_of d.ident old) c) (λ h. sym (same_ref_own r) ∙ card h)

-- ---- the same history

same_histories : (es fs : List Entry) → same_history es fs ≡ true → es ≡ fs
same_histories [] [] e = refl
same_histories [] (f ∷ fs) e = absurd (cc)
same_histories (e ∷ es) [] is = absurd (cc)
same_histories (e ∷ es) (f ∷ fs) is =
    let both = and_parts (same_entry e f) (same_history es fs) is in
    let head = same_entry_is e f both.0 in let rest = same_histories es fs both.1 in λ i. head i ∷ rest i

-- ---- a name stays

goes_on : (old new : List Ident) (k : ℕ) (i : Ident) → Continues old new → slice_get old k ≡ Some i →
    (j : Ident) × (slice_get new k ≡ Some j) × (j.name ≡ i.name)
goes_on [] new k i on e = absurd (cc)
goes_on (x ∷ old) [] k i on e = absurd on
goes_on (x ∷ old) (y ∷ new) zero i on e = (y, refl, named on.0 ∙ ap (λ (i : Ident). i.name) (same_Some x i e))
  where
    named : (y ≡ x) ⊎ (y ≡ record x { held = false }) → y.name ≡ x.name
    named (inl same) = ap (λ (i : Ident). i.name) same
    named (inr purged) = ap (λ (i : Ident). i.name) purged
goes_on (x ∷ old) (y ∷ new) (suc k) i on e = goes_on old new k i on.1 e

name_there : (z : ℕ) (idents : List Ident) (i : Ident) → 0 < z → slice_get idents (z - 1) ≡ Some i → name_of idents z ≡ i.name
name_there z idents i some e =
    let there : (z == 0) ≡ false = grind (arith, nat_tests) in
    rw (there, e) refl

pub same_name : (old new : LibraryView) (z : ℕ) → IsSound old → Continues old.idents new.idents → is_held old.idents z ≡ true →
    name_of old.idents z ≡ name_of new.idents z
same_name old new z sound on held =
    let at = held_at 1 z old.idents sound.ages held in
    let from = (at.1).from in
    let later = goes_on old.idents new.idents (z - 1) at.0 on (at.1).place in
    name_there z old.idents at.0 (omega arith) (at.1).place ∙ sym (name_there z new.idents later.0 (omega arith) later.1 ∙ later.2)

-- ---- the stored status of a card that was there

pub stood_status : (old new : LibraryView) (d : DeckView) (c : CardView) → IsSound old → Continues old.idents new.idents →
    stood_in (cards_of d.ident old) c ≡ true →
    status_of (ref_of new.idents c) old ≡ Some (is_active_by (live_count old) d.ident c)
stood_status old new d c sound on stood =
    let at = any_at (λ b. is_card c.ident c.number b && same_history b.history c.history) (cards_of d.ident old) stood in
    let b = at.1 in
    let both = and_parts (is_card c.ident c.number b) (same_history b.history c.history) at.3 in
    let key = and_parts (b.ident == c.ident) (b.number == c.number) both.0 in
    let ident : b.ident ≡ c.ident = (Decides-eqb b.ident c.ident).0 key.0 in
    let number : b.number ≡ c.number = (Decides-eqb b.number c.number).0 key.1 in
    let history : b.history ≡ c.history = same_histories b.history c.history both.1 in
    let deck = cards_found old d.ident at.0 b at.2 in
    let index = contained_at (all_decks old) deck.0 deck.1 in
    let place = contained_at (deck.0).cards b deck.3 in
    let held : is_held old.idents b.ident ≡ true = card_held old b sound (in_flat (all_decks old) index.0 deck.0 place.0 b index.1 place.1) in
    let name : name_of old.idents b.ident ≡ name_of new.idents c.ident = same_name old new b.ident sound on held ∙ ap (name_of new.idents) ident in
    let same : ref_of old.idents b ≡ ref_of new.idents c = λ i. record { name = name i; number = number i } in
    sym (ap (λ r. status_of r old) same) ∙ status_at old deck.0 b sound deck.1 deck.3
    ∙ ap Some (ap (λ n. is_active (live_targets old) n b) deck.2 ∙ status_is (live_cards old.yanks) d.ident b
    ∙ ap (λ h. is_active_by (live_count old) d.ident (record b { history = h })) history)

-- a card that isn't touched had the status that its history gives by the counts before
pub untouched_status : (old new : LibraryView) (d : DeckView) (c : CardView) → IsSound old → Continues old.idents new.idents → Contains (all_decks new) d →
    Contains d.cards c →
    is_touched (touched old new) (counted_card new.idents d.ident c) ≡ false →
    status_of (ref_of new.idents c) old ≡ Some (is_active_by (live_count old) d.ident c)
untouched_status old new d c sound on in_decks in_cards none = stood_status old new d c sound on (untouched_stood old new d c in_decks in_cards none)

-- ---- the status that the card of an ident and a number had

pub before_at : (l : LibraryView) (d : DeckView) (c : CardView) → IsSound l → Contains (all_decks l) d → Contains d.cards c →
    status_before l c ≡ Some (is_active (live_targets l) d.ident c)
before_at l d c sound in_decks in_cards =
    let at = contained_at (all_decks l) d in_decks in
    let index = contained_at d.cards c in_cards in
    rw (card_place (all_decks l) at.0 d index.0 c sound.keys at.1 index.1, card_at l d index.0 c sound in_decks index.1) refl

stood_before : (old : LibraryView) (d : ℕ) (c : CardView) → IsSound old → stood_in (cards_of d old) c ≡ true →
    status_before old c ≡ Some (is_active_by (live_count old) d c)
stood_before old d c sound stood =
    let at = any_at (λ b. is_card c.ident c.number b && same_history b.history c.history) (cards_of d old) stood in
    let b = at.1 in
    let both = and_parts (is_card c.ident c.number b) (same_history b.history c.history) at.3 in
    let key = and_parts (b.ident == c.ident) (b.number == c.number) both.0 in
    let ident : b.ident ≡ c.ident = (Decides-eqb b.ident c.ident).0 key.0 in
    let number : b.number ≡ c.number = (Decides-eqb b.number c.number).0 key.1 in
    let history : b.history ≡ c.history = same_histories b.history c.history both.1 in
    let deck = cards_found old d at.0 b at.2 in
    let same : status_before old b ≡ status_before old c = λ i. status_before old (record b { ident = ident i; number = number i }) in
    sym same ∙ before_at old deck.0 b sound deck.1 deck.3
    ∙ ap Some (ap (λ n. is_active (live_targets old) n b) deck.2 ∙ status_is (live_cards old.yanks) d b
    ∙ ap (λ h. is_active_by (live_count old) d (record b { history = h })) history)

-- a card that isn't touched had the status that its history gives it by the counts before
pub untouched_before : (old new : LibraryView) (d : DeckView) (c : CardView) → IsSound old → Contains (all_decks new) d → Contains d.cards c →
    is_touched (touched old new) (counted_card new.idents d.ident c) ≡ false → status_before old c ≡ Some (is_active_by (live_count old) d.ident c)
untouched_before old new d c sound in_decks in_cards none =
    stood_before old d.ident c sound (untouched_stood old new d c in_decks in_cards none)
