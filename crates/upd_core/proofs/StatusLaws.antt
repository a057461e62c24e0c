-- Facts about histories and live cards.
use Rattle.upd_core.proofs.Common.{◌≡◌, ℕ, ◌+◌, ◌-◌, ◌<◌, ◌≤◌, Bool, true, false, not, if◌then◌else◌, List, [], ◌∷◌, ◌++◌, length, take, get_or, slice_get}
use Rattle.upd_core.proofs.Common.{map, Option, Some, None, refl, sym, ap, ◌∙◌, arith, filter, option_and_then, nat_tests, Entry, CardRef, Ident, index_from}
use Rattle.upd_core.proofs.Common.{DeckView, LibraryView, all_decks, held_named, is_card, place_in, place_of, AreApart, IsSound, ends_on, stays_on, liveness}
use Rattle.upd_core.proofs.Common.{live_of, live_yank, yank_at}
use Rattle.std.proofs.Common.{◌==◌, append-nil}
use Rattle.std.proofs.lemmas.List.{take_more}
use Rattle.std.proofs.lemmas.List.Elements.{filter-append}
use Rattle.upd_core.proofs.ApartLemmas.{rising_apart}

-- the last entry decides
ends_on-push : (es : List Entry) (e : Entry) → ends_on (es ++ e ∷ []) ≡ e.active
ends_on-push [] e = refl
ends_on-push (d ∷ []) e = refl
ends_on-push (c ∷ d ∷ es) e = ends_on-push (d ∷ es) e

-- one more entry decides, unless its ident is taken
pub stays_on-push : (taken : ℕ → Bool) (es : List Entry) (e : Entry) → stays_on taken (es ++ e ∷ []) ≡ (if taken e.ident then stays_on taken es else e.active)
stays_on-push taken es e =
    rw (filter-append (λ (e : Entry). not (taken e.ident)) es (e ∷ [])) (
    elim (taken e.ident) as (λ b. ends_on (filter (λ (e : Entry). not (taken e.ident)) es ++ (if not b then e ∷ [] else [])) ≡
    (if b then stays_on taken es else e.active))
    [ true ↦ rw append-nil refl | false ↦ ends_on-push (filter (λ (d : Entry). not (taken d.ident)) es) e ])

-- the same of the front of a history
pub stays_on-take : (taken : ℕ → Bool) (es : List Entry) (i : ℕ) (d : Entry) → 0 < i → i ≤ length es →
    stays_on taken (take i es) ≡ (if taken (get_or es (i - 1) d).ident then stays_on taken (take (i - 1) es) else (get_or es (i - 1) d).active)
stays_on-take taken es i d some h =
    let k : i ≡ i - 1 + 1 = omega arith in
    let less : i - 1 < length es = omega arith in
    ap (λ n. stays_on taken (take n es)) k ∙ (rw (take_more es (i - 1) d less) (stays_on-push taken (take (i - 1) es) (get_or es (i - 1) d)))

is_other : (n : ℕ) → (0 ≡ n → ⊥) → (n == 0) ≡ false
is_other n apart = grind (arith, nat_tests)

-- no place in decks with other serials is one of `YANK$$$`
yank_at-place_in : (l : LibraryView) (ds : List DeckView) (ident number : ℕ) → AreApart (map (λ d. d.ident) (record { ident = 0; cards = l.yanks } ∷ ds)) →
    option_and_then (yank_at l) (place_in ds ident number) ≡ None
yank_at-place_in l [] ident number apart = refl
yank_at-place_in l (d ∷ ds) ident number apart = found (index_from (is_card ident number) 0 d.cards) refl
    (yank_at-place_in l ds ident number (apart.0.1, apart.1.1))
  where
    found : (o : Option ℕ) → index_from (is_card ident number) 0 d.cards ≡ o → option_and_then (yank_at l) (place_in ds ident number) ≡ None →
        option_and_then (yank_at l) (place_in (d ∷ ds) ident number) ≡ None
    found (Some i) is later = rw (is, is_other d.ident apart.0.0) refl
    found None is later = rw is later

live_yank-at : (l : LibraryView) (ident number : ℕ) → AreApart (map (λ d. d.ident) (all_decks l)) →
    option_and_then (slice_get (liveness l.yanks)) (index_from (is_card ident number) 0 l.yanks) ≡
    option_and_then (yank_at l) (place_in (all_decks l) ident number)
live_yank-at l ident number apart = found (index_from (is_card ident number) 0 l.yanks) refl (yank_at-place_in l l.decks ident number apart)
  where
    found : (o : Option ℕ) → index_from (is_card ident number) 0 l.yanks ≡ o → option_and_then (yank_at l) (place_in l.decks ident number) ≡ None →
        option_and_then (slice_get (liveness l.yanks)) (index_from (is_card ident number) 0 l.yanks) ≡
        option_and_then (yank_at l) (place_in (all_decks l) ident number)
    found (Some i) is later = rw is refl
    found None is later = rw is (sym later)

-- in a sound library a reference finds the liveness of the yank card that it names
pub live_yank-place_of : (l : LibraryView) (card : CardRef) → IsSound l → live_yank card (live_of l) ≡ option_and_then (yank_at l) (place_of card l)
live_yank-place_of l card sound = found (held_named card.name l.idents) refl
  where
    found : (o : Option Ident) → held_named card.name l.idents ≡ o → live_yank card (live_of l) ≡ option_and_then (yank_at l) (place_of card l)
    found (Some i) is = rw is (live_yank-at l i.age card.number (rising_apart (map (λ d. d.ident) (all_decks l)) sound.deck_ages))
    found None is = rw is refl
