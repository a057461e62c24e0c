-- What a check shows of a run.
use Rattle.upd_correct.proofs.Common.{◌≡◌, ℕ, ◌+◌, ◌<◌, Bool, true, false, not, List, [], ◌∷◌, ◌++◌, length, take, drop, Option, Some, None, refl, sym, ap}
use Rattle.upd_correct.proofs.Common.{◌∙◌, subst, arith, ◌==◌, filter, AllByRecursion, AllZip, option_map_or, Target, next_age, CardView, DeckView}
use Rattle.upd_correct.proofs.Common.{LibraryView, cards_of, deck_of, is_deck, is_active, live_targets, Decides-eqb, NewDeck, CorrectsSince}
use Rattle.upd_correct.proofs.Common.{HasDecks, HasTexts, AreDecksFrom, AreLeft, Corrects, Empty, IsChecked, IsDeckLeft, LeadsCards, New, Old, held_serials}
use Rattle.std.proofs.Common.{find, if◌then◌else◌, take-append-drop}
use Rattle.upd_core.specs.Edits.{is_among}
use Rattle.upd_core.specs.Status.{live_cards, targets_of}
use Rattle.upd_correct.specs.Corrected.{active_cards}
use Rattle.upd_correct.specs.Correcting.{BeginsWithSet, IsSublist, KeepsCards, Kept, Left, None as Nothing}
use Rattle.upd_correct.specs.Checked.{Goes, LeavesCards, Stays}

other_serial : (a d : ℕ) → (a ≡ d → ⊥) → (a == d) ≡ false
other_serial a d other = go (a == d) refl
  where
    go : (b : Bool) → (a == d) ≡ b → (a == d) ≡ false
    go true e = absurd (other ((Decides-eqb a d).0 e))
    go false e = e

-- ---- the cards that stay

-- the active cards after the run that are not of the set
abbrev old_after : List Target → ℕ → ℕ → List CardView → List CardView
old_after live d z news = filter (λ card. not (card.ident == z)) (filter (is_active live d) news)

left_kept : (taken live : List Target) (d z last : ℕ) (olds news : List CardView) → AreLeft taken live d z last olds news
    → IsSublist (old_after live d z news) (filter (is_active live d) olds)
left_kept taken live d z last _ _ Empty = Nothing
left_kept taken live d z last _ _ (New c olds news own on left) =
    rw on (rw ((Decides-eqb c.ident z).1 own) (left_kept taken live d z last olds news left))
left_kept taken live d z last _ _ (Old o c olds news other (Goes young seen e off) left) =
    rw off (go (is_active live d o) refl (left_kept taken live d z last olds news left))
  where
    go : (b : Bool) → is_active live d o ≡ b → IsSublist (old_after live d z news) (filter (is_active live d) olds)
        → IsSublist (old_after live d z news) (filter (is_active live d) (o ∷ olds))
    go true on rest = rw on (Left o (old_after live d z news) (filter (is_active live d) olds) rest)
    go false was_off rest = rw was_off rest
left_kept taken live d z last _ _ (Old o c olds news other (Stays e) left) =
    subst (λ (x : CardView). IsSublist (old_after live d z (c ∷ news)) (filter (is_active live d) (x ∷ olds))) (sym e)
    (go (is_active live d c) refl (left_kept taken live d z last olds news left))
  where
    go : (b : Bool) → is_active live d c ≡ b → IsSublist (old_after live d z news) (filter (is_active live d) olds)
        → IsSublist (old_after live d z (c ∷ news)) (filter (is_active live d) (c ∷ olds))
    go true on rest = rw on (rw (other_serial c.ident z other) (Kept c (old_after live d z news) (filter (is_active live d) olds) rest))
    go false off rest = rw off rest

-- ---- the other decks

none_from : (d n : ℕ) (added : List DeckView) → d < n → AreDecksFrom n added → find (is_deck d) added ≡ None
none_from d n [] less from = refl
none_from d n (x ∷ added) less from =
    let other : x.ident ≡ d → ⊥ = λ e. omega (arith, less, from.0, e) in
    rw (other_serial x.ident d other) (none_from d (n + 1) added (omega (arith, less)) from.1)

find_left : (named : List ℕ) (d n : ℕ) (olds news added : List DeckView) → is_among named d ≡ false → d < n → AreDecksFrom n added
    → AllZip (IsDeckLeft named) olds news → find (is_deck d) (news ++ added) ≡ find (is_deck d) olds
find_left named d n [] [] added free less from zip = none_from d n added less from
find_left named d n [] (x ∷ news) added free less from zip = absurd zip
find_left named d n (o ∷ olds) [] added free less from zip = absurd zip
find_left named d n (o ∷ olds) (x ∷ news) added free less from zip =
    go (o.ident == d) refl (find_left named d n olds news added free less from zip.1)
  where
    go : (b : Bool) → (o.ident == d) ≡ b → find (is_deck d) (news ++ added) ≡ find (is_deck d) olds
        → find (is_deck d) (x ∷ (news ++ added)) ≡ find (is_deck d) (o ∷ olds)
    go true e rest =
        rw (ap (λ (a : ℕ). a == d) zip.0.0 ∙ e)
        (rw e (ap Some (sym (zip.0.1 (subst (λ (a : ℕ). is_among named a ≡ false) (sym ((Decides-eqb o.ident d).0 e)) free)))))
    go false e rest = rw (ap (λ (a : ℕ). a == d) zip.0.0 ∙ e) (rw e rest)

not_held : (l : LibraryView) (d : ℕ) (decks : List NewDeck) → AllByRecursion (λ (t : NewDeck). deck_of t.name l ≡ Some d → ⊥) decks
    → is_among (held_serials l decks) d ≡ false
not_held l d [] none = refl
not_held l d (t ∷ decks) none = go (deck_of t.name l) refl (not_held l d decks none.1)
  where
    go : (o : Option ℕ) → deck_of t.name l ≡ o → is_among (held_serials l decks) d ≡ false → is_among (held_serials l (t ∷ decks)) d ≡ false
    go (Some a) e rest =
        let other : a ≡ d → ⊥ = λ own. none.0 (e ∙ ap Some own) in
        rw e (rw (other_serial a d other) rest)
    go None e rest = rw e rest

-- ---- the run

all_weaker : {A : Type 0} (P Q : A → Type 0) (xs : List A) → ((x : A) → P x → Q x) → AllByRecursion P xs → AllByRecursion Q xs
all_weaker P Q [] k a = tt
all_weaker P Q (x ∷ xs) k a = (k x a.0, all_weaker P Q xs k a.1)

live_same : (l m : LibraryView) → l.yanks ≡ m.yanks → live_targets l ≡ live_targets m
live_same l m e = ap (λ (yanks : List CardView). targets_of (live_cards yanks)) e

deck_same : (live : List Target) (last : ℕ) (l m : LibraryView) (set run : List ℕ) (decks : List NewDeck) (d : ℕ)
    → Corrects live last l set run decks m → d < next_age l
    → AllByRecursion (λ (t : NewDeck). deck_of t.name l ≡ Some d → ⊥) decks → active_cards d m ≡ active_cards d l
deck_same live last l m set run decks d is less none =
    let halves : m.decks ≡ take (length l.decks) m.decks ++ drop (length l.decks) m.decks = sym (take-append-drop (length l.decks) m.decks) in
    let found : find (is_deck d) m.decks ≡ find (is_deck d) l.decks =
    ap (find (is_deck d)) halves
    ∙ find_left (held_serials l decks) d (next_age l + 1) l.decks (take (length l.decks) m.decks) (drop (length l.decks) m.decks) (not_held l d decks none)
    (omega (arith, less)) is.added is.others in
    let cards : cards_of d m ≡ cards_of d l =
    λ i. option_map_or (λ (x : DeckView). x.cards) (if 0 == d then Some (record { ident = 0; cards = sym is.yanks i }) else found i) [] in
    λ i. filter (is_active (sym (live_same l m is.yanks) i) d) (cards i)

cards_kept : (taken : List Target) (last : ℕ) (l m : LibraryView) → l.yanks ≡ m.yanks → (t : NewDeck) → LeavesCards taken last l m t → KeepsCards l m t
cards_kept taken last l m yanks t leaves d held =
    subst (λ (live : List Target). IsSublist (filter (λ (card : CardView). not (card.ident == next_age l)) (filter (is_active live d) (cards_of d m)))
    (active_cards d l))
    (live_same l m yanks) (left_kept taken (live_targets l) d (next_age l) last (cards_of d l) (cards_of d m) (leaves d held))

pub checked_corrects : (last : ℕ) (taken l : LibraryView) (set text run : List ℕ) (decks : List NewDeck) → HasDecks text decks → BeginsWithSet set run
    → (AllByRecursion (HasTexts (live_targets taken) taken) decks → run ≡ []) → IsChecked (live_targets taken) last l set run decks
    → CorrectsSince last taken l set text run
checked_corrects last taken l set text run decks given named needed is = record {
  decks = decks;
  given = given;
  named = named;
  needed = needed;
  checked = is;
  others = λ d less none. deck_same (live_targets taken) last l is.after.library set run decks d is.corrects less none;
  kept = all_weaker (LeadsCards (live_targets taken) last l is.after.library) (KeepsCards l is.after.library) decks
      (λ t leads. cards_kept (live_targets taken) last l is.after.library is.corrects.yanks t leads.0) is.corrects.cards;
}
