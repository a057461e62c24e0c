-- What a plain run leaves as it is.
use Rattle.upd_partial.proofs.Common.{◌≡◌, ℕ, Bool, true, false, List, ◌∷◌, Some, Ok, sym, ap, ◌∙◌, Contains, list_any, CardView, DeckView, LibraryView}
use Rattle.upd_partial.proofs.Common.{all_decks, ref_of, IsSound, live_cards, status_of, count_on, status_at, same_ref, touched, LineView, Reached, applied}
use Rattle.upd_partial.proofs.Common.{run_goes, run_sound, DoesWithout}
use Rattle.upd_yank.specs.Cascade.{is_active_by}
use Rattle.upd_yank.proofs.FlipLemmas.{status_is}
use Rattle.upd_yank.proofs.KeptLemmas.{untouched_status}
use Rattle.upd_partial.proofs.AppliedLemmas.{applied_left}

same_first : {A : Type 0} (x y : A) (xs ys : List A) → x ∷ xs ≡ y ∷ ys → x ≡ y
same_first x y xs ys e = cc

abbrev pub yank_deck : LibraryView → DeckView
yank_deck l = record { ident = 0; cards = l.yanks }

-- the yank cards stay where they are among what is left out
pub yanks_stay : (out : ℕ → Bool) (lines : List LineView) (l : LibraryView) (reached : Reached) → IsSound l → DoesWithout out lines l
    → applied lines l ≡ Ok reached → out 0 ≡ true → reached.library.yanks ≡ l.yanks
yanks_stay out lines l reached sound does is yanks =
    let same = rw yanks at (applied_left out lines l reached sound does is) in
    ap (λ (d : DeckView). d.cards) (same_first (yank_deck reached.library) (yank_deck l) _ _ same)

pub status_stays : (out : ℕ → Bool) (lines : List LineView) (l : LibraryView) (reached : Reached) → IsSound l → DoesWithout out lines l
    → applied lines l ≡ Ok reached → out 0 ≡ true → (d : DeckView) (c : CardView) → Contains (all_decks reached.library) d → Contains d.cards c
    → list_any (same_ref (ref_of reached.library.idents c)) (touched l reached.library) ≡ false
    → status_of (ref_of reached.library.idents c) reached.library ≡ status_of (ref_of reached.library.idents c) l
status_stays out lines l reached sound does is yanks d c in_decks in_cards untouched =
    status_at reached.library d c (run_sound lines l reached sound is) in_decks in_cards
    ∙ ap Some (status_is (live_cards reached.library.yanks) d.ident c)
    ∙ ap (λ ys. Some (is_active_by (count_on (live_cards ys)) d.ident c)) (yanks_stay out lines l reached sound does is yanks)
    ∙ sym (untouched_status l reached.library d c sound (run_goes lines l reached is) in_decks in_cards untouched)
