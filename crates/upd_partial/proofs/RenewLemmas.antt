-- Active cards renewed from the part that a plain run needs.
use Rattle.upd_partial.proofs.Common.{◌≡◌, ℕ, suc, Bool, true, false, not, List, ◌∷◌, Some, Ok, refl, sym, ap, subst, ◌==◌, filter, AllByRecursion, Contains}
use Rattle.upd_partial.proofs.Common.{DeckView, LibraryView, all_decks, part, IsSound, IsWhole, live_cards, targets_of, all_by_index, at_contained, LineView}
use Rattle.upd_partial.proofs.Common.{Reached, applied, all_filter, all_weaker, run_sound, all_passed, DoesWithout, NamesNone, left_out}
use Rattle.std.proofs.Common.{slice_get}
use Rattle.upd_core.specs.Actives.{active_deck, actives_of}
use Rattle.upd_laws.proofs.SoundRunLemmas.{run_whole}
use Rattle.upd_yank.proofs.RenewLemmas.{anew_is, renewed_by, renewed_is}
use Rattle.upd_yank.specs.Renewed.{IsAsBefore, renewed}
use Rattle.upd_yank.specs.Right.{CacheView, IsRight}
use Rattle.upd_partial.proofs.AppliedLemmas.{applied_left}
use Rattle.upd_partial.proofs.IdleLemmas.{yanks_as_before}
use Rattle.upd_partial.proofs.PartSoundLemmas.{part_sound}

-- where the same decks are left out, the same ones after `YANK$$$` are
left_behind : (out : ℕ → Bool) (l m : LibraryView) → left_out out m ≡ left_out out l →
    filter (λ (d : DeckView). out d.ident) m.decks ≡ filter (λ (d : DeckView). out d.ident) l.decks
left_behind out l m same = go (out 0) refl same
  where
    tails : (x y : DeckView) (xs ys : List DeckView) → x ∷ xs ≡ y ∷ ys → xs ≡ ys
    tails x y xs ys e = cc

    go : (b : Bool) → out 0 ≡ b → left_out out m ≡ left_out out l →
        filter (λ (d : DeckView). out d.ident) m.decks ≡ filter (λ (d : DeckView). out d.ident) l.decks
    go true e h = tails _ _ _ _ (rw e at h)
    go false e h = rw e at h

-- the decks left out were there before a plain run, with the same active cards
left_as_before : (out : ℕ → Bool) (lines : List LineView) (l : LibraryView) (reached : Reached) → IsSound l → DoesWithout out lines l →
    NamesNone (λ d. d == 0) lines l → applied lines l ≡ Ok reached →
    AllByRecursion (IsAsBefore l reached.library) (filter (λ (d : DeckView). out d.ident) reached.library.decks)
left_as_before out lines l reached sound does no_yank is =
    let m = reached.library in
    let yanks = yanks_as_before out lines l reached sound does no_yank is in
    let own : AllByRecursion (Contains l.decks) l.decks = all_by_index l.decks (λ k d at. at_contained l.decks k d at) in
    let left : AllByRecursion (Contains l.decks) (filter (λ (d : DeckView). out d.ident) m.decks) =
    subst (AllByRecursion (Contains l.decks)) (sym (left_behind out l m (applied_left out lines l reached sound does is)))
    (all_filter _ (λ (d : DeckView). out d.ident) l.decks own) in
    all_weaker (Contains l.decks) (IsAsBefore l m) (filter (λ (d : DeckView). out d.ident) m.decks)
    (λ d there. (there, ap (λ ys. active_deck (targets_of (live_cards ys)) d) (sym yanks))) left

pub renewed_in : (out : ℕ → Bool) (lines : List LineView) (l : LibraryView) (reached : Reached) (cache : CacheView) → IsSound l → IsWhole l →
    DoesWithout out lines l → NamesNone (λ d. d == 0) lines l → applied lines l ≡ Ok reached → IsRight reached.library cache →
    renewed cache.states (part out reached.library) (actives_of l) ≡ actives_of reached.library
renewed_in out lines l reached cache sound whole does no_yank is right =
    renewed_is out l reached.library cache sound (run_sound lines l reached sound is) (run_whole lines l reached whole is) right
    (left_as_before out lines l reached sound does no_yank is)

-- by a cache of only the part
pub renewed_alone : (out : ℕ → Bool) (lines : List LineView) (l : LibraryView) (reached : Reached) (cache : CacheView) → IsSound l → IsWhole l →
    DoesWithout out lines l → NamesNone (λ d. d == 0) lines l → applied lines l ≡ Ok reached → IsRight (part out reached.library) cache →
    renewed cache.states (part out reached.library) (actives_of l) ≡ actives_of reached.library
renewed_alone out lines l reached cache sound whole does no_yank is right =
    renewed_by out l m cache.states sound later (run_whole lines l reached whole is)
    (λ k d at stays. anew_is (part out m) cache d (part_sound out m later) right (there k d at stays))
    (left_as_before out lines l reached sound does no_yank is)
  where
    m : LibraryView
    m = reached.library

    later : IsSound m
    later = run_sound lines l reached sound is

    there : (k : ℕ) (d : DeckView) → slice_get m.decks k ≡ Some d → out d.ident ≡ false → Contains (all_decks (part out m)) d
    there k d at stays =
        all_passed (Contains (all_decks (part out m))) (λ (d : DeckView). not (out d.ident)) m.decks k d at (ap not stays)
        (all_by_index (part out m).decks (λ j e here. at_contained (all_decks (part out m)) (suc j) e here))
