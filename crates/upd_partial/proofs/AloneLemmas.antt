-- The status update of a part, taken as a library of its own.
use Rattle.upd_partial.proofs.Common.{◌≡◌, ℕ, Bool, false, List, ◌++◌, Some, Ok, inr, refl, sym, ap, ◌∙◌, filter-append, ◌==◌, filter, AllByRecursion, CardRef}
use Rattle.upd_partial.proofs.Common.{CountedCardView, Place, LibraryView, place_of, part, IsSound, live_count, touched, LineView, Reached, applied, all_both}
use Rattle.upd_partial.proofs.Common.{all_weaker, affected, is_touched, is_due, AreIdle, DoesWithout, NamesNone, cards_of_item, left_out, reached_in_part}
use Rattle.upd_core.specs.Counted.{others_of, yanks_of}
use Rattle.upd_yank.specs.Enough.{IsEnough}
use Rattle.upd_yank.proofs.EnoughLemmas.{part_of_none, sees}
use Rattle.upd_partial.proofs.AppliedLemmas.{applied_same}
use Rattle.upd_partial.proofs.IdleLemmas.{idle_in}
use Rattle.upd_partial.proofs.NeedLemmas.{none_in}
use Rattle.upd_partial.proofs.PartLemmas.{IsNotIn, place_same}
use Rattle.upd_partial.proofs.PartSoundLemmas.{part_sound}

-- ---- a run names no yank card of a part, where it names none of the whole

-- a card that a run names isn't in a deck that passes a test
abbrev StandsOut : (ℕ → Bool) → LibraryView → CardRef → Type 0
StandsOut out l card = (p : Place) → place_of card l ≡ Some p → out p.deck ≡ false

named_in_part : (out test : ℕ → Bool) (lines : List LineView) (l : LibraryView) → out 0 ≡ false → IsSound l → NamesNone out lines l → NamesNone test lines l
    → NamesNone test lines (part out l)
named_in_part out test lines l yanks sound names none =
    all_weaker (λ line. AllByRecursion (StandsOut test l) (cards_of_item line.item) × AllByRecursion (IsNotIn (left_out out l) l) (cards_of_item line.item))
    (λ line. AllByRecursion (StandsOut test (part out l)) (cards_of_item line.item)) lines
    (λ line both. all_weaker (λ card. StandsOut test l card × IsNotIn (left_out out l) l card) (StandsOut test (part out l)) (cards_of_item line.item)
    (λ card here p at. here.0 p (sym (place_same out l card yanks here.1) ∙ at))
    (all_both (StandsOut test l) (IsNotIn (left_out out l) l) (cards_of_item line.item) both.0 both.1))
    (all_both (λ line. AllByRecursion (StandsOut test l) (cards_of_item line.item))
    (λ line. AllByRecursion (IsNotIn (left_out out l) l) (cards_of_item line.item))
    lines none (none_in out lines l sound names))

-- ---- a part as a library of its own

module _ (out : ℕ → Bool) (lines : List LineView) (l : LibraryView) (reached : Reached) (yanks : out 0 ≡ false) (sound : IsSound l)
    (does : DoesWithout out lines l) (no_yank : NamesNone (λ d. d == 0) lines l) (is : applied lines l ≡ Ok reached) where
  abbrev old : LibraryView
  old = part out l

  abbrev new : LibraryView
  new = part out reached.library

  -- it leaves out no deck
  pub idle_alone : AreIdle (touched old new) old new (λ _. false)
  idle_alone =
      idle_in (λ _. false) lines old (record reached { library = new }) (part_sound out l sound)
      (record {
        plain = does.plain;
        listed = λ z later. refl;
        cards = all_weaker (λ line. AllByRecursion (StandsOut (λ d. d == 0) old) (cards_of_item line.item))
            (λ line. AllByRecursion (StandsOut (λ _. false) old) (cards_of_item line.item)) lines
            (λ line all. all_weaker (StandsOut (λ d. d == 0) old) (StandsOut (λ _. false) old) (cards_of_item line.item) (λ card h p at. refl) all) none;
      })
      none (applied_same out lines l yanks sound does ∙ ap (reached_in_part out) is)
    where
      none : NamesNone (λ d. d == 0) lines old
      none = named_in_part out (λ d. d == 0) lines l yanks sound does.cards no_yank

  -- the part after a run is enough for the status update of the run
  pub enough_alone : IsEnough (touched old new) old new new
  enough_alone = inr ((λ _. false), part_of_none new, idle_alone)

-- ---- what is affected

-- the cards that a run affects in a part are those that it affects in the whole
pub affected_in : (out : ℕ → Bool) (lines : List LineView) (l : LibraryView) (reached : Reached) → IsSound l → DoesWithout out lines l
    → NamesNone (λ d. d == 0) lines l → applied lines l ≡ Ok reached
    → affected (touched l reached.library) (part out l) (part out reached.library) ≡ affected (touched l reached.library) l reached.library
affected_in out lines l reached sound does no_yank is =
    filter-append due (yanks_of m) (others_of (part out m))
    ∙ ap (λ ks. filter due (yanks_of m) ++ ks) (sees (touched l m) l m (part out m) (inr (out, refl, idle_in out lines l reached sound does no_yank is))).due
    ∙ sym (filter-append due (yanks_of m) (others_of m))
  where
    m : LibraryView
    m = reached.library

    due : CountedCardView → Bool
    due = is_due (is_touched (touched l m)) (live_count l) (live_count m)
