-- The row changes and touched cards of a plain run on a part are those on the whole.
use Rattle.upd_partial.proofs.Common.{◌≡◌, ℕ, suc, ◌≤◌, Bool, true, false, not, ◌&&◌, ◌||◌, List, [], ◌∷◌, ◌++◌, map, length, Result, Ok, Err, refl, sym, ap}
use Rattle.upd_partial.proofs.Common.{◌∙◌, subst, arith, nat_tests, IfOk-at_ok, ◌==◌, nat_le, slice_get, filter, flat_map, AllByRecursion, Fault, Entry}
use Rattle.upd_partial.proofs.Common.{Ident, same_entry, CardView, DeckView, LibraryView, all_decks, cards_of, is_card, ref_of, card_count, entry_count}
use Rattle.upd_partial.proofs.Common.{is_within_limits, part, part_of, IsSound, all_by_index, cards_of_deck, ChangeView, Paired, RowChanges, stood_in}
use Rattle.upd_partial.proofs.Common.{touched, touched_in, any_of, LineView, Reached, applied, is_purge, is_yank, DecksGoOn, purges_nothing, Grows}
use Rattle.upd_partial.proofs.Common.{all_applied_grows, all_filter, all_weaker, and_left, and_right, both, is_same_number, DoesWithout, NamesNone, is_plain}
use Rattle.upd_partial.proofs.Common.{is_left_out, is_plain_item, left_out, reached_in_part}
use Rattle.std.specs.Prelude.{Some}
use Rattle.upd_text.specs.declared.limits.TheConstants.{MAX_HELD, MAX_INTRODUCED, MAX_CARDS, MAX_ENTRIES, MAX_TARGETS}
use Rattle.upd_core.specs.Limits.{held_count, target_count}
use Rattle.upd_core.proofs.ApartLemmas.{rising_apart}
use Rattle.upd_diff.specs.Touched.{same_history}
use Rattle.upd_partial.specs.Needless.{IsOnWhole}
use Rattle.upd_partial.proofs.AppliedLemmas.{applied_left, applied_same}
use Rattle.upd_partial.proofs.NeedLemmas.{others_listed, part_of_others}
use Rattle.upd_partial.proofs.PartLemmas.{cards_same, kept_all, kept_of, left_of}
use Rattle.upd_partial.proofs.WeaveLemmas.{AreFew, StandFirst, each_few, same_entry_own, row_changes_woven, weave, woven}

-- ---- plain runs keep the decks, in order

no_purge : (a b : Bool) → not (a || b) ≡ true → not b ≡ true
no_purge false b plain = plain
no_purge true b plain = absurd (cc)

pub no_purges : (lines : List LineView) → is_plain lines ≡ true → purges_nothing lines ≡ true
no_purges [] plain = refl
no_purges (line ∷ lines) plain =
    both (not (is_purge line.item)) (purges_nothing lines) (no_purge (is_yank line.item) (is_purge line.item) (and_left (is_plain_item line.item) _ plain))
    (no_purges lines (and_right (is_plain_item line.item) (is_plain lines) plain))

first_of_on : (P : ℕ → Type 0) (ds es : List DeckView) → DecksGoOn P ds es → StandFirst ds es
first_of_on P [] es on = tt
first_of_on P (d ∷ ds) [] on = absurd on
first_of_on P (d ∷ ds) (e ∷ es) on = (on.0, first_of_on P ds es on.2)

decks_first : (lines : List LineView) (l : LibraryView) (reached : Reached) → is_plain lines ≡ true → applied lines l ≡ Ok reached
    → StandFirst l.decks reached.library.decks
decks_first lines l reached plain is =
    let x = suc (length l.idents) in
    let grows : Grows x l reached.library =
    IfOk-at_ok (Grows x l) (rw is refl) (all_applied_grows x (lines ∷ []) l (omega arith) (both (purges_nothing lines) true (no_purges lines plain) refl)) in
    first_of_on _ l.decks reached.library.decks grows.decks

-- ---- row changes

third : (a b c d e : Bool) → (a && b && c && d && e) ≡ true → c ≡ true
third true true true d e h = refl
third true true false d e h = h
third true false c d e h = absurd (cc)
third false b c d e h = absurd (cc)

few_cards : (l : LibraryView) → is_within_limits l ≡ true → AllByRecursion AreFew (all_decks l)
few_cards l within =
    let cards : nat_le (card_count l) MAX_CARDS ≡ true =
    third (nat_le (length l.idents) MAX_INTRODUCED) (nat_le (held_count l) MAX_HELD) (nat_le (card_count l) MAX_CARDS) (nat_le (entry_count l) MAX_ENTRIES)
    (nat_le (target_count l) MAX_TARGETS) within in
    let less : card_count l ≤ MAX_CARDS = grind (arith, nat_tests, cards) in
    each_few MAX_CARDS (all_decks l) (omega (arith, less)) (omega arith)

pub row_changes_whole : (out : ℕ → Bool) (lines : List LineView) (l : LibraryView) (reached : Reached) (changes : List ChangeView) → out 0 ≡ false → IsSound l
    → is_within_limits l ≡ true → DoesWithout out lines l → applied lines l ≡ Ok reached → RowChanges (part out l) (part out reached.library) changes
    → RowChanges l reached.library changes
row_changes_whole out lines l reached changes yanks sound within does is t =
    let m = reached.library in
    let first : StandFirst (all_decks l) (all_decks m) = (refl, decks_first lines l reached does.plain is) in
    let in_part : Paired (kept_of out (all_decks l)) (kept_of out (all_decks m)) t.decks =
    subst (λ ds. Paired ds (kept_of out (all_decks m)) t.decks) (kept_all out l yanks)
    (subst (λ ds. Paired (all_decks (part out l)) ds t.decks) (kept_all out m yanks) t.paired) in
    record {
      decks = weave out (all_decks l) t.decks;
      paired = woven out (all_decks l) (all_decks m) t.decks first (applied_left out lines l reached sound does is) (few_cards l within) in_part;
      are = t.are ∙ sym (row_changes_woven out l.idents m.idents (all_decks l) t.decks);
    }

-- ---- touched cards

same_history_own : (es : List Entry) → same_history es es ≡ true
same_history_own [] = refl
same_history_own (e ∷ es) = both (same_entry e e) (same_history es es) (same_entry_own e) (same_history_own es)

-- a card of a deck was in it
pub stood : (cards : List CardView) (k : ℕ) (c : CardView) → slice_get cards k ≡ Some c → stood_in cards c ≡ true
stood cards k c at =
    any_of (λ b. is_card c.ident c.number b && same_history b.history c.history) cards k c at
    (both (is_card c.ident c.number c) (same_history c.history c.history)
    (both (c.ident == c.ident) (c.number == c.number) (is_same_number c.ident c.ident refl) (is_same_number c.number c.number refl))
    (same_history_own c.history))

none_new : (test : CardView → Bool) (cards : List CardView) → AllByRecursion (λ c. test c ≡ true) cards → filter (λ c. not (test c)) cards ≡ []
none_new test [] all = refl
none_new test (c ∷ cards) all = rw all.0 (none_new test cards all.1)

-- no card of an unchanged deck is touched
none_touched : (idents : List Ident) (l : LibraryView) (d : DeckView) → cards_of d.ident l ≡ d.cards → touched_in idents l d ≡ []
none_touched idents l d same =
    let all = all_by_index d.cards (λ k c at. stood d.cards k c at) in
    ap (map (ref_of idents)) (ap (λ cards. filter (λ c. not (stood_in cards c)) d.cards) same ∙ none_new (stood_in d.cards) d.cards all)

module _ (out : ℕ → Bool) (l : LibraryView) (idents : List Ident) where
  touched_kept : (ds : List DeckView) → AllByRecursion (λ d. touched_in idents l d ≡ []) (left_of out ds)
      → flat_map (touched_in idents (part out l)) (kept_of out ds) ≡ flat_map (touched_in idents l) ds
  touched_kept [] none = refl
  touched_kept (d ∷ ds) none = go (out d.ident) refl none (touched_kept ds)
    where
      here : out d.ident ≡ false → touched_in idents (part out l) d ≡ touched_in idents l d
      here o = ap (λ cards. map (ref_of idents) (filter (λ c. not (stood_in cards c)) d.cards)) (cards_same out d.ident l o)

      go : (b : Bool) → out d.ident ≡ b → AllByRecursion (λ d. touched_in idents l d ≡ []) (left_of out (d ∷ ds))
          → (AllByRecursion (λ d. touched_in idents l d ≡ []) (left_of out ds)
          → flat_map (touched_in idents (part out l)) (kept_of out ds) ≡ flat_map (touched_in idents l) ds)
          → flat_map (touched_in idents (part out l)) (kept_of out (d ∷ ds)) ≡ flat_map (touched_in idents l) (d ∷ ds)
      go true o none later =
          let all : AllByRecursion (λ d. touched_in idents l d ≡ []) (d ∷ left_of out ds) = rw o at none in
          rw o (later all.1 ∙ ap (λ t. t ++ flat_map (touched_in idents l) ds) (sym all.0))
      go false o none later = rw o (λ i. here o i ++ later (rw o at none) i)

pub touched_whole : (out : ℕ → Bool) (lines : List LineView) (l : LibraryView) (reached : Reached) → out 0 ≡ false → IsSound l → DoesWithout out lines l
    → applied lines l ≡ Ok reached → touched (part out l) (part out reached.library) ≡ touched l reached.library
touched_whole out lines l reached yanks sound does is =
    let m = reached.library in
    let stand : AllByRecursion (λ d. cards_of d.ident l ≡ d.cards) (all_decks l) =
    all_by_index (all_decks l) (λ k d at. cards_of_deck l k d (rising_apart (map (λ d. d.ident) (all_decks l)) sound.deck_ages) at) in
    let none : AllByRecursion (λ d. touched_in m.idents l d ≡ []) (all_decks l) = all_weaker _ _ (all_decks l) (λ d. none_touched m.idents l d) stand in
    let left : AllByRecursion (λ d. touched_in m.idents l d ≡ []) (left_out out m) =
    subst (AllByRecursion (λ d. touched_in m.idents l d ≡ [])) (sym (applied_left out lines l reached sound does is))
    (all_filter _ (λ d. out d.ident) (all_decks l) none) in
    ap (flat_map (touched_in m.idents (part out l))) (kept_all out m yanks) ∙ touched_kept out l m.idents (all_decks m) left

-- ---- a run on the decks that it needs

same_ok : (x y : Reached) (r s : Result Reached Fault) → r ≡ Ok x → s ≡ Ok y → r ≡ s → x ≡ y
same_ok x y r s p q e = cc

pub on_whole : (ages : List ℕ) (lines : List LineView) (l : LibraryView) (here : Reached) (changes : List ChangeView) → IsSound l
    → is_within_limits l ≡ true → is_plain lines ≡ true → NamesNone (is_left_out ages l) lines l → applied lines (part_of ages l) ≡ Ok here
    → RowChanges (part_of ages l) here.library changes → IsOnWhole (is_left_out ages l) lines l here changes
on_whole ages lines l here changes sound within plain names is row_changes = go (applied lines l) refl
  where
    out : ℕ → Bool
    out = is_left_out ages l

    does : DoesWithout out lines l
    does = record { plain = plain; listed = others_listed ages l; cards = names }

    same : reached_in_part out (applied lines l) ≡ Ok here
    same = sym (ap (applied lines) (part_of_others ages l sound) ∙ applied_same out lines l refl sound does) ∙ is

    go : (r : Result Reached Fault) → applied lines l ≡ r → IsOnWhole out lines l here changes
    go (Ok there) e =
        let parted : record there { library = part out there.library } ≡ here = same_ok _ here _ (Ok here) (ap (reached_in_part out) e) refl same in
        let library : part out there.library ≡ here.library = ap (λ (r : Reached). r.library) parted in
        let in_part : RowChanges (part out l) (part out there.library) changes =
        subst (λ m. RowChanges (part out l) m changes) (sym library)
        (subst (λ m. RowChanges m here.library changes) (part_of_others ages l sound) row_changes) in
        record {
          there = there;
          reached = e;
          parted = sym parted;
          row_changes = row_changes_whole out lines l there changes refl sound within does e in_part;
          touched = sym (touched_whole out lines l there refl sound does e) ∙ ap (touched (part out l)) library;
        }
    go (Err f) e = absurd (let bad = sym (ap (reached_in_part out) e) ∙ same in cc)
