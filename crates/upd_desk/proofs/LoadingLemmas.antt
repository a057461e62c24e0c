-- What is loaded for a run is the part with the decks that it needs, and no more decks are read.
use Rattle.upd_desk.proofs.Common.{◌≡◌, ℕ, ◌+◌, ◌≤◌, ◌<◌, Bool, true, false, not, ◌&&◌, if◌then◌else◌, List, [], ◌∷◌, length, map, Option, Some, None, Ok}
use Rattle.upd_desk.proofs.Common.{refl, sym, ap, ◌∙◌, subst, arith, nat_tests, filter, list_any, option_map_or, CardRef, Place, is_among, DeckView}
use Rattle.upd_desk.proofs.Common.{LibraryView, ref_of, part_of, IsSound, LineView, same_ref, decks_with, cards_named, decks_needed, is_yank_card, is_plain}
use Rattle.upd_desk.proofs.Common.{decks_few, whole_part, reading, needed}
use Rattle.std.specs.Prelude.{◌==◌}
use Rattle.upd_core.specs.First.{index_from}
use Rattle.upd_core.specs.Sound.{IsWhole}
use Rattle.upd_core.specs.Library.{ident_of, is_card, place_in}
use Rattle.upd_core.proofs.ApartLemmas.{all_at, all_mapped}
use Rattle.upd_core.proofs.FoundLemmas.{place_found}
use Rattle.upd_row_store.specs.Asked.{are_in_yanks}
use Rattle.upd_row_store.specs.Keeping.{IsShown, reads_after, reads_with}
use Rattle.upd_desk.specs.Holding.{FindsMade, ReadsAtMost}
use Rattle.upd_desk.proofs.Common.{Err, Fault, Ghosts, IsMade, Keeps, Result, Rows, Shows}
use Rattle.upd_partial.specs.Needed.{AreAlike}
use Rattle.upd_partial.proofs.NeededLemmas.{none_yank}

-- ---- whether a yank card is named is seen without any deck

-- whether what is found is a yank card, behind what is found among the yank cards
abbrev found_yank : Option ℕ → Option Place → Bool
found_yank (Some i) later = true
found_yank None later = option_map_or (λ (p : Place). p.deck == 0) later false

none_in_none : (ds : List DeckView) (z n : ℕ) → place_in (filter (λ (d : DeckView). not (not (is_among [] d.ident))) ds) z n ≡ None
none_in_none [] z n = refl
none_in_none (d ∷ ds) z n = none_in_none ds z n

no_yank_deck : (l : LibraryView) (z n : ℕ) → IsSound l → option_map_or (λ (p : Place). p.deck == 0) (place_in l.decks z n) false ≡ false
no_yank_deck l z n sound = go (place_in l.decks z n) refl
  where
    go : (o : Option Place) → place_in l.decks z n ≡ o → option_map_or (λ (p : Place). p.deck == 0) o false ≡ false
    go None e = refl
    go (Some p) e =
        let at = place_found l.decks z n p e in
        let later : 0 < at.deck.ident =
        all_at (λ (d : DeckView). 0 < d.ident) l.decks at.index at.deck
        (all_mapped (λ m. 0 < m) (λ (d : DeckView). d.ident) l.decks sound.deck_ages.0) at.found in
        let age = at.age in
        grind (arith, nat_tests)

yank_same : (l : LibraryView) (card : CardRef) → IsSound l → is_yank_card (part_of [] l) card ≡ is_yank_card l card
yank_same l card sound = go (ident_of card.name l) refl
  where
    ending : (o : Option ℕ) (z : ℕ) → found_yank o (place_in (filter (λ (d : DeckView). not (not (is_among [] d.ident))) l.decks) z card.number)
        ≡ found_yank o (place_in l.decks z card.number)
    ending (Some i) z = refl
    ending None z =
        ap (λ o. option_map_or (λ (p : Place). p.deck == 0) o false) (none_in_none l.decks z card.number) ∙ sym (no_yank_deck l z card.number sound)

    as_found : (ds : List DeckView) (z : ℕ) (o : Option ℕ) → index_from (is_card z card.number) 0 l.yanks ≡ o
        → option_map_or (λ (p : Place). p.deck == 0) (place_in (record { ident = 0; cards = l.yanks } ∷ ds) z card.number) false
        ≡ found_yank o (place_in ds z card.number)
    as_found ds z None e = rw e refl
    as_found ds z (Some i) e = rw e refl

    go : (o : Option ℕ) → ident_of card.name l ≡ o → is_yank_card (part_of [] l) card ≡ is_yank_card l card
    go None e = rw e refl
    go (Some z) e =
        let o = index_from (is_card z card.number) 0 l.yanks in
        rw e (as_found (filter (λ (d : DeckView). not (not (is_among [] d.ident))) l.decks) z o refl ∙ ending o z ∙ sym (as_found l.decks z o refl))

yanks_same : (l head : LibraryView) (cards : List CardRef) → IsSound l → head ≡ part_of [] l
    → list_any (is_yank_card head) cards ≡ list_any (is_yank_card l) cards
yanks_same l head cards sound is =
    ap (λ h. list_any (is_yank_card h) cards) is ∙ ap (λ test. list_any test cards) (λ i card. yank_same l card sound i)

-- ---- which decks are needed

abbrev all_ages : LibraryView → List ℕ
all_ages l = map (λ d. d.ident) l.decks

pub needs_all : (lines : List LineView) (l : LibraryView) → is_plain lines ≡ false → decks_needed lines l ≡ all_ages l
needs_all lines l plain = rw plain refl

pub needs_yanks : (lines : List LineView) (l head : LibraryView) (cards asked : List CardRef) → IsSound l → head ≡ part_of [] l
    → AreAlike cards (cards_named lines) → asked ≡ cards → list_any (is_yank_card head) asked ≡ true → decks_needed lines l ≡ all_ages l
needs_yanks lines l head cards asked sound is alike are yanks = go (is_plain lines)
  where
    some : list_any (is_yank_card l) (cards_named lines) ≡ true
    some = sym (alike (is_yank_card l)) ∙ sym (yanks_same l head cards sound is) ∙ ap (list_any (is_yank_card head)) (sym are) ∙ yanks

    go : (plain : Bool)
        → (if plain && not (list_any (is_yank_card l) (cards_named lines)) then decks_with (cards_named lines) l else all_ages l) ≡ all_ages l
    go true = rw some refl
    go false = refl

-- the same cards are in the same decks
same_decks : (cards others : List CardRef) (l : LibraryView) → AreAlike cards others → decks_with cards l ≡ decks_with others l
same_decks cards others l alike =
    ap (λ (asked : CardRef → Bool). map (λ d. d.ident) (filter (λ (d : DeckView). list_any (λ c. asked (ref_of l.idents c)) d.cards) l.decks))
    (λ i card. alike (λ c. same_ref c card) i)

needs_unyanked : (lines : List LineView) (l : LibraryView) (cards : List CardRef) → is_plain lines ≡ true → AreAlike cards (cards_named lines)
    → list_any (is_yank_card l) cards ≡ false → decks_needed lines l ≡ decks_with cards l
needs_unyanked lines l cards plain alike none =
    let no : list_any (is_yank_card l) (cards_named lines) ≡ false = sym (alike (is_yank_card l)) ∙ none in
    let same : decks_needed lines l ≡ decks_with (cards_named lines) l = rw (plain, no) refl in
    same ∙ sym (same_decks cards (cards_named lines) l alike)

-- where `YANK$$$` has none of them
pub needs_named : (lines : List LineView) (l : LibraryView) (cards asked : List CardRef) → IsSound l → is_plain lines ≡ true
    → AreAlike cards (cards_named lines) → asked ≡ cards → are_in_yanks asked l ≡ false → decks_needed lines l ≡ decks_with cards l
needs_named lines l cards asked sound plain alike are none =
    needs_unyanked lines l cards plain alike (none_yank cards l sound (ap (λ cs. are_in_yanks cs l) (sym are) ∙ none))

-- where the directory shows that none of them is a yank card
pub needs_seen : (lines : List LineView) (l head : LibraryView) (cards asked : List CardRef) → IsSound l → is_plain lines ≡ true → head ≡ part_of [] l
    → AreAlike cards (cards_named lines) → asked ≡ cards → list_any (is_yank_card head) asked ≡ false → decks_needed lines l ≡ decks_with cards l
needs_seen lines l head cards asked sound plain is alike are none =
    needs_unyanked lines l cards plain alike (sym (yanks_same l head cards sound is) ∙ ap (list_any (is_yank_card head)) (sym are) ∙ none)

-- ---- what was loaded

pub all_loaded : (lines : List LineView) (l found : LibraryView) → found ≡ l → decks_needed lines l ≡ all_ages l
    → found ≡ part_of (decks_needed lines l) l
all_loaded lines l found is needs = is ∙ sym (ap (λ ds. part_of ds l) needs ∙ whole_part l)

-- the homes of these cards
pub homes_loaded : (lines : List LineView) (l found : LibraryView) (cards asked : List CardRef) (ages homes : List ℕ) → found ≡ part_of ages l
    → ages ≡ homes → homes ≡ decks_with asked l → asked ≡ cards → decks_needed lines l ≡ decks_with cards l → found ≡ part_of (decks_needed lines l) l
homes_loaded lines l found cards asked ages homes is same are of needs =
    is ∙ ap (λ ds. part_of ds l) (same ∙ are ∙ ap (λ cs. decks_with cs l) of ∙ sym needs)

pub no_ages : (ages : List ℕ) → length ages ≡ 0 → [] ≡ ages
no_ages [] none = refl
no_ages (d ∷ ds) none = absurd (cc)

-- ---- how many decks were read

few_more : (old mid new n : ℕ) (found : LibraryView) → new ≡ reads_with found mid → mid ≤ old → length found.decks ≤ n → new ≤ old + n
few_more old mid new n found is less few = grind (arith, is, less, few)

pub none_read : (old new : ℕ) (l head : LibraryView) → IsSound l → head ≡ part_of [] l → new ≡ reads_with head old → new ≤ old
none_read old new l head sound is reads =
    let few : length head.decks ≤ 0 = subst (λ h. length h.decks ≤ 0) (sym is) (decks_few [] l sound) in
    grind (arith, reads, few)

-- no more decks than ages were asked for
pub asked_read : (ages : List ℕ) (l found : LibraryView) (old mid new n : ℕ) → IsSound l → mid ≤ old → new ≡ reads_with found mid
    → found ≡ part_of ages l → length ages ≤ n → new ≤ old + n
asked_read ages l found old mid new n sound less reads is few =
    let less_yet = decks_few ages l sound in
    few_more old mid new n found reads less (subst (λ m. length m.decks ≤ n) (sym is) (omega (arith, less_yet, few)))

needed_read : (lines : List LineView) (l found : LibraryView) (old mid new : ℕ) → IsSound l → mid ≤ old → new ≡ reads_with found mid
    → found ≡ part_of (decks_needed lines l) l → new ≤ old + length (decks_needed lines l)
needed_read lines l found old mid new sound less reads is =
    asked_read (decks_needed lines l) l found old mid new (length (decks_needed lines l)) sound less reads is (omega arith)

pub still_read : (old mid : ℕ) → mid ≡ old → mid ≤ old
still_read old mid same = grind (arith, same)

-- the directory is read after calls that read no deck
pub head_read : (old mid new : ℕ) → mid ≡ old → new ≤ mid → new ≤ old
head_read old mid new same less = grind (arith, same, less)

pub within : (old new n : ℕ) → new ≤ old → new ≤ old + n
within old new n less = omega (arith, less)

pub no_more : (old new : ℕ) → new ≤ old + 0 → new ≤ old
no_more old new less = omega (arith, less)

pub read_no_more : (old mid new n : ℕ) → new ≡ mid → mid ≤ old + n → new ≤ old + n
read_no_more old mid new n same less = grind (arith, same, less)

-- for a stored run none is read
pub none_read_again : (old mid new n : ℕ) → mid ≡ old → new ≡ mid → new ≤ old + n
none_read_again old mid new n first second = grind (arith, first, second)

-- what is read for the lines of a run is read for its bytes
pub reads_of_run : (bytes : List ℕ) (l : LibraryView) (lines : List LineView) (old new : ℕ) → reading bytes ≡ Ok lines
    → new ≤ old + length (decks_needed lines l) → new ≤ old + length (needed bytes l)
reads_of_run bytes l lines old new read less =
    let same : needed bytes l ≡ decks_needed lines l = rw read refl in
    subst (λ ds. new ≤ old + length ds) (sym same) less

module _ {S : Type 0} (meaning : Ghosts S) where
  open meaning use {is_honest, decks_read_of}

  -- a load of what a run needs reads no more decks, after calls that read none
  pub reads_needed : (lines : List LineView) (result : Result LibraryView Fault) (old mid new : S)
      → (is_honest new → (l : LibraryView) → IsMade l → (rows : Rows) → IsShown meaning rows old → Shows rows l
      → decks_read_of mid ≤ decks_read_of old)
      → decks_read_of new ≡ reads_after result (decks_read_of mid)
      → FindsMade meaning result old new (λ l rows found. found ≡ part_of (decks_needed lines l) l)
      → ReadsAtMost meaning result old new (λ l. length (decks_needed lines l))
  reads_needed lines (Ok found) old mid new less reads finds = λ honest l made rows shown holds.
      needed_read lines l found _ _ _ made.sound (less honest l made rows shown holds) reads (finds honest l made rows shown holds)
  reads_needed lines (Err f) old mid new less reads finds = λ honest. tt

module _ {S : Type 0} {meaning : Ghosts S} where
  open meaning use {shows, is_open, is_honest, decks_read_of}

  -- the directory is read without any deck, after a call that reads none
  pub none_with_head : (head : LibraryView) (old mid new : S) → Keeps meaning old mid → (is_honest mid → is_open mid)
      → decks_read_of mid ≡ decks_read_of old
      → (is_honest new → is_honest mid)
      → (is_honest new → (l : LibraryView) → IsSound l → IsWhole l → (rows : Rows) → IsShown meaning rows mid → Shows rows l
      → head ≡ part_of [] l)
      → decks_read_of new ≡ reads_with head (decks_read_of mid) → is_honest new
      → (l : LibraryView) → IsMade l → (rows : Rows) → IsShown meaning rows old → Shows rows l → decks_read_of new ≤ decks_read_of old
  none_with_head head old mid new keeps opens unread before finds reads honest l made rows shown holds =
      let there = subst (λ i. shows i rows) (sym (keeps.same (before honest) (opens (before honest)))) shown in
      head_read _ _ _ unread (none_read _ _ l head made.sound (finds honest l made.sound made.whole rows there holds) reads)
