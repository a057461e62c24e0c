-- Lines of compile files, where the library was made by runs that were read.
use Rattle.upd_laws.proofs.Common.{◌≡◌, ℕ, zero, suc, ◌-◌, ◌<◌, ◌≤◌, Bool, true, false, cond, ◌&&◌, ◌||◌, List, [], ◌∷◌, ◌++◌, length, refl, arith}
use Rattle.upd_laws.proofs.Common.{length-append, nat_tests, sum_by-cons, ◌==◌, nat_le, count_by, IsTrue, option_map, option_and_then, filter, flat_map}
use Rattle.upd_laws.proofs.Common.{list_all, AllByRecursion, Fault, FaultKind, is_name, Ident, Target, CardView, DeckView, LibraryView, held_named, all_cards}
use Rattle.upd_laws.proofs.Common.{live_targets, all_back, is_allowed, HasLineTexts, IsOfRun, flat, holds_of}
use Rattle.std.proofs.Common.{◌*◌, ◌^◌, slice_get, Option, Some, None, Ok}
use Rattle.std.proofs.lemmas.Fmt.{decimal_is_IsNumeral, length-decimal-le}
use Rattle.std.proofs.lemmas.List.{length-replicate}
use Rattle.std.specs.Char.{digit_value}
use Rattle.std.specs.Str.Parse.{AllDigits}
use Rattle.std.specs.Prelude.{decimal, unwrap_or}
use Rattle.std.specs.List.{Contains}
use Rattle.upd_text.specs.declared.limits.TheConstants.{MAX_DEPTH, MAX_NAME_BYTES}
use Rattle.upd_text.specs.Lines.{called, is_call}
use Rattle.upd_text.specs.Names.{is_between, is_name_byte}
use Rattle.upd_core.specs.Actives.{ActiveCardView, ActiveDeckView, ActivesView, active_deck, actives_of, without_past}
use Rattle.upd_core.specs.Library.{is_common, name_of}
use Rattle.upd_core.specs.Status.{is_active}
use Rattle.upd_core.proofs.ApartLemmas.{all_at, all_of_contained, find_at}
use Rattle.upd_deck.proofs.GrammarNames.{all_of}
use Rattle.upd_compile.specs.declared.mode.Mode.{Mode}
use Rattle.upd_compile.specs.Chosen.{chosen}
use Rattle.upd_compile.specs.File.{FileView, blanks, card_line, compile_file_of, event_line, from_left, from_right, is_line, walk_faults, written}
use Rattle.upd_compile.specs.Walk.{WalkEvent, Line, Follow, Depth, Unknown, card_events, common_named, deck_aged, call_events, text_cards, walk}
use Rattle.upd_laws.proofs.SoundListLemmas.{and_left, and_right, all_append, all_each, all_filter, all_flat, all_map, all_weaker}

-- ---- one line

-- a card whose text, name and number fit their columns
pub record FitsColumns (idents : List Ident) (c : ActiveCardView) : Type 0 where
  pub text : length c.text ≤ 80
  pub name : length (name_of idents c.ident) ≤ 9
  pub number : length (decimal c.number) ≤ 6

blanks_length : (n : ℕ) → length (blanks n) ≡ n
blanks_length n = length-replicate n 32

pub line_length : (idents : List Ident) (c : ActiveCardView) → FitsColumns idents c → length (card_line idents c) ≡ 97
line_length idents c fits =
    let a = blanks_length (80 - length c.text) in
    let b = blanks_length (9 - length (name_of idents c.ident)) in
    let d = blanks_length (6 - length (decimal c.number)) in
    simp length-append (omega (arith, a, b, d, fits.text, fits.name, fits.number))

-- ---- the lines of a walk

-- each line of an event is of a card of which a fact holds
abbrev IsOfLines : (ActiveCardView → Type 0) → WalkEvent → Type 0
IsOfLines P (Line c) = P c
IsOfLines P Follow = Unit {0}
IsOfLines P Depth = Unit {0}
IsOfLines P Unknown = Unit {0}

walk_length : (idents : List Ident) (events : List WalkEvent) → AllByRecursion (IsOfLines (FitsColumns idents)) events
    → length (flat_map (event_line idents) events) ≡ 97 * count_by is_line events
walk_length idents [] fit = refl
walk_length idents (event ∷ events) fit = go event fit.0 (walk_length idents events fit.1)
  where
    one : WalkEvent → ℕ
    one e = cond (is_line e) 1 0

    go : (e : WalkEvent) → IsOfLines (FitsColumns idents) e → length (flat_map (event_line idents) events) ≡ 97 * count_by is_line events
        → length (flat_map (event_line idents) (e ∷ events)) ≡ 97 * count_by is_line (e ∷ events)
    go (Line c) fits rest =
        let a = length-append (card_line idents c) (flat_map (event_line idents) events) in
        let b = line_length idents c fits in
        let d = sum_by-cons one (Line c) events in
        omega arith
    go Follow fits rest = let d = sum_by-cons one Follow events in omega arith
    go Depth fits rest = let d = sum_by-cons one Depth events in omega arith
    go Unknown fits rest = let d = sum_by-cons one Unknown events in omega arith

-- decks of which the fact holds of each card
abbrev AreOfCards : (ActiveCardView → Type 0) → List ActiveDeckView → Type 0
AreOfCards P decks = AllByRecursion (λ (d : ActiveDeckView). AllByRecursion P d.cards) decks

found_of : (P : ActiveCardView → Type 0) (a : ActivesView) (name : List ℕ) (d : ActiveDeckView) → AreOfCards P a.decks → common_named name a ≡ Some d
    → AllByRecursion P d.cards
found_of P a name d all e = go (held_named name a.idents) e
  where
    deck : Bool → ℕ → Option ActiveDeckView
    deck b age = cond b (deck_aged age a) None

    found : (b : Bool) (age : ℕ) → deck b age ≡ Some d → AllByRecursion P d.cards
    found true age f = let at = find_at (λ (d : ActiveDeckView). d.ident == age) a.decks d f in
        all_at (λ (d : ActiveDeckView). AllByRecursion P d.cards) a.decks at.0 d all at.1
    found false age f = absurd (cc)

    go : (o : Option Ident) → option_and_then (λ (i : Ident). deck (is_common i.kind) i.age) o ≡ Some d → AllByRecursion P d.cards
    go None f = absurd (cc)
    go (Some i) f = found (is_common i.kind) i.age f

each_of : (P : ActiveCardView → Type 0) (given : ActiveCardView → List WalkEvent) (cards : List ActiveCardView)
    → ((c : ActiveCardView) → P c → AllByRecursion (IsOfLines P) (given c)) → AllByRecursion P cards
    → AllByRecursion (IsOfLines P) (flat_map given cards)
each_of P given cards k all = all_flat (IsOfLines P) given cards (all_weaker P (λ c. AllByRecursion (IsOfLines P) (given c)) cards k all)

text_cards_of : (P : ActiveCardView → Type 0) (d : ActiveDeckView) → AllByRecursion P d.cards → AllByRecursion P (text_cards d)
text_cards_of P d all = all_filter P _ d.cards all

card_of : (P : ActiveCardView → Type 0) (levels : ℕ) (a : ActivesView) (c : ActiveCardView) → AreOfCards P a.decks → P c
    → AllByRecursion (IsOfLines P) (card_events levels a c)
card_of P zero a c all is = go (is_call c.text)
  where
    go : (b : Bool) → AllByRecursion (IsOfLines P) (cond b (Depth ∷ []) (Line c ∷ []))
    go true = (tt, tt)
    go false = (is, tt)
card_of P (suc levels) a c all is = go (is_call c.text) (common_named (called c.text) a) refl (λ e. card_of P levels a e all)
  where
    go : (b : Bool) (o : Option ActiveDeckView) → common_named (called c.text) a ≡ o
        → ((e : ActiveCardView) → P e → AllByRecursion (IsOfLines P) (card_events levels a e))
        → AllByRecursion (IsOfLines P) (cond b (call_events (card_events levels a) o) (Line c ∷ []))
    go true None e rest = (tt, tt)
    go true (Some d) e rest = (tt, each_of P (card_events levels a) (text_cards d) rest (text_cards_of P d (found_of P a (called c.text) d all e)))
    go false o e rest = (is, tt)

walk_of : (P : ActiveCardView → Type 0) (levels : ℕ) (a : ActivesView) (decks : List ActiveDeckView) → AreOfCards P a.decks → AreOfCards P decks
    → AllByRecursion (IsOfLines P) (flat_map (walk levels a) decks)
walk_of P levels a decks all chosen =
    all_flat (IsOfLines P) (walk levels a) decks
    (all_weaker (λ (d : ActiveDeckView). AllByRecursion P d.cards) (λ d. AllByRecursion (IsOfLines P) (walk levels a d)) decks
    (λ d cards. each_of P (card_events levels a) (text_cards d) (λ c. card_of P levels a c all) (text_cards_of P d cards)) chosen)

-- the events that a compile file is written from
pub record IsWrittenFrom (P : ActiveCardView → Type 0) (idents : List Ident) (file : FileView) : Type 0 where
  pub events : List WalkEvent
  pub lines : AllByRecursion (IsOfLines P) events
  pub written : file ≡ record { bytes = flat_map (event_line idents) events; lines = count_by is_line events }

-- ---- the cards of a library

name_short : (idents : List Ident) (z : ℕ) → AllByRecursion (λ i. IsTrue (is_name i.name)) idents → length (name_of idents z) ≤ 9
name_short idents z named = go (z == 0) (slice_get idents (z - 1)) refl
  where
    short : (name : List ℕ) → is_name name ≡ true → length name ≤ 9
    short name e =
        let two = and_left (is_between 1 MAX_NAME_BYTES (length name) && list_all _ name) _ e in
        let one = and_left (is_between 1 MAX_NAME_BYTES (length name)) (list_all _ name) two in
        let most : nat_le (length name) 9 ≡ true = and_right (nat_le 1 (length name)) (nat_le (length name) MAX_NAME_BYTES) one in
        grind (arith, nat_tests)

    go : (b : Bool) (o : Option Ident) → slice_get idents (z - 1) ≡ o → length (unwrap_or (cond b None (option_map (λ (i : Ident). i.name) o)) []) ≤ 9
    go true o e = omega arith
    go false None e = omega arith
    go false (Some i) e = short i.name (all_at (λ (i : Ident). IsTrue (is_name i.name)) idents (z - 1) i named e)

pub card_columns : (l : LibraryView) (c : CardView) → HasLineTexts l → IsOfRun c → FitsColumns l.idents (without_past c)
card_columns l c made fits =
    let text = fits.0.0 in
    let most = fits.2 in
    record {
      text = omega arith;
      name = name_short l.idents c.ident made.names;
      number = length-decimal-le 6 c.number (omega arith) (omega arith) (omega arith);
    }

pub made_line : (l : LibraryView) (c : CardView) → HasLineTexts l → Contains (all_cards l) c → length (card_line l.idents (without_past c)) ≡ 97
made_line l c made is = line_length l.idents (without_past c) (card_columns l c made (all_of_contained IsOfRun (all_cards l) c made.cards is))

actives_of_cards : (P : ActiveCardView → Type 0) (l : LibraryView) → ((c : CardView) → IsOfRun c → P (without_past c)) → HasLineTexts l
    → AreOfCards P (actives_of l).decks
actives_of_cards P l k made = all_map _ (active_deck live) l.decks (all_weaker (λ (d : DeckView). AllByRecursion IsOfRun d.cards) _ l.decks (λ d. deck d)
    (all_each IsOfRun (λ (d : DeckView). d.cards) l.decks (all_back IsOfRun l.yanks (flat l.decks) made.cards)))
  where
    live : List Target
    live = live_targets l

    deck : (d : DeckView) → AllByRecursion IsOfRun d.cards → AllByRecursion P (active_deck live d).cards
    deck d all = all_map P without_past (filter (is_active live d.ident) d.cards)
        (all_weaker IsOfRun (λ c. P (without_past c)) _ k (all_filter IsOfRun (is_active live d.ident) d.cards all))

-- a compile file is written from lines of cards of its library
file_from : (P : ActiveCardView → Type 0) (mode : Mode) (named : List ℕ) (before after : LibraryView) (file : FileView)
    → ((c : CardView) → IsOfRun c → P (without_past c)) → HasLineTexts after → compile_file_of mode named before after ≡ Ok file
    → IsWrittenFrom P after.idents file
file_from P mode named before after file k made h =
    go (flat_map (walk MAX_DEPTH (actives_of after)) decks)
    (walk_of P MAX_DEPTH (actives_of after) decks all (all_filter _ _ (actives_of after).decks all)) h
  where
    all : AreOfCards P (actives_of after).decks
    all = actives_of_cards P after k made

    decks : List ActiveDeckView
    decks = chosen mode named (actives_of before) (actives_of after)

    go : (events : List WalkEvent) → AllByRecursion (IsOfLines P) events → written after.idents events ≡ Ok file → IsWrittenFrom P after.idents file
    go events are h = by_faults (walk_faults events) refl
      where
        by_faults : (faults : List FaultKind) → walk_faults events ≡ faults → IsWrittenFrom P after.idents file
        by_faults (kind ∷ kinds) e = let bad = rw e at h in absurd (cc)
        by_faults [] e =
            holds_of {E = Fault} (IsWrittenFrom P after.idents)
            (record { bytes = flat_map (event_line after.idents) events; lines = count_by is_line events }) file (rw e at h)
            (record { events = events; lines = are; written = refl })

pub file_length : (mode : Mode) (named : List ℕ) (before after : LibraryView) (file : FileView) → HasLineTexts after
    → compile_file_of mode named before after ≡ Ok file → length file.bytes ≡ 97 * file.lines
file_length mode named before after file made h =
    let from = file_from (FitsColumns after.idents) mode named before after file (λ c. card_columns after c made) made h in
    rw from.written (walk_length after.idents from.events from.lines)

-- ---- the bytes of a compile file

-- a byte that a compile file may have: a line's, or LF
abbrev IsFileByte : ℕ → Type 0
IsFileByte b = IsTrue (is_allowed b || (b == 10))

-- a card whose text and name have such bytes
record IsPlain (idents : List Ident) (c : ActiveCardView) : Type 0 where
  text : AllByRecursion IsFileByte c.text
  name : AllByRecursion IsFileByte (name_of idents c.ident)
  number : c.number < 2 ^ 64

blanks_plain : (n : ℕ) → AllByRecursion IsFileByte (blanks n)
blanks_plain zero = tt
blanks_plain (suc n) = (refl, blanks_plain n)

digits_plain : (ds : List ℕ) → AllDigits 10 ds → AllByRecursion IsFileByte ds
digits_plain [] all = tt
digits_plain (b ∷ ds) all = (one b all.0, digits_plain ds all.1)
  where
    one : (b : ℕ) → digit_value b < 10 → IsFileByte b
    one b small = grind (arith, nat_tests)

pub text_plain : (text : List ℕ) → list_all is_allowed text ≡ true → AllByRecursion IsFileByte text
text_plain text allowed = all_weaker (λ b. is_allowed b ≡ true) IsFileByte text one (all_of is_allowed text allowed)
  where
    one : (b : ℕ) → is_allowed b ≡ true → IsFileByte b
    one b is = rw is refl

pub name_plain : (name : List ℕ) → is_name name ≡ true → AllByRecursion IsFileByte name
name_plain name is = all_weaker (λ b. is_name_byte b ≡ true) IsFileByte name one (all_of is_name_byte name bytes)
  where
    one : (b : ℕ) → is_name_byte b ≡ true → IsFileByte b
    one b is = grind (arith, nat_tests)

    bytes : list_all is_name_byte name ≡ true
    bytes =
        and_right (is_between 1 MAX_NAME_BYTES (length name)) _ (and_left (is_between 1 MAX_NAME_BYTES (length name) && list_all is_name_byte name) _ is)

-- the name of a serial: a held or purged ident's, or no bytes
pub name_of_plain : (idents : List Ident) (z : ℕ) → AllByRecursion (λ i. IsTrue (is_name i.name)) idents
    → AllByRecursion IsFileByte (name_of idents z)
name_of_plain idents z named = go (z == 0) (slice_get idents (z - 1)) refl
  where
    go : (b : Bool) (o : Option Ident) → slice_get idents (z - 1) ≡ o
        → AllByRecursion IsFileByte (unwrap_or (cond b None (option_map (λ (i : Ident). i.name) o)) [])
    go true o e = tt
    go false None e = tt
    go false (Some i) e = name_plain i.name (all_at (λ (i : Ident). IsTrue (is_name i.name)) idents (z - 1) i named e)

card_plain : (l : LibraryView) (c : CardView) → HasLineTexts l → IsOfRun c → IsPlain l.idents (without_past c)
card_plain l c made fits = record {
  text = text_plain c.text fits.0.1;
  name = name_of_plain l.idents c.ident made.names;
  number = let most = fits.2 in omega arith;
}

line_plain : (idents : List Ident) (c : ActiveCardView) → IsPlain idents c → AllByRecursion IsFileByte (card_line idents c)
line_plain idents c plain =
    let number = decimal_is_IsNumeral c.number plain.number in
    let text = all_append IsFileByte c.text (blanks (80 - length c.text)) plain.text (blanks_plain (80 - length c.text)) in
    let name = all_append IsFileByte (name_of idents c.ident) (blanks (9 - length (name_of idents c.ident))) plain.name
    (blanks_plain (9 - length (name_of idents c.ident))) in
    let digits = all_append IsFileByte (blanks (6 - length (decimal c.number))) (decimal c.number) (blanks_plain (6 - length (decimal c.number)))
    (digits_plain (decimal c.number) number.0.1) in
    all_append IsFileByte (from_left 80 c.text ++ 32 ∷ from_left 9 (name_of idents c.ident) ++ from_right 6 (decimal c.number)) (10 ∷ [])
    (all_append IsFileByte (from_left 80 c.text ++ 32 ∷ from_left 9 (name_of idents c.ident)) (from_right 6 (decimal c.number))
    (all_append IsFileByte (from_left 80 c.text) (32 ∷ from_left 9 (name_of idents c.ident)) text (refl, name)) digits) (refl, tt)

events_plain : (idents : List Ident) (events : List WalkEvent) → AllByRecursion (IsOfLines (IsPlain idents)) events
    → AllByRecursion IsFileByte (flat_map (event_line idents) events)
events_plain idents [] are = tt
events_plain idents (event ∷ events) are =
    all_append IsFileByte (event_line idents event) _ (one event are.0) (events_plain idents events are.1)
  where
    one : (e : WalkEvent) → IsOfLines (IsPlain idents) e → AllByRecursion IsFileByte (event_line idents e)
    one (Line c) plain = line_plain idents c plain
    one Follow plain = tt
    one Depth plain = tt
    one Unknown plain = tt

pub file_plain : (mode : Mode) (named : List ℕ) (before after : LibraryView) (file : FileView) → HasLineTexts after
    → compile_file_of mode named before after ≡ Ok file → AllByRecursion IsFileByte file.bytes
file_plain mode named before after file made h =
    let from = file_from (IsPlain after.idents) mode named before after file (λ c. card_plain after c made) made h in
    rw from.written (events_plain after.idents from.events from.lines)
