-- The four listings. Each line ends with LF.
use Rattle.std.specs.Prelude.{ℕ, ◌==◌, Bool, false, not, if◌then◌else◌, List, [], ◌∷◌, ◌++◌, codes, decimal, Option, Some, None, Result, Ok}
use Rattle.std.specs.Option.{option_map_or}
use Rattle.std.specs.List.{flat_map, list_any}
use Rattle.std.specs.Str.{bytes_eq}
use Rattle.upd_core.specs.declared.card.Entry.{Entry}
use Rattle.upd_text.specs.declared.card_ref.CardRef.{CardRef}
use Rattle.upd_text.specs.declared.fault.Fault.{Fault}
use Rattle.upd_text.specs.declared.fault.FaultKind.TheVariants.{DeckUnknown, CardUnknown}
use Rattle.upd_core.specs.declared.ident.Ident.{Ident}
use Rattle.upd_core.specs.declared.ident.Kind.{Kind}
use Rattle.upd_core.specs.declared.ident.Kind.TheVariants as kind
use Rattle.upd_core.specs.declared.target.Target.{Target}
use Rattle.upd_core.specs.declared.target.Target.TheVariants.{Set, SetIn, Deck}
use Rattle.upd_core.specs.Library.{CardView, LibraryView, name_of, ref_of, is_common, deck_of, place_of, card_in, cards_of}
use Rattle.upd_text.specs.Names.{yank_name, card_text}
use Rattle.upd_text.specs.Outcome.{◌>>=◌, need, at_line}
use Rattle.upd_core.specs.Status.{is_active, is_good, is_taken, live_targets}
use Rattle.upd_compile.specs.Idents.{ident_at}

-- a line: its words with a blank before each but the first, and LF
abbrev pub line_of : List (List ℕ) → List ℕ
line_of [] = 10 ∷ []
line_of (w ∷ ws) = w ++ flat_map (λ x. 32 ∷ x) ws ++ 10 ∷ []

-- the last word of a line, present only where something holds
abbrev pub word_if : Bool → List ℕ → List (List ℕ)
word_if test word = if test then word ∷ [] else []

-- the name of the deck with a serial
abbrev pub deck_name : List Ident → ℕ → List ℕ
deck_name idents age = if age == 0 then yank_name else name_of idents age

-- the reference of a card, as listings write it
abbrev pub card_name : List Ident → CardView → List ℕ
card_name idents c = card_text (ref_of idents c)

-- ---- a deck

-- the serial of the deck with a name; `YANK$$$` can be listed too
abbrev pub listed_deck : List ℕ → LibraryView → Option ℕ
listed_deck name l = if bytes_eq name yank_name then Some 0 else deck_of name l

-- the head line of a deck, from its name and its ident; `YANK$$$` has no ident
abbrev pub heading : List ℕ → Option Ident → List ℕ
heading name None = line_of (codes "DECK" ∷ name ∷ [])
heading name (Some i) =
    if is_common i.kind
    then line_of (codes "COMDECK" ∷ name ∷ word_if i.noprop (codes "NOPROP"))
    else line_of (codes "DECK" ∷ name ∷ [])

-- the head line of a deck: its kind, its name and NOPROP
abbrev pub deck_heading : List Ident → ℕ → List ℕ
deck_heading idents age = heading (deck_name idents age) (ident_at idents age)

-- the line of a card: whether it is active, its reference and its text
abbrev pub deck_line : List Ident → List Target → ℕ → CardView → List ℕ
deck_line idents live deck c = line_of ((if is_active live deck c then codes "A" else codes "I") ∷ card_name idents c ∷ c.text ∷ [])

-- a deck's head line and a line for each card
abbrev pub deck_listing : List ℕ → LibraryView → Result (List ℕ) Fault
deck_listing name l = do
  age ← at_line 0 (need DeckUnknown (listed_deck name l))
  Ok (deck_heading l.idents age ++ flat_map (deck_line l.idents (live_targets l) age) (cards_of age l))

-- ---- a card

-- the line of an entry: its ident, on or off, and whether the ident is taken
abbrev pub entry_line : List Ident → List Target → ℕ → Entry → List ℕ
entry_line idents live deck e =
    line_of (codes "ENTRY" ∷ name_of idents e.ident ∷ (if e.active then codes "on" else codes "off")
    ∷ word_if (is_taken live deck e.ident) (codes "taken"))

-- a card's reference, deck, text and status, and a line for each entry
abbrev pub card_lines : List Ident → List Target → ℕ → CardView → List ℕ
card_lines idents live deck c =
    line_of (codes "CARD" ∷ card_name idents c ∷ []) ++ line_of (codes "DECK" ∷ deck_name idents deck ∷ [])
    ++ line_of (codes "TEXT" ∷ c.text ∷ [])
    ++ line_of (codes "STATUS" ∷ (if is_active live deck c then codes "active" else codes "inactive") ∷ [])
    ++ flat_map (entry_line idents live deck) c.history

-- a card with its status and its history
abbrev pub card_listing : CardRef → LibraryView → Result (List ℕ) Fault
card_listing card l = do
  place ← at_line 0 (need CardUnknown (place_of card l))
  c ← at_line 0 (need CardUnknown (card_in place l))
  Ok (card_lines l.idents (live_targets l) place.deck c)

-- ---- the directory

-- the word for a kind
abbrev pub kind_word : Kind → List ℕ
kind_word kind.Set = codes "set"
kind_word kind.Deck = codes "deck"
kind_word kind.Common = codes "comdeck"

-- the line of an ident: serial, name, kind and state
abbrev pub ident_line : Ident → List ℕ
ident_line i = line_of (decimal i.age ∷ i.name ∷ kind_word i.kind ∷ (if i.held then codes "held" else codes "purged") ∷ [])

-- a line for each ident, in order of serial
abbrev pub ident_listing : LibraryView → List ℕ
ident_listing l = flat_map ident_line l.idents

-- ---- the yanks

-- whether the directory has no held ident with a serial
abbrev pub is_purged : List Ident → ℕ → Bool
is_purged idents age = not (option_map_or (λ i. i.held) (ident_at idents age) false)

-- the suffix `purged` where one of these idents is purged
abbrev pub purged_suffix : List Ident → List ℕ → List (List ℕ)
purged_suffix idents ages = word_if (list_any (is_purged idents) ages) (codes "purged")

-- the line of a target, with the suffix where one of its idents is purged
abbrev pub target_line : List Ident → Target → List ℕ
target_line idents (Set z) = 32 ∷ line_of (codes "set" ∷ name_of idents z ∷ purged_suffix idents (z ∷ []))
target_line idents (SetIn z d) = 32 ∷ line_of (codes "setin" ∷ name_of idents z ∷ name_of idents d ∷ purged_suffix idents (z ∷ d ∷ []))
target_line idents (Deck d) = 32 ∷ line_of (codes "deck" ∷ name_of idents d ∷ purged_suffix idents (d ∷ []))

-- the line of a yank card, and one for each of its targets
abbrev pub yank_lines : List Ident → List Target → CardView → List ℕ
yank_lines idents live c =
    line_of ((if is_good live 0 c then codes "live" else codes "dead") ∷ card_name idents c ∷ c.text ∷ [])
    ++ flat_map (target_line idents) c.targets

-- a line for each yank card in order, and one for each of its targets
abbrev pub yank_listing : LibraryView → List ℕ
yank_listing l = flat_map (yank_lines l.idents (live_targets l)) l.yanks
