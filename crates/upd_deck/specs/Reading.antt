-- The reading of a run: its lines in order, or its first fault.
use Rattle.std.specs.Prelude.{ℕ, ◌+◌, ◌-◌, ◌==◌, nat_lt, nat_le, Bool, true, not, ◌&&◌, ◌||◌, if◌then◌else◌, List, [], ◌∷◌, length, take, codes, Option, Some}
use Rattle.std.specs.Prelude.{None, Result, Ok, Err}
use Rattle.std.specs.Option.{option_map}
use Rattle.std.specs.Str.{bytes_eq}
use Rattle.std.specs.Str.Lines.{strip_carriage_return}
use Rattle.std.specs.List.{find, list_any, list_all, slice_split, suffix_len, before_first, after_first}
use Rattle.upd_text.specs.declared.card_ref.CardRef.{CardRef}
use Rattle.upd_text.specs.declared.fault.Fault.{Fault}
use Rattle.upd_text.specs.declared.fault.FaultKind.{FaultKind}
use Rattle.upd_text.specs.declared.fault.FaultKind.TheVariants as fault
use Rattle.upd_text.specs.declared.limits.TheConstants.{MAX_RUN_BYTES, MAX_RUN_LINES, MAX_LINE_BYTES}
use Rattle.upd_text.specs.Lines.{is_blank, is_starred, is_comment, word, fields}
use Rattle.upd_text.specs.Names.{is_name, is_point, card_of}
use Rattle.upd_text.specs.Outcome.{◌>>=◌, need, refuse_if, at_line, each}
use Rattle.upd_deck.specs.declared.item.NameRange.{NameRange}
use Rattle.upd_deck.specs.declared.item.IdentIn.{IdentIn}
use Rattle.upd_deck.specs.declared.word.Word.{Word}
use Rattle.upd_deck.specs.declared.word.Word.TheVariants as words
use Rattle.upd_deck.specs.Items.{ItemView, LineView, line_view, Text, Call, Ident, Deck, CommonDeck, Insert, Before, Delete, Restore, Yank, SelYank, YankDeck}
use Rattle.upd_deck.specs.Items.{Purge, PurgeFrom, SelPurge, PurDeck, Compile}

-- ---- words

-- A spelling of a word, and the word.
pub record Spelling : Type 0 where
  pub text : List ℕ
  pub means : Word

-- a text as a spelling of a word
abbrev pub spelled : List ℕ → Word → Spelling
spelled text means = record { text = text; means = means }

-- the words of the profile and their short forms
abbrev pub spellings : List Spelling
spellings =
    spelled (codes "IDENT") words.Ident ∷ spelled (codes "ID") words.Ident
    ∷ spelled (codes "DECK") words.Deck ∷ spelled (codes "DK") words.Deck
    ∷ spelled (codes "COMDECK") words.CommonDeck ∷ spelled (codes "CD") words.CommonDeck
    ∷ spelled (codes "INSERT") words.Insert ∷ spelled (codes "I") words.Insert
    ∷ spelled (codes "BEFORE") words.Before ∷ spelled (codes "B") words.Before
    ∷ spelled (codes "DELETE") words.Delete ∷ spelled (codes "D") words.Delete
    ∷ spelled (codes "RESTORE") words.Restore ∷ spelled (codes "R") words.Restore
    ∷ spelled (codes "CALL") words.Call ∷ spelled (codes "CA") words.Call
    ∷ spelled (codes "COMPILE") words.Compile ∷ spelled (codes "C") words.Compile
    ∷ spelled (codes "YANK") words.Yank ∷ spelled (codes "Y") words.Yank
    ∷ spelled (codes "SELYANK") words.SelYank
    ∷ spelled (codes "YANKDECK") words.YankDeck
    ∷ spelled (codes "PURGE") words.Purge
    ∷ spelled (codes "SELPURGE") words.SelPurge
    ∷ spelled (codes "PURDECK") words.PurDeck ∷ []

-- the meaning of the first spelling that equals a text
abbrev pub meaning_in : List Spelling → List ℕ → Option Word
meaning_in table text = option_map (λ s. s.means) (find (λ s. bytes_eq text s.text) table)

-- the word that a text spells, if it is one of the profile
abbrev pub meaning : List ℕ → Option Word
meaning = meaning_in spellings

-- ---- fields

-- whether a word may have this number of fields
abbrev pub may_have : Word → ℕ → Bool
may_have words.Call n = n == 1
may_have words.Ident n = n == 1
may_have words.Deck n = n == 1
may_have words.CommonDeck n = (n == 1) || (n == 2)
may_have words.Insert n = n == 1
may_have words.Before n = n == 1
may_have words.Delete n = (n == 1) || (n == 2)
may_have words.Restore n = (n == 1) || (n == 2)
may_have words.Yank n = nat_le 1 n
may_have words.SelYank n = nat_le 1 n
may_have words.YankDeck n = nat_le 1 n
may_have words.Purge n = nat_le 1 n
may_have words.SelPurge n = nat_le 1 n
may_have words.PurDeck n = nat_le 1 n
may_have words.Compile n = nat_le 1 n

-- the first field; empty for no fields
abbrev pub first_field : List (List ℕ) → List ℕ
first_field [] = []
first_field (f ∷ fs) = f

-- the second field, or the first where there is only one
abbrev pub last_of_two : List (List ℕ) → List ℕ
last_of_two [] = []
last_of_two (f ∷ []) = f
last_of_two (f ∷ g ∷ fs) = g

-- whether the second field is NOPROP, where the word is `*COMDECK` and has a second field
abbrev pub is_marked_right : Word → List (List ℕ) → Bool
is_marked_right words.CommonDeck fs = (length fs == 1) || bytes_eq (last_of_two fs) (codes "NOPROP")
is_marked_right _ fs = true

-- the word may have this number of fields, no field is empty, and a second field of a common deck is NOPROP
abbrev pub are_its_fields : Word → List (List ℕ) → Bool
are_its_fields w fs = may_have w (length fs) && not (list_any (λ f. length f == 0) fs) && is_marked_right w fs

-- a field as a name
abbrev pub name_in : List ℕ → Result (List ℕ) FaultKind
name_in f = if is_name f then Ok f else Err fault.BadName

-- a field as a card reference
abbrev pub card_ref_in : List ℕ → Result CardRef FaultKind
card_ref_in f = need fault.BadCard (card_of f)

-- two names with one point between: `a.b`
abbrev pub names_in : List ℕ → Result NameRange FaultKind
names_in f = do
  a ← name_in (before_first is_point f)
  b ← name_in (after_first is_point f)
  Ok (record { first = a; last = b })

-- an ident in a deck: `deck.ident`
abbrev pub ident_in : List ℕ → Result IdentIn FaultKind
ident_in f = do
  d ← name_in (before_first is_point f)
  z ← name_in (after_first is_point f)
  Ok (record { deck = d; ident = z })

-- a range `a.b`, or a single name
abbrev pub range_in : List ℕ → Result NameRange FaultKind
range_in f = if list_any is_point f then names_in f else (name_in f >>= (λ a. Ok (record { first = a; last = a })))

-- the value of one field, as a list
abbrev pub one_in : {A : Type 0} → (List ℕ → Result A FaultKind) → List ℕ → Result (List A) FaultKind
one_in read f = read f >>= (λ x. Ok (x ∷ []))

-- the values of the fields, or the fault of the leftmost bad one
abbrev pub each_in : {A : Type 0} → (List ℕ → Result A FaultKind) → List (List ℕ) → Result (List A) FaultKind
each_in read fs = each (one_in read) fs

-- whether the fields are a name and a star
abbrev pub is_from_name : List (List ℕ) → Bool
is_from_name fs = (length fs == 2) && is_name (first_field fs) && bytes_eq (last_of_two fs) (codes "*")

-- a range of cards: two fields, or one for both ends
abbrev pub two_cards_in : List (List ℕ) → (CardRef → CardRef → ItemView) → Result ItemView FaultKind
two_cards_in fs item = do
  a ← card_ref_in (first_field fs)
  b ← card_ref_in (last_of_two fs)
  Ok (item a b)

-- the item of a word with its fields
abbrev pub item_with : Word → List (List ℕ) → Result ItemView FaultKind
item_with words.Call fs = name_in (first_field fs) >>= (λ name. Ok (Call name))
item_with words.Ident fs = name_in (first_field fs) >>= (λ name. Ok (Ident name))
item_with words.Deck fs = name_in (first_field fs) >>= (λ name. Ok (Deck name))
item_with words.CommonDeck fs = name_in (first_field fs) >>= (λ name. Ok (CommonDeck name (length fs == 2)))
item_with words.Insert fs = card_ref_in (first_field fs) >>= (λ card. Ok (Insert card))
item_with words.Before fs = card_ref_in (first_field fs) >>= (λ card. Ok (Before card))
item_with words.Delete fs = two_cards_in fs Delete
item_with words.Restore fs = two_cards_in fs Restore
item_with words.Yank fs = each_in range_in fs >>= (λ ranges. Ok (Yank ranges))
item_with words.SelYank fs = each_in ident_in fs >>= (λ pairs. Ok (SelYank pairs))
item_with words.YankDeck fs = each_in name_in fs >>= (λ names. Ok (YankDeck names))
item_with words.Purge fs =
    if is_from_name fs then Ok (PurgeFrom (first_field fs)) else (each_in range_in fs >>= (λ ranges. Ok (Purge ranges)))
item_with words.SelPurge fs = each_in ident_in fs >>= (λ pairs. Ok (SelPurge pairs))
item_with words.PurDeck fs = each_in range_in fs >>= (λ ranges. Ok (PurDeck ranges))
item_with words.Compile fs = each_in range_in fs >>= (λ ranges. Ok (Compile ranges))

-- ---- lines

-- the item of a starred line: text where its word isn't one of the profile
abbrev pub item_by : Option Word → List (List ℕ) → Result ItemView FaultKind
item_by None fs = Ok Text
item_by (Some w) fs = do
  _ ← refuse_if (not (are_its_fields w fs)) fault.BadField
  item_with w fs

-- the item of a line that isn't a comment: text, unless the line begins with a star and a word of the profile
abbrev pub item_of : List ℕ → Result ItemView FaultKind
item_of text = if is_starred text then item_by (meaning (word text)) (fields text) else Ok Text

-- a line without its trailing blanks
abbrev pub trimmed : List ℕ → List ℕ
trimmed line = take (length line - suffix_len is_blank line) line

-- the bytes of a line: 0x20 to 0x7E and tab
abbrev pub is_allowed : ℕ → Bool
is_allowed b = (nat_le 32 b && nat_le b 126) || (b == 9)

-- the text of a line, or the fault of its bytes
abbrev pub text_of : List ℕ → Result (List ℕ) FaultKind
text_of line = do
  _ ← refuse_if (not (list_all is_allowed line)) fault.BadByte
  _ ← refuse_if (nat_lt MAX_LINE_BYTES (length (trimmed line))) fault.LineLong
  Ok (trimmed line)

-- A line cut from the run: its number, the offset of its first byte, and its bytes without the line end.
pub record CutLine : Type 0 where
  pub number : ℕ
  pub start : ℕ
  pub bytes : List ℕ

-- The lines of the pieces between LFs. The last piece is a line where it isn't empty. A carriage return is dropped only where an LF
-- follows it.
abbrev pub cut_from : ℕ → ℕ → List (List ℕ) → List CutLine
cut_from number start [] = []
cut_from number start (piece ∷ []) = if length piece == 0 then [] else record { number = number; start = start; bytes = piece } ∷ []
cut_from number start (piece ∷ next ∷ pieces) =
    record { number = number; start = start; bytes = strip_carriage_return piece }
    ∷ cut_from (number + 1) (start + length piece + 1) (next ∷ pieces)

-- LF
abbrev pub is_feed : ℕ → Bool
is_feed b = b == 10

-- the lines of a run
abbrev pub cut : List ℕ → List CutLine
cut bytes = cut_from 1 0 (slice_split is_feed bytes)

-- a line with its item; none for a comment
abbrev pub said : CutLine → Result (List LineView) FaultKind
said line = do
  text ← text_of line.bytes
  if is_comment text then Ok [] else (do
    item ← item_of text
    Ok (line_view line.number line.start text item ∷ []))

-- a line with its item, or its fault with its number
abbrev pub said_at : CutLine → Result (List LineView) Fault
said_at line = at_line line.number (said line)

-- The reading of a run: its lines in order, or the fault of the first faulty one. The limits of a run are checked before that.
abbrev pub reading : List ℕ → Result (List LineView) Fault
reading bytes = do
  _ ← at_line 0 (refuse_if (nat_lt MAX_RUN_BYTES (length bytes)) fault.RunLong)
  _ ← at_line 0 (refuse_if (nat_lt MAX_RUN_LINES (length (cut bytes))) fault.TooManyLines)
  each said_at (cut bytes)
