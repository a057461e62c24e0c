-- The grammar of a run: how lines, words and fields are spelled, and what they mean.
use Rattle.std.specs.Prelude.{◌≡◌, ◌≢◌, ℕ, ◌+◌, ◌^◌, ◌<◌, ◌≤◌, ◌⊎◌, true, false, IsTrue, List, [], ◌∷◌, ◌++◌, length, replicate, codes, count_by}
use Rattle.std.specs.List.{AllByRecursion, AllZip, Contains}
use Rattle.upd_text.specs.declared.card_ref.CardRef.{CardRef}
use Rattle.upd_text.specs.declared.limits.TheConstants.{MAX_RUN_BYTES, MAX_RUN_LINES, MAX_LINE_BYTES, MAX_NUMBER_DIGITS}
use Rattle.upd_text.specs.Names.{is_name, card_text}
use Rattle.upd_deck.specs.declared.item.NameRange.{NameRange}
use Rattle.upd_deck.specs.declared.item.IdentIn.{IdentIn}
use Rattle.upd_deck.specs.declared.word.Word.{Word}
use Rattle.upd_deck.specs.declared.word.Word.TheVariants as words
use Rattle.upd_deck.specs.Items.{ItemView, LineView, line_view, Text, Call, Ident, Deck, CommonDeck, Insert, Before, Delete, Restore, Yank, SelYank, YankDeck}
use Rattle.upd_deck.specs.Items.{Purge, PurgeFrom, SelPurge, PurDeck, Compile}
use Rattle.upd_deck.specs.Reading.{spelled, spellings, is_feed}

-- ---- bytes

-- ` `
abbrev pub blank : ℕ
blank = 32

-- `,`
abbrev pub comma : ℕ
comma = 44

-- `.`
abbrev pub point : ℕ
point = 46

-- `*`
abbrev pub star : ℕ
star = 42

-- `/`
abbrev pub slash : ℕ
slash = 47

-- the tab, which is not a blank
abbrev pub tab : ℕ
tab = 9

-- CR
abbrev pub carriage_return : ℕ
carriage_return = 13

-- LF
abbrev pub line_feed : ℕ
line_feed = 10

-- n blanks
abbrev pub blanks : ℕ → List ℕ
blanks n = replicate n blank

-- ---- words and fields

-- a byte that is neither a blank nor a comma
abbrev pub IsInk : ℕ → Type 0
IsInk b = (b ≢ blank) × (b ≢ comma)

-- a field: at least one byte, none of them a blank or a comma
abbrev pub IsField : List ℕ → Type 0
IsField field = (0 < length field) × AllByRecursion IsInk field

-- a separator between two fields: a comma, with or without blanks on either side
pub data IsSeparator : List ℕ → Type 0 where
  Comma : (m n : ℕ) → IsSeparator (blanks m ++ comma ∷ blanks n)

-- a lead between the word and the fields: blanks with at most one comma among them
pub data IsLead : List ℕ → Type 0 where
  Blanks : (n : ℕ) → IsLead (blanks n)
  Separator : (separator : List ℕ) → IsSeparator separator → IsLead separator

-- the text is empty, or its first byte is neither a blank nor a comma
abbrev pub BeginsInked : List ℕ → Type 0
BeginsInked [] = Unit {0}
BeginsInked (b ∷ bs) = IsInk b

-- what follows the last field: nothing, or at least one blank and a remark that doesn't begin with a comma
pub data IsRemark : List ℕ → Type 0 where
  Nothing : IsRemark []
  Remark : (n : ℕ) (text : List ℕ) → 0 < n → BeginsInked text → IsRemark (blanks n ++ text)

-- fields with separators between them, and a remark after the last
pub data AreFields : List ℕ → List (List ℕ) → Type 0 where
  Last : (field remark : List ℕ) → IsField field → IsRemark remark → AreFields (field ++ remark) (field ∷ [])
  Next : (field separator text : List ℕ) (fields : List (List ℕ)) → IsField field → IsSeparator separator → AreFields text fields
      → AreFields (field ++ separator ++ text) (field ∷ fields)

-- A line of a star, a word, a lead and any number of fields. The word ends at the first blank or comma, or with the line.
pub data IsStarLine : List ℕ → List ℕ → List (List ℕ) → Type 0 where
  Bare : (word lead : List ℕ) → AllByRecursion IsInk word → IsLead lead → IsStarLine (star ∷ word ++ lead) word []
  Fields : (word lead text : List ℕ) (fields : List (List ℕ)) → AllByRecursion IsInk word → IsLead lead → 0 < length lead → AreFields text fields
      → IsStarLine (star ∷ word ++ lead ++ text) word fields

-- ---- values of fields

-- the field is a name
abbrev pub IsName : List ℕ → Type 0
IsName field = IsTrue (is_name field)

-- a card reference: a name, a point and a number from 1 to 999,999 without leading zeros
pub data IsCard : List ℕ → CardRef → Type 0 where
  Card : (card : CardRef) → IsName card.name → 0 < card.number → card.number < 10 ^ MAX_NUMBER_DIGITS → IsCard (card_text card) card

-- a range: two names with a point between, or a single name, which is the range from it to itself
pub data IsRange : List ℕ → NameRange → Type 0 where
  Two : (a b : List ℕ) → IsName a → IsName b → IsRange (a ++ point ∷ b) (record { first = a; last = b })
  Lone : (a : List ℕ) → IsName a → IsRange a (record { first = a; last = a })

-- an ident in a deck: two names with a point between
pub data IsPair : List ℕ → IdentIn → Type 0 where
  Pair : (d z : List ℕ) → IsName d → IsName z → IsPair (d ++ point ∷ z) (record { deck = d; ident = z })

-- the fields of each word, and the item of the word with them
pub data Takes : Word → List (List ℕ) → ItemView → Type 0 where
  TakesCall : (a : List ℕ) → IsName a → Takes words.Call (a ∷ []) (Call a)
  TakesIdent : (a : List ℕ) → IsName a → Takes words.Ident (a ∷ []) (Ident a)
  TakesDeck : (a : List ℕ) → IsName a → Takes words.Deck (a ∷ []) (Deck a)
  TakesCommon : (a : List ℕ) → IsName a → Takes words.CommonDeck (a ∷ []) (CommonDeck a false)
  TakesMarked : (a : List ℕ) → IsName a → Takes words.CommonDeck (a ∷ codes "NOPROP" ∷ []) (CommonDeck a true)
  TakesInsert : (f : List ℕ) (c : CardRef) → IsCard f c → Takes words.Insert (f ∷ []) (Insert c)
  TakesBefore : (f : List ℕ) (c : CardRef) → IsCard f c → Takes words.Before (f ∷ []) (Before c)
  TakesDelete : (f : List ℕ) (c : CardRef) → IsCard f c → Takes words.Delete (f ∷ []) (Delete c c)
  TakesDeletes : (f g : List ℕ) (c d : CardRef) → IsCard f c → IsCard g d → Takes words.Delete (f ∷ g ∷ []) (Delete c d)
  TakesRestore : (f : List ℕ) (c : CardRef) → IsCard f c → Takes words.Restore (f ∷ []) (Restore c c)
  TakesRestores : (f g : List ℕ) (c d : CardRef) → IsCard f c → IsCard g d → Takes words.Restore (f ∷ g ∷ []) (Restore c d)
  TakesYank : (fs : List (List ℕ)) (rs : List NameRange) → 0 < length fs → AllZip IsRange fs rs → Takes words.Yank fs (Yank rs)
  TakesSelYank : (fs : List (List ℕ)) (ps : List IdentIn) → 0 < length fs → AllZip IsPair fs ps → Takes words.SelYank fs (SelYank ps)
  TakesYankDeck : (fs : List (List ℕ)) → 0 < length fs → AllByRecursion IsName fs → Takes words.YankDeck fs (YankDeck fs)
  TakesPurge : (fs : List (List ℕ)) (rs : List NameRange) → 0 < length fs → AllZip IsRange fs rs → Takes words.Purge fs (Purge rs)
  TakesPurgeFrom : (a : List ℕ) → IsName a → Takes words.Purge (a ∷ codes "*" ∷ []) (PurgeFrom a)
  TakesSelPurge : (fs : List (List ℕ)) (ps : List IdentIn) → 0 < length fs → AllZip IsPair fs ps → Takes words.SelPurge fs (SelPurge ps)
  TakesPurDeck : (fs : List (List ℕ)) (rs : List NameRange) → 0 < length fs → AllZip IsRange fs rs → Takes words.PurDeck fs (PurDeck rs)
  TakesCompile : (fs : List (List ℕ)) (rs : List NameRange) → 0 < length fs → AllZip IsRange fs rs → Takes words.Compile fs (Compile rs)

-- ---- items of lines

-- what ends a word: a blank, a comma or the line's end
abbrev pub EndsWord : List ℕ → Type 0
EndsWord [] = Unit {0}
EndsWord (b ∷ bs) = (b ≡ blank) ⊎ (b ≡ comma)

-- a line with a star and this word
pub data HasWord : List ℕ → List ℕ → Type 0 where
  Starred : (word rest : List ℕ) → AllByRecursion IsInk word → EndsWord rest → HasWord (star ∷ word ++ rest) word

-- the table of the profile has this spelling of the word
abbrev pub Means : List ℕ → Word → Type 0
Means spelling word = Contains spellings (spelled spelling word)

-- the item of a line that isn't a comment: a word of the profile with its fields, or text where it has no such word
pub data Says : List ℕ → ItemView → Type 0 where
  Directive : (text w : List ℕ) (word : Word) (fs : List (List ℕ)) (item : ItemView) → IsStarLine text w fs → Means w word → Takes word fs item
      → Says text item
  Other : (text : List ℕ) → ((w : List ℕ) (word : Word) → HasWord text w → Means w word → ⊥) → Says text Text

-- ---- lines and runs

-- the bytes of a line: 0x20 to 0x7E and tab
abbrev pub IsAllowed : ℕ → Type 0
IsAllowed b = ((32 ≤ b) × (b ≤ 126)) ⊎ (b ≡ tab)

-- the text doesn't end with a blank
abbrev pub EndsInked : List ℕ → Type 0
EndsInked text = (front : List ℕ) → text ≢ front ++ blank ∷ []

-- a line is its text, at most 80 allowed bytes with no blank at the end, followed by any number of blanks
pub data IsTextOf : List ℕ → List ℕ → Type 0 where
  Trimmed : (text : List ℕ) (n : ℕ) → AllByRecursion IsAllowed text → length text ≤ MAX_LINE_BYTES → EndsInked text → IsTextOf text (text ++ blanks n)

-- a comment: a star and a slash, whatever follows
pub data IsComment : List ℕ → Type 0 where
  Slashed : (rest : List ℕ) → IsComment (star ∷ slash ∷ rest)

-- one of the 2,000 lines that a run may have: a comment, or a line with the item of its text
pub data IsLine : ℕ → ℕ → List ℕ → List LineView → Type 0 where
  Comment : (number start : ℕ) (line text : List ℕ) → number ≤ MAX_RUN_LINES → IsTextOf text line → IsComment text → IsLine number start line []
  Line : (number start : ℕ) (line text : List ℕ) (item : ItemView) → number ≤ MAX_RUN_LINES → IsTextOf text line → (IsComment text → ⊥) → Says text item
      → IsLine number start line (line_view number start text item ∷ [])

-- the end of a line: LF, or CR and LF
pub data IsLineEnd : List ℕ → Type 0 where
  Feed : IsLineEnd (line_feed ∷ [])
  ReturnFeed : IsLineEnd (carriage_return ∷ line_feed ∷ [])

-- The lines of the rest of a run, whose first line has this number and begins at this offset. The last line may lack its end.
pub data AreLines : ℕ → ℕ → List ℕ → List LineView → Type 0 where
  NoMore : (number start : ℕ) → AreLines number start [] []
  LastLine : (number start : ℕ) (line : List ℕ) (said : List LineView) → 0 < length line → IsLine number start line said → AreLines number start line said
  NextLine : (number start : ℕ) (line end rest : List ℕ) (said later : List LineView) → IsLine number start line said → IsLineEnd end
      → AreLines (number + 1) (start + length line + length end) rest later → AreLines number start (line ++ end ++ rest) (said ++ later)

-- a run of at most 65,536 bytes and 2,000 lines, with these lines
pub record Reads (bytes : List ℕ) (lines : List LineView) : Type 0 where
  pub short : length bytes ≤ MAX_RUN_BYTES
  pub spelled : AreLines 1 0 bytes lines

-- A line's span gives the offsets of its text in the run, and its number is one more than the number of LFs before it.
pub record StandsIn (bytes : List ℕ) (line : LineView) : Type 0 where
  pub before : List ℕ
  pub behind : List ℕ
  pub whole : bytes ≡ before ++ line.text ++ behind
  pub start : line.span.start ≡ length before
  pub end : line.span.end ≡ length (before ++ line.text)
  pub number : line.number ≡ count_by is_feed before + 1
