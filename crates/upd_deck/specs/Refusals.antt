-- The order of refusals: the limits of the run first, then its first faulty line. Within a line the order is: a bad byte, the length, the
-- fields as a whole, then the leftmost field that is not what the word requires.
use Rattle.std.specs.Prelude.{◌≡◌, ◌≢◌, ℕ, ◌<◌, ◌≤◌, false, List, [], ◌∷◌, ◌++◌, length, codes}
use Rattle.std.specs.List.{AllByRecursion, Contains}
use Rattle.upd_text.specs.declared.card_ref.CardRef.{CardRef}
use Rattle.upd_text.specs.declared.fault.Fault.{Fault}
use Rattle.upd_text.specs.declared.fault.FaultKind.{FaultKind}
use Rattle.upd_text.specs.declared.fault.FaultKind.TheVariants as fault
use Rattle.upd_text.specs.declared.limits.TheConstants.{MAX_RUN_BYTES, MAX_RUN_LINES, MAX_LINE_BYTES}
use Rattle.upd_text.specs.Lines.{fields}
use Rattle.upd_deck.specs.declared.item.NameRange.{NameRange}
use Rattle.upd_deck.specs.declared.item.IdentIn.{IdentIn}
use Rattle.upd_deck.specs.declared.word.Word.{Word}
use Rattle.upd_deck.specs.declared.word.Word.TheVariants as words
use Rattle.upd_deck.specs.Grammar.{blanks, IsName, IsCard, IsRange, IsPair, HasWord, Means, IsAllowed, EndsInked, IsTextOf, IsComment}
use Rattle.upd_deck.specs.Reading.{may_have, CutLine, cut}

-- ---- fields

-- Fields that their word can't have: a wrong number of them, an empty one, or a second field of a common deck other than NOPROP.
pub data AreMisplaced : Word → List (List ℕ) → Type 0 where
  Count : (word : Word) (fields : List (List ℕ)) → may_have word (length fields) ≡ false → AreMisplaced word fields
  Empty : (word : Word) (fields : List (List ℕ)) → Contains fields [] → AreMisplaced word fields
  Mark : (name mark : List ℕ) → mark ≢ codes "NOPROP" → AreMisplaced words.CommonDeck (name ∷ mark ∷ [])

-- what a word requires each of its fields to be: a name, a card reference, a range of names or a pair
abbrev pub IsWanted : Word → List ℕ → Type 0
IsWanted words.Call field = IsName field
IsWanted words.Ident field = IsName field
IsWanted words.Deck field = IsName field
IsWanted words.CommonDeck field = IsName field
IsWanted words.Insert field = (card : CardRef) × IsCard field card
IsWanted words.Before field = (card : CardRef) × IsCard field card
IsWanted words.Delete field = (card : CardRef) × IsCard field card
IsWanted words.Restore field = (card : CardRef) × IsCard field card
IsWanted words.Yank field = (range : NameRange) × IsRange field range
IsWanted words.SelYank field = (pair : IdentIn) × IsPair field pair
IsWanted words.YankDeck field = IsName field
IsWanted words.Purge field = (range : NameRange) × IsRange field range
IsWanted words.SelPurge field = (pair : IdentIn) × IsPair field pair
IsWanted words.PurDeck field = (range : NameRange) × IsRange field range
IsWanted words.Compile field = (range : NameRange) × IsRange field range

-- The fault of a field that is not what its word requires. A word requires the same of each field, so the fault depends only on the word.
abbrev pub field_fault : Word → FaultKind
field_fault words.Insert = fault.BadCard
field_fault words.Before = fault.BadCard
field_fault words.Delete = fault.BadCard
field_fault words.Restore = fault.BadCard
field_fault _ = fault.BadName

-- the one case of a star as a field: after a name, in a purge with these two fields
pub data EndsInStar : Word → List (List ℕ) → Type 0 where
  FromName : (a : List ℕ) → IsName a → EndsInStar words.Purge (a ∷ codes "*" ∷ [])

-- Why the fields of a word are refused. They are checked as a whole first, and then one by one from the left.
pub data FieldsFail : Word → List (List ℕ) → FaultKind → Type 0 where
  Whole : (word : Word) (fields : List (List ℕ)) → AreMisplaced word fields → FieldsFail word fields fault.BadField
  Leftmost : (word : Word) (fields front behind : List (List ℕ)) (field : List ℕ) → ¬ (AreMisplaced word fields) → ¬ (EndsInStar word fields)
      → fields ≡ front ++ field ∷ behind → AllByRecursion (IsWanted word) front → ¬ (IsWanted word field) → FieldsFail word fields (field_fault word)

-- ---- lines and runs

-- Why the bytes of a line are refused. Each reason applies only where those before it don't.
pub data LineFails : List ℕ → FaultKind → Type 0 where
  Byte : (line : List ℕ) (byte : ℕ) → Contains line byte → ¬ (IsAllowed byte) → LineFails line fault.BadByte
  Long : (text : List ℕ) (n : ℕ) → AllByRecursion IsAllowed text → EndsInked text → MAX_LINE_BYTES < length text
      → LineFails (text ++ blanks n) fault.LineLong
  Fields : (line text w : List ℕ) (word : Word) (kind : FaultKind) → IsTextOf text line → ¬ (IsComment text) → HasWord text w → Means w word
      → FieldsFail word (fields text) kind → LineFails line kind

-- the line has no fault
abbrev pub IsFaultless : CutLine → Type 0
IsFaultless line = (kind : FaultKind) → ¬ (LineFails line.bytes kind)

-- a fault at a line
abbrev pub fault_of : FaultKind → ℕ → Fault
fault_of kind at = record { kind = kind; at = at }

-- Why a run is refused. Each reason applies only where those before it don't. The lines before the first faulty one have no fault.
pub data RunFails : List ℕ → Fault → Type 0 where
  ManyBytes : (bytes : List ℕ) → MAX_RUN_BYTES < length bytes → RunFails bytes (fault_of fault.RunLong 0)
  ManyLines : (bytes : List ℕ) → length bytes ≤ MAX_RUN_BYTES → MAX_RUN_LINES < length (cut bytes) → RunFails bytes (fault_of fault.TooManyLines 0)
  FirstFaulty : (bytes : List ℕ) (front behind : List CutLine) (line : CutLine) (kind : FaultKind) → length bytes ≤ MAX_RUN_BYTES
      → length (cut bytes) ≤ MAX_RUN_LINES → cut bytes ≡ front ++ line ∷ behind → AllByRecursion IsFaultless front → LineFails line.bytes kind
      → RunFails bytes (fault_of kind line.number)
