-- The run that is made from a deck's listing, or why there isn't one.
use Rattle.std.specs.Prelude.{◌≡◌, ℕ, ◌+◌, Bool, false, not, Option, Some, None}
use Rattle.std.specs.Option.{option_map_or}
use Rattle.std.specs.Str.{bytes_eq}
use Rattle.upd_text.specs.Units.{Bytes}
use Rattle.upd_core.specs.Counts.{capped}
use Rattle.upd_core.specs.First.{index_from}
use Rattle.upd_deck.specs.Reading.{reading}
use Rattle.upd_correct.specs.Causes.{AreRefusals}
use Rattle.upd_correct.specs.Correcting.{CorrectsTo}
use Rattle.upd_correct.specs.EditedText.{lines_in}
use Rattle.upd_correct.specs.Refusals.{head_read}
use Rattle.upd_correct.specs.declared.listed_deck.ListedError.{ListedError}
use Rattle.upd_correct.specs.declared.listed_deck.ListedError.TheVariants.{NoMemory, NotListing, OtherDeck, Refused}
use Rattle.upd_correct.specs.ListedDeck.{bad_line, library_of, name_listed}

-- whether a line begins a deck of another name
abbrev pub begins_other : Bytes → Bytes → Bool
begins_other name line = option_map_or (λ d. not (bytes_eq d.name name)) (head_read (reading line)) false

-- the index of the first line of a text that begins a deck other than the listed one
abbrev pub other_deck : Bytes → Bytes → Option ℕ
other_deck listing text = index_from (begins_other (name_listed (lines_in listing))) 0 (lines_in text)

-- A listing is read, and a text begins no deck but the listed one.
pub record IsRead (listing text : Bytes) : Type 0 where
  pub listed : bad_line (lines_in listing) ≡ None
  pub own : other_deck listing text ≡ None

-- A run leads the listed deck to the edited text in the library that the listing stands for.
pub record IsListedRun (listing set text run : Bytes) : Type 0 where
  pub read : IsRead listing text
  pub corrects : CorrectsTo (library_of (lines_in listing)) set text run

-- Memory runs out at any time. Otherwise a line is the first that isn't one of a listing; or, where the listing is read,
-- a line is the first that begins another deck; or, where no line does, the text is refused in the library that the listing stands for.
abbrev pub IsListedCause : Bytes → Bytes → Bytes → ListedError → Type 0
IsListedCause listing set text NoMemory = Unit {0}
IsListedCause listing set text (NotListing line) = bad_line (lines_in listing) ≡ Some line
IsListedCause listing set text (OtherDeck line) =
    (bad_line (lines_in listing) ≡ None) × (index : ℕ) × (other_deck listing text ≡ Some index) × (line ≡ capped (index + 1))
IsListedCause listing set text (Refused refusals) =
    let l = library_of (lines_in listing) in IsRead listing text × AreRefusals l l set text refusals.items
