-- Runs that lead decks to an edited text one after the other.
use Rattle.std.specs.Prelude.{◌≡◌, ◌==◌, ℕ, ◌+◌, nat_lt, if◌then◌else◌, List, [], ◌∷◌, ◌++◌, decimal, length, map, take, Option, Some, None, Ok}
use Rattle.std.specs.List.{AllByRecursion, AllZip}
use Rattle.upd_text.specs.Units.{Bytes}
use Rattle.upd_core.specs.Library.{LibraryView}
use Rattle.upd_core.specs.Status.{live_targets}
use Rattle.upd_apply.specs.Applying.{Reached}
use Rattle.upd_correct.specs.Checked.{HasTexts, IsDeckLeft, held_serials, result_of}
use Rattle.upd_correct.specs.Causes.{AreRefusals, refusal_at_0}
use Rattle.upd_correct.specs.Correcting.{CorrectsTo}
use Rattle.upd_correct.specs.EditedText.{NewDeck}
use Rattle.upd_correct.specs.LineReads.{HasDecks}
use Rattle.upd_correct.specs.Refusals.{refusals_of}
use Rattle.upd_correct.specs.declared.refusal.CorrectError.{CorrectError}
use Rattle.upd_correct.specs.declared.refusal.CorrectError.TheVariants.{NoMemory, Refused}
use Rattle.upd_correct.specs.declared.refusal.Problem.{Problem}
use Rattle.upd_correct.specs.declared.refusal.Problem.TheVariants.{BadName, Full, NameTaken, NoSet, PartFull, PartName, PartTaken, SetLong, Unchecked}
use Rattle.upd_correct.specs.declared.refusal.Refusal.{Refusal}

-- the name of the set of a part, by its number from 1
abbrev pub part_name : Bytes → ℕ → Bytes
part_name set number = set ++ decimal number

-- a run was applied to a library, and left another
abbrev pub IsReached : Bytes → LibraryView → LibraryView → Type 0
IsReached run before after = (reached : Reached) × (result_of run before ≡ Ok reached) × (reached.library ≡ after)

-- Runs were applied to a library one after the other, and left another. Each led decks to some text, by the set with its number.
pub data Follows (l : LibraryView) (set : Bytes) : List Bytes → LibraryView → Type 0 where
  Before : Follows l set [] l
  Next : (runs : List Bytes) (run text : Bytes) (before after : LibraryView) → Follows l set runs before
      → CorrectsTo before (part_name set (length runs + 1)) text run → IsReached run before after → Follows l set (runs ++ run ∷ []) after

-- A library after the decks of a text were led to it: they have the text, and the directory, every other deck and the yanks are as they were.
pub record IsLed (before : LibraryView) (decks : List NewDeck) (after : LibraryView) : Type 0 where
  pub texts : AllByRecursion (HasTexts (live_targets after) after) decks
  pub others : AllZip (IsDeckLeft (held_serials before decks)) before.decks (take (length before.decks) after.decks)
  pub idents : before.idents ≡ take (length before.idents) after.idents
  pub yanks : before.yanks ≡ after.yanks
  pub rest : before.rest ≡ after.rest

-- Runs by the sets SET1, SET2 and so on are accepted one after the other. After the last the decks of the text have it, and every other deck
-- is as it was. Where they had it before, there is no run.
pub record CorrectsInParts (l : LibraryView) (set text : Bytes) (runs : List Bytes) : Type 0 where
  pub decks : List NewDeck
  pub given : HasDecks text decks
  pub after : LibraryView
  pub follows : Follows l set runs after
  pub led : IsLed l decks after
  pub needed : AllByRecursion (HasTexts (live_targets l) l) decks → runs ≡ []

-- ---- refusals

-- what is wrong with the name of the sets: a number follows it
abbrev pub series_problem : Bytes → Option Problem
series_problem set = if length set == 0 then Some NoSet else if nat_lt 8 (length set) then Some SetLong else None

-- the problem of a part, by its number: one of its set or of its run has the number with it
abbrev pub part_problem : ℕ → ℕ → Problem → Problem
part_problem number line NameTaken = if line == 0 then PartTaken number else NameTaken
part_problem number line BadName = if line == 0 then PartName number else BadName
part_problem number line Full = PartFull number
part_problem number line problem = problem

-- a refusal with the number of the part
abbrev pub in_part : ℕ → Refusal → Refusal
in_part number refusal = record refusal { problem = part_problem number refusal.line refusal.problem }

-- an error with the number of the part; memory may run out for it
abbrev pub IsInPart : ℕ → CorrectError → CorrectError → Type 0
IsInPart number (Refused refusals) (Refused found) = found.items ≡ map (in_part number) refusals.items
IsInPart number NoMemory (Refused found) = ⊥
IsInPart number error NoMemory = Unit {0}

-- A part is refused for what is wrong with its text or its run, after the parts before it. Or the parts don't lead to the text; this doesn't say why.
pub data ArePartRefusals (l : LibraryView) (set : Bytes) (refusals : List Refusal) : Type 0 where
  OfPart : (before : LibraryView) (runs : List Bytes) (text : Bytes) (found : List Refusal) → Follows l set runs before
      → AreRefusals before before (part_name set (length runs + 1)) text found → refusals ≡ map (in_part (length runs + 1)) found
      → ArePartRefusals l set refusals
  OfWhole : refusals ≡ refusal_at_0 Unchecked ∷ [] → ArePartRefusals l set refusals

-- the cause of an error of parts of a text without problems
abbrev pub IsPartCause : LibraryView → Bytes → CorrectError → Type 0
IsPartCause l set NoMemory = Unit {0}
IsPartCause l set (Refused refusals) = ArePartRefusals l set refusals.items

-- A text in parts is refused for the name of its sets. Or for all that is wrong with it, for the set of the first part; or, where that is
-- nothing, for what is wrong with a part.
pub data ArePartsRefusals (l : LibraryView) (set text : Bytes) (refusals : List Refusal) : Type 0 where
  OfSeries : (problem : Problem) → series_problem set ≡ Some problem → refusals ≡ refusal_at_0 problem ∷ [] → ArePartsRefusals l set text refusals
  OfText : (refusals_of l (part_name set 1) text ≡ [] → ⊥) → refusals ≡ map (in_part 1) (refusals_of l (part_name set 1) text)
      → ArePartsRefusals l set text refusals
  OfParts : refusals_of l (part_name set 1) text ≡ [] → ArePartRefusals l set refusals → ArePartsRefusals l set text refusals

-- memory runs out at any time
abbrev pub IsPartsCause : LibraryView → Bytes → Bytes → CorrectError → Type 0
IsPartsCause l set text NoMemory = Unit {0}
IsPartsCause l set text (Refused refusals) = ArePartsRefusals l set text refusals.items
