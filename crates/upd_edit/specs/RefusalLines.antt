-- The lines that report the refusals of an edited text.
use Rattle.std.specs.Prelude.{ℕ, List, [], ◌∷◌, ◌++◌, codes, decimal}
use Rattle.std.specs.List.{flat_map}
use Rattle.upd_text.specs.Names.{card_text}
use Rattle.upd_text.specs.Units.{Bytes}
use Rattle.upd_correct.specs.declared.refusal.Problem.{Problem}
use Rattle.upd_correct.specs.declared.refusal.Problem.TheVariants.{BadByte, LineLong, Comment, Directive, NoDeck, FirstCard, OutOfUse, DeckTwice}
use Rattle.upd_correct.specs.declared.refusal.Problem.TheVariants.{NameTaken, Reserved, BadName, TooManyLines, RunLong, Full, Unchecked, Conflict}
use Rattle.upd_correct.specs.declared.refusal.Problem.TheVariants.{NoSet, SetLong, PartTaken, PartName, PartFull, NumberUsed}
use Rattle.upd_correct.specs.declared.refusal.Refusal.{Refusal}

-- the name of a problem, which is that of the fault that a run would meet, if there is one, and what it is in words
abbrev pub problem_words : Problem → Bytes × Bytes
problem_words BadByte = (codes "BadByte", codes "a line can't have this byte")
problem_words LineLong = (codes "LineLong", codes "a line has at most 80 bytes")
problem_words Comment = (codes "Comment", codes "a run would drop this line as a comment")
problem_words Directive = (codes "Directive", codes "a run would carry this line out as a directive")
problem_words NoDeck = (codes "NoDeck", codes "no deck begins before this line")
problem_words FirstCard = (codes "FirstCard", codes "the first card of a deck can't be changed")
problem_words OutOfUse = (codes "OutOfUse", codes "a yank takes this deck out of use, or it came after SINCE, so no run can change its text")
problem_words DeckTwice = (codes "DeckTwice", codes "this deck is in the text twice")
problem_words NameTaken = (codes "NameTaken", codes "this name is in use")
problem_words Reserved = (codes "Reserved", codes "the library keeps this name for itself")
problem_words BadName = (codes "BadName", codes "the set's name is not a name")
problem_words TooManyLines = (codes "TooManyLines", codes "the run would have more than 2000 lines: correct it in parts")
problem_words RunLong = (codes "RunLong", codes "the run would have more than 65536 bytes: correct it in parts")
problem_words Full = (codes "Full", codes "the library has no room for this run")
problem_words Unchecked = (codes "Unchecked", codes "the run that was made does not lead to this text: report it")
problem_words (Conflict card set) = (codes "Conflict", codes ", which came after this text")
problem_words NoSet = (codes "BadName", codes "the name of the sets is empty")
problem_words SetLong = (codes "BadName", codes "the name of the sets has at most 8 bytes, since a number follows it")
problem_words (PartTaken part) = (codes "NameTaken", codes "its set's name is in use")
problem_words (PartName part) = (codes "BadName", codes "its set's name is not a name")
problem_words (PartFull part) = (codes "Full", codes "the library has no room for its run")
problem_words (NumberUsed number) = (codes "NumberUsed", codes " is used or settled")

-- the number of a part
abbrev pub part_text : ℕ → Bytes
part_text part = codes "part " ++ decimal part ++ codes ": "

-- what a problem names: the card that is in the way and the later set, the number of a part, or that of a run
abbrev pub problem_subject : Problem → Bytes
problem_subject (Conflict card set) = card_text card ++ codes " was taken out of use by " ++ set
problem_subject (PartTaken part) = part_text part
problem_subject (PartName part) = part_text part
problem_subject (PartFull part) = part_text part
problem_subject (NumberUsed number) = codes "number " ++ decimal number
problem_subject _ = []

-- the name and the place of a refusal
abbrev pub refusal_place : Refusal → Bytes
refusal_place r = (problem_words r.problem).0 ++ 32 ∷ decimal r.line ++ 58 ∷ decimal r.column ++ 32 ∷ []

-- what its problem names, and what it is in words
abbrev pub refusal_words : Refusal → Bytes
refusal_words r = problem_subject r.problem ++ (problem_words r.problem).1 ++ 10 ∷ []

-- the line of a refusal: name, place and words, as `LineLong 7:81 a line has at most 80 bytes`
abbrev pub refusal_line : Refusal → Bytes
refusal_line r = refusal_place r ++ refusal_words r

-- the lines of refusals, in order
abbrev pub refusal_lines : List Refusal → Bytes
refusal_lines refusals = flat_map refusal_line refusals
