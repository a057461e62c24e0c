-- How a line is cut into its word and its fields.
use Rattle.std.specs.Prelude.{◌==◌, Bool, false, ◌&&◌, ◌||◌, not, if◌then◌else◌, List, [], ◌∷◌, length, drop, codes}
use Rattle.std.specs.Str.{bytes_eq}
use Rattle.std.specs.List.{slice_split}
use Rattle.upd_text.specs.Units.{Byte, Bytes}

-- a blank: only 0x20
abbrev pub is_blank : Byte → Bool
is_blank b = b == 32

-- a comma
abbrev pub is_comma : Byte → Bool
is_comma b = b == 44

-- whether a word ends before this byte: a blank or a comma
abbrev pub ends_word : Byte → Bool
ends_word b = is_blank b || is_comma b

-- the bytes before the first that passes the test
abbrev pub up_to : (Byte → Bool) → Bytes → Bytes
up_to ends [] = []
up_to ends (b ∷ bs) = if ends b then [] else b ∷ up_to ends bs

-- the bytes from the first that passes the test, that one included
abbrev pub from_first : (Byte → Bool) → Bytes → Bytes
from_first begins [] = []
from_first begins (b ∷ bs) = if begins b then b ∷ bs else from_first begins bs

-- a text without its leading blanks
abbrev pub after_blanks : Bytes → Bytes
after_blanks text = from_first (λ b. not (is_blank b)) text

-- a text without its leading comma, if it has one
abbrev pub after_comma : Bytes → Bytes
after_comma [] = []
after_comma (b ∷ bs) = if is_comma b then bs else b ∷ bs

-- whether the line has a star in column 1
abbrev pub is_starred : Bytes → Bool
is_starred [] = false
is_starred (b ∷ bs) = b == 42

-- whether the line has `*/` in columns 1 and 2
abbrev pub is_comment : Bytes → Bool
is_comment [] = false
is_comment (b ∷ bs) = (b == 42) && begins_slash bs
  where
    begins_slash : Bytes → Bool
    begins_slash [] = false
    begins_slash (c ∷ cs) = c == 47

-- the word of a starred line: what follows the star, up to the first blank or comma
abbrev pub word : Bytes → Bytes
word line = up_to ends_word (drop 1 line)

-- the fields and the remark: what follows the word and at most one comma, blanks dropped
abbrev pub body : Bytes → Bytes
body line = after_blanks (after_comma (after_blanks (from_first ends_word (drop 1 line))))

-- the field of a piece between two commas
abbrev pub field : Bytes → Bytes
field piece = up_to is_blank (after_blanks piece)

-- what follows the field of a piece, blanks dropped
abbrev pub remark : Bytes → Bytes
remark piece = after_blanks (from_first is_blank (after_blanks piece))

-- the field of each piece; a piece with a remark is the last
abbrev pub fields_of : List Bytes → List Bytes
fields_of [] = []
fields_of (piece ∷ pieces) = if length (remark piece) == 0 then field piece ∷ fields_of pieces else field piece ∷ []

-- the fields of a starred line
abbrev pub fields : Bytes → List Bytes
fields line = if length (body line) == 0 then [] else fields_of (slice_split is_comma (body line))

-- whether a line is a call of a common deck: `*CALL` or `*CA`
abbrev pub is_call : Bytes → Bool
is_call line = is_starred line && (bytes_eq (word line) (codes "CALL") || bytes_eq (word line) (codes "CA"))

-- the name that a call calls: its first field
abbrev pub called : Bytes → Bytes
called line = first_of (fields line)
  where
    first_of : List Bytes → Bytes
    first_of [] = []
    first_of (name ∷ more) = name
