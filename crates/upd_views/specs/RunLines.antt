-- One line for each stored run: its site, number and mode, and what its reply says.
use Rattle.std.specs.Prelude.{◌≡◌, ℕ, Bool, if◌then◌else◌, List, [], ◌∷◌, ◌++◌, ◌==◌, ◌-◌, ◌||◌, codes, decimal, drop, get_or, length, take, Option, None}
use Rattle.std.specs.Prelude.{option_and_then}
use Rattle.std.specs.Prelude.{IsPermutation, IsSorted}
use Rattle.std.specs.Cmp.Lexicographic.{slice_cmp}
use Rattle.std.specs.Ordering.{nat_cmp, ordering_then}
use Rattle.std.specs.declared.cmp.Ordering.{Ordering}
use Rattle.std.specs.List.{flat_map, slice_split, suffix_len}
use Rattle.std.specs.Option.{option_map_or}
use Rattle.std.specs.Str.{is_utf8}
use Rattle.serde_json.specs.Data.{Data, null, boolean, number, string, array, object, Items, no_items, item}
use Rattle.serde_json.specs.Find.{as_array, get}
use Rattle.serde_json.specs.Read.{read}
use Rattle.upd_text.specs.Lines.{is_comment}
use Rattle.upd_records.specs.Rows.{RunView, mode_word}
use Rattle.upd_views.specs.Printed.{printed_field}

-- the value of a reply; bytes that are no text of JSON have none
abbrev pub reply_value : List ℕ → Option Data
reply_value reply = if is_utf8 reply then read reply else None

-- a text as a word, with a blank before it; another value is no word
abbrev pub word_of : Data → List ℕ
word_of null = []
word_of (boolean b) = []
word_of (number n) = []
word_of (string word) = 32 ∷ printed_field word
word_of (array items) = []
word_of (object ms) = []

-- the texts of an array as words
abbrev pub words_of : Items → List ℕ
words_of no_items = []
words_of (item d ds) = word_of d ++ words_of ds

-- the idents that an accepted run introduced, as its reply says
abbrev pub idents_said : Option Data → List ℕ
idents_said value = option_map_or words_of (option_and_then as_array (option_and_then (get (codes "idents")) value)) []

-- the name of a refusal, as the reply says
abbrev pub refusal_said : Option Data → List ℕ
refusal_said value = option_map_or word_of (option_and_then (get (codes "name")) value) (codes " refused")

-- what became of a run: `accepted` and the idents, or the name of the refusal
abbrev pub outcome : Bool → Option Data → List ℕ
outcome accepted value = if accepted then codes " accepted" ++ idents_said value else refusal_said value

-- the first line of a run
abbrev pub first_line : List ℕ → List ℕ
first_line run = get_or (slice_split (λ b. b == 10) run) 0 []

-- a text without the blanks and carriage returns at its end
abbrev pub trimmed : List ℕ → List ℕ
trimmed text = take (length text - suffix_len (λ b. (b == 32) || (b == 13)) text) text

-- the message of a run: its first line where that is a comment, without the `*/` and the blanks at its end
abbrev pub message : List ℕ → List ℕ
message run = if is_comment (first_line run) then codes " #" ++ printed_field (trimmed (drop 2 (first_line run))) else []

-- the site of a run, its number and its mode
abbrev pub key_words : RunView → List ℕ
key_words r = printed_field r.site ++ 32 ∷ decimal r.number ++ 32 ∷ mode_word r.mode

-- the line of a run
abbrev pub run_line : RunView → List ℕ
run_line r = key_words r ++ outcome r.accepted (reply_value r.reply) ++ message r.bytes ++ 10 ∷ []

-- the lines of runs in order
abbrev pub run_lines : List RunView → List ℕ
run_lines runs = flat_map run_line runs

-- runs by site, then by number
abbrev pub by_key : RunView → RunView → Ordering
by_key a b = ordering_then (slice_cmp nat_cmp a.site b.site) (nat_cmp a.number b.number)

-- a text has the lines of all these runs, by site and then by number
abbrev pub IsRunList : List RunView → List ℕ → Type 0
IsRunList runs text = (all : List RunView) × IsPermutation runs all × IsSorted by_key all × (text ≡ run_lines all)
