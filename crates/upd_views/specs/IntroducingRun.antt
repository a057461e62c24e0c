-- The stored run that introduced an ident, and its line.
use Rattle.std.specs.Prelude.{Bool, false, ◌&&◌, ◌||◌, if◌then◌else◌, List, [], ◌∷◌, ◌++◌, ◌==◌, codes, count_by, Option, None, option_and_then}
use Rattle.std.specs.List.{filter, last_or}
use Rattle.std.specs.Option.{option_map_or}
use Rattle.std.specs.Str.{bytes_eq}
use Rattle.serde_json.specs.Data.{Data, null, boolean, number, string, array, object, Items, no_items, item}
use Rattle.serde_json.specs.Find.{as_array, get}
use Rattle.upd_text.specs.Lines.{is_comment}
use Rattle.upd_text.specs.Units.{Bytes}
use Rattle.upd_core.specs.declared.ident.Ident.{Ident}
use Rattle.upd_records.specs.Rows.{RunView}
use Rattle.upd_views.specs.RunLines.{first_line, key_words, message, reply_value}

-- whether a value is this text
abbrev pub is_word : Bytes → Data → Bool
is_word name null = false
is_word name (boolean b) = false
is_word name (number n) = false
is_word name (string word) = bytes_eq word name
is_word name (array items) = false
is_word name (object ms) = false

-- whether a text is in an array
abbrev pub is_among_words : Bytes → Items → Bool
is_among_words name no_items = false
is_among_words name (item d ds) = is_word name d || is_among_words name ds

-- whether a reply has a name among the idents that its run introduced
abbrev pub says_ident : Bytes → Option Data → Bool
says_ident name value = option_map_or (is_among_words name) (option_and_then as_array (option_and_then (get (codes "idents")) value)) false

-- whether a stored run introduced an ident of this name
abbrev pub introduces : Bytes → RunView → Bool
introduces name r = r.accepted && says_ident name (reply_value r.reply)

-- The run that introduced the youngest ident of a name: the last that introduced one, where each ident of the name has its run among these. Where one is
-- missing, that may be the run.
abbrev pub introducer : Bytes → List RunView → List Ident → Option RunView
introducer name runs idents =
    if count_by (introduces name) runs == count_by (λ i. bytes_eq i.name name) idents then last_or None (filter (introduces name) runs) else None

-- the line of a run with a message; another run has none
abbrev pub message_line : RunView → Bytes
message_line r = if is_comment (first_line r.bytes) then codes "RUN " ++ key_words r ++ message r.bytes ++ 10 ∷ [] else []

-- the line of the run that introduced the youngest ident of a name, where it is stored and has a message
abbrev pub introducer_line : Bytes → List RunView → List Ident → Bytes
introducer_line name runs idents = option_map_or message_line (introducer name runs idents) []
