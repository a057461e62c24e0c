-- What the words of a command line ask for, by the rules of `clap`.
use Rattle.std.specs.Prelude.{◌≡◌, ◌≢◌, ℕ, ◌≤◌, ◌⊎◌, ◌==◌, true, false, List, [], ◌∷◌, codes, map, Option, Some, None, IsSomeAnd, Result, Ok, Err, unwrap_or}
use Rattle.std.specs.Str.Parse.{IsNumeral, digits_value, without_leading_plus}
use Rattle.std.specs.Option.{option_and_then, option_map}
use Rattle.clap.specs.Simple.{new_shape}
use Rattle.clap.specs.Words.{App, IsAmong, Row, Rule, Shape, Text, fault_of, first_of, new_app, new_rule, subcommand_of, with_subcommand}
use Rattle.clap.specs.declared.builder.action.ArgAction.TheVariants.{Set}
use Rattle.clap.specs.declared.builder.value_parser.ValueParser.{ValueParser}
use Rattle.clap.specs.declared.builder.value_parser.ValueParser.TheVariants.{String, Unsigned}
use Rattle.clap.specs.declared.error.kind.ErrorKind.{ErrorKind}
use Rattle.clap.specs.declared.error.kind.ErrorKind.TheVariants.{DisplayHelp, DisplayVersion}
use Rattle.upd_text.specs.declared.fault.Fault.{Fault}
use Rattle.upd_text.specs.declared.fault.FaultKind.TheVariants.{NoMemory}
use Rattle.std.specs.Net.Grammar.{IsSocketText}
use Rattle.upd_words.specs.Operands.{IsNoAddress, card_read, name_read, number_read}
use Rattle.upd_words.specs.declared.app.CommandRow.{CommandRow}
use Rattle.upd_words.specs.declared.words.Request.{Request}
use Rattle.upd_words.specs.declared.words.Request.TheVariants.{Trial, Init, Library, Backup, Compact, Examine, Replay, Migrate, Explain, Shown, Unread}
use Rattle.upd_words.specs.declared.words.Request.TheVariants.{NoAddress}
use Rattle.upd_words.specs.declared.words.Command.{Command}
use Rattle.upd_words.specs.declared.words.Command.TheVariants.{Run, Settle, Spool, Serve, Correct, CorrectAt, CorrectParts, Try, Ask}
use Rattle.upd_words.specs.declared.words.Endpoint.{Endpoint}
use Rattle.upd_words.specs.declared.words.Endpoint.TheVariants.{Address, Path}
use Rattle.upd_words.specs.declared.querying.Query.{Query}
use Rattle.upd_words.specs.declared.querying.Query.TheVariants.{Compile, Deck, Card, Idents, Yanks, Show, Runs, Sites, View}
use Rattle.upd_words.specs.declared.querying.View.TheVariants.{Blame, Page, Text as PlainText, TextAt, Source}

-- an operand's name, and what its word has to be
abbrev pub Operand : Type 0
Operand = Text × ValueParser

-- an operand whose word is judged later, if at all
abbrev pub word_of : Text → Operand
word_of name = (name, String)

-- a required word that is named by its place
abbrev pub operand_rule : Operand → Rule
operand_rule (name, parser) = record (new_rule name) { action = Some Set; required = true; parser = Some parser }

-- a command with its operands in order
abbrev pub command_shape : Text → List Operand → Shape
command_shape name operands = record (new_shape name) { rules = map operand_rule operands }

-- the command of a row of the program's tables
abbrev pub row_shape : CommandRow → Shape
row_shape row = command_shape row.name.now (map (λ o. (o.0.now, o.2)) row.operands.now)

-- a program with this command more
abbrev pub with_row : App → CommandRow → App
with_row app row = with_subcommand app (row_shape row)

-- the commands in order, each with its operands
abbrev pub upd_commands : List (Text × List Operand)
upd_commands =
    (codes "trial", word_of (codes "MODE") ∷ [])
    ∷ (codes "init", word_of (codes "FILE") ∷ [])
    ∷ (codes "run", word_of (codes "FILE") ∷ word_of (codes "SITE") ∷ word_of (codes "NUMBER") ∷ word_of (codes "MODE") ∷ [])
    ∷ (codes "settle", word_of (codes "FILE") ∷ word_of (codes "SITE") ∷ word_of (codes "NUMBER") ∷ [])
    ∷ (codes "spool", word_of (codes "FILE") ∷ [])
    ∷ (codes "serve", word_of (codes "FILE") ∷ word_of (codes "ADDRESS") ∷ (codes "COUNT", Unsigned 1 1000000) ∷ [])
    ∷ (codes "serve-local", word_of (codes "FILE") ∷ word_of (codes "PATH") ∷ (codes "COUNT", Unsigned 1 1000000) ∷ [])
    ∷ (codes "compile", word_of (codes "FILE") ∷ [])
    ∷ (codes "list", word_of (codes "FILE") ∷ word_of (codes "DECK") ∷ [])
    ∷ (codes "history", word_of (codes "FILE") ∷ word_of (codes "CARD") ∷ [])
    ∷ (codes "blame", word_of (codes "FILE") ∷ word_of (codes "DECK") ∷ [])
    ∷ (codes "show", word_of (codes "FILE") ∷ word_of (codes "IDENT") ∷ [])
    ∷ (codes "idents", word_of (codes "FILE") ∷ [])
    ∷ (codes "yanks", word_of (codes "FILE") ∷ [])
    ∷ (codes "page", word_of (codes "FILE") ∷ [])
    ∷ (codes "text", word_of (codes "FILE") ∷ word_of (codes "DECK") ∷ [])
    ∷ (codes "text-at", word_of (codes "FILE") ∷ word_of (codes "DECK") ∷ word_of (codes "SINCE") ∷ [])
    ∷ (codes "correct", word_of (codes "FILE") ∷ word_of (codes "SET") ∷ [])
    ∷ (codes "correct-at", word_of (codes "FILE") ∷ word_of (codes "SET") ∷ word_of (codes "SINCE") ∷ [])
    ∷ (
      codes "correct-parts",
      word_of (codes "FILE") ∷ word_of (codes "SET") ∷ word_of (codes "SITE") ∷ word_of (codes "NUMBER") ∷ word_of (codes "MODE") ∷ [],
    )
    ∷ (codes "try", word_of (codes "FILE") ∷ word_of (codes "MODE") ∷ [])
    ∷ (codes "try-at", word_of (codes "FILE") ∷ word_of (codes "MODE") ∷ word_of (codes "SINCE") ∷ [])
    ∷ (
      codes "run-at",
      word_of (codes "FILE") ∷ word_of (codes "SITE") ∷ word_of (codes "NUMBER") ∷ word_of (codes "MODE") ∷ word_of (codes "SINCE") ∷ [],
    )
    ∷ (codes "source", word_of (codes "FILE") ∷ word_of (codes "DECK") ∷ [])
    ∷ (codes "runs", word_of (codes "FILE") ∷ [])
    ∷ (codes "sites", word_of (codes "FILE") ∷ [])
    ∷ (codes "backup", word_of (codes "FILE") ∷ word_of (codes "COPY") ∷ [])
    ∷ (codes "compact", word_of (codes "FILE") ∷ word_of (codes "COPY") ∷ [])
    ∷ (codes "examine", word_of (codes "FILE") ∷ [])
    ∷ (codes "replay", word_of (codes "FILE") ∷ [])
    ∷ (codes "migrate", word_of (codes "FILE") ∷ [])
    ∷ (codes "explain", word_of (codes "FAULT") ∷ [])
    ∷ []

-- a name is that of one of these commands
abbrev pub IsOneOf : Text → List (Text × List Operand) → Type 0
IsOneOf name [] = ⊥
IsOneOf name (command ∷ commands) = (name ≡ command.0) ⊎ IsOneOf name commands

-- a name is none of these
abbrev pub IsOther : Text → List Text → Type 0
IsOther name [] = Unit {0}
IsOther name (other ∷ others) = (name ≢ other) × IsOther name others

-- the commands that do not use the desk of a library, and those that serve
abbrev pub file_commands : List Text
file_commands =
    codes "trial" ∷ codes "init" ∷ codes "serve" ∷ codes "serve-local" ∷ codes "backup" ∷ codes "compact" ∷ codes "examine" ∷ codes "replay"
    ∷ codes "migrate" ∷ codes "explain" ∷ []

-- those that use it for more than a text about the library, but for those that serve
abbrev pub desk_commands : List Text
desk_commands =
    codes "run" ∷ codes "run-at" ∷ codes "settle" ∷ codes "spool" ∷ codes "correct" ∷ codes "correct-at" ∷ codes "correct-parts" ∷ codes "try"
    ∷ codes "try-at" ∷ []

-- the program before its first command; `clap` adds a command `help`
abbrev pub upd_top : App
upd_top = let app = new_app (codes "upd") in record app { top = record app.top { has_version = true; subcommand_required = true } }

-- the program with some commands
abbrev pub app_with : List (Text × List Operand) → App
app_with commands = record { top = record upd_top.top { is_leaf = false }; subs = map (λ c. command_shape c.0 c.1) commands }

-- the program with all its commands
abbrev pub upd_app : App
upd_app = app_with upd_commands

-- why the words are not read, if they are not: a mistake, or a request for help or the version
abbrev pub word_faults : List Text → List ErrorKind
word_faults words = fault_of upd_app words

-- the command that words name which are read, and the operand of a name that they give it
abbrev pub command_word : List Text → Text
command_word words = unwrap_or (option_map (λ c. c.0) (subcommand_of upd_app words)) []

abbrev pub operand_word : Text → List Text → Text
operand_word name words = unwrap_or (option_and_then (first_of name) (option_map (λ c. c.1) (subcommand_of upd_app words))) []

-- the operand of a name in the matches of a command
abbrev pub operand_in : Text → List Row → Text
operand_in name rows = unwrap_or (first_of name rows) []

-- a word spells this number of connections: a decimal number from 1 to a million, a plus before it or none
abbrev pub IsCount : Text → ℕ → Type 0
IsCount word n = IsNumeral 10 (without_leading_plus word) × (digits_value 10 (without_leading_plus word) ≡ n) × (1 ≤ n) × (n ≤ 1000000)

-- a word spells a number of connections
abbrev pub SpellsCount : Text → Type 0
SpellsCount word = (n : ℕ) × IsCount word n

-- a command that serves has a number of connections
abbrev pub HasCount : Text × List Row → Type 0
HasCount (name, rows) =
    (name ≡ codes "serve" → SpellsCount (operand_in (codes "COUNT") rows)) × (name ≡ codes "serve-local" → SpellsCount (operand_in (codes "COUNT") rows))

-- the command that asks this of a library
abbrev pub query_name : Query → Text
query_name Compile = codes "compile"
query_name (Deck name) = codes "list"
query_name (Card card) = codes "history"
query_name Idents = codes "idents"
query_name Yanks = codes "yanks"
query_name (Show name) = codes "show"
query_name Runs = codes "runs"
query_name Sites = codes "sites"
query_name (View (Blame name)) = codes "blame"
query_name (View Page) = codes "page"
query_name (View (PlainText name)) = codes "text"
query_name (View (TextAt name since)) = codes "text-at"
query_name (View (Source name)) = codes "source"

-- its operands beside FILE, if it has any, are read from the matches
abbrev pub HasQueried : List Row → Query → Type 0
HasQueried rows (Deck name) = name_read (operand_in (codes "DECK") rows) ≡ Ok name
HasQueried rows (Card card) = card_read (operand_in (codes "CARD") rows) ≡ Ok card
HasQueried rows (Show name) = name_read (operand_in (codes "IDENT") rows) ≡ Ok name
HasQueried rows (View (Blame name)) = name_read (operand_in (codes "DECK") rows) ≡ Ok name
HasQueried rows (View (PlainText name)) = name_read (operand_in (codes "DECK") rows) ≡ Ok name
HasQueried rows (View (TextAt name since)) =
    (name_read (operand_in (codes "DECK") rows) ≡ Ok name) × (name_read (operand_in (codes "SINCE") rows) ≡ Ok since)
HasQueried rows (View (Source name)) = name_read (operand_in (codes "DECK") rows) ≡ Ok name
HasQueried rows _ = Unit {0}

-- the command that serves at such an endpoint
abbrev pub serving_name : Endpoint → Text
serving_name (Address address) = codes "serve"
serving_name (Path path) = codes "serve-local"

-- the endpoint is the operand of that command
abbrev pub HasEndpoint : List Row → Endpoint → Type 0
HasEndpoint rows (Address address) = IsSocketText (operand_in (codes "ADDRESS") rows) address
HasEndpoint rows (Path path) = path.now ≡ operand_in (codes "PATH") rows

-- the command that hands a run in, with an ident or without
abbrev pub running_name : Option Text → Text
running_name None = codes "run"
running_name (Some since) = codes "run-at"

-- the command that tries a run, with an ident or without
abbrev pub trying_name : Option Text → Text
trying_name None = codes "try"
trying_name (Some since) = codes "try-at"

-- the ident is the operand SINCE, where there is one
abbrev pub HasSince : List Row → Option Text → Type 0
HasSince rows None = Unit {0}
HasSince rows (Some since) = name_read (operand_in (codes "SINCE") rows) ≡ Ok since

-- the command's name, and its operands beside FILE
abbrev pub command_name : Command → Text
command_name (Run site number mode since) = running_name since
command_name (Settle site number) = codes "settle"
command_name Spool = codes "spool"
command_name (Serve endpoint count) = serving_name endpoint
command_name (Correct set) = codes "correct"
command_name (CorrectAt set since) = codes "correct-at"
command_name (CorrectParts set site number mode) = codes "correct-parts"
command_name (Try mode since) = trying_name since
command_name (Ask query) = query_name query

abbrev pub HasOperands : List Row → Command → Type 0
HasOperands rows (Run site number mode since) = (site.now ≡ operand_in (codes "SITE") rows)
    × (number_read (operand_in (codes "NUMBER") rows) ≡ Ok number) × (mode.now ≡ operand_in (codes "MODE") rows) × HasSince rows since
HasOperands rows (Settle site number) =
    (site.now ≡ operand_in (codes "SITE") rows) × (number_read (operand_in (codes "NUMBER") rows) ≡ Ok number)
HasOperands rows Spool = Unit {0}
HasOperands rows (Serve endpoint count) = HasEndpoint rows endpoint × IsCount (operand_in (codes "COUNT") rows) count
HasOperands rows (Correct set) = set.now ≡ operand_in (codes "SET") rows
HasOperands rows (CorrectAt set since) = (set.now ≡ operand_in (codes "SET") rows) × (name_read (operand_in (codes "SINCE") rows) ≡ Ok since)
HasOperands rows (CorrectParts set site number mode) = (set.now ≡ operand_in (codes "SET") rows) × (site.now ≡ operand_in (codes "SITE") rows)
    × (number_read (operand_in (codes "NUMBER") rows) ≡ Ok number) × (mode.now ≡ operand_in (codes "MODE") rows)
HasOperands rows (Try mode since) = (mode.now ≡ operand_in (codes "MODE") rows) × HasSince rows since
HasOperands rows (Ask query) = HasQueried rows query

-- the command that a request is for
abbrev pub request_name : Request → Text
request_name (Trial mode) = codes "trial"
request_name (Init file) = codes "init"
request_name (Library file command) = command_name command
request_name (Backup file copy) = codes "backup"
request_name (Compact file copy) = codes "compact"
request_name (Examine file) = codes "examine"
request_name (Replay file) = codes "replay"
request_name (Migrate file) = codes "migrate"
request_name (Explain fault) = codes "explain"
request_name (NoAddress word) = codes "serve"
request_name _ = []

-- its operands are those in the matches; a text for words that are not read is for no command
abbrev pub AreOperands : List Row → Request → Type 0
AreOperands rows (Trial mode) = mode.now ≡ operand_in (codes "MODE") rows
AreOperands rows (Init file) = file.now ≡ operand_in (codes "FILE") rows
AreOperands rows (Library file command) = (file.now ≡ operand_in (codes "FILE") rows) × HasOperands rows command
AreOperands rows (Backup file copy) = (file.now ≡ operand_in (codes "FILE") rows) × (copy.now ≡ operand_in (codes "COPY") rows)
AreOperands rows (Compact file copy) = (file.now ≡ operand_in (codes "FILE") rows) × (copy.now ≡ operand_in (codes "COPY") rows)
AreOperands rows (Examine file) = file.now ≡ operand_in (codes "FILE") rows
AreOperands rows (Replay file) = file.now ≡ operand_in (codes "FILE") rows
AreOperands rows (Migrate file) = file.now ≡ operand_in (codes "FILE") rows
AreOperands rows (Explain fault) = fault.now ≡ operand_in (codes "FAULT") rows
AreOperands rows (NoAddress word) = (word.now ≡ operand_in (codes "ADDRESS") rows) × IsNoAddress word.now
AreOperands rows _ = ⊥

-- the request of the command of this name with these operands
abbrev pub IsRequest : Text × List Row → Request → Type 0
IsRequest (name, rows) request = (name ≡ request_name request) × AreOperands rows request

-- a name is one of these
abbrev pub IsNamed : Text → List Text → Type 0
IsNamed name [] = ⊥
IsNamed name (other ∷ others) = (name ≡ other) ⊎ IsNamed name others

-- an operand of the command of this name is refused so
abbrev pub IsRefused : Text × List Row → Fault → Type 0
IsRefused (name, rows) fault =
    (IsNamed name (codes "run" ∷ codes "run-at" ∷ codes "settle" ∷ codes "correct-parts" ∷ []) × (number_read (operand_in (codes "NUMBER") rows) ≡ Err fault))
    ⊎ ((IsNamed name (codes "list" ∷ codes "blame" ∷ codes "text" ∷ codes "text-at" ∷ codes "source" ∷ [])
    × (name_read (operand_in (codes "DECK") rows) ≡ Err fault))
    ⊎ ((IsNamed name (codes "run-at" ∷ codes "text-at" ∷ codes "correct-at" ∷ codes "try-at" ∷ []) × (name_read (operand_in (codes "SINCE") rows) ≡ Err fault))
    ⊎ (((name ≡ codes "show") × (name_read (operand_in (codes "IDENT") rows) ≡ Err fault))
    ⊎ ((name ≡ codes "history") × (card_read (operand_in (codes "CARD") rows) ≡ Err fault)))))

-- the command of this name with these operands is read, or one of them is refused
abbrev pub IsRead : {A : Type 0} → (A → Type 0) → Text × List Row → Result A Fault → Type 0
IsRead Right command (Ok x) = Right x
IsRead Right command (Err fault) = IsRefused command fault

-- a request for a text: help or the version
abbrev pub AsksText : ErrorKind → Type 0
AsksText kind = (kind ≡ DisplayHelp) ⊎ (kind ≡ DisplayVersion)

-- the request for what clap says of words that it does not read
abbrev pub IsUnreadRequest : ErrorKind → Request → Type 0
IsUnreadRequest kind (Shown text) = AsksText kind
IsUnreadRequest kind (Unread text) = ¬ (AsksText kind)
IsUnreadRequest kind _ = ⊥

-- the request for the command that words name which are read
abbrev pub IsCommand : List Text → Request → Type 0
IsCommand words request = (word_faults words ≡ []) × IsSomeAnd (subcommand_of upd_app words) (λ command. IsRequest command request)

-- the request is what the words ask for: a command, or what clap says of words that it does not read
abbrev pub IsAskedFor : List Text → Request → Type 0
IsAskedFor words request =
    IsCommand words request ⊎ ((kind : ErrorKind) × IsAmong kind (word_faults words) × IsUnreadRequest kind request)

-- out of memory
abbrev pub no_memory : Fault
no_memory = record { kind = NoMemory; at = 0 }

-- nothing is asked for: an operand of the command that the words name is refused so, or memory is out
abbrev pub IsUnasked : List Text → Fault → Type 0
IsUnasked words fault = (fault ≡ no_memory)
    ⊎ ((word_faults words ≡ []) × IsSomeAnd (subcommand_of upd_app words) (λ command. IsRefused command fault))

-- a word that does not begin with a hyphen
abbrev pub IsPlain : Text → Type 0
IsPlain [] = Unit {0}
IsPlain (b ∷ bs) = (b == 45) ≡ false
