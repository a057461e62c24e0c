-- The rows of a library's tables as SQLite stores them: whole numbers, texts and bytes.
use Rattle.std.specs.Prelude.{ℕ, pos, Bool, List, [], ◌∷◌, ◌++◌, map, codes, if◌then◌else◌}
use Rattle.sqlite_value.specs.declared.value.Value.{Value}
use Rattle.sqlite_value.specs.declared.value.Value.TheVariants.{Int, Text, Blob}
use Rattle.sqlite_value.specs.Order.{Row}
use Rattle.upd_text.specs.declared.card_ref.CardRef.{CardRef}
use Rattle.upd_core.specs.declared.ident.Ident.{Ident}
use Rattle.upd_core.specs.declared.ident.Kind.{Kind}
use Rattle.upd_core.specs.declared.ident.Kind.TheVariants as kind
use Rattle.upd_core.specs.declared.target.Target.{Target}
use Rattle.upd_core.specs.declared.target.Target.TheVariants as target
use Rattle.upd_records.specs.Rows.{CardRow, EntryRow, TargetRow, RunView, StateRow, CountRow, MarkRow, Rows}

abbrev pub num : ℕ → Value
num n = Int (pos n)

-- 1 for true, 0 for false
abbrev pub flag : Bool → Value
flag b = num (if b then 1 else 0)

-- 0 set, 1 deck, 2 common deck
abbrev pub kind_code : Kind → ℕ
kind_code kind.Set = 0
kind_code kind.Deck = 1
kind_code kind.Common = 2

-- kind, target and deck: 0 set, 1 set in a deck, 2 deck; 0 where a column is unused
abbrev pub target_code : Target → Row
target_code (target.Set z) = num 0 ∷ num z ∷ num 0 ∷ []
target_code (target.SetIn z d) = num 1 ∷ num z ∷ num d ∷ []
target_code (target.Deck d) = num 2 ∷ num d ∷ num 0 ∷ []

-- the row of `meta` with a version of the schema
abbrev pub version_row : ℕ → Row
version_row v = Text (codes "version") ∷ num v ∷ []

abbrev pub ident_row : Ident → Row
ident_row i = num i.age ∷ Text i.name ∷ num (kind_code i.kind) ∷ flag i.noprop ∷ flag i.held ∷ []

abbrev pub card_row : CardRow → Row
card_row r = Text r.card.name ∷ num r.card.number ∷ num r.deck ∷ num r.pos ∷ Text r.body ∷ []

abbrev pub entry_row : EntryRow → Row
entry_row r = Text r.card.name ∷ num r.card.number ∷ num r.ord ∷ num r.entry.ident ∷ flag r.entry.active ∷ []

abbrev pub target_row : TargetRow → Row
target_row r = Text r.card.name ∷ num r.card.number ∷ num r.ord ∷ target_code r.target

abbrev pub run_row : RunView → Row
run_row r = Text r.site ∷ num r.number ∷ num r.mode ∷ Blob r.bytes ∷ flag r.accepted ∷ Blob r.reply ∷ []

abbrev pub state_row : StateRow → Row
state_row r = Text r.card.name ∷ num r.card.number ∷ flag r.active ∷ []

abbrev pub count_row : CountRow → Row
count_row r = target_code r.target ++ num r.n ∷ []

-- a card with its status, and a target with its count, by the same rows
abbrev pub kept_state : CardRef × Bool → Row
kept_state s = state_row (record { card = s.0; active = s.1 })

abbrev pub kept_count : Target × ℕ → Row
kept_count c = count_row (record { target = c.0; n = c.1 })

abbrev pub mark_row : MarkRow → Row
mark_row r = Text r.site ∷ num r.mark ∷ []

-- the lists of rows of all nine tables, in the order of the schema
abbrev pub stored : Rows → List (List Row)
stored rows =
    (version_row 3 ∷ []) ∷ map ident_row rows.idents ∷ map card_row rows.cards ∷ map entry_row rows.entries ∷ map target_row rows.targets
    ∷ map run_row rows.runs
    ∷ map state_row rows.states ∷ map count_row rows.counts ∷ map mark_row rows.settled ∷ []
