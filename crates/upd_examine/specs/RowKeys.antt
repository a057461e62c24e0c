-- Rows as pairs, which have an order: two rows are the same exactly where their pairs are.
use Rattle.std.specs.Prelude.{ℕ, Bool}
use Rattle.upd_text.specs.Units.{Bytes}
use Rattle.upd_text.specs.declared.card_ref.CardRef.{CardRef}
use Rattle.upd_core.specs.declared.ident.Ident.{Ident}
use Rattle.upd_core.specs.declared.ident.Kind.{Kind}
use Rattle.upd_core.specs.declared.ident.Kind.TheVariants.{Set, Deck, Common}
use Rattle.upd_core.specs.declared.target.Target.{Target}
use Rattle.upd_records.specs.Rows.{CardRow, EntryRow, TargetRow}

-- the number of a kind
abbrev pub kind_number : Kind → ℕ
kind_number Set = 0
kind_number Deck = 1
kind_number Common = 2

abbrev pub IdentKey : Type 0
IdentKey = (ℕ × Bytes) × (ℕ × (Bool × Bool))

abbrev pub ident_key : Ident → IdentKey
ident_key i = ((i.age, i.name), (kind_number i.kind, (i.noprop, i.held)))

abbrev pub CardKey : Type 0
CardKey = (CardRef × ℕ) × (ℕ × Bytes)

abbrev pub card_key : CardRow → CardKey
card_key r = ((r.card, r.deck), (r.pos, r.body))

abbrev pub EntryKey : Type 0
EntryKey = (CardRef × ℕ) × (ℕ × Bool)

abbrev pub entry_key : EntryRow → EntryKey
entry_key r = ((r.card, r.ord), (r.entry.ident, r.entry.active))

abbrev pub TargetRowKey : Type 0
TargetRowKey = (CardRef × ℕ) × Target

abbrev pub target_row_key : TargetRow → TargetRowKey
target_row_key r = ((r.card, r.ord), r.target)
