-- The entries of histories.
use Rattle.std.specs.Prelude.{Bool}
use Rattle.upd_core.specs.contracts.card.EntryPartialEq.TheImpl as same
use Rattle.upd_core.specs.declared.card.Entry.{Entry}

-- whether two entries are the same: of the same ident, and both on or both off
abbrev pub same_entry : Entry → Entry → Bool
same_entry = (same.ghosts).eq
