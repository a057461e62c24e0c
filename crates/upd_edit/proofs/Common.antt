-- What the proofs of this crate share: the words of its definitions and of those below, and the lemmas that more than one proof cites.
pub use Rattle.std.proofs.lemmas.Iterator.Search.{find_from_yields_List}
pub use Rattle.std.proofs.lemmas.Iterator.Splits.{YieldsList-from_slice_split}
pub use Rattle.upd_compile.proofs.Common.{zip}
pub use Rattle.upd_core.proofs.Common.{[], ℕ, ◌++◌, ◌+◌, ◌∙◌, ◌∷◌, ◌≡◌, Bool, LibraryView, List, None, Some, ap, arith, drop, false, find, flat_map}
pub use Rattle.upd_core.proofs.Common.{if◌then◌else◌, length, map, rules, subst, sym, true}
pub use Rattle.upd_deck.proofs.Common.{Err, Ok, is_comment, is_feed}
pub use Rattle.upd_desk.proofs.Common.{check_arrival, memory_is_lost}
pub use Rattle.upd_desk.proofs.QueryLemmas.{fails_owed}
pub use Rattle.upd_edit.specs.Trying.{tried}
pub use Rattle.upd_edit.specs.YankWarnings.{is_followed}
pub use Rattle.upd_row_store.proofs.Common.{name_of}
