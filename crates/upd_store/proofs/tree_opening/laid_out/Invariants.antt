use Rattle.upd_store.proofs.Common.{◌≡◌, length, map, take, unrooted}
use Rattle.upd_store.proofs.tree_opening.laid_out.Given as goal

abbrev pub invariant-loop-entry : goal.invariant-loop-entry
invariant-loop-entry l = (l.rows.items ≡ map unrooted (take l.entry-index l.listed)) × (length l.layouts.items ≡ length l.rows.items)
