use Rattle.upd_compile.proofs.Common.{◌≡◌, ◌++◌, drop, flat_map}
use Rattle.upd_compile.specs.Listings.{entry_line}
use Rattle.upd_compile.proofs.listings.push_entries.Given as goal

abbrev pub invariant-loop-entry : goal.invariant-loop-entry
invariant-loop-entry l =
    l.text.items ++ flat_map (entry_line l.idents l.live.targets l.deck) (drop l.entry-index l.history)
    ≡ l.initial.text.items ++ flat_map (entry_line l.idents l.live.targets l.deck) l.history
