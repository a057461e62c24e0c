use Rattle.upd_edit.proofs.Common.{◌≡◌, ◌++◌, drop, flat_map}
use Rattle.upd_edit.specs.YankWarnings.{deck_warning}
use Rattle.upd_edit.proofs.yank_warnings.Taking.push_decks_after.Given as goal

abbrev pub invariant-loop-range : goal.invariant-loop-range
invariant-loop-range l =
    l.list.items ++ flat_map (deck_warning l.self.number l.self.word l.self.library.now l.self.ranges.now) (drop l.range-index l.self.ranges.now)
    ≡ l.initial.list.items ++ flat_map (deck_warning l.self.number l.self.word l.self.library.now l.self.ranges.now) l.self.ranges.now
