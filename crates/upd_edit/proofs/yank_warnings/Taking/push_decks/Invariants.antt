use Rattle.upd_edit.proofs.Common.{◌≡◌, ◌++◌, drop, flat_map}
use Rattle.upd_edit.specs.YankWarnings.{deck_warnings}
use Rattle.upd_edit.proofs.yank_warnings.Taking.push_decks.Given as goal

abbrev pub invariant-loop-deck : goal.invariant-loop-deck
invariant-loop-deck l =
    l.list.items ++ flat_map (deck_warnings l.self.number l.self.word l.self.library.now l.self.ranges.now) (drop l.deck-index l.self.library.now.decks)
    ≡ l.initial.list.items ++ flat_map (deck_warnings l.self.number l.self.word l.self.library.now l.self.ranges.now) l.self.library.now.decks
