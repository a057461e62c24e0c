use Rattle.upd_correct.proofs.Common.{◌≡◌, ◌≤◌, ◌+◌, drop, length}
use Rattle.upd_correct.specs.ListedDeck.{with_idents}
use Rattle.upd_correct.proofs.listed_deck.introduce_idents.Given as goal

abbrev pub invariant-loop-listed : goal.invariant-loop-listed
invariant-loop-listed l =
    (with_idents (drop l.listed-index l.cards) l.library ≡ with_idents l.cards l.initial.library)
    × (length l.library.idents ≤ length l.initial.library.idents + l.listed-index)
