use Rattle.upd_correct.proofs.Common.{◌≡◌, ◌+◌, map, drop}
use Rattle.upd_correct.specs.Checked.{deck_idents}
use Rattle.upd_correct.proofs.checked_idents.are_deck_idents.Given as goal

abbrev pub invariant-loop-i : goal.invariant-loop-i
invariant-loop-i l =
    drop l.i l.idents ≡ deck_idents (l.age + l.i) (map (λ d. d.now) (drop l.i l.decks)) → l.idents ≡ deck_idents l.age (map (λ d. d.now) l.decks)
