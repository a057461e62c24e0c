use Rattle.upd_compile.proofs.Common.{◌≡◌, Bool, ◌&&◌, not, map, take, filter, ActiveDeckView, is_common_deck}
use Rattle.upd_compile.proofs.chosen.picked_decks.Given as goal

abbrev pub invariant-loop-i : goal.invariant-loop-i
invariant-loop-i l =
    (test : ActiveDeckView → Bool) → l.flags ≡ map test l.decks
    → map (λ d. d.now) l.found.items ≡ filter (λ d. not (is_common_deck l.source d) && test d) (take l.i l.decks)
