use Rattle.upd_correct.proofs.Common.{◌≡◌, drop, map, index_from, lines_in}
use Rattle.upd_correct.specs.ListedRuns.{begins_other}
use Rattle.upd_correct.proofs.other_deck.first_other.Given as goal

abbrev pub invariant-loop-i : goal.invariant-loop-i
invariant-loop-i l =
    index_from (begins_other l.name) l.i (map (λ t. t.now) (drop l.i l.line-items)) ≡ index_from (begins_other l.name) 0 (lines_in l.text)
