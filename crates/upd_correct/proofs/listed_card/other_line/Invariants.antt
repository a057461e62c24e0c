use Rattle.upd_correct.proofs.Common.{◌≡◌, drop, map, index_from, is_other}
use Rattle.upd_correct.proofs.listed_card.other_line.Given as goal

abbrev pub invariant-loop-i : goal.invariant-loop-i
invariant-loop-i l = index_from is_other l.i (map (λ t. t.now) (drop l.i l.lines)) ≡ index_from is_other 0 (map (λ t. t.now) l.lines)
