use Rattle.upd_examine.proofs.Common.{◌≡◌, ◌+◌, drop, are_aged_from}
use Rattle.upd_examine.proofs.sound_tests.are_aged.Given as goal

abbrev pub invariant-loop-i : goal.invariant-loop-i
invariant-loop-i l = are_aged_from (1 + l.i) (drop l.i l.idents) ≡ are_aged_from 1 l.idents
