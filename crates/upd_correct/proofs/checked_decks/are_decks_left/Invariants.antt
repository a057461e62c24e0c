use Rattle.upd_correct.proofs.Common.{drop, AllZip, IsDeckLeft}
use Rattle.upd_correct.proofs.checked_decks.are_decks_left.Given as goal

abbrev pub invariant-loop-i : goal.invariant-loop-i
invariant-loop-i l = AllZip (IsDeckLeft l.named) (drop l.i l.olds) (drop l.i l.news) → AllZip (IsDeckLeft l.named) l.olds l.news
