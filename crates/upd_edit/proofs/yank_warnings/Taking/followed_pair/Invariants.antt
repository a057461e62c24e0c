use Rattle.upd_edit.proofs.Common.{◌≡◌, drop, find, zip, is_followed}
use Rattle.upd_edit.proofs.yank_warnings.Taking.followed_pair.Given as goal

abbrev pub invariant-loop-i : goal.invariant-loop-i
invariant-loop-i l =
    find (is_followed l.self.live.now.targets l.deck l.self.ranges.now) (zip (drop l.i l.cards) (drop l.i l.next))
    ≡ find (is_followed l.self.live.now.targets l.deck l.self.ranges.now) (zip l.cards l.next)
