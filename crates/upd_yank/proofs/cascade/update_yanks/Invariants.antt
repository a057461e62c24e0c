use Rattle.upd_yank.proofs.Common.{◌≡◌, ◌+◌, ◌<◌, ◌≤◌, ◌^◌, length, drop, Target, count_in, count_on, is_touched, found_yanks, live_now, views, AreCountable}
use Rattle.upd_yank.proofs.Common.{was_active}
use Rattle.upd_yank.proofs.cascade.update_yanks.Given as goal

abbrev pub invariant-loop-i : goal.invariant-loop-i
invariant-loop-i l = record {
  counts : AreCountable (views l.yanks) → (t : Target) → count_in l.found.counts t
      ≡ count_on (live_now (is_touched l.before.touched.now) (was_active l.before.statuses.now) (count_in l.before.counts.now) (drop l.i l.yanks)) t;
  statuses : AreCountable (views l.yanks) → l.found.statuses.items
      ≡ found_yanks (is_touched l.before.touched.now) (was_active l.before.statuses.now) (count_in l.before.counts.now) (drop l.i l.yanks);
  reads : l.initial.counted.histories_read + length l.yanks < 2 ^ 64 → l.counted.histories_read
      ≡ l.initial.counted.histories_read + length l.found.statuses.items;
  few : length l.found.statuses.items + l.i ≤ length l.yanks;
}
