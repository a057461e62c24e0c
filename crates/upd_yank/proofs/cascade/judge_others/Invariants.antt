use Rattle.upd_yank.proofs.Common.{◌≡◌, ◌+◌, ◌<◌, ◌≤◌, ◌^◌, ◌++◌, length, drop, count_in, is_touched, found_others}
use Rattle.upd_yank.proofs.cascade.judge_others.Given as goal

abbrev pub invariant-loop-card : goal.invariant-loop-card
invariant-loop-card l = record {
  counts : l.found.counts ≡ l.initial.found.counts;
  statuses : l.found.statuses.items
      ++ found_others (is_touched l.before.touched.now) (count_in l.before.counts.now) (count_in l.initial.found.counts) (drop l.card-index l.cards)
      ≡ l.initial.found.statuses.items
      ++ found_others (is_touched l.before.touched.now) (count_in l.before.counts.now) (count_in l.initial.found.counts) l.cards;
  reads : l.initial.counted.histories_read + length l.cards < 2 ^ 64 →
      l.counted.histories_read + length l.initial.found.statuses.items ≡ l.initial.counted.histories_read + length l.found.statuses.items;
  few : length l.found.statuses.items ≤ length l.initial.found.statuses.items + l.card-index;
}
