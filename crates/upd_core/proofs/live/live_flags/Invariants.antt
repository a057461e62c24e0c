use Rattle.upd_core.proofs.Common.{◌≡◌, drop, length, targets_of, live_cards, liveness}
use Rattle.upd_core.proofs.live.live_flags.Given as goal

abbrev pub invariant-loop-i : goal.invariant-loop-i
invariant-loop-i l = record {
  flags : drop l.i l.live.items ≡ liveness (drop l.i l.yanks);
  targets : l.targets ≡ targets_of (live_cards (drop l.i l.yanks));
  len : length l.live.items ≡ length l.yanks;
}
