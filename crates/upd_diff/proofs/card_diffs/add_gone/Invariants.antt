use Rattle.upd_diff.proofs.Common.{◌≡◌, ◌++◌, map, drop, Gone, card_diff_view}
use Rattle.upd_diff.proofs.card_diffs.add_gone.Given as goal

abbrev pub invariant-loop-card : goal.invariant-loop-card
invariant-loop-card l =
    map card_diff_view l.card_diffs.items ++ map Gone (drop l.card-index l.cards) ≡ map card_diff_view l.initial.card_diffs.items ++ map Gone l.cards
