use Rattle.upd_examine.proofs.Common.{◌≡◌, ◌++◌, drop, card_rows}
use Rattle.upd_examine.proofs.own_rows.add_card_rows.Given as goal

abbrev pub invariant-loop-i : goal.invariant-loop-i
invariant-loop-i l = l.rows.items ++ card_rows l.idents l.deck l.i (drop l.i l.cards) ≡ l.fn.rows.items ++ card_rows l.idents l.deck 0 l.cards
