use Rattle.std.proofs.Common.{ap, ◌∙◌}
use Rattle.upd_records.specs.Changes.{change_view, done}
use Rattle.upd_row_store.proofs.RangeLemmas.{change_more, none_goes}
use Rattle.upd_row_store.proofs.ranges.gone_cards.Goals as goal

pub loop-change-init : goal.loop-change-init
loop-change-init c =
    none_goes (record { entries = c.new.result; targets = c.new-2.result; cards = c.new-3.result }) c.new.ensures.items c.new-2.ensures.items
    c.new-3.ensures.items

pub loop-change-preserved : goal.loop-change-preserved
loop-change-preserved c = λ rows.
    c.in_ok-add.ensures rows ∙ ap (done (change_view c.change-item.result)) (c.loop-change.invariant rows)
    ∙ change_more c.args.changes.now c.loop-change.change-index c.change-item.result rows c.loop-change-test.true c.change-item.is
