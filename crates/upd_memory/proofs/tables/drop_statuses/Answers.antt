use Rattle.upd_memory.proofs.Common.{◌≡◌, arith, common_steps, List, subst, sym, take, filter, not, StateRow, AreStatuses}
use Rattle.upd_row_store.specs.Ranges.{is_among}
use Rattle.upd_row_store.proofs.RangeLemmas.{filter_none}
use Rattle.upd_memory.proofs.CardSetLemmas.{rows_left}
use Rattle.upd_memory.proofs.StatusRowLemmas.{states_left}
use Rattle.upd_memory.proofs.tables.drop_statuses.Goals as goal

pub loop-card-init : goal.loop-card-init
loop-card-init c = λ rows are. subst (AreStatuses c.args.statuses.now) (sym (filter_none rows)) are

pub loop-card-preserved : goal.loop-card-preserved
loop-card-preserved c = λ rows are.
    let cards = c.args.cards.now in
    let i = c.loop-card.card-index in
    let card = c.card-item.result in
    subst (AreStatuses c.drop_status.new.statuses) (rows_left (λ r. r.card) cards i card rows c.loop-card-test.true c.card-item.is)
    (states_left c.loop-card.statuses c.drop_status.new.statuses (filter (λ r. not (is_among (take i cards) r.card)) rows) card c.drop_status.ensures
    (c.loop-card.invariant rows are))

pub returns : goal.returns
returns c = λ rows are.
    let cards = c.args.cards.now in
    let all : take c.loop-card.card-index cards ≡ cards = grind (arith, common_steps, c.loop-card-test.false) in
    subst (λ cs. AreStatuses c.loop-card.statuses (filter (λ r. not (is_among cs r.card)) rows)) all (c.loop-card.invariant rows are)
