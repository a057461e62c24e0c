use Rattle.upd_memory.proofs.Common.{◌≡◌, arith, common_steps, List, subst, sym, take, filter, not, CardRow, AreHomes}
use Rattle.upd_row_store.specs.Ranges.{is_among}
use Rattle.upd_row_store.proofs.RangeLemmas.{filter_none}
use Rattle.upd_memory.proofs.CardSetLemmas.{rows_left}
use Rattle.upd_memory.proofs.MirrorLemmas.{homes_left}
use Rattle.upd_memory.proofs.tables.drop_homes.Goals as goal

pub loop-card-init : goal.loop-card-init
loop-card-init c = λ rows are. subst (AreHomes c.args.homes.now) (sym (filter_none rows)) are

pub loop-card-preserved : goal.loop-card-preserved
loop-card-preserved c = λ rows are.
    let cards = c.args.cards.now in
    let i = c.loop-card.card-index in
    let card = c.card-item.result in
    subst (AreHomes c.drop_home.new.homes) (rows_left (λ r. r.card) cards i card rows c.loop-card-test.true c.card-item.is)
    (homes_left c.loop-card.homes c.drop_home.new.homes (filter (λ r. not (is_among (take i cards) r.card)) rows) card c.drop_home.ensures
    (c.loop-card.invariant rows are))

pub returns : goal.returns
returns c = λ rows are.
    let cards = c.args.cards.now in
    let all : take c.loop-card.card-index cards ≡ cards = grind (arith, common_steps, c.loop-card-test.false) in
    subst (λ cs. AreHomes c.loop-card.homes (filter (λ r. not (is_among cs r.card)) rows)) all (c.loop-card.invariant rows are)
