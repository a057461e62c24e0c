use Rattle.upd_memory.proofs.Common.{◌≡◌, ◌+◌, arith, common_steps, subst, sym, take, Agrees, same_ref}
use Rattle.upd_row_store.specs.Ranges.{is_among, without_rows}
use Rattle.upd_row_store.specs.declared.ranges.CardRows.TheVariants.{Entries}
use Rattle.upd_row_store.proofs.RangeLemmas.{rows_both, rows_stay}
use Rattle.upd_memory.proofs.CardSetLemmas.{seen_more}
use Rattle.upd_memory.proofs.mirror.Mirror.take_all_entries.Goals as goal

pub loop-card-init : goal.loop-card-init
loop-card-init c = λ rows are. subst (Agrees c.args.self.now) (sym (rows_stay Entries rows)) are

pub loop-card-preserved : goal.loop-card-preserved
loop-card-preserved c = λ rows are.
    let cards = c.args.cards.now in
    let i = c.loop-card.card-index in
    let card = c.card-item.result in
    subst (Agrees c.take_entries.new.self)
    (sym (rows_both Entries (is_among (take i cards)) (same_ref card) (is_among (take (i + 1) cards)) rows
    (λ x. seen_more cards i card x c.loop-card-test.true c.card-item.is)))
    (c.take_entries.ensures (without_rows Entries (is_among (take i cards)) rows) (c.loop-card.invariant rows are))

pub returns : goal.returns
returns c = λ rows are.
    let cards = c.args.cards.now in
    let all : take c.loop-card.card-index cards ≡ cards = grind (arith, common_steps, c.loop-card-test.false) in
    subst (λ cs. Agrees c.loop-card.self (without_rows Entries (is_among cs) rows)) all (c.loop-card.invariant rows are)
