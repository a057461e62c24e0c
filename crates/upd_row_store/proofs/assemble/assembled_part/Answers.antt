use Rattle.upd_row_store.proofs.Common.{arith}
use Rattle.upd_row_store.proofs.PartLemmas.{same_length}
use Rattle.upd_row_store.proofs.assemble.assembled_part.Goals as goal

pub returns : goal.returns
returns c = λ tables l sound whole shows are.
    c.assembled_with_rest.ensures c.args.ages.now tables l sound whole shows (λ apart. c.in_ok-part.ensures tables are)
    (omega (arith, c.len-cards.ensures, c.args.rows.cards.ok, same_length are.cards))
    (omega (arith, c.len-entries.ensures, c.args.rows.entries.ok, same_length are.entries))
