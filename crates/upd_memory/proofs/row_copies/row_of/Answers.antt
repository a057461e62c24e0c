use Rattle.upd_memory.proofs.Common.{rules, CardRow, same_ref}
use borrow.Author.Tests.{tests}
use Rattle.std.proofs.lemmas.Iterator.{YieldsList-from_slice}
use Rattle.std.proofs.lemmas.Iterator.Search.{find_from_yields_List}
use Rattle.upd_memory.proofs.MirrorLemmas.{some_found}
use Rattle.upd_memory.proofs.row_copies.row_of.Goals as goal

pub returns : goal.returns
returns c =
    some_found (λ b. b.now) c.find.result _
    (find_from_yields_List (λ (r : CardRow). same_ref c.args.card.now r.card) _ _ c.find.result c.find.ensures.ran
    (YieldsList-from_slice c.args.rows.now c.iter.ensures.rest) (λ x b q k. search (rules, tests)))
