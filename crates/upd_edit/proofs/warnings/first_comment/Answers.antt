use Rattle.upd_edit.proofs.Common.{rules, YieldsList-from_slice_split, is_feed, is_comment}
use borrow.Author.Tests.{tests}
use Rattle.std.proofs.lemmas.Iterator.Search.{position_from_yields_List}
use Rattle.upd_edit.proofs.warnings.first_comment.Goals as goal

pub returns-clause-first : goal.returns-clause-first
returns-clause-first c =
    position_from_yields_List is_comment _ _ c.position.result c.position.ensures.ran
    (YieldsList-from_slice_split _ is_feed c.args.run.now c.split.ensures.rest c.split.ensures.done c.split.ensures.closure (λ x b q k. search (rules, tests)))
    (λ x b q k. search (rules, tests))
