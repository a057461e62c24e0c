use Rattle.upd_edit.proofs.Common.{◌∙◌, rules, YieldsList-from_slice_split, is_feed, is_comment}
use borrow.Author.Tests.{tests}
use Rattle.std.proofs.lemmas.Iterator.Consumers.{YieldsList-at, YieldsList-from_filter, count_from_yields_List}
use Rattle.std.proofs.lemmas.List.Sums.{length-filter}
use Rattle.upd_edit.specs.Warnings.{lines_of}
use Rattle.upd_edit.proofs.warnings.comment_count.Goals as goal

pub returns : goal.returns
returns c =
    count_from_yields_List _ c.count.result c.count.ensures.ran
    (YieldsList-from_filter _ is_comment (YieldsList-at c.filter.ensures.source (YieldsList-from_slice_split _ is_feed c.args.run.now
    c.split.ensures.rest c.split.ensures.done c.split.ensures.closure (λ x b q k. search (rules, tests)))) c.filter.ensures.closure
    (λ x b q k. search (rules, tests)))
    ∙ length-filter is_comment (lines_of c.args.run.now)
