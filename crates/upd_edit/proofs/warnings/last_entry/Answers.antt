use Rattle.upd_edit.proofs.Common.{◌∙◌, rules, find_from_yields_List}
use borrow.Author.Tests.{tests}
use Rattle.std.proofs.Common.{not}
use Rattle.std.proofs.lemmas.Iterator.Adapters.{YieldsList-from_rev_slice}
use Rattle.upd_core.specs.Status.{is_taken}
use Rattle.upd_edit.proofs.warnings.last_entry.Goals as goal

pub returns : goal.returns
returns c =
    c.copied.ensures ∙ find_from_yields_List (λ e. not (is_taken c.args.live.now.targets c.args.deck e.ident)) _ _ c.find.result c.find.ensures.ran
    (YieldsList-from_rev_slice c.args.card.now.history cc) (λ x b q k. search (rules, tests))
