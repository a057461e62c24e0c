use Rattle.upd_edit.proofs.Common.{◌∙◌, rules, find_from_yields_List}
use borrow.Author.Tests.{tests}
use Rattle.std.proofs.lemmas.Iterator.{YieldsList-from_slice}
use Rattle.upd_edit.specs.YankWarnings.{stays}
use Rattle.upd_edit.proofs.yank_warnings.Taking.younger_entry.Goals as goal

pub returns : goal.returns
returns c =
    c.copied.ensures
    ∙ find_from_yields_List (λ e. stays c.args.self.now.live.now.targets c.args.deck c.args.self.now.ranges.now c.args.card.now.ident e.ident) _ _ c.find.result
    c.find.ensures.ran (YieldsList-from_slice c.args.card.now.history cc) (λ x b q k. search (rules, tests))
