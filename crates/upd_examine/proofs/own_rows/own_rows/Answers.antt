use Rattle.upd_examine.proofs.FlatLemmas.{entries_own, targets_own}
use Rattle.upd_examine.proofs.own_rows.own_rows.Goals as goal

pub returns-clause-entries : goal.returns-clause-entries
returns-clause-entries c = entries_own c.args.library.now _ _ _ _ c.idents-idents.ensures c.yanks-yanks.ensures c.decks-decks.ensures c.in_ok-entries.ensures

pub returns-clause-targets : goal.returns-clause-targets
returns-clause-targets c = targets_own c.args.library.now _ _ _ _ c.idents-idents.ensures c.yanks-yanks.ensures c.decks-decks.ensures c.in_ok-targets.ensures
