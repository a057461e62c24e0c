use Rattle.upd_yank.proofs.Common.{◌≡◌, ◌++◌, drop, flat_map}
use Rattle.upd_yank.specs.Renewed.{deck_renewed}
use Rattle.upd_yank.proofs.renewing.push_decks.Given as goal

abbrev pub invariant-loop-ident : goal.invariant-loop-ident
invariant-loop-ident l =
    l.decks.items ++ flat_map (deck_renewed l.statuses l.part l.before) (drop l.ident-index l.idents)
    ≡ l.initial.decks.items ++ flat_map (deck_renewed l.statuses l.part l.before) l.idents
