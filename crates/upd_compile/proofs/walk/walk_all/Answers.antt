use Rattle.upd_compile.proofs.Common.{rules, ◌≡◌, ◌∙◌, Ok, Result, sym, subst, FaultKind, Does, ProgressView, after_events, walk}
use Rattle.upd_compile.proofs.WalkLemmas.{walks-at_deck}
use Rattle.upd_compile.proofs.walk.walk_all.Goals as goal

pub returns-in_err-walk : goal.returns-in_err-walk
returns-in_err-walk c =
    let a = c.args.source.now in
    let here =
    walks-at_deck c.args.deep a c.args.decks.now c.loop-deck.deck-index c.deck-item.result a.idents c.loop-deck.progress (search rules) c.deck-item.is in
    let P : Result ProgressView FaultKind → Type 0 = Does c.from_residual.result c.walk.new.progress in
    subst P (sym here ∙ c.loop-deck.invariant) (search rules)

pub loop-deck-preserved : goal.loop-deck-preserved
loop-deck-preserved c =
    let a = c.args.source.now in
    let here =
    walks-at_deck c.args.deep a c.args.decks.now c.loop-deck.deck-index c.deck-item.result a.idents c.loop-deck.progress (search rules) c.deck-item.is in
    let walked : after_events a.idents (walk c.args.deep a c.deck-item.result.now) c.loop-deck.progress ≡ Ok c.walk.new.progress = search rules in
    sym (rw walked at here) ∙ c.loop-deck.invariant
