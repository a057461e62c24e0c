use Rattle.upd_diff.proofs.Common.{Bool, sym, CardView, same_history}
use Rattle.upd_diff.proofs.TouchedLemmas.{none_younger, stood_nowhere}
use Rattle.upd_diff.proofs.touched.has_stood.Goals as goal

pub returns-then-youngest-card : goal.returns-then-youngest-card
returns-then-youngest-card c =
    let same : CardView → Bool = λ b. same_history b.history c.card.inside.history.items in
    let xs = c.args.before.now in
    rw (← c.card.view_is) (sym (stood_nowhere c.card.inside.ident c.card.inside.number same xs
    (none_younger c.card.inside.ident c.card.inside.number c.args.youngest xs c.if-youngest-card.true c.requires)))
