use Rattle.upd_core.proofs.Common.{◌≡◌, length, rules, sym, ◌∙◌}
use Rattle.upd_core.proofs.CountLemmas.{AreOf-inserted_there, AreOf-inserted_nowhere}
use Rattle.upd_core.proofs.library.Library.insert_card.Goals as goal

pub invariant_of-self-then-branch : goal.invariant_of-self-then-branch
invariant_of-self-then-branch c =
    let entries : c.len-entries.result ≡ length c.args.card.history = search rules in
    rw (c.with_card-self-inside-then-branch.ensures, c.in_ok-insert.ensures.ok, entries)
    (AreOf-inserted_there _ c.self.inside.counts c.args.deck c.args.behind c.args.card c.self.invariant (sym c.if-branch.true
    ∙ c.in_ok-insert.ensures.found))

pub invariant_of-self-else-branch : goal.invariant_of-self-else-branch
invariant_of-self-else-branch c =
    rw c.in_ok-insert.ensures.ok (AreOf-inserted_nowhere _ c.self.inside.counts c.args.deck c.args.behind c.args.card c.self.invariant
    (sym c.if-branch.false ∙ c.in_ok-insert.ensures.found))
