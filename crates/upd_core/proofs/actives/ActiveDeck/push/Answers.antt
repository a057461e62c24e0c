use Rattle.upd_core.proofs.Common.{◌≡◌, ◌+◌, length, ap, rules, sym, ◌∙◌, length-append}
use Rattle.upd_core.proofs.ActiveLemmas.{card_added}
use Rattle.upd_core.proofs.actives.ActiveDeck.push.Goals as goal

pub returns : goal.returns
returns c =
    let from : c.len-start.result ≡ length c.self.inside.texts.items = search rules in
    let to : c.len-end.result ≡ length c.self.inside.texts.items + length c.args.text.now = search rules in
    rw (c.push_reserved.ensures.items, c.in_ok-reserve.ensures.items, c.in_ok-extend_from_slice.ensures.items, ← c.self.view_is)
    (ap (λ cards. record { ident = c.self.inside.ident; cards = cards })
    (card_added c.self.inside.texts.items c.args.text.now c.self.inside.cards.items c.args.ident c.args.number c.len-start.result c.len-end.result
    c.self.invariant from (to ∙ sym (length-append c.self.inside.texts.items c.args.text.now))))
