use Rattle.std.proofs.Common.{◌∙◌}
use Rattle.std.specs.Ordering.{nat_cmp, ordering_then}
use Rattle.upd_text.proofs.NameKeyLemmas.{keys_lie}
use Rattle.upd_text.proofs.name.NameOrd.cmp.Goals as goal

pub returns : goal.returns
returns c =
    let own = c.front.ensures in
    let others = c.front-2.ensures in
    let own_back = c.back.ensures in
    let others_back = c.back-2.ensures in
    c.then.ensures
    ∙ (λ i. ordering_then (c.cmp-front.ensures i) (c.cmp.ensures i))
    ∙ (λ i. ordering_then (nat_cmp (own.number i) (others.number i)) (nat_cmp (own_back.number i) (others_back.number i)))
    ∙ keys_lie c.args.self.now c.args.other.now own_back.short others_back.short own.bytes others.bytes
