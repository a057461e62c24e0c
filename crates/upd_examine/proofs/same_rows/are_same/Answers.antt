use Rattle.upd_examine.proofs.Common.{◌≡◌, true, sym, ap, ◌∙◌, subst, is_eq, IsSame}
use Rattle.std.proofs.Common.{◌↔◌}
use Rattle.upd_examine.proofs.SameLemmas.{same_decided}
use Rattle.upd_examine.proofs.same_rows.are_same.Goals as goal

pub returns : goal.returns
returns g c =
    subst (λ b. (b ≡ true) ↔ IsSame c.args.some.items c.args.others.items) (sym (c.is_eq.ensures ∙ ap is_eq c.cmp.ensures))
    (same_decided g.T.Ord.cmp g.met.T.Ord.total c.requires c.args.some.items c.args.others.items c.sort_unstable.new.self.items c.sort_unstable-2.new.self.items
    c.sort_unstable.ensures.permutation c.sort_unstable-2.ensures.permutation c.sort_unstable.ensures.sorted c.sort_unstable-2.ensures.sorted)
