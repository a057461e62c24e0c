use Rattle.upd_correct.proofs.Common.{rules, ◌≡◌, ◌∷◌, List, ◌-◌, length, take, drop, sym, subst, arith, CardView, is_active, AreLeft, Old, New}
use Rattle.std.proofs.Common.{IsTrue}
use Rattle.upd_correct.specs.Checked.{IsLeft}
use Rattle.upd_correct.proofs.LeftLemmas.{split_first}
use Rattle.upd_correct.proofs.checked_cards.next_left.Goals as goal

pub returns-then-is_active : goal.returns-then-is_active
returns-then-is_active c news left =
    let own : c.args.new.now.ident ≡ c.args.set = search rules in
    let on : IsTrue (is_active c.args.live.now.targets c.args.deck c.args.new.now) = search rules in
    New c.args.new.now c.args.olds.now news own on left

pub returns-then-is_left : goal.returns-then-is_left
returns-then-is_left c news left =
    let other : c.args.new.now.ident ≡ c.args.set → ⊥ = search rules in
    let is : IsLeft c.args.taken.now.targets c.args.live.now.targets c.args.deck c.args.set c.args.last c.old-item.result c.args.new.now = search rules in
    subst (λ (olds : List CardView). AreLeft c.args.taken.now.targets c.args.live.now.targets c.args.deck c.args.set c.args.last olds (c.args.new.now ∷ news))
    (sym (split_first c.args.olds.now c.old-item.result (omega arith) c.old-item.is))
    (Old c.old-item.result c.args.new.now (take (length c.args.olds.now - 1) (drop 1 c.args.olds.now)) news other is left)
