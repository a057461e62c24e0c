use Rattle.upd_examine.proofs.Common.{sym, subst, ◌↔◌, IsTrue, AllByRecursion, AreApart, IsSound, IsWhole}
use Rattle.upd_examine.proofs.WholeLemmas.{whole_decided}
use Rattle.upd_examine.proofs.sound.is_sound.Goals as goal

pub returns : goal.returns
returns c =
    let l = c.args.library.now in
    subst (λ r. IsTrue r ↔ (IsSound l × IsWhole l)) (sym c.all_hold.ensures)
    (whole_decided l _ _ _ _ c.are_parts_sound-parts.result c.in_ok-directory.ensures c.in_ok-decks.ensures c.in_ok-keys.ensures
    (subst (λ ys. IsTrue c.in_ok-targets.targets ↔ AllByRecursion (λ y. AreApart y.targets) ys) c.yanks.ensures c.in_ok-targets.ensures)
    c.are_parts_sound-parts.ensures)
