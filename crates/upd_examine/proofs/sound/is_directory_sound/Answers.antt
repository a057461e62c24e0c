use Rattle.upd_examine.proofs.Common.{sym, subst, ◌↔◌, IsTrue, IsDirectorySound}
use Rattle.upd_examine.proofs.WholeLemmas.{directory_decided}
use Rattle.upd_examine.proofs.sound.is_directory_sound.Goals as goal

pub returns : goal.returns
returns c =
    let l = c.args.library.now in
    subst (λ r. IsTrue r ↔ IsDirectorySound l) (sym c.all_three.ensures)
    (directory_decided l _ _ _ c.in_ok-apart.ensures c.are_idents_aged-aged.ensures c.is_yank_free-free.ensures)
