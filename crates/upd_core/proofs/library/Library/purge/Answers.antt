use Rattle.upd_core.proofs.Common.{◌≡◌, ℕ, Bool, ap, ◌∙◌, is_among, is_gone}
use Rattle.upd_core.specs.Edits.{purged}
use Rattle.upd_core.proofs.library.Library.purge.Goals as goal

pub returns-clause-ok : goal.returns-clause-ok
returns-clause-ok c =
    let same : is_gone c.in_ok-gone.gone ≡ is_among c.args.ages.now = λ i z. c.in_ok-gone.ensures z i in
    c.purge_gone.ensures ∙ ap (λ (gone : ℕ → Bool). purged gone c.args.self.now) same
