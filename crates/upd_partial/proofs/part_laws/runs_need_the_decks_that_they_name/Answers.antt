use Rattle.upd_partial.proofs.Common.{refl, ap, ◌∙◌, applied, is_left_out}
use Rattle.upd_partial.proofs.AppliedLemmas.{applied_same}
use Rattle.upd_partial.proofs.NeedLemmas.{others_listed, part_of_others}
use Rattle.upd_partial.proofs.part_laws.runs_need_the_decks_that_they_name.Goals as goal

pub returns : goal.returns
returns c ages lines l sound plain names =
    ap (applied lines) (part_of_others ages l sound)
    ∙ applied_same (is_left_out ages l) lines l refl sound (record { plain = plain; listed = others_listed ages l; cards = names })
