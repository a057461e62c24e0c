use Rattle.upd_correct.proofs.Common.{[], map, sym, subst, Follows}
use Rattle.upd_correct.specs.Parts.{Before, OfWhole}
use Rattle.upd_correct.proofs.edit_parts.parts_at.Goals as goal

pub loop-cut-init : goal.loop-cut-init
loop-cut-init c =
    subst (λ runs. Follows c.args.library.now c.args.set.now (map (λ run. run.items) runs) c.in-Ok.after) (sym c.new-runs.ensures.items)
    (subst (λ after. Follows c.args.library.now c.args.set.now [] after) (sym c.in-Ok.ensures.ok) Before)

pub returns-in-Ok-false-clause-refused : goal.returns-in-Ok-false-clause-refused
returns-in-Ok-false-clause-refused c = OfWhole c.in_ok-refusal_at_0-in-Ok-false.ensures
