use Rattle.std.proofs.Common.{List, ℕ, Option, Some, Ok, Err, ◌≡◌, refl, ap, ◌∙◌, subst}
use Rattle.std.proofs.KnownBytes.{Appends-nil}
use Rattle.std.specs.Io.KnownBytes.{Appends}
use Rattle.upd_views.specs.FaultTexts.{explained}
use Rattle.upd_wire.specs.Fronts.{AppendsFront}
use Rattle.upd_subcommands.specs.Command.{Ending}
use Rattle.upd_subcommands.specs.Explaining.{Explains, IsExplained}
use Rattle.upd_subcommands.proofs.explaining.carry_out_explaining.Goals as goal

-- what is explained of a word
explains : (word : List ℕ) (found : Option (List ℕ)) (end : Ending) → found ≡ explained word → Explains found end → IsExplained word end
explains word found end same is = subst (λ o. Explains o end) same is

pub returns-in-Ok-clause-reported : goal.returns-in-Ok-clause-reported
returns-in-Ok-clause-reported g c =
    explains c.args.fault.now (Some c.in-Some.text.now) _ (c.in-Some.ensures ∙ ap explained c.as_bytes.ensures.value) (
      Ok 0,
      (
        refl,
        subst (Appends (g.W.Write.contents c.args.output.now) (g.W.Write.contents c.write_out.new.output)) c.as_bytes-in-Some.ensures.value c.in-Ok.ensures.ok,
      ),
      (refl, Appends-nil (g.E.Write.contents c.args.faults.now)),
    )

pub returns-in-Err-clause-reported : goal.returns-in-Err-clause-reported
returns-in-Err-clause-reported g c =
    explains c.args.fault.now (Some c.in-Some.text.now) _ (c.in-Some.ensures ∙ ap explained c.as_bytes.ensures.value) (
      Err c.in-Err.fault,
      (
        c.in-Err.ensures.err,
        subst (AppendsFront (g.W.Write.contents c.args.output.now) (g.W.Write.contents c.write_out.new.output)) c.as_bytes-in-Some.ensures.value
            c.in-Err.ensures.front,
      ),
      c.finish.ensures.reported,
    )
