use Rattle.std.proofs.Common.{inl, ◌++◌, refl, ap, ◌∙◌, subst, append-nil}
use Rattle.std.specs.Prelude.{codes}
use Rattle.std.specs.Io.KnownBytes.{Appends}
use Rattle.upd_subcommands.proofs.explaining.list_faults.Goals as goal

pub returns-in-Ok-clause-reported : goal.returns-in-Ok-clause-reported
returns-in-Ok-clause-reported g c = inl (
  refl,
  subst (Appends (g.E.Write.contents c.args.faults.now) (g.E.Write.contents c.write_parts_out.new.output))
      (ap (λ l. codes "upd: BadName (5) at 0\n" ++ l)
      (append-nil c.as_bytes.result.now ∙ c.as_bytes.ensures.value ∙ c.fault_list.ensures)) c.in-Ok.ensures.ok,
)
