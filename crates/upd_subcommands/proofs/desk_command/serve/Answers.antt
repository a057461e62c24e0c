use Rattle.upd_subcommands.proofs.Common.{[], Err, inl, inr, refl, sym, subst, arith, Appends-nil}
use Rattle.upd_words.specs.declared.words.Endpoint.{Endpoint}
use Rattle.upd_subcommands.specs.DeskCommands.{EndsServing}
use Rattle.upd_subcommands.proofs.desk_command.serve.Goals as goal

pub returns-in_default : goal.returns-in_default
returns-in_default g c =
    let faults = g.E.Write.contents c.args.faults.now in
    let none = Appends-nil faults in
    let Ends : Endpoint → Type 0 =
    λ endpoint. EndsServing g.S.Meaning endpoint c.args.count (Err c.without_line.result) c.args.desk.now.store c.args.desk.now.store faults faults in
    subst Ends (sym c.in-Address.is) (record {
      leads = ([], omega arith, tt, refl, inl (faults, (Err c.without_line.result, inr none), ([], 0, (refl, none))));
      status = tt;
      err = c.without_line.ensures;
    })

pub returns-in_default-bound : goal.returns-in_default-bound
returns-in_default-bound g c =
    let fault = c.without_line-in_default-bound.result in
    let Ends : Endpoint → Type 0 =
    λ endpoint. EndsServing g.S.Meaning endpoint c.args.count (Err fault) c.args.desk.now.store c.args.desk.now.store
    (g.E.Write.contents c.args.faults.now) (g.E.Write.contents c.report_path-in_default-bound.new.faults) in
    subst Ends (sym c.in-Path.is) (record {
      leads = ([], omega arith, tt, refl, inr (refl, (c.why.result.now, c.report_path-in_default-bound.ensures)));
      status = tt;
      err = c.without_line-in_default-bound.ensures;
    })
