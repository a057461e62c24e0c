use Rattle.std.proofs.Common.{List, ℕ, ap, inl, sym, subst}
use Rattle.upd_subcommands.specs.Inputs.{IsFirstRead}
use Rattle.upd_cli.proofs.LeavingLemmas.{front_all}
use Rattle.upd_cli.proofs.desk_work.run_on_file.Goals as goal

pub returns-in-Ok-clause-leaves : goal.returns-in-Ok-clause-leaves
returns-in-Ok-clause-leaves g c =
    let IsRead : List ℕ → Type 0 =
    λ text. IsFirstRead c.args.command.now (g.R.Read.remaining c.args.input.now) (g.R.Read.remaining c.read_first.new.input) text in
    inl (c.deref.result.now, c.read_first.new.input, subst IsRead (sym c.deref.ensures.value) c.in-Ok.ensures.read, c.run_with_text.ensures)

pub returns-in-Ok-clause-front : goal.returns-in-Ok-clause-front
returns-in-Ok-clause-front g c =
    front_all c.args.command.now _ (g.R.Read.remaining c.read_first.new.input) _ c.in-Ok.ensures.front
    (λ none. ap g.R.Read.remaining (c.in-Ok.ensures.waits none))
    (λ none. ap g.R.Read.remaining (c.run_with_text.ensures.frames.waits none)) c.run_with_text.ensures.frames.front
