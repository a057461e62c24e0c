use Rattle.std.proofs.Common.{inl, map}
use Rattle.upd_cli.proofs.process.carried_out.Goals as goal

pub returns : goal.returns
returns g c = let (left, ran) = c.run_command.ensures in rw c.exit_code.ensures (inl (map g.S.AsStr.text c.args.words.now, left, ran))
