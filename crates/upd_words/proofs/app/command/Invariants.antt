use Rattle.std.proofs.Common.{◌≡◌, [], false, map, take}
use Rattle.clap.specs.Simple.{new_app}
use Rattle.clap.specs.Words.{app_of}
use Rattle.clap.specs.declared.builder.command.Command.TheViews.{out-Command as fields_of}
use Rattle.upd_words.specs.Words.{command_shape}
use Rattle.upd_words.proofs.app.command.Given as goal

abbrev pub invariant-loop-name : goal.invariant-loop-name
invariant-loop-name l = record {
  app : app_of l.command
      ≡ record (new_app []) { top = command_shape l.row.name.now (map (λ o. (o.0.now, o.2)) (take l.name-index l.row.operands.now)) };
  local : (fields_of l.command).has_globals ≡ false;
}
