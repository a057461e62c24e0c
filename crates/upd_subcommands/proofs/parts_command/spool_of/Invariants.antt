use Rattle.upd_subcommands.proofs.Common.{◌≡◌, ◌+◌, ◌≤◌, map, take, frames_text, frames_from}
use Rattle.std.proofs.Common.{drop}
use Rattle.upd_subcommands.specs.Parts.{check_all, check_frames}
use Rattle.upd_subcommands.proofs.parts_command.spool_of.Given as goal

abbrev pub invariant-loop-run : goal.invariant-loop-run
invariant-loop-run l = record {
  next : l.next ≡ l.number + l.run-index;
  fits : l.next ≤ 1000000000;
  frames : l.spool.items ≡ frames_text (frames_from l.site l.number l.mode (map (λ run. run.items) (take l.run-index l.runs)));
  checked : check_frames l.site l.number l.mode (map (λ run. run.items) l.runs)
      ≡ check_all (frames_from l.site l.next l.mode (map (λ run. run.items) (drop l.run-index l.runs)));
}
