use Rattle.upd_subcommands.proofs.Common.{Keeps}
use Rattle.upd_desk.specs.Holding.{EachHeld}
use Rattle.upd_subcommands.specs.Parts.{AreFree}
use Rattle.upd_subcommands.proofs.parts_command.first_used.Given as goal

abbrev pub invariant-loop-next : goal.invariant-loop-next
invariant-loop-next g l = record {
  same : Keeps g.S.Meaning l.initial.desk.store l.desk.store;
  free : EachHeld g.S.Meaning l.initial.desk.store l.desk.store (λ journal. AreFree journal l.site l.number l.next);
}
