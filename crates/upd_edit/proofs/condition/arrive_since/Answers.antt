use Rattle.std.proofs.Common.{arith}
use Rattle.std.proofs.lemmas.List.{nil_from_length}
use Rattle.upd_core.proofs.Common.{nat_tests}
use Rattle.upd_desk.specs.Arrivals.{arrival_view}
use Rattle.upd_edit.proofs.ConditionLemmas.{arrived, refused, unseen}
use Rattle.upd_edit.proofs.condition.arrive_since.Goals as goal

pub returns-in-Ok-arrive-clause-arrives : goal.returns-in-Ok-arrive-clause-arrives
returns-in-Ok-arrive-clause-arrives g c =
    arrived g.S.Meaning c.args.since.now (arrival_view c.args.site.now c.args.number c.args.mode.now c.args.run.now) c.in-Ok.met.items
    c.in-Ok-arrive.reply c.args.desk.now.store c.conflicts_at.new.desk.store c.arrive.new.self.store c.in-Ok.ensures.same
    (nil_from_length c.in-Ok.met.items (grind (
      arith,
      nat_tests,
      c.in-Ok.met.ok,
      c.is_empty.ensures,
      c.if-is_empty.true,
    ))) c.in-Ok.ensures.list c.in-Ok-arrive.ensures.arrives

pub returns-then-is_empty-clause-arrives : goal.returns-then-is_empty-clause-arrives
returns-then-is_empty-clause-arrives g c =
    refused g.S.Meaning c.args.since.now (arrival_view c.args.site.now c.args.number c.args.mode.now c.args.run.now) c.in-Err-arrive.fault
    c.args.desk.now.store c.conflicts_at.new.desk.store c.arrive.new.self.store c.in-Ok.ensures.same c.in-Err-arrive.ensures.arrives

pub returns-clause-arrives : goal.returns-clause-arrives
returns-clause-arrives g c =
    unseen g.S.Meaning c.args.since.now (arrival_view c.args.site.now c.args.number c.args.mode.now c.args.run.now) c.in-Err.fault
    c.args.desk.now.store c.conflicts_at.new.desk.store c.in-Err.ensures.same c.in-Err.ensures.faults c.in-Err.ensures.list
