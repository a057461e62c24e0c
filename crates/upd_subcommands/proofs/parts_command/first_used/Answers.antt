use Rattle.upd_subcommands.proofs.Common.{◌≡◌, ◌≤◌, ◌∙◌, false, sym, arith, below_more}
use Rattle.upd_row_store.proofs.StoreLemmas.{keeps_keeps, keeps_still}
use Rattle.upd_desk.specs.Journal.{is_known}
use Rattle.upd_subcommands.proofs.TriedLemmas.{held_still}
use Rattle.upd_subcommands.proofs.parts_command.first_used.Goals as goal

pub loop-next-init : goal.loop-next-init
loop-next-init g c = record {
  same = keeps_still c.args.desk.now.store;
  free = λ honest journal held n before from. absurd (omega (arith, before, from));
}

pub loop-next-preserved : goal.loop-next-preserved
loop-next-preserved g c =
    let keeps = c.loop-next.invariant.same in
    let more = c.in-Ok-false.ensures.leaves.same in
    record {
      same = keeps_keeps keeps more;
      free = λ honest journal held.
          let before = more.later.honest honest in
          let known = c.in-Ok-false.ensures.known honest journal (held_still g.S.Meaning _ _ keeps before journal held) in
          below_more (λ n. c.args.number ≤ n → is_known journal c.args.site.now n ≡ false) c.loop-next.next
          (c.loop-next.invariant.free before journal held) (λ from. sym known ∙ c.in-Ok-false.field-0-test);
    }

pub returns-in-Ok-true-clause-first : goal.returns-in-Ok-true-clause-first
returns-in-Ok-true-clause-first g c honest journal held =
    let keeps = c.loop-next.invariant.same in
    let before = c.in-Ok-true.ensures.leaves.same.later.honest honest in
    let known = c.in-Ok-true.ensures.known honest journal (held_still g.S.Meaning _ _ keeps before journal held) in
    (c.loop-next.auto.next, c.loop-next-test.true, sym known ∙ c.in-Ok-true.field-0-test, c.loop-next.invariant.free before journal held)

pub returns-in-Ok-true-clause-same : goal.returns-in-Ok-true-clause-same
returns-in-Ok-true-clause-same g c = keeps_keeps c.loop-next.invariant.same c.in-Ok-true.ensures.leaves.same

pub returns-in-Err-clause-same : goal.returns-in-Err-clause-same
returns-in-Err-clause-same g c = keeps_keeps c.loop-next.invariant.same c.in-Err.ensures.leaves.same

pub returns-clause-first : goal.returns-clause-first
returns-clause-first g c honest journal held n before from =
    c.loop-next.invariant.free honest journal held n (omega (arith, before, c.loop-next-test.false)) from
