use Rattle.upd_correct.proofs.Common.{◌≡◌, [], Bool, arith, IsTrue, nat_tests, Reached, live_targets, Corrects, IsChecked}
use Rattle.std.proofs.lemmas.List.{nil_from_length}
use Rattle.upd_correct.proofs.TextLemmas.{ok_weaker}
use Rattle.upd_correct.proofs.checking.applied_checked.Goals as goal

pub returns-clause-whole : goal.returns-clause-whole
returns-clause-whole c =
    let reached : Reached = record {
      library = c.in_ok-reached.reached.library;
      idents = c.in_ok-reached.reached.idents.items;
      compile = c.in_ok-reached.reached.compile.items;
    } in
    let none : c.in_ok-reached.reached.compile.items ≡ [] =
    nil_from_length c.in_ok-reached.reached.compile.items
    (grind (arith, nat_tests, c.in_ok-reached.reached.compile.ok, c.is_empty.ensures, c.if-not-is_empty.false)) in
    ok_weaker (λ (ok : Bool). IsTrue ok → Corrects (live_targets c.args.base.now.taken.now) c.args.base.now.last c.args.base.now.library.now
    c.args.set.now c.args.run.now c.args.decks.now c.in_ok-reached.reached.library)
    (λ (ok : Bool). IsTrue ok → IsChecked (live_targets c.args.base.now.taken.now) c.args.base.now.last c.args.base.now.library.now
    c.args.set.now c.args.run.now c.args.decks.now) c.is_corrected.result
    (λ ok corrects is. record {
      lines = c.in_ok-lines.lines;
      after = reached;
      read = c.in_ok-lines.ensures.reading;
      accepted = c.in_ok-reached.ensures.ok;
      compile = none;
      corrects = corrects is;
    })
    c.is_corrected.ensures.corrects
