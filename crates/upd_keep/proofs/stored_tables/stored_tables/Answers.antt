use Rattle.upd_row_store.proofs.StoreLemmas.{keeps_keeps}
use Rattle.upd_keep.proofs.ReplayLemmas.{still_shown}
use Rattle.upd_keep.proofs.stored_tables.stored_tables.Goals as goal

pub returns-in_err-states-clause-keeps : goal.returns-in_err-states-clause-keeps
returns-in_err-states-clause-keeps g c = keeps_keeps c.in_ok-library.ensures.leaves.same c.in_err-states.ensures.leaves.same

pub returns-in_err-kept-clause-keeps : goal.returns-in_err-kept-clause-keeps
returns-in_err-kept-clause-keeps g c =
    keeps_keeps (keeps_keeps c.in_ok-library.ensures.leaves.same c.in_ok-states.ensures.leaves.same) c.in_err-kept.ensures.leaves.same

pub returns : goal.returns
returns g c =
    let first = c.in_ok-library.ensures in
    let second = c.in_ok-states.ensures in
    let third = c.in_ok-kept.ensures in
    record {
      found = λ honest rows shown.
          let honest2 = third.leaves.same.later.honest honest in
          let honest1 = second.leaves.same.later.honest honest2 in
          let shown1 = still_shown first.leaves honest1 rows shown in
          record {
            library = first.found honest1 rows shown;
            states = second.found honest2 rows shown1;
            kept = third.found honest rows (still_shown second.leaves honest2 rows shown1);
          };
      keeps = keeps_keeps (keeps_keeps first.leaves.same second.leaves.same) third.leaves.same;
      lost = tt;
    }
