use Rattle.upd_examine.proofs.Common.{sym, subst, nat_cmp, ◌↔◌, IsTrue, slice_cmp, exact_bytes, exact_pairs, exact_unsigned, AreRunsSound}
use Rattle.upd_examine.proofs.RunLemmas.{runs_decided}
use Rattle.upd_examine.proofs.stored_runs.are_runs_sound.Goals as goal

pub are_apart-sites-requires : goal.are_apart-sites-requires
are_apart-sites-requires c = exact_bytes

pub are_apart-keys-requires : goal.are_apart-keys-requires
are_apart-keys-requires c = exact_pairs (slice_cmp nat_cmp) nat_cmp exact_bytes exact_unsigned

pub returns : goal.returns
returns c =
    let runs = c.args.runs.now in
    let marks = c.args.marks.now in
    subst (λ r. IsTrue r ↔ AreRunsSound runs marks) (sym c.all_four.ensures)
    (runs_decided runs marks c.are_marks_right-marked.ensures c.in_ok-sites_of.ensures c.in_ok-run_keys.ensures c.are_apart-sites.ensures
    c.are_apart-keys.ensures c.in_ok-each.ensures)
