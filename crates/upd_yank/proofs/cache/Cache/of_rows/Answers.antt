use Rattle.upd_yank.proofs.Common.{None, refl, ap, ◌∙◌, update_all, same_ref, status_of, count_in, live_count, put_counts}
use Rattle.upd_yank.proofs.RowLemmas.{count_put, status_put}
use Rattle.upd_yank.proofs.cache.Cache.of_rows.Goals as goal

pub returns-clause-right : goal.returns-clause-right
returns-clause-right c = λ l shown.
    let rows = c.args.rows.now in
    record {
      status = λ r. c.in_ok-statuses.ensures r ∙ ap (λ ps. update_all same_ref (λ _. None) ps r) c.deref.ensures.value
          ∙ status_put rows.states.items (λ _. None) r (status_of r l) refl (shown.states r);
      count = λ t. c.in_ok-put_counts.ensures t ∙ ap (λ ps. put_counts ps (count_in c.new-counts.result) t) c.deref-2.ensures.value
          ∙ count_put rows.counts.items (count_in c.new-counts.result) t (live_count l t) (ap (λ s. count_in s t) c.new-counts.ensures) (shown.counts t);
    }
