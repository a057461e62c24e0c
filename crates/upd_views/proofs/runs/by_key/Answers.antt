use Rattle.std.proofs.Common.{rules}
use Rattle.std.proofs.lemmas.Cmp.{nat_cmp_total, nat_list_cmp_total, on_total, then_total}
use Rattle.std.proofs.lemmas.Fn.{always_returns_same}
use Rattle.std.proofs.lemmas.List.Sorted.{ranks_by}
use Rattle.std.specs.Ordering.{is_lt}
use Rattle.upd_views.specs.RunLines.{by_key}
use Rattle.upd_views.proofs.runs.by_key.Goals as goal

pub returns-clause-sorted : goal.returns-clause-sorted
returns-clause-sorted c =
    c.sort_unstable_by.ensures.sorted (λ a b. is_lt (by_key a b))
    (ranks_by (then_total (on_total (λ r. r.site) nat_list_cmp_total) (on_total (λ r. r.number) nat_cmp_total)) (λ r. r))
    (always_returns_same _ _ _ (λ a r f k. search rules))
