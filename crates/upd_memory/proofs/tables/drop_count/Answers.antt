use Rattle.upd_memory.proofs.Common.{Bool, ℕ, not, rules, filter_same, is_same, Target}
use Rattle.upd_memory.proofs.tables.drop_count.Goals as goal

pub returns : goal.returns
returns c =
    let stays : Target × ℕ → Bool = λ p. not (is_same c.args.target p.0) in
    filter_same _ stays _ (λ x b f k. search rules) _ _ c.retain.ensures.filtered
