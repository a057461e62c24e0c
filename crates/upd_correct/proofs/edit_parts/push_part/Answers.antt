use Rattle.upd_correct.proofs.Common.{rules, ◌≡◌, ◌+◌, Vec, Global, ℕ, List, map, length, length-map, sym, ap, ◌∙◌, subst}
use Rattle.upd_correct.specs.Causes.{IsCause}
use Rattle.upd_correct.proofs.CauseLemmas.{part_refused}
use Rattle.upd_correct.proofs.edit_parts.push_part.Goals as goal

pub returns-in-Ok-clause-refused : goal.returns-in-Ok-clause-refused
returns-in-Ok-clause-refused c l was = c.push_run.ensures.refused l c.args.set.now

pub returns-clause-refused : goal.returns-clause-refused
returns-clause-refused c l was =
    let count : c.len-number.result ≡ length c.args.runs.now.items = search rules in
    part_refused l c.args.library.now c.args.set.now c.args.text.now (map (λ (v : Vec ℕ Global). v.items) c.args.runs.now.items) _ c.in-Err.error
    c.error_in_part.result was (ap (λ (k : ℕ). k + 1) (count ∙ sym (length-map c.args.runs.now.items (λ (v : Vec ℕ Global). v.items))))
    (subst (λ (called : List ℕ). IsCause c.args.library.now called c.args.text.now c.in-Err.error) (c.deref.ensures.value ∙ c.in_ok-name.ensures)
    c.in-Err.ensures.refused) c.error_in_part.ensures
