use Rattle.upd_correct.proofs.Common.{rules, ◌≡◌, ℕ, List, [], subst, ◌∙◌, refusals_of}
use Rattle.upd_correct.proofs.CauseLemmas.{parts_cause}
use Rattle.upd_correct.specs.Parts.{OfSeries}
use Rattle.upd_correct.proofs.edit_parts.correct_parts.Goals as goal

pub returns-in-Some-clause-refused : goal.returns-in-Some-clause-refused
returns-in-Some-clause-refused c = OfSeries c.in-Some.problem (search rules) c.in_ok-refusal_at_0.ensures

pub returns-in-Ok-decks_of-clause-refused : goal.returns-in-Ok-decks_of-clause-refused
returns-in-Ok-decks_of-clause-refused c =
    parts_cause c.args.library.now c.args.set.now c.args.text.now c.parts_for.result
    (subst (λ (called : List ℕ). refusals_of c.args.library.now called c.args.text.now ≡ []) (c.deref.ensures.value ∙ c.in_ok-first.ensures)
    c.in-Ok-decks_of.ensures.clean) c.parts_for.ensures.refused
