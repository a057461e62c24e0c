use Rattle.upd_memory.proofs.Common.{◌==◌, ap, sym, ◌∙◌}
use Rattle.std.specs.Prelude.{option_copied, length, ◌-◌}
use Rattle.std.proofs.lemmas.Map.Keys.{any_passes_from_place}
use Rattle.upd_memory.proofs.card_sets.is_last.Goals as goal

pub returns-in-Some : goal.returns-in-Some
returns-in-Some c = λ is.
    any_passes_from_place (λ a. a == c.args.deck) c.args.decks.now (length c.args.decks.now - 1) c.in-Some.last.now
    (sym c.last.ensures.value ∙ ap option_copied c.in-Some.is) is
