use Rattle.upd_correct.proofs.Common.{map, HasDecks}
use Rattle.std.proofs.Common.{IfErr, IfOk}
use Rattle.upd_correct.specs.Parts.{CorrectsInParts, IsPartCause}
use Rattle.upd_correct.proofs.edit_parts.parts_for.Given as goal

abbrev pub invariant-loop-share : goal.invariant-loop-share
invariant-loop-share l =
    (HasDecks l.text l.decks → IfOk l.whole (λ runs. CorrectsInParts l.library l.set l.text (map (λ run. run.items) runs.items)))
    × IfErr l.whole (IsPartCause l.library l.set)
