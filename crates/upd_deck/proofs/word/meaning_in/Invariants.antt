use Rattle.upd_deck.proofs.Common.{◌≡◌, drop, map, spelled}
use Rattle.upd_deck.specs.Reading.{meaning_in}
use Rattle.upd_deck.proofs.word.meaning_in.Given as goal

abbrev pub invariant-loop-spelling : goal.invariant-loop-spelling
invariant-loop-spelling l =
    meaning_in (map (λ s. spelled s.0.now s.1) (drop l.spelling-index l.spellings)) l.text ≡ meaning_in (map (λ s. spelled s.0.now s.1) l.spellings) l.text
