use Rattle.upd_memory.proofs.Common.{◌∙◌, map, subst, sym, IsPermutation, same_trans, IsSame, is_loaded, is_of, entries_at}
use Rattle.std.proofs.Common.{filter}
use Rattle.upd_memory.proofs.LoadLemmas.{cards_part, entries_part, same_in_turn, still_distinct}
use Rattle.upd_memory.proofs.mirror.Mirror.part_rows.Goals as goal

pub returns : goal.returns
returns c = λ rows are apart.
    let was = c.args.self.now in
    let ages = c.args.ages.now in
    let loaded = filter (λ r. is_loaded ages r.deck) rows.cards in
    let cards = subst (λ xs. IsSame xs loaded) (sym c.in_ok-cards.ensures.rows)
    (cards_part ages was.decks rows.cards c.in_ok-cards.ensures.ordered are.cards) in
    let given = subst (λ xs. IsSame xs loaded) (sym c.deref-2.ensures.value) cards in
    record {
      idents = subst (λ xs. IsSame xs rows.idents) (sym (c.in_ok-idents.ensures.items ∙ c.deref.ensures.value)) are.idents;
      cards = cards;
      entries = subst (λ xs. IsSame xs (filter (is_of loaded) rows.entries)) (sym c.in_ok-entries.ensures)
          (same_trans (same_in_turn (entries_at was.entries) (λ r. r.card) c.deref-2.result.now c.deref-3.result.now
          (subst (IsPermutation (map (λ r. r.card) c.deref-2.result.now)) (sym c.deref-3.ensures.value) c.in_ok-by_name.ensures))
          (entries_part was.entries rows.entries are.entries c.deref-2.result.now loaded given (still_distinct
          (λ r. is_loaded ages r.deck) rows.cards apart)));
      targets = subst (λ xs. IsSame xs rows.targets) (sym (c.in_ok-targets.ensures.items ∙ c.deref-4.ensures.value)) are.targets;
    }
