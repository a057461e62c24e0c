use Rattle.upd_memory.proofs.Common.{◌∙◌, subst, sym, IsSame}
use Rattle.upd_memory.proofs.LoadLemmas.{cards_all, entries_all}
use Rattle.upd_memory.proofs.mirror.Mirror.library_rows.Goals as goal

pub returns : goal.returns
returns c = λ rows are. record {
  idents = subst (λ xs. IsSame xs rows.idents) (sym (c.in_ok-idents.ensures.items ∙ c.deref.ensures.value)) are.idents;
  cards = subst (λ xs. IsSame xs rows.cards) (sym c.in_ok-cards.ensures.rows)
      (cards_all c.args.self.now.decks rows.cards c.in_ok-cards.ensures.ordered are.cards);
  entries = subst (λ xs. IsSame xs rows.entries) (sym c.in_ok-entries.ensures.rows)
      (entries_all c.args.self.now.entries rows.entries c.in_ok-entries.ensures.ordered are.entries);
  targets = subst (λ xs. IsSame xs rows.targets) (sym (c.in_ok-targets.ensures.items ∙ c.deref-2.ensures.value)) are.targets;
}
