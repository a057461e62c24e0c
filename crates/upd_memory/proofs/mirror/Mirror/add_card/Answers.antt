use Rattle.upd_memory.proofs.Common.{◌≡◌, ℕ, ◌==◌, ◌∷◌, ◌++◌, [], refl, cond, None, subst, arith, common_steps, get, is_eq, CardRef, same_trans, CardRow}
use Rattle.upd_memory.proofs.Common.{by_name, cards_at, is_home}
use Rattle.upd_memory.proofs.KeyedLemmas.{one_more}
use Rattle.upd_memory.proofs.MirrorLemmas.{homes_more, when_ok}
use Rattle.upd_memory.proofs.mirror.Mirror.add_card.Goals as goal

pub returns : goal.returns
returns c = λ rows are.
    let row = c.args.row in
    let was = c.args.self.now in
    let none : get by_name was.homes row.card ≡ None = grind (arith, common_steps) in
    let put = subst (λ (r : CardRow). (card : CardRef) (d : ℕ) → is_home c.put_home.new.homes card d
    ≡ cond (is_eq (by_name r.card card)) (r.deck == d) (is_home was.homes card d)) c.row.view_is
    (when_ok _ c.ok.result _ c.ok.ensures.value c.in_ok-ok.was c.put_home.ensures) in
    record {
      idents = are.idents;
      cards = λ d. same_trans (when_ok _ c.ok-2.result _ c.ok-2.ensures.value c.in_ok-ok-2.was c.add_card.ensures d)
          (one_more (λ d r. r.deck == d) (cards_at was.decks) (λ d. cond (row.deck == d) (cards_at was.decks d ++ row ∷ []) (cards_at was.decks d))
          rows.cards row (λ d. refl) are.cards d);
      homes = homes_more was.homes c.put_home.new.homes rows.cards row none put are.homes;
      entries = are.entries;
      entry_count = are.entry_count;
      targets = are.targets;
      states = are.states;
      counts = are.counts;
    }
