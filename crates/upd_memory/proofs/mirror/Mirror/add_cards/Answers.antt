use Rattle.upd_memory.proofs.Common.{◌≡◌, ◌++◌, ◌∷◌, [], ap, arith, sym, ◌∙◌, subst, append-nil, Agrees}
use Rattle.std.proofs.Common.{append_assoc}
use Rattle.std.proofs.lemmas.List.{nil_from_length}
use Rattle.upd_memory.proofs.mirror.Mirror.add_cards.Goals as goal

pub loop-card-preserved : goal.loop-card-preserved
loop-card-preserved c = λ rows are.
    let before = c.loop-card.invariant rows are in
    let all : (before.0 ++ c.in-Some.card ∷ []) ++ c.next.new.self.rest.items ≡ c.args.cards.items =
    append_assoc before.0 (c.in-Some.card ∷ []) c.next.new.self.rest.items
    ∙ ap (λ rest. before.0 ++ rest) (sym c.in-Some.ensures.steps.0) ∙ before.1.0 in (
      before.0 ++ c.in-Some.card ∷ [],
      (
        all,
        subst (λ more. Agrees c.add_card.new.self (record rows { cards = more }))
            (append_assoc rows.cards before.0 (c.in-Some.card ∷ []))
            (c.in_ok-add_card.ensures (record rows { cards = rows.cards ++ before.0 }) before.1.1),
      ),
    )

pub loop-card-init : goal.loop-card-init
loop-card-init c = λ rows are. ([], ((cc), subst (λ more. Agrees c.args.self.now (record rows { cards = more })) (sym (append-nil rows.cards)) are))

pub returns : goal.returns
returns c = λ rows are.
    let end = c.loop-card.invariant rows are in
    let none : c.loop-card.card-iterator.rest.items ≡ [] =
    nil_from_length c.loop-card.card-iterator.rest.items (omega (arith, c.in-None.ensures.steps.0)) in
    subst (λ more. Agrees c.loop-card.self (record rows { cards = rows.cards ++ more }))
    (sym (append-nil end.0) ∙ ap (λ rest. end.0 ++ rest) (sym none) ∙ end.1.0) end.1.1
