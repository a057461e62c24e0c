use Rattle.upd_correct.proofs.Common.{Bor, ℕ, List, [], map, sym, ap, ◌∙◌, arith, Decides-eqb, slice_eq-Decides, NewDeck}
use Rattle.upd_correct.proofs.TextLemmas.{texts_are, texts_split}
use Rattle.upd_correct.proofs.checked_texts.are_texts_of.Goals as goal

pub returns-then-eq : goal.returns-then-eq
returns-then-eq c =
    let now : Bor (List ℕ) → List ℕ = λ t. t.now in
    let lines = ap (map now) c.deref.ensures.value in
    let view = ap (λ (d : NewDeck). d.lines) c.deck.view_is in
    let split = texts_split now c.args.deck.now c.args.texts.now c.deck.inside.lines.items (record { ref_ptr = (0, 0); now = [] }) (omega arith) view in (
      (λ is. texts_are now c.args.deck.now c.args.texts.now c.deck.inside.lines.items (record { ref_ptr = (0, 0); now = [] }) (omega arith)
          ((slice_eq-Decides Decides-eqb _ _ _ c.eq.ensures).0 c.if-eq.true ∙ ap (λ (d : NewDeck). d.first) c.deck.view_is)
          (c.are_same_texts.ensures.0 is ∙ lines) view),
      (λ same. c.are_same_texts.ensures.1 ((split same).1 ∙ sym lines)),
    )

pub returns-else-eq : goal.returns-else-eq
returns-else-eq c =
    let now : Bor (List ℕ) → List ℕ = λ t. t.now in
    let split = texts_split now c.args.deck.now c.args.texts.now c.deck.inside.lines.items (record { ref_ptr = (0, 0); now = [] }) (omega arith)
    (ap (λ (d : NewDeck). d.lines) c.deck.view_is) in
    ((λ e. absurd (cc)), (λ same. (slice_eq-Decides Decides-eqb _ _ _ c.eq.ensures).1 ((split same).0 ∙ sym (ap (λ (d : NewDeck). d.first) c.deck.view_is))))
