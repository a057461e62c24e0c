use Rattle.upd_correct.proofs.Common.{Bor, ℕ, List, [], get_or, sym, ap, ◌∙◌, arith}
use Rattle.std.proofs.lemmas.List.{get_or-map}
use Rattle.upd_correct.proofs.checked_texts.are_same_texts.Goals as goal

pub returns-then-not-is_same_text : goal.returns-then-not-is_same_text
returns-then-not-is_same_text c =
    let d : Bor (List ℕ) = record { ref_ptr = (0, 0); now = [] } in
    let now : Bor (List ℕ) → List ℕ = λ t. t.now in (
      (λ e. absurd (cc)),
      (λ same. sym c.if-not-is_same_text.true
          ∙ c.is_same_text.ensures.1 (sym (get_or-map now c.args.some.now c.loop-i.i d [] c.loop-i-test.true) ∙ ap (λ xs. get_or xs c.loop-i.i []) same
          ∙ get_or-map now c.args.others.now c.loop-i.i d [] (omega (arith, c.loop-i-test.true, c.if-some-others.false)))),
    )
