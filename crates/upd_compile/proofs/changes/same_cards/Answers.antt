use Rattle.upd_compile.proofs.Common.{common_steps, arith, ◌≡◌, suc, true, false, ◌&&◌, List, [], ◌∷◌, length, refl, sym, ap, ActiveCardView, same_cards}
use Rattle.upd_compile.specs.Chosen.{same_card}
use Rattle.upd_compile.proofs.changes.same_cards.Goals as goal

-- lists of different lengths differ
same_cards-lengths : (was cards : List ActiveCardView) → (length was ≡ length cards → ⊥) → same_cards was cards ≡ false
same_cards-lengths [] [] differ = absurd (differ refl)
same_cards-lengths [] (e ∷ es) differ = refl
same_cards-lengths (c ∷ cs) [] differ = refl
same_cards-lengths (c ∷ cs) (e ∷ es) differ =
    elim (same_card c e) as (λ b. (b && same_cards cs es) ≡ false) [ true ↦ same_cards-lengths cs es (λ h. differ (ap suc h)) | false ↦ refl ]

pub returns-then-was-cards : goal.returns-then-was-cards
returns-then-was-cards c = sym (same_cards-lengths c.args.was.now c.args.cards.now c.if-was-cards.true)

pub returns : goal.returns
returns c = grind (arith, common_steps)
