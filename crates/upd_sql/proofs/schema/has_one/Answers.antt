use Rattle.upd_sql.proofs.Common.{◌≡◌, ℕ, List, [], ◌∷◌, length, get_or, ap, ◌∙◌, sym, arith}
use Rattle.std.proofs.lemmas.Slice.Eq.{bytes_eq-Decides}
use Rattle.upd_sql.proofs.schema.has_one.Goals as goal

alone : {X : Type 0} (xs : List X) (x : X) → length xs ≡ 1 → x ≡ get_or xs 0 x → xs ≡ x ∷ []
alone [] x one is = absurd (omega (arith, one))
alone (y ∷ []) x one is = ap (λ z. z ∷ []) (sym is)
alone (y ∷ z ∷ xs) x one is = absurd (omega (arith, one))

pub returns-then-len-eq1-clause-right : goal.returns-then-len-eq1-clause-right
returns-then-len-eq1-clause-right c same =
    let key : c.as_slice-then-len-eq1.result.now ≡ c.args.key.now = (bytes_eq-Decides _ _).0 (sym c.eq.ensures ∙ same) in
    let one = alone c.args.keys.now c.index-as_slice-0.result (sym c.len.ensures ∙ c.if-len-eq1.true)
    (c.index-as_slice-0.is ∙ ap (λ (xs : List (List ℕ)). get_or xs 0 c.index-as_slice-0.result) c.as_slice.ensures) in
    one ∙ ap (λ k. k ∷ []) (sym c.as_slice-then-len-eq1.ensures ∙ key)
