-- Terms that don't read the rowid.
use Rattle.upd_sql.proofs.Common.{◌≡◌, ℕ, Bool, true, false, ◌&&◌, if◌then◌else◌, List, [], ◌∷◌, refl, ap, ap₂, ◌∙◌, list_all, and_parts, Null, Row, Term}
use Rattle.upd_sql.proofs.Common.{lit, col, op2, eval_all, holds}
use Rattle.std.proofs.Common.{zero, suc, drop}
use Rattle.sqlite_value.specs.Order.{column}
use Rattle.sqlite_sql.specs.Ops.{unary, binary, is_true}
use Rattle.sqlite_sql.specs.Term.{op1, case, eval}

abbrev pub is_bare : Term → Bool
is_bare (lit v) = true
is_bare (col zero at) = true
is_bare (col (suc zero) zero) = false
is_bare (col (suc zero) (suc at)) = true
is_bare (col (suc (suc slot)) at) = true
is_bare (op1 op a) = is_bare a
is_bare (op2 op a b) = is_bare a && is_bare b
is_bare (case t a b) = is_bare t && (is_bare a && is_bare b)

behind : (r : Row) (at : ℕ) → column r (suc at) ≡ column (drop 1 r) at
behind [] zero = refl
behind [] (suc at) = refl
behind (v ∷ r) at = refl

module _ (params : Row) (r : Row) where
  pub bare : (t : Term) → is_bare t ≡ true → eval t (params ∷ r ∷ []) ≡ eval t (params ∷ (Null ∷ drop 1 r) ∷ [])
  bare (lit v) h = refl
  bare (col zero at) h = refl
  bare (col (suc zero) zero) h = absurd (cc)
  bare (col (suc zero) (suc at)) h = behind r at
  bare (col (suc (suc slot)) at) h = refl
  bare (op1 op a) h = ap (unary op) (bare a h)
  bare (op2 op a b) h = let parts = and_parts _ _ h in ap₂ (binary op) (bare a parts.0) (bare b parts.1)
  bare (case t a b) h =
      let parts = and_parts _ _ h in
      let more = and_parts _ _ parts.1 in
      ap (λ v. if is_true v then eval a (params ∷ r ∷ []) else eval b (params ∷ r ∷ [])) (bare t parts.0)
      ∙ ap₂ (λ x y. if is_true (eval t (params ∷ (Null ∷ drop 1 r) ∷ [])) then x else y) (bare a more.0) (bare b more.1)

  pub bare_tests : (tests : List Term) → list_all is_bare tests ≡ true → list_all (holds (params ∷ r ∷ [])) tests
      ≡ list_all (holds (params ∷ (Null ∷ drop 1 r) ∷ [])) tests
  bare_tests [] h = refl
  bare_tests (t ∷ tests) h = let parts = and_parts _ _ h in ap₂ (λ v w. is_true v && w) (bare t parts.0) (bare_tests tests parts.1)

  pub bare_values : (terms : List Term) → list_all is_bare terms ≡ true → eval_all terms (params ∷ r ∷ []) ≡ eval_all terms (params ∷ (Null ∷ drop 1 r) ∷ [])
  bare_values [] h = refl
  bare_values (t ∷ terms) h = let parts = and_parts _ _ h in ap₂ ◌∷◌ (bare t parts.0) (bare_values terms parts.1)
