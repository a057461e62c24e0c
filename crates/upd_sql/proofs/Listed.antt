-- What a query returns of records that are stored as rows: the rows of those that pass, in any order.
use Rattle.upd_sql.proofs.Common.{◌≡◌, ℕ, Bool, true, List, [], ◌∷◌, map, filter, refl, ap, subst, ◌∙◌, arith, list_all, Null, Row, Term, eval_all}
use Rattle.upd_sql.proofs.Common.{map-map, filter-map, filter_same, State, Shown, reads_as, HoldsAllRows, rows_at, is_lone, showing, library_schema, IsSame}
use Rattle.std.proofs.Common.{IsPermutation}
use Rattle.sqlite_sql.specs.Query.{Output}
use Rattle.sqlite_keyed.proofs.ListLemmas.{along_permutation, map_same}
use Rattle.upd_records.proofs.CountLemmas.{count_cons, same_of, same_trans, same_append}
use Rattle.upd_sqlite.proofs.Shapes.{selects}
use Rattle.upd_sql.proofs.Bare.{is_bare, bare_tests, bare_values}
use Rattle.upd_sql.proofs.Conditions.{passes}
use Rattle.upd_sql.proofs.ReadTexts.{Reads}
use Rattle.upd_sql.proofs.Typed.{own}

-- ---- what comes from a list's images in another order

same_cons : {X : Type 0} (x : X) (xs ys : List X) → IsSame xs ys → IsSame (x ∷ xs) (x ∷ ys)
same_cons x xs ys h = same_append {xs = x ∷ []} {ys = xs} {us = x ∷ []} {vs = ys} (same_of (x ∷ []) (x ∷ []) refl) h

same_turn : {X : Type 0} (x y : X) (xs : List X) → IsSame (x ∷ y ∷ xs) (y ∷ x ∷ xs)
same_turn x y xs = record {
  passes = λ test. omega (arith, count_cons test x (y ∷ xs), count_cons test y xs, count_cons test y (x ∷ xs), count_cons test x xs);
}

module _ {X Y : Type 0} (f : X → Y) where
  abbrev Comes : List Y → List Y → Type 0
  Comes ys zs = (xs : List X) → ys ≡ map f xs → (us : List X) × (zs ≡ map f us) × IsSame us xs

  comes_under : (y : Y) (ys zs : List Y) → Comes ys zs → Comes (y ∷ ys) (y ∷ zs)
  comes_under y ys zs h [] e = absurd (cc)
  comes_under y ys zs h (x ∷ xs) e =
      let head : y ≡ f x = cc in
      let tail : ys ≡ map f xs = cc in
      let r = h xs tail in
      (x ∷ r.0, ap (λ l. y ∷ l) r.1 ∙ ap (λ z. z ∷ map f r.0) head, same_cons x r.0 xs r.2)

  comes_turned : (y z : Y) (ys : List Y) → Comes (y ∷ z ∷ ys) (z ∷ y ∷ ys)
  comes_turned y z ys [] e = absurd (cc)
  comes_turned y z ys (x ∷ []) e = absurd (cc)
  comes_turned y z ys (x ∷ w ∷ xs) e =
      let first : y ≡ f x = cc in
      let second : z ≡ f w = cc in
      let tail : ys ≡ map f xs = cc in
      (w ∷ x ∷ xs, ap (λ l. z ∷ y ∷ l) tail ∙ ap (λ v. z ∷ v ∷ map f xs) first ∙ ap (λ v. v ∷ f x ∷ map f xs) second, same_turn w x xs)

  -- it is the images of the same elements
  pub unmapped : (xs : List X) (zs : List Y) → IsPermutation (map f xs) zs → (us : List X) × (zs ≡ map f us) × IsSame us xs
  unmapped xs zs p =
      along_permutation Comes (λ ys us e. (us, e, same_of us us refl)) comes_under comes_turned
      (λ ys zs vs h k us e. let r = h us e in let q = k r.0 r.1 in (q.0, q.1, same_trans q.2 r.2)) (map f xs) zs p xs refl

-- ---- the answer of a query on records

pub lists : (k tree : ℕ) (alone : is_lone tree k library_schema.tables ≡ true) {X : Type 0} (row : X → Row) (all : List (List Row)) (xs : List X)
    (are : rows_at k all ≡ map row xs) (sql : List ℕ) (params : Row) (old new : State) (rows : List Row) (shown : Shown sql params old new rows)
    (h : HoldsAllRows library_schema all old.now) (tests project : List Term) → Reads sql tree tests project []
    → list_all is_bare tests ≡ true → list_all is_bare project ≡ true
    → (q : X → Bool) → ((x : X) → passes params tests (row x) ≡ q x)
    → ((x : X) → eval_all project (params ∷ (Null ∷ row x) ∷ []) ≡ row x)
    → (us : List X) × (rows ≡ map row us) × IsSame us (filter q xs)
lists k tree alone row all xs are sql params old new rows shown h tests project query bare bare_shown q means whole =
    let reads = reads_as sql params old new library_schema h.schema_is _ query.is query.plain query.unlisted rows shown in
    let f = λ (v : Row). eval_all project (params ∷ (Null ∷ v) ∷ []) in
    let put : _ → Output = λ x. ([], f (row x)) in
    let found = selects library_schema k tree alone old.now all params (showing library_schema all old.now h) tests project [] (passes params tests) f
    (λ v. []) query.names (own old.now.trees tree) (λ r. bare_tests params r tests bare) (λ r. bare_values params r project bare_shown) (λ r. refl)
    rows reads in
    let passing : map (λ v. ([], f v)) (filter (passes params tests) (rows_at k all)) ≡ map put (filter q xs) =
    ap (λ rs. map (λ v. ([], f v)) (filter (passes params tests) rs)) are
    ∙ ap (map (λ v. ([], f v))) (filter-map (passes params tests) row xs ∙ ap (map row) (filter_same _ _ means xs)) ∙ map-map (λ v. ([], f v)) row _ in
    let from = unmapped put (filter q xs) found.0 (subst (λ l. IsPermutation l found.0) passing found.1) in (
      from.0,
      found.3 ∙ ap (map (λ (o : Output). o.1)) from.1 ∙ map-map (λ (o : Output). o.1) put from.0 ∙ map_same _ row whole from.0,
      from.2,
    )
