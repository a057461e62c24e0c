-- A search among neighbours.
use Rattle.upd_edit.proofs.Common.{◌≡◌, ℕ, ◌+◌, Bool, true, false, if◌then◌else◌, List, [], ◌∷◌, length, drop, Some, None, sym, ap, ◌∙◌, find, zip}
use Rattle.std.proofs.Common.{◌<◌, ◌≤◌, get_or, refl}
use Rattle.std.proofs.lemmas.List.{drop_all, drop_more}

next_is : {X : Type 0} (xs : List X) (i : ℕ) (x : X) → i < length xs → x ≡ get_or xs i x → drop i xs ≡ x ∷ drop (i + 1) xs
next_is xs i x less is = drop_more xs i x less ∙ ap (λ v. v ∷ drop (i + 1) xs) (sym is)

find_step : {X Y : Type 0} (test : X × Y → Bool) (xs : List X) (ys : List Y) (i : ℕ) (x : X) (y : Y) (b : Bool) → i < length xs → i < length ys
    → x ≡ get_or xs i x → y ≡ get_or ys i y → test (x, y) ≡ b
    → find test (zip (drop i xs) (drop i ys)) ≡ (if b then Some (x, y) else find test (zip (drop (i + 1) xs) (drop (i + 1) ys)))
find_step test xs ys i x y b x_less y_less x_is y_is is =
    (λ j. find test (zip (next_is xs i x x_less x_is j) (next_is ys i y y_less y_is j)))
    ∙ ap (λ b. if b then Some (x, y) else find test (zip (drop (i + 1) xs) (drop (i + 1) ys))) is

-- a search in two lists at once: where it ends, where it goes on, and at the end of the second list
pub find_zip_found : {X Y : Type 0} (test : X × Y → Bool) (xs : List X) (ys : List Y) (i : ℕ) (x : X) (y : Y) → i < length xs → i < length ys
    → x ≡ get_or xs i x → y ≡ get_or ys i y → test (x, y) ≡ true → find test (zip (drop i xs) (drop i ys)) ≡ Some (x, y)
find_zip_found test xs ys i x y x_less y_less x_is y_is is = find_step test xs ys i x y true x_less y_less x_is y_is is

pub find_zip_next : {X Y : Type 0} (test : X × Y → Bool) (xs : List X) (ys : List Y) (i : ℕ) (x : X) (y : Y) → i < length xs → i < length ys
    → x ≡ get_or xs i x → y ≡ get_or ys i y → test (x, y) ≡ false
    → find test (zip (drop i xs) (drop i ys)) ≡ find test (zip (drop (i + 1) xs) (drop (i + 1) ys))
find_zip_next test xs ys i x y x_less y_less x_is y_is is = find_step test xs ys i x y false x_less y_less x_is y_is is

zip_empty : {X Y : Type 0} (xs : List X) (ys : List Y) → ys ≡ [] → zip xs ys ≡ []
zip_empty [] ys is = refl
zip_empty (x ∷ xs) ys is = ap (zip (x ∷ xs)) is

pub find_zip_end : {X Y : Type 0} (test : X × Y → Bool) (xs : List X) (ys : List Y) (i : ℕ) → length ys ≤ i → find test (zip (drop i xs) (drop i ys)) ≡ None
find_zip_end test xs ys i end = ap (find test) (zip_empty (drop i xs) (drop i ys) (drop_all i ys end))
