-- A loop that looks at each element: what it has found comes before what the rest returns, unless an element is refused.
use Rattle.std.proofs.Common.{◌≡◌, ℕ, ◌+◌, ◌<◌, List, [], ◌∷◌, ◌++◌, length, drop, get_or, Result, Ok, Err, refl, ap, sym, ◌∙◌, append_assoc, append-nil}
use Rattle.std.proofs.lemmas.List.{drop_more}
use Rattle.upd_text.specs.Outcome.{◌>>=◌, each}

-- what was found, then what the rest returns; the first refusal of the rest
abbrev pub each_behind : {A B E : Type 0} → (A → Result (List B) E) → List B → List A → Result (List B) E
each_behind f found [] = Ok found
each_behind f found (x ∷ xs) = f x >>= (λ more. each_behind f (found ++ more) xs)

-- what was found comes first
abbrev pub in_front : {B E : Type 0} → List B → Result (List B) E → Result (List B) E
in_front found rest = rest >>= (λ more. Ok (found ++ more))

further : {B E : Type 0} (found more : List B) (rest : Result (List B) E) → in_front (found ++ more) rest ≡ in_front found (in_front more rest)
further found more (Ok last) = ap Ok (append_assoc found more last)
further found more (Err e) = refl

none_in_front : {B E : Type 0} (rest : Result (List B) E) → in_front [] rest ≡ rest
none_in_front (Ok last) = refl
none_in_front (Err e) = refl

more_each : {A B E : Type 0} (f : A → Result (List B) E) (found : List B) (xs : List A) (r : Result (List B) E)
    → ((more : List B) → each_behind f (found ++ more) xs ≡ in_front (found ++ more) (each f xs))
    → r >>= (λ more. each_behind f (found ++ more) xs) ≡ in_front found (r >>= (λ more. each f xs >>= (λ last. Ok (more ++ last))))
more_each f found xs (Ok more) rest = rest more ∙ further found more (each f xs)
more_each f found xs (Err e) rest = refl

-- a loop that has found some elements continues: next comes what the rest returns, or its first refusal
pub each_behind-each : {A B E : Type 0} (f : A → Result (List B) E) (found : List B) (xs : List A)
    → each_behind f found xs ≡ in_front found (each f xs)
each_behind-each f found [] = ap Ok (sym (append-nil found))
each_behind-each f found (x ∷ xs) = more_each f found xs (f x) (λ more. each_behind-each f (found ++ more) xs)

-- a loop begins with nothing found
pub each_behind-none : {A B E : Type 0} (f : A → Result (List B) E) (xs : List A) → each_behind f [] xs ≡ each f xs
each_behind-none f xs = each_behind-each f [] xs ∙ none_in_front (each f xs)

-- ---- the turns of a loop over xs, at the element x

-- it returns more
pub each_more : {A B E : Type 0} (f : A → Result (List B) E) (xs : List A) (i : ℕ) (x : A) (found now more : List B) (whole : Result (List B) E)
    → i < length xs → x ≡ get_or xs i x → f x ≡ Ok more → now ≡ found ++ more
    → each_behind f found (drop i xs) ≡ whole → each_behind f now (drop (i + 1) xs) ≡ whole
each_more f xs i x found now more whole within read gives is so_far =
    ap (λ ys. each_behind f ys (drop (i + 1) xs)) is
    ∙ sym (ap (λ r. r >>= (λ more. each_behind f (found ++ more) (drop (i + 1) xs))) gives)
    ∙ sym (ap (each_behind f found) (drop_more xs i x within ∙ ap (λ y. y ∷ drop (i + 1) xs) (sym read))) ∙ so_far

-- it is refused
pub each_refused : {A B E : Type 0} (f : A → Result (List B) E) (xs : List A) (i : ℕ) (x : A) (found : List B) (e : E) (whole : Result (List B) E)
    → i < length xs → x ≡ get_or xs i x → f x ≡ Err e → each_behind f found (drop i xs) ≡ whole → whole ≡ Err e
each_refused f xs i x found e whole within read gives so_far =
    sym so_far ∙ ap (each_behind f found) (drop_more xs i x within ∙ ap (λ y. y ∷ drop (i + 1) xs) (sym read))
    ∙ ap (λ r. r >>= (λ more. each_behind f (found ++ more) (drop (i + 1) xs))) gives
