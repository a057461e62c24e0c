-- What is known where a step is Ok.
use Rattle.upd_laws.proofs.Common.{◌≡◌, Bool, true, false, refl, ap, Option, Some, None, Result, Ok, AllByRecursion, FaultKind, ◌>>=◌, each, refuse_if}
use Rattle.upd_laws.proofs.Common.{bind_ok, holds_of}
use Rattle.std.specs.Prelude.{List, [], ◌∷◌, ◌++◌}
use Rattle.upd_text.specs.Outcome.{need}
use Rattle.upd_laws.proofs.SoundListLemmas.{all_append}

pub need_ok : {A : Type 0} (fault : FaultKind) (o : Option A) (y : A) (P : Type 0) → need fault o ≡ Ok y → (o ≡ Some y → P) → P
need_ok fault (Some x) y P h k = k (let same : x ≡ y = cc in ap Some same)
need_ok fault None y P h k = absurd (cc)

pub refusal_ok : {B : Type 0} (bad : Bool) (fault : FaultKind) (f : Bool → Result B FaultKind) (y : B) (P : Type 0) → refuse_if bad fault >>= f ≡ Ok y
    → (bad ≡ false → f false ≡ Ok y → P) → P
refusal_ok false fault f y P h k = k refl h
refusal_ok true fault f y P h k = absurd (cc)

-- what holds of all that f gives of each element holds of all that is found
pub each_all : {A B E : Type 0} (P : B → Type 0) (f : A → Result (List B) E) (xs : List A) (found : List B)
    → ((x : A) (ys : List B) → f x ≡ Ok ys → AllByRecursion P ys) → each f xs ≡ Ok found → AllByRecursion P found
each_all P f [] found one h = holds_of (AllByRecursion P) [] found h tt
each_all P f (x ∷ xs) found one h =
    bind_ok (f x) _ found (AllByRecursion P found) h (λ ys e h1.
    bind_ok (each f xs) _ found (AllByRecursion P found) h1 (λ more g h2.
    holds_of (AllByRecursion P) (ys ++ more) found h2 (all_append P ys more (one x ys e) (each_all P f xs more one g))))
