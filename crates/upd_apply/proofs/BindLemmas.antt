-- What is known of a step that may be refused, and what holds after it.
use Rattle.upd_apply.proofs.Common.{◌≡◌, ℕ, refl, subst, Result, IfOk, FaultKind, ◌>>=◌, at_line}
use Rattle.std.specs.Prelude.{Ok, Err}

-- what is Ok comes of a first step that is Ok
pub bind_ok : {A B E : Type 0} (r : Result A E) (f : A → Result B E) (y : B) (P : Type 0) → r >>= f ≡ Ok y → ((x : A) → r ≡ Ok x → f x ≡ Ok y → P) → P
bind_ok (Ok x) f y P h k = k x refl h
bind_ok (Err e) f y P h k = absurd (cc)

-- what holds after each value of the first step holds after the step
pub bind_all : {A B E : Type 0} (P : B → Type 0) (r : Result A E) (f : A → Result B E) → ((x : A) → r ≡ Ok x → IfOk (f x) P) → IfOk (r >>= f) P
bind_all P (Ok x) f h = h x refl
bind_all P (Err e) f h = tt

-- what holds of a value holds of what comes of it
pub holds_of : {A E : Type 0} (P : A → Type 0) (x y : A) → ◌≡◌ {A = Result A E} (Ok x) (Ok y) → P x → P y
holds_of {A} {E} P x y h p = let same : x ≡ y = cc in subst P same p

-- a step with its line
pub line_is : {A : Type 0} (n : ℕ) (r : Result A FaultKind) (x : A) → at_line n r ≡ Ok x → r ≡ Ok x
line_is {A} n (Ok y) x e = holds_of (λ z. ◌≡◌ {A = Result A FaultKind} (Ok y) (Ok z)) y x e refl
line_is n (Err kind) x e = absurd (cc)
