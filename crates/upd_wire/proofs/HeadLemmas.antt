-- Heads that are read.
use Rattle.upd_wire.proofs.Common.{◌≡◌, ◌≢◌, ◌⊎◌, ◌≤◌, ◌<◌, inl, inr, ℕ, List, [], ◌++◌, length, Option, refl, ap, arith, length-append, Consumes}
use Rattle.upd_wire.proofs.Common.{HasNoRequest, RequestExceeds, Begins, IsInput, IsFailure, RefusesHead, Refusal, MAX_HEAD_BYTES, MAX_HEADERS}
use Rattle.httparse.specs.declared.Error.{Error}
use Rattle.httparse.specs.declared.Error.TheVariants.{HeaderName, HeaderValue, NewLine, Status, Token, TooManyHeaders, Version}
use Rattle.httparse.specs.Grammar.{NeverHasRequest, print_request}
use Rattle.upd_wire.proofs.InputLemmas.{input_behind, some_input}
use Rattle.upd_wire.specs.Calls.{bad_frame}

pub nothing_has_head : HasNoRequest []
unfolding print_request
nothing_has_head h rest (is, whole) =
    let some : 0 < length h.method = is.method.0 in
    let long = ap length whole in
    absurd (omega (arith, simp length-append at long))

-- memory was wanting, or a read failed, after this front
pub refused_by_failure : (old new : Option (List ℕ)) (front : List ℕ) (refusal : Refusal) → Consumes old new front → IsFailure refusal
    → (input : List ℕ) × IsInput old input × Begins input front × RefusesHead input refusal
refused_by_failure old new front refusal consumed failed =
    let (rest, left) = some_input new in
    (front ++ rest, input_behind old new front rest consumed left, (rest, refl), inl failed)

-- a front of the input that shows that its head is bad
pub refused_bad : (old new : Option (List ℕ)) (front : List ℕ) (refusal : Refusal) → Consumes old new front → length front ≤ MAX_HEAD_BYTES
    → NeverHasRequest front ⊎ (RequestExceeds MAX_HEADERS front ⊎ ((length front ≡ MAX_HEAD_BYTES) × HasNoRequest front))
    → refusal ≡ bad_frame → (input : List ℕ) × IsInput old input × Begins input front × RefusesHead input refusal
refused_bad old new front refusal consumed most why is =
    let (rest, left) = some_input new in
    (front ++ rest, input_behind old new front rest consumed left, (rest, refl), inr (inl ((front, rest, refl, most, why), is)))

-- why a parser refused a front
pub error_says : (front : List ℕ) (e : Error) → (e ≢ TooManyHeaders → NeverHasRequest front) → (e ≡ TooManyHeaders → RequestExceeds MAX_HEADERS front)
    → NeverHasRequest front ⊎ (RequestExceeds MAX_HEADERS front ⊎ ((length front ≡ MAX_HEAD_BYTES) × HasNoRequest front))
error_says front HeaderName never many = inl (never (λ e. cc))
error_says front HeaderValue never many = inl (never (λ e. cc))
error_says front NewLine never many = inl (never (λ e. cc))
error_says front Status never many = inl (never (λ e. cc))
error_says front Token never many = inl (never (λ e. cc))
error_says front TooManyHeaders never many = inr (inl (many refl))
error_says front Version never many = inl (never (λ e. cc))
