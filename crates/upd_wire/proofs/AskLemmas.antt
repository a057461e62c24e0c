-- Questions to the desk and their answers.
use Rattle.upd_wire.proofs.Common.{◌≡◌, ℕ, inl, inr, Result, Ok, Err, refl, sym, ap, ◌∙◌, result_map_both, Fault, Response, no_memory, answer_seen, response}
use Rattle.upd_wire.proofs.Common.{Answer}
use Rattle.std.proofs.Common.{IfOk, IfErr, IsErr}
use Rattle.upd_row_store.specs.Keeping.{failures_after}
use Rattle.upd_wire.specs.Responses.{fault_response, response_of}
use Rattle.upd_wire.specs.Serving.{AnswersTold}

ok_is_no_err : {A : Type 0} {x : A} {e : Fault} → Ok x ≡ Err e → ⊥
ok_is_no_err is = cc

-- an answer that the desk returned
pub answered_told : {A : Type 0} (f : A → Response) (result : Result A Fault) (x : A) (answer : Response) → result ≡ Ok x → answer ≡ f x
    → AnswersTold (result_map_both f (λ fault. fault) result) (Ok answer)
answered_told f result x answer is same =
    inl (ap Ok (same ∙ sym (ap (λ r. response_of (result_map_both f (λ fault. fault) r)) is)))

-- a fault that the desk returned, or no memory for its text
pub answered_fault : {A : Type 0} (f : A → Response) (result : Result A Fault) (fault : Fault) (answer : Result Answer Fault) → result ≡ Err fault
    → IfOk answer (λ a. response a ≡ fault_response fault) → IfErr answer (λ e. e ≡ no_memory)
    → AnswersTold (result_map_both f (λ e. e) result) (answer_seen answer)
answered_fault f result fault (Ok a) is ok err =
    inl (ap Ok (ok ∙ sym (ap (λ r. response_of (result_map_both f (λ e. e) r)) is)))
answered_fault {A = A} f result fault (Err e) is ok err = inr (fails result is, ap Err err)
  where
    fails : (r : Result A Fault) → r ≡ Err fault → IsErr (result_map_both f (λ e. e) r)
    fails (Ok x) is = absurd (ok_is_no_err is)
    fails (Err e) is = refl

-- a result that is seen another way counts alike
pub fails_alike : {A B : Type 0} (seen : A → B) (old : ℕ) (result : Result A Fault) {new : ℕ} → new ≡ failures_after result old
    → new ≡ failures_after (result_map_both seen (λ e. e) result) old
fails_alike seen old (Ok x) counts = counts
fails_alike seen old (Err e) counts = counts

pub seen_ok : {A B : Type 0} (seen : A → B) (result : Result A Fault) (x : A) → result ≡ Ok x → result_map_both seen (λ e. e) result ≡ Ok (seen x)
seen_ok seen result x is = ap (λ r. result_map_both seen (λ e. e) r) is

pub seen_err : {A B : Type 0} (seen : A → B) (result : Result A Fault) (fault : Fault) → result ≡ Err fault → result_map_both seen (λ e. e) result ≡ Err fault
seen_err seen result fault is = ap (λ r. result_map_both seen (λ e. e) r) is
