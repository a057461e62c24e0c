-- A request and its answer.
use Rattle.std.proofs.Common.{◌≡◌, ◌⊎◌, ◌≤◌, ◌+◌, inl, inr, ℕ, List, [], Option, None, Result, Ok, Err, IfOk, IfErr, IsErrAnd, refl, sym, subst, ap}
use Rattle.std.proofs.Common.{◌∙◌, arith}
use Rattle.upd_wire.proofs.Common.{Asked, asked, ExchangeView, asked_of, IsFailure, IsRead, Says, DeskCall, Refusal, Fault, Response}
use Rattle.upd_wire.proofs.Common.{no_memory, answer_seen, response, Answer}
use Rattle.upd_wire.specs.LogLines.{Exchanges, SaysAsked, WritesLine}
use Rattle.upd_wire.specs.Responses.{refusal_answer}
use Rattle.upd_wire.specs.Serving.{AnswersRequest, IsFailed, read_failed}

-- a result that is this fault
pub fault_is : {T : Type 0} (result : Result T Fault) (fault : Fault) → IsErrAnd result (λ e. e ≡ fault) → result ≡ Err fault
fault_is (Ok x) fault is = absurd is
fault_is (Err e) fault is = ap Err is

-- the input is refused, or can't be read
refused : (input : List ℕ) (refusal : Refusal) (answer : Result Response Fault) → IsFailure refusal ⊎ Says input (Err refusal) → answer ≡ refusal_answer refusal
    → AnswersRequest input None answer
refused input refusal answer (inl (inl is)) same = inr (inr (refl, inl (same ∙ ap refusal_answer is)))
refused input refusal answer (inl (inr is)) same = inr (inr (refl, inr (inr (same ∙ ap refusal_answer is))))
refused input refusal answer (inr says) same = inl (refusal, says, refl, same)

pub answers_refusal : (input : List ℕ) (refusal : Refusal) (result : Result Answer Fault) → IsFailure refusal ⊎ Says input (Err refusal)
    → IfOk result (λ a. refusal_answer refusal ≡ Ok (response a)) → IfErr result (λ e. (e ≡ no_memory) ⊎ (refusal_answer refusal ≡ Err e))
    → AnswersRequest input None (answer_seen result)
answers_refusal input refusal (Ok a) says ok err = refused input refusal (Ok (response a)) says (sym ok)
answers_refusal input refusal (Err e) says ok (inl wanting) = inr (inr (refl, inr (inl (ap Err wanting))))
answers_refusal input refusal (Err e) says ok (inr is) = refused input refusal (Err e) says (sym is)

-- what was read is what the input asks
pub read_says : (input : List ℕ) (request : Result DeskCall Refusal) → IsRead asked input request → SaysAsked input (asked_of request)
read_says input (Ok call) says = says
read_says input (Err refusal) failed = tt

-- nothing was read
pub nothing_exchanged : (input : List ℕ) (fault : Fault) → (fault ≡ no_memory) ⊎ (fault ≡ read_failed) → (e : ExchangeView)
    → e ≡ record { head = []; asked = None; answer = Err fault } → Exchanges input None e
nothing_exchanged input fault why e is =
    subst (Exchanges input None) (sym is) (record { begins = (input, refl); says = tt; asks = tt; answers = inr (inr (refl, failed why)) })
  where
    failed : (fault ≡ no_memory) ⊎ (fault ≡ read_failed) → IsFailed (Err fault)
    failed (inl memory) = inr (inl (ap Err memory))
    failed (inr read) = inr (inr (ap Err read))

-- a line that is lost is one
pub lost_at_most : (line : List ℕ) (few lost : ℕ) (log log' : Option (List ℕ)) → WritesLine line few lost log log' → lost ≤ few + 1
lost_at_most line few lost log log' (inl (same, whole)) = omega (arith, same)
lost_at_most line few lost log log' (inr (more, front)) = omega (arith, more)
