-- How marks are told, and answers for edited texts.
use Rattle.upd_subcommands.proofs.Common.{◌≡◌, ℕ, List, [], ◌∷◌, ◌++◌, get_or, length, Option, Result, Ok, ap, ◌∙◌, append_assoc, append-nil, arith, flat_map}
use Rattle.upd_subcommands.proofs.Common.{EditError, Err, Fault, Global, Vec, refl}
use Rattle.std.proofs.Common.{Bor, IfErr, IfOk, OnOk}
use Rattle.std.specs.Result.{result_map_both}
use Rattle.upd_edit.specs.EditCauses.{failures_after_edit}
use Rattle.upd_desk.specs.ReplyTexts.{settled_bytes}
use Rattle.upd_wire.proofs.AnswerHeadLemmas.{mark_text}
use Rattle.upd_subcommands.specs.Reporting.{ReportsMark, Writes}

-- five parts and LF
pub five_parts : (parts : List (Bor (List ℕ))) (d : Bor (List ℕ)) → length parts ≡ 5
    → (get_or parts 0 d).now ++ ((get_or parts 1 d).now ++ ((get_or parts 2 d).now ++ ((get_or parts 3 d).now ++ ((get_or parts 4 d).now ++ 10 ∷ []))))
    ≡ flat_map (λ part. part.now) parts ++ 10 ∷ []
five_parts [] x is = absurd (omega (arith, is))
five_parts (a ∷ []) x is = absurd (omega (arith, is))
five_parts (a ∷ b ∷ []) x is = absurd (omega (arith, is))
five_parts (a ∷ b ∷ c ∷ []) x is = absurd (omega (arith, is))
five_parts (a ∷ b ∷ c ∷ d ∷ []) x is = absurd (omega (arith, is))
five_parts (a ∷ b ∷ c ∷ d ∷ e ∷ []) x is = simp (append_assoc, append-nil)
five_parts (a ∷ b ∷ c ∷ d ∷ e ∷ f ∷ more) x is = absurd (omega (arith, is))

pub mark_told : (output output' : Option (List ℕ)) (result : Result ℕ Fault) (line site : List ℕ) (mark : ℕ) → line ≡ settled_bytes site mark ++ 10 ∷ []
    → Writes 0 line result output output' → ReportsMark site (Ok mark) result output output'
mark_told output output' result line site mark same wrote = (line, λ is. same ∙ ap (λ l. l ++ 10 ∷ []) (mark_text site mark is), wrote)

-- an answer for an edited text, seen by its bytes
abbrev pub shown : Result (Vec ℕ Global) EditError → Result (List ℕ) EditError
shown answer = result_map_both (λ run. run.items) (λ error. error) answer

pub if_ok : (answer : Result (Vec ℕ Global) EditError) (P : List ℕ → Type 0) → IfOk answer (λ run. P run.items) → IfOk (shown answer) P
if_ok (Ok run) P is = is
if_ok (Err error) P is = is

pub on_ok : (answer : Result (Vec ℕ Global) EditError) (P : Type 0) → OnOk answer P → OnOk (shown answer) P
on_ok (Ok run) P is = is
on_ok (Err error) P is = is

pub if_err : (answer : Result (Vec ℕ Global) EditError) (P : EditError → Type 0) → IfErr answer P → IfErr (shown answer) P
if_err (Ok run) P is = is
if_err (Err error) P is = is

pub counts : (answer : Result (Vec ℕ Global) EditError) (n : ℕ) → failures_after_edit answer n ≡ failures_after_edit (shown answer) n
counts (Ok run) n = refl
counts (Err error) n = refl
