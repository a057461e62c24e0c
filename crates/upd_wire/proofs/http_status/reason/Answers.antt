use Rattle.upd_wire.proofs.Common.{◌∙◌, ap, sym, subst, ◌≤◌, length, List, ℕ, Bor, refl}
use Rattle.upd_wire.proofs.ReasonLemmas.{reason_is, reason_short}
use Rattle.upd_wire.proofs.http_status.reason.Goals as goal

pub returns-clause-value : goal.returns-clause-value
returns-clause-value c = ap (λ (s : Bor (List ℕ)). s.now) c.unwrap_or.ensures
    ∙ reason_is c.args.status c.canonical_reason.result _ c.canonical_reason.ensures.value refl

pub returns-clause-short : goal.returns-clause-short
returns-clause-short c =
    let IsFew : List ℕ → Type 0 = λ text. length text ≤ 32 in
    subst IsFew (sym (ap (λ (s : Bor (List ℕ)). s.now) c.unwrap_or.ensures
    ∙ reason_is c.args.status c.canonical_reason.result _ c.canonical_reason.ensures.value refl))
    (reason_short c.args.status)
