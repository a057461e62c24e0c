use Rattle.upd_wire.proofs.Common.{◌≡◌, ◌≤◌, ◌++◌, inl, inr, refl, ap, sym, ◌∙◌, subst, length, take, arith, List, ℕ, Err, length-append, length-take-le}
use Rattle.upd_wire.proofs.Common.{Consumes, RequestExceeds, Begins, IsInput, RefusesHead, MAX_HEAD_BYTES, Consumes-nil, Consumes-trans}
use Rattle.upd_wire.proofs.HeadLemmas.{error_says, nothing_has_head, refused_bad, refused_by_failure}
use Rattle.upd_wire.proofs.head.read_head.Goals as goal

pub head-init : goal.head-init
head-init g c = rw c.requires.empty
    (record { most = omega arith; consumed = Consumes-nil (g.R.Read.remaining c.args.reader.now); none = nothing_has_head; unfinished = inl refl })

pub returns-in-Err-parse_request-clause-err : goal.returns-in-Err-parse_request-clause-err
returns-in-Err-parse_request-clause-err g c =
    let more = take c.in-Ok.count c.read.new.buf in
    let buf = c.deref.result.now in
    let items : buf ≡ c.head.buf.items ++ more = c.deref.ensures.value ∙ (rw c.if-is_err.ensures.negation at c.extend_from_slice.ensures.items) in
    let consumed = Consumes-trans _ _ _ _ _ c.head.invariant.consumed c.in-Ok.ensures.bytes.0 in
    let Reads : List ℕ → Type 0 = λ l. Consumes (g.R.Read.remaining c.args.reader.now) (g.R.Read.remaining c.read.new.self) l in
    let room : length c.read.new.buf ≡ c.min-room.result = c.read.auto.buf ∙ length-take-le c.min-room.result c.head.chunk (omega arith) in
    let few : length (c.head.buf.items ++ more) ≤ MAX_HEAD_BYTES = omega (arith, room, c.in-Ok.ensures.bound, length-append c.head.buf.items more) in
    let IsFew : List ℕ → Type 0 = λ l. length l ≤ MAX_HEAD_BYTES in
    let Exceeds : ℕ → Type 0 = λ n. RequestExceeds n buf in
    let Refused : List ℕ → Type 0 =
    λ b. (input : List ℕ) × IsInput (g.R.Read.remaining c.args.reader.now) input × Begins input b × RefusesHead input c.of-in-Err-parse_request.result in
    subst Refused c.deref.ensures.value (refused_bad _ _ buf _ (subst Reads (sym items) consumed) (subst IsFew (sym items) few)
    (error_says buf c.in-Err-parse_request.field-0 c.in-Err-parse_request.ensures.invalid
    (λ e. subst Exceeds (c.head.auto.headers ∙ c.requires.room) (c.in-Err-parse_request.ensures.too_many (ap Err e)))) c.of-in-Err-parse_request.ensures)

pub returns-clause-err : goal.returns-clause-err
returns-clause-err g c =
    refused_bad _ _ c.head.buf.items _ c.head.invariant.consumed c.head.invariant.most (inr (inr (omega arith, c.head.invariant.none))) c.of-2.ensures

pub returns-then-is_err-clause-err : goal.returns-then-is_err-clause-err
returns-then-is_err-clause-err g c =
    let same : c.extend_from_slice.new.self.items ≡ c.head.buf.items = rw c.if-is_err.ensures.negation at c.extend_from_slice.ensures.items in
    let Refused : List ℕ → Type 0 =
    λ b. (input : List ℕ) × IsInput (g.R.Read.remaining c.args.reader.now) input × Begins input b × RefusesHead input c.of.result in
    subst Refused (sym same) (refused_by_failure _ _ c.head.buf.items c.of.result c.head.invariant.consumed (inl c.of.ensures))

pub returns-in-Err-clause-err : goal.returns-in-Err-clause-err
returns-in-Err-clause-err g c = refused_by_failure _ _ c.head.buf.items c.silent-in-Err.result c.head.invariant.consumed (inr c.silent-in-Err.ensures)
