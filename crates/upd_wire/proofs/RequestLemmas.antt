-- What was read of a request is what its input says.
use Rattle.upd_wire.proofs.Common.{◌≡◌, ◌≤◌, ◌⊎◌, ◌<◌, inl, inr, ℕ, if◌then◌else◌, List, ◌++◌, length, take, drop, append-nil, append_assoc, Result, Ok, Err}
use Rattle.upd_wire.proofs.Common.{sym, ap, ◌∙◌, arith, take-append_seam, cases_lt, le-leb, length-append, length-take-le, IsRequestAt, Asked, segments_of}
use Rattle.upd_wire.proofs.Common.{IsRead, Says, judged, Refusal, MAX_HEAD_BYTES, MAX_HEADERS}
use Rattle.std.proofs.Common.{min, IsErrAnd}
use Rattle.std.proofs.Math.Seq.{take-length}
use Rattle.std.proofs.lemmas.List.{length-map, nil_from_length, take-append-le}
use Rattle.httparse.specs.Grammar.{RequestHead}
use Rattle.httparse.specs.Spans.{IsRequestWithin}
use Rattle.httparse.specs.declared.spans.HeaderSpan.{HeaderSpan}
use Rattle.httparse.specs.declared.spans.RequestSpans.{RequestSpans}
use Rattle.httparse.proofs.GrammarLemmas.{ReadsRequest-append}
use Rattle.upd_text.specs.Outcome.{◌>>=◌}
use Rattle.upd_wire.specs.Calls.{Gives, cut_frame}
use Rattle.upd_wire.specs.Requests.{GivesUnlessFailed, IsSmall, HeadView, body_of, checked_head}
use Rattle.upd_wire.specs.Routes.{call_of}

-- a result that is this refusal
pub error_is : {T : Type 0} (result : Result T Refusal) (refusal : Refusal) → IsErrAnd result (λ e. e ≡ refusal) → result ≡ Err refusal
error_is (Ok x) refusal is = absurd is
error_is (Err e) refusal is = ap Err is

-- A head that was read, with the bytes after it so far.
pub record HasRead (buf : List ℕ) (headers : List HeaderSpan) (spans : RequestSpans) (h : RequestHead) : Type 0 where
  pub head : IsRequestAt buf headers spans h
  pub within : IsRequestWithin buf headers spans
  pub most : length buf ≤ MAX_HEAD_BYTES
  pub room : length headers ≡ MAX_HEADERS

small : (buf : List ℕ) (headers : List HeaderSpan) (spans : RequestSpans) (h : RequestHead) → HasRead buf headers spans h → IsSmall h
small buf headers spans h r =
    let fits = r.within.section.len_fits in
    let len = r.head.len in
    let most = r.most in
    let count : length (take spans.headers headers) ≡ spans.headers = length-take-le spans.headers headers r.within.section.count_fits in
    let same = ap length r.head.fields in
    let few = r.within.section.count_fits in
    let room = r.room in
    record { bytes = omega arith; fields = omega (arith, simp length-map at same) }

says : (later buf : List ℕ) (headers : List HeaderSpan) (spans : RequestSpans) (h : RequestHead) → HasRead buf headers spans h
    → (outcome : Result Asked Refusal) → outcome ≡ judged h (drop spans.len buf ++ later) → Says (buf ++ later) outcome
says later buf headers spans h r outcome is =
    inl (
      h,
      drop spans.len buf ++ later,
      small buf headers spans h r,
      ReadsRequest-append buf h (drop spans.len buf) later r.head.reads,
      is,
    )

pub checked_refused : {X Y : Type 0} (view : X → Asked) (seen : Y → HeadView) (buf : List ℕ) (headers : List HeaderSpan) (spans : RequestSpans)
    (h : RequestHead)
    → HasRead buf headers spans h → (refusal : Refusal) → Gives seen (Err refusal) (checked_head h) → (later : List ℕ)
    → IsRead view (buf ++ later) (Err refusal)
checked_refused view seen buf headers spans h r refusal (inl wanting) later = inl (inl wanting)
checked_refused view seen buf headers spans h r refusal (inr is) later =
    let rest = drop spans.len buf ++ later in
    let F : Result HeadView Refusal
    → Result Asked Refusal = λ x. x >>= (λ w. body_of w.body_len rest >>= (λ body. call_of w.route (segments_of w.path) body)) in
    inr (says later buf headers spans h r (Err refusal) (sym (ap F is)))

pub body_refused : {X Y : Type 0} (view : X → Asked) (items : Y → List ℕ) (buf : List ℕ) (headers : List HeaderSpan) (spans : RequestSpans) (h : RequestHead)
    → HasRead buf headers spans h → (w : HeadView) → checked_head h ≡ Ok w → (front : List ℕ) → front ≡ drop spans.len buf → (refusal : Refusal)
    → (later : List ℕ)
    → GivesUnlessFailed items (Err refusal) (body_of w.body_len (front ++ later)) → IsRead view (buf ++ later) (Err refusal)
body_refused view items buf headers spans h r w is front same refusal later (inl failed) = inl failed
body_refused view items buf headers spans h r w is front same refusal later (inr none) =
    let rest = drop spans.len buf ++ later in
    let F : Result HeadView Refusal
    → Result Asked Refusal = λ x. x >>= (λ w. body_of w.body_len rest >>= (λ body. call_of w.route (segments_of w.path) body)) in
    let G : Result (List ℕ) Refusal → Result Asked Refusal = λ x. x >>= (λ body. call_of w.route (segments_of w.path) body) in
    inr (says later buf headers spans h r (Err refusal) (sym (ap F is ∙ ap G (ap (λ l. body_of w.body_len (l ++ later)) (sym same) ∙ none))))

pub call_read : {X Y : Type 0} (view : X → Asked) (items : Y → List ℕ) (buf : List ℕ) (headers : List HeaderSpan) (spans : RequestSpans) (h : RequestHead)
    → HasRead buf headers spans h → (w : HeadView) → checked_head h ≡ Ok w → (front : List ℕ) → front ≡ drop spans.len buf → (body : Y) → (later : List ℕ)
    → GivesUnlessFailed items (Ok body) (body_of w.body_len (front ++ later))
    → (result : Result X Refusal) → Gives view result (call_of w.route (segments_of w.path) (items body)) → IsRead view (buf ++ later) result
call_read {X = X} view items buf headers spans h r w is front same body later whole result gives = by result gives
  where
    rest : List ℕ
    rest = drop spans.len buf ++ later

    judged_is : judged h rest ≡ call_of w.route (segments_of w.path) (items body)
    judged_is =
        let F : Result HeadView Refusal
        → Result Asked Refusal = λ x. x >>= (λ w. body_of w.body_len rest >>= (λ body. call_of w.route (segments_of w.path) body)) in
        let G : Result (List ℕ) Refusal → Result Asked Refusal = λ x. x >>= (λ body. call_of w.route (segments_of w.path) body) in
        ap F is ∙ ap G (ap (λ l. body_of w.body_len (l ++ later)) (sym same) ∙ whole)

    by : (result : Result X Refusal) → Gives view result (call_of w.route (segments_of w.path) (items body)) → IsRead view (buf ++ later) result
    by (Ok call) gives = says later buf headers spans h r (Ok (view call)) (sym (judged_is ∙ gives))
    by (Err refusal) (inl wanting) = inl (inl wanting)
    by (Err refusal) (inr told) = inr (says later buf headers spans h r (Err refusal) (sym (judged_is ∙ told)))

enough : (count : ℕ) (rest : List ℕ) → count ≤ length rest → body_of count rest ≡ Ok (take count rest)
enough count rest long = ap (λ b. if b then Ok (take count rest) else Err cut_frame) (le-leb count (length rest) long)

-- a body that was read to its end, of which a front was there
pub whole_body : (count held : ℕ) (front taken rest body : List ℕ) → held ≡ min (length front) count → body ≡ take held front ++ taken → length body ≡ count
    → body_of count (front ++ (taken ++ rest)) ≡ Ok body
whole_body count held front taken rest body is grown full = by (cases_lt (length front) count)
  where
    by : (length front < count) ⊎ (count ≤ length front) → body_of count (front ++ (taken ++ rest)) ≡ Ok body
    by (inl few) =
        let all : held ≡ length front = omega (arith, is, few) in
        let whole : body ≡ front ++ taken = grown ∙ ap (λ n. take n front ++ taken) all ∙ ap (λ l. l ++ taken) (take-length front) in
        let split : front ++ (taken ++ rest) ≡ body ++ rest = sym (append_assoc front taken rest) ∙ ap (λ l. l ++ rest) (sym whole) in
        let long : count ≤ length (body ++ rest) = omega (arith, full, length-append body rest) in
        ap (body_of count) split ∙ enough count (body ++ rest) long
        ∙ ap Ok (ap (λ n. take n (body ++ rest)) (sym full) ∙ take-append_seam body rest)
    by (inr many) =
        let all : held ≡ count = omega (arith, is, many) in
        let size : length (take held front) ≡ held = length-take-le held front (omega (arith, all, many)) in
        let none : length taken ≡ 0 = omega (arith, full, ap length grown, length-append (take held front) taken, size, all) in
        let whole : body ≡ take count front =
        grown ∙ ap (λ l. take held front ++ l) (nil_from_length taken none) ∙ append-nil (take held front) ∙ ap (λ n. take n front) all in
        let long : count ≤ length (front ++ (taken ++ rest)) = omega (arith, many, length-append front (taken ++ rest)) in
        enough count (front ++ (taken ++ rest)) long ∙ ap Ok (take-append-le count front (taken ++ rest) many ∙ sym whole)
