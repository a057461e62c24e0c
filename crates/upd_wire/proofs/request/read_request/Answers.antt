use Rattle.upd_wire.proofs.Common.{ap, sym, refl, ◌∙◌, subst, drop, List, ℕ, ◌++◌, Result, take_rest, IsRequestAt, asked, IsRead, DeskCall, Refusal}
use Rattle.std.proofs.Common.{Vec, Global}
use Rattle.upd_wire.proofs.InputLemmas.{input_behind, some_input}
use Rattle.upd_wire.specs.RequestViews.{head_view}
use Rattle.upd_wire.proofs.RequestLemmas.{HasRead, body_refused, call_read, checked_refused, error_is}
use Rattle.upd_wire.proofs.request.read_request.Goals as goal

abbrev Bytes : Type 0
Bytes = Vec ℕ Global

pub returns-in_err-head : goal.returns-in_err-head
returns-in_err-head g c =
    let buf = c.read_head.new.buf.items in
    let headers = c.read_head.new.headers in
    let old = g.R.Read.remaining c.args.reader.now in
    let new = g.R.Read.remaining c.read_head.new.reader in
    let spans = c.in_ok-spans.spans in
    let (h, at) = c.in_ok-spans.ensures.head in
    let r : HasRead buf headers spans h = record {
      head = at;
      within = c.in_ok-spans.ensures.within;
      most = c.in_ok-spans.ensures.most;
      room = c.read_head.auto.headers;
    } in
    let IsAt : List ℕ → Type 0 = λ l. IsRequestAt l headers spans h in
    let there = subst IsAt (sym c.deref.ensures.value) at in
    let (rest, left) = some_input new in
    let refusal = c.in_err-head.field-0.0 in
    let result = c.from_residual-in_err-head.result in
    let IsGiven : Result DeskCall Refusal → Type 0 = λ result. IsRead asked (buf ++ rest) result in (
      buf ++ rest,
      input_behind old new buf rest c.in_ok-spans.ensures.bytes left,
      (rest, refl),
      subst IsGiven (sym (error_is result refusal c.from_residual-in_err-head.ensures.1))
          (checked_refused asked head_view buf headers spans h r refusal (c.in_err-head.ensures h there) rest),
    )

pub returns-in_err-body : goal.returns-in_err-body
returns-in_err-body g c =
    let buf = c.read_head.new.buf.items in
    let headers = c.read_head.new.headers in
    let old = g.R.Read.remaining c.args.reader.now in
    let new = g.R.Read.remaining c.read_head.new.reader in
    let spans = c.in_ok-spans.spans in
    let (h, at) = c.in_ok-spans.ensures.head in
    let r : HasRead buf headers spans h = record {
      head = at;
      within = c.in_ok-spans.ensures.within;
      most = c.in_ok-spans.ensures.most;
      room = c.read_head.auto.headers;
    } in
    let IsAt : List ℕ → Type 0 = λ l. IsRequestAt l headers spans h in
    let there = subst IsAt (sym c.deref.ensures.value) at in
    let w = head_view c.in_ok-head.head in
    let (rest, left, gives) = c.in_err-body.ensures in
    let refusal = c.in_err-body.field-0.0 in
    let result = c.from_residual-in_err-body.result in
    let IsGiven : Result DeskCall Refusal → Type 0 = λ result. IsRead asked (buf ++ rest) result in (
      buf ++ rest,
      input_behind old new buf rest c.in_ok-spans.ensures.bytes left,
      (rest, refl),
      subst IsGiven (sym (error_is result refusal c.from_residual-in_err-body.ensures.1))
          (body_refused asked (λ (b : Bytes). b.items) buf headers spans h r w (c.in_ok-head.ensures h there) _
          (take_rest c.deref-2.result.now spans.len ∙ ap (drop spans.len) c.deref-2.ensures.value) refusal rest gives),
    )

pub returns : goal.returns
returns g c =
    let buf = c.read_head.new.buf.items in
    let headers = c.read_head.new.headers in
    let old = g.R.Read.remaining c.args.reader.now in
    let new = g.R.Read.remaining c.read_head.new.reader in
    let spans = c.in_ok-spans.spans in
    let (h, at) = c.in_ok-spans.ensures.head in
    let r : HasRead buf headers spans h = record {
      head = at;
      within = c.in_ok-spans.ensures.within;
      most = c.in_ok-spans.ensures.most;
      room = c.read_head.auto.headers;
    } in
    let IsAt : List ℕ → Type 0 = λ l. IsRequestAt l headers spans h in
    let there = subst IsAt (sym c.deref.ensures.value) at in
    let w = head_view c.in_ok-head.head in
    let (rest, left, whole) = c.in_ok-body.ensures in (
      buf ++ rest,
      input_behind old new buf rest c.in_ok-spans.ensures.bytes left,
      (rest, refl),
      call_read asked (λ (b : Bytes). b.items) buf headers spans h r w (c.in_ok-head.ensures h there) _
          (take_rest c.deref-2.result.now spans.len ∙ ap (drop spans.len) c.deref-2.ensures.value) c.in_ok-body.body rest whole
          c.call_of.result c.call_of.ensures,
    )
