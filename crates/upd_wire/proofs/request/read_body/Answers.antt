use Rattle.upd_wire.proofs.Common.{rules, ◌≡◌, ◌++◌, inl, inr, length, ap, ◌∙◌, arith}
use Rattle.upd_wire.proofs.InputLemmas.{input_behind, some_input}
use Rattle.upd_wire.proofs.RequestLemmas.{whole_body}
use Rattle.upd_wire.proofs.request.read_body.Goals as goal

pub returns-in_err-body : goal.returns-in_err-body
returns-in_err-body g c =
    let (rest, left) = some_input (g.R.Read.remaining c.args.reader.now) in
    (rest, left, search rules)

pub returns-in-Err-NoMemory : goal.returns-in-Err-NoMemory
returns-in-Err-NoMemory g c =
    let (rest, left) = some_input (g.R.Read.remaining c.args.reader.now) in
    (rest, left, inl (inl c.of.ensures))

pub returns : goal.returns
returns g c =
    let (rest, left) = some_input (g.R.Read.remaining c.args.reader.now) in
    (rest, left, inl (inr c.silent-in-Err.ensures))

pub returns-in-Ok-2 : goal.returns-in-Ok-2
returns-in-Ok-2 g c =
    let old = g.R.Read.remaining c.args.reader.now in
    let new = g.R.Read.remaining c.read_up_to.new.reader in
    let (taken, grown, consumed) = c.in-Ok-2.ensures.ok in
    let (rest, left) = some_input new in
    let body = c.read_up_to.new.bytes.items in
    let full : length body ≡ c.args.count = omega (arith, c.in-Ok-2.ensures.most, c.if-len-count.false, c.len.ensures) in (
      taken ++ rest,
      input_behind old new taken rest consumed left,
      whole_body c.args.count c.min-held.result c.args.front.now taken rest body c.min-held.ensures
          (grown ∙ ap (λ l. l ++ taken) c.in_ok-body.ensures.items) full,
    )
