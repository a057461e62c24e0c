use Rattle.upd_wire.proofs.Common.{◌∷◌, ◌++◌, [], sym, ap, ◌∙◌, refl, subst, HeaderView, header_text, arrival_of, no_header, StopsRun}
use Rattle.upd_wire.specs.Header.{header_of}
use Rattle.upd_wire.proofs.ReadLemmas.{behind_header, error_is, frame_taken, header_found, run_stops}
use Rattle.upd_wire.proofs.SpoolLemmas.{bad_stops, line_missing, line_out, stopped}
use Rattle.upd_wire.proofs.frame_exchange.exchange.Goals as goal

pub returns-in_err-found : goal.returns-in_err-found
returns-in_err-found g c =
    let (taken, consumed, stops) = c.in_err-found.ensures.err in
    rw (error_is _ _ c.from_residual.ensures.1) (stopped g.S.Meaning c.in_err-found.field-0.0 _ _ _ _ taken consumed stops)

pub returns-in_default : goal.returns-in_default
returns-in_default g c =
    let line = c.read_line.new.line.items in
    let read = rw c.if-not-found.false at c.in_ok-found.ensures.ok in
    let none = ap header_of (sym c.deref.ensures.value) ∙ sym c.read_header.ensures ∙ c.in_default.is in
    bad_stops g.S.Meaning _ _ _ _ (line ++ 10 ∷ []) read.0 (no_header line [] read.1 none refl)

pub returns-in_err-read_run : goal.returns-in_err-read_run
returns-in_err-read_run g c =
    let read = rw c.if-not-found.false at c.in_ok-found.ensures.ok in
    let (taken, consumed, stops) = c.in_err-read_run.ensures.err in
    let h = c.in-Some.header in
    let found = header_found c.read_line.new.line.items _ h c.in-Some.ensures c.deref.ensures.value in
    let kind = c.in_err-read_run.field-0.0 in
    let size = ap (λ (k : HeaderView). k.size) c.header.view_is in
    rw (error_is _ _ c.from_residual-in_err-read_run.ensures.1)
    (stopped g.S.Meaning kind _ _ _ _ (header_text h ++ 10 ∷ taken) (behind_header _ _ _ _ taken h read.0 consumed found.1)
    (run_stops kind h taken _ found.0 (subst (λ n. StopsRun kind n taken (g.R.Read.remaining c.read_run.new.reader)) size stops)))

pub returns-in_err-answer : goal.returns-in_err-answer
returns-in_err-answer g c =
    let read = rw c.if-not-found.false at c.in_ok-found.ensures.ok in
    let h = c.in-Some.header in
    let found = header_found c.read_line.new.line.items _ h c.in-Some.ensures c.deref.ensures.value in
    let size = c.in_ok-read_run.ensures.size ∙ ap (λ (k : HeaderView). k.size) c.header.view_is in
    let taken = frame_taken _ _ _ _ _ c.deref-2.result.now h found read.0 c.in_ok-read_run.ensures.ok size c.deref-2.ensures.value in
    rw (error_is _ _ c.from_residual-in_err-answer.ensures.1)
    (line_missing g.S.Meaning c.in_err-answer.field-0.0 (arrival_of h c.deref-2.result.now) _ _ _ _ c.in_err-answer.ensures.err taken.0 _ _ taken.1)

pub returns : goal.returns
returns g c =
    let read = rw c.if-not-found.false at c.in_ok-found.ensures.ok in
    let h = c.in-Some.header in
    let found = header_found c.read_line.new.line.items _ h c.in-Some.ensures c.deref.ensures.value in
    let size = c.in_ok-read_run.ensures.size ∙ ap (λ (k : HeaderView). k.size) c.header.view_is in
    let taken = frame_taken _ _ _ _ _ c.deref-2.result.now h found read.0 c.in_ok-read_run.ensures.ok size c.deref-2.ensures.value in
    let (result, went, told, appended) = c.in_ok-answer.ensures.ok in
    (arrival_of h c.deref-2.result.now, result, line_out _ result taken.0 went told taken.1 appended)
