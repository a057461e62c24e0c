use Rattle.upd_desk.proofs.Common.{ℕ, true, List, map, ap, ◌∙◌, name_of, FileView, ReplyView}
use Rattle.upd_desk.proofs.ShownLemmas.{all_shown, written}
use Rattle.upd_desk.proofs.outcome.accepted_reply.Goals as goal

pub returns : goal.returns
returns c = λ mode l done made entered compiles seen.
    let run = c.args.run.now in
    let shown = all_shown mode c.args.arrival.now l done made entered compiles in
    let names = c.deref-2.ensures.value ∙ c.in_ok-idents.ensures ∙ ap (λ i. map (name_of i) c.deref.result.now) c.idents.ensures
    ∙ ap (map (name_of run.library.idents)) c.deref.ensures.value
    ∙ ap (λ i. map (name_of i) run.applied.idents.items) seen.directory ∙ ap (map (name_of done.reached.library.idents)) seen.idents in
    let bytes = c.deref-3.ensures.value ∙ ap (λ (f : FileView). f.bytes) c.file.view_is ∙ ap (λ (f : FileView). f.bytes) seen.written in
    let lines = ap (λ (f : FileView). f.lines) c.file.view_is ∙ ap (λ (f : FileView). f.lines) seen.written in
    let reply : List ℕ → ReplyView = λ text. record { accepted = true; text = text } in
    ap reply (written done _ c.args.arrival.now _ _ _ c.in_ok-text.text.items c.arrival.view_is names bytes lines shown c.in_ok-text.ensures)
