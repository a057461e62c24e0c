use Rattle.upd_desk.proofs.Common.{ℕ, List, refl, ap, sym, ◌∙◌, LibraryView, applied, compile_file_of}
use Rattle.upd_desk.proofs.LeadLemmas.{compiled_is}
use Rattle.upd_desk.proofs.trying.try_run.Goals as goal

pub returns-clause-ok : goal.returns-clause-ok
returns-clause-ok c =
    let run = c.in_ok-run.run' in
    let before = c.args.library.now in
    let copied = ap (λ (l : LibraryView). applied run l) (sym c.in_ok-after.ensures.ok) in
    let named = ap (λ (named : List ℕ). compile_file_of c.args.mode named before c.apply.new.library) (sym c.deref.ensures.value) in (
      record { reached = _; file = c.in_ok-file.file },
      compiled_is c.args.mode c.args.bytes.now before run _ c.in_ok-file.file c.in_ok-run.ensures.reading
          (copied ∙ c.in_ok-applied.ensures.ok) (named ∙ c.in_ok-file.ensures),
      record { directory = refl; idents = refl; written = refl },
    )
