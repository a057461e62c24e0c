-- Where active cards are at hand the file is written of them; where none are it is empty.
use Rattle.upd_desk.proofs.Common.{List, Ok, ap, sym, ◌∙◌, subst}
use Rattle.upd_desk.specs.Compiling.{AreActivesFor}
use Rattle.upd_desk.proofs.FileLemmas.{empty_file}
use Rattle.upd_desk.proofs.outcome.compile_run.Goals as goal

pub returns-in-None-clause-ok : goal.returns-in-None-clause-ok
returns-in-None-clause-ok c = λ lines l loaded reached made of_run active right.
    let none = subst (AreActivesFor c.args.mode c.args.run.now.applied.compile.items l) c.in-None.is active in
    empty_file lines l loaded reached c.args.run.now of_run c.args.mode none.0 none.1
    ∙ ap (λ (bytes : List _). Ok (record { bytes = bytes; lines = 0 })) (sym c.new.ensures.items)
