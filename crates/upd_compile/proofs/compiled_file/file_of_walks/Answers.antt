use Rattle.upd_compile.proofs.Common.{rules, ◌≡◌, ◌∙◌, Ok, Result, List, map, sym, subst, refl, flat_map, MAX_DEPTH, FileView, after_events, at_start}
use Rattle.upd_compile.proofs.Common.{WalkEvent, walk}
use Rattle.upd_text.specs.declared.fault.Fault.{Fault}
use Rattle.upd_text.specs.Outcome.{FailsAt}
use Rattle.upd_compile.proofs.WrittenLemmas.{written-is}
use Rattle.upd_compile.proofs.compiled_file.file_of_walks.Goals as goal

pub returns-in-Ok : goal.returns-in-Ok
returns-in-Ok c =
    let a = c.args.source.now in
    let events : List WalkEvent = flat_map (walk MAX_DEPTH a) (map (λ d. d.now) c.args.decks.now) in
    let walked : after_events a.idents events at_start ≡ Ok c.walk_all.new.progress = rw c.new-progress.ensures at c.in-Ok.ensures in
    written-is a.idents events ∙ rw (walked, c.finish.ensures) refl

pub returns-in-Err : goal.returns-in-Err
returns-in-Err c =
    let a = c.args.source.now in
    let events : List WalkEvent = flat_map (walk MAX_DEPTH a) (map (λ d. d.now) c.args.decks.now) in
    let P : Result FileView Fault → Type 0 = FailsAt c.without_line.result in
    subst P (sym (written-is a.idents events)) (search rules)
