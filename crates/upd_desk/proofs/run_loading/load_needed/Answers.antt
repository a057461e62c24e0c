-- A run that yanks or purges needs all decks.
use Rattle.upd_desk.proofs.Common.{IfOk-weaker, arith, sym, ◌∙◌}
use Rattle.upd_desk.proofs.LoadingLemmas.{all_loaded, needs_all, reads_needed}
use Rattle.upd_desk.proofs.run_loading.load_needed.Goals as goal

pub returns-else-is_plain-clause-found : goal.returns-else-is_plain-clause-found
returns-else-is_plain-clause-found g c honest =
    IfOk-weaker c.load.result _ _ (λ library found l made rows shown shows.
    all_loaded c.args.run.now l library (found l made.sound made.whole rows shown shows)
    (needs_all c.args.run.now l (sym c.is_plain.ensures ∙ c.if-is_plain.false))) (c.load.ensures.found honest)

pub returns-else-is_plain-clause-reads : goal.returns-else-is_plain-clause-reads
returns-else-is_plain-clause-reads g c =
    reads_needed g.S.Meaning c.args.run.now c.load.result c.args.store.now c.args.store.now c.load.new.self
    (λ honest l made rows shown shows. omega arith) c.load.ensures.leaves.reads (returns-else-is_plain-clause-found g c)
