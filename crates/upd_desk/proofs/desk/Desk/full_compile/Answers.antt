-- What is expected of the active cards that were loaded is expected of the library after each journal that the store holds.
use Rattle.upd_desk.proofs.Common.{[], ap, inl, compile_file_of, file_of}
use Rattle.std.specs.Result.{result_map_both}
use Rattle.upd_compile.specs.declared.mode.Mode.TheVariants.{Full}
use Rattle.upd_desk.proofs.MadeLemmas.{library_made}
use Rattle.upd_desk.proofs.QueryLemmas.{compile_keeps, compile_met, gives_faults, gives_owed, query_left, tells_same}
use Rattle.upd_desk.proofs.RefusedLemmas.{error_is}
use Rattle.upd_desk.proofs.desk.Desk.full_compile.Goals as goal

pub returns-clause-text : goal.returns-clause-text
returns-clause-text g c =
    let actives = c.in_ok-actives.actives in
    tells_same library_made (λ l. compile_file_of Full [] l l) (file_of Full [] actives actives)
    (result_map_both (λ f. f) (λ f. f) c.compile_active.result) c.args.self.now.store c.load_active.new.self
    c.in_ok-actives.ensures.leaves.same c.in_ok-actives.ensures.leaves.opens
    (λ honest l made rows shown shows states.
    ap (λ a. file_of Full [] a a) (c.in_ok-actives.ensures.found honest l made.sound made.whole rows shown shows states))
    (gives_owed (λ f. f) c.compile_active.result (file_of Full [] actives actives) c.compile_active.ensures)

pub returns-in_err-actives-clause-text : goal.returns-in_err-actives-clause-text
returns-in_err-actives-clause-text g c honest journal held = rw (error_is _ _ c.from_residual.ensures.1) (inl c.in_err-actives.ensures.leaves.lost)

pub returns-clause-leaves : goal.returns-clause-leaves
returns-clause-leaves g c =
    let actives = c.in_ok-actives.actives in
    query_left (λ f. f) c.compile_active.result (file_of Full [] actives actives) c.args.self.now.store c.load_active.new.self _
    c.in_ok-actives.ensures.leaves.same c.in_ok-actives.ensures.leaves.opens c.in_ok-actives.ensures.leaves.failed
    (compile_keeps Full [] actives actives) c.compile_active.ensures

pub returns-clause-faults : goal.returns-clause-faults
returns-clause-faults g c =
    let actives = c.in_ok-actives.actives in
    gives_faults (λ f. f) c.compile_active.result (file_of Full [] actives actives) (compile_met Full [] actives actives) c.compile_active.ensures
