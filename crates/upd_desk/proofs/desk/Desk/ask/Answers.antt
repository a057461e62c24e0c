-- What is listed of what was loaded is listed of the library after each journal that the store holds.
use Rattle.upd_desk.proofs.Common.{inl, listing}
use Rattle.std.specs.Result.{result_map_both}
use Rattle.upd_desk.proofs.MadeLemmas.{library_made}
use Rattle.upd_desk.proofs.QueryLemmas.{gives_faults, gives_owed, listing_keeps, listing_met, query_left, tells_same}
use Rattle.upd_desk.proofs.RefusedLemmas.{error_is}
use Rattle.upd_desk.proofs.desk.Desk.ask.Goals as goal

pub returns-clause-text : goal.returns-clause-text
returns-clause-text g c =
    let listed = listing c.args.query.now c.in_ok-library.library in
    tells_same library_made (listing c.args.query.now) listed (result_map_both (λ text. text.items) (λ f. f) c.list.result)
    c.args.self.now.store c.load_listed.new.store c.in_ok-library.ensures.leaves.same c.in_ok-library.ensures.opens
    (λ honest l made rows shown shows states. c.in_ok-library.ensures.found honest l made rows shown shows)
    (gives_owed (λ text. text.items) c.list.result listed c.list.ensures)

pub returns-in_err-library-clause-text : goal.returns-in_err-library-clause-text
returns-in_err-library-clause-text g c honest journal held = rw (error_is _ _ c.from_residual.ensures.1) (inl c.in_err-library.ensures.leaves.lost)

pub returns-clause-faults : goal.returns-clause-faults
returns-clause-faults g c =
    gives_faults (λ text. text.items) c.list.result (listing c.args.query.now c.in_ok-library.library)
    (listing_met c.args.query.now c.in_ok-library.library) c.list.ensures

pub returns-clause-leaves : goal.returns-clause-leaves
returns-clause-leaves g c =
    query_left (λ text. text.items) c.list.result (listing c.args.query.now c.in_ok-library.library) c.args.self.now.store c.load_listed.new.store _
    c.in_ok-library.ensures.leaves.same c.in_ok-library.ensures.opens c.in_ok-library.ensures.leaves.failed
    (listing_keeps c.args.query.now c.in_ok-library.library) c.list.ensures
