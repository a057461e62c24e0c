-- The library that was loaded is the one after each journal that the store holds.
use Rattle.upd_desk.proofs.MadeLemmas.{library_made}
use Rattle.upd_desk.proofs.QueryLemmas.{library_told}
use Rattle.upd_desk.proofs.desk.Desk.library.Goals as goal

pub returns-clause-library : goal.returns-clause-library
returns-clause-library g c = library_told library_made c.load.result c.args.self.now.store c.load.new.self c.load.ensures.leaves c.load.ensures.found
