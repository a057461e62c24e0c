use Rattle.upd_memory.proofs.Common.{◌≡◌, subst}
use Rattle.upd_memory.specs.Lists.{made_tables}
use Rattle.upd_memory.specs.Mirrored.{AgreesIfAny}
use Rattle.upd_memory.proofs.ListLemmas.{agrees_ok}
use Rattle.upd_memory.proofs.list_tables.ListTables.remade.Goals as goal

pub returns : goal.returns
returns c =
    let was = c.self.inside in
    let now = c.args.self.now in
    let tables : made_tables c.deref.result.now was.runs.items was.settled.items ≡ now = rw c.deref.ensures.value c.self.view_is in
    let made = subst (AgreesIfAny c.made_of.result) tables (c.made_of.ensures was.runs.items was.settled.items) in
    agrees_ok c.ok_or.result now (subst (λ m. AgreesIfAny m now) c.ok_or.ensures.ok_part made)
