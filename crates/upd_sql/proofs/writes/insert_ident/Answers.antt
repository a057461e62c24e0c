use Rattle.upd_sql.proofs.Effects.{ident_added}
use Rattle.upd_sql.proofs.writes.insert_ident.Goals as goal

pub returns : goal.returns
returns g c = record {
  same_reference = c.run.ensures.same_reference;
  does = ident_added c.args.ident.now
      (rw (c.number.ensures, c.name.ensures, c.kind.ensures, c.flag.ensures, c.flag-2.ensures) at c.run.ensures.ran);
}
