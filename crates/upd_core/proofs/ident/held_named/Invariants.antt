use Rattle.upd_core.proofs.Common.{◌≡◌, drop, held_named}
use Rattle.upd_core.proofs.ident.held_named.Given as goal

abbrev pub invariant-loop-ident : goal.invariant-loop-ident
invariant-loop-ident l = held_named l.name (drop l.ident-index l.idents) ≡ held_named l.name l.idents
