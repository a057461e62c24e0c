use Rattle.upd_examine.proofs.Common.{◌≡◌, map, take, ident_key}
use Rattle.upd_examine.proofs.row_keys.ident_keys.Given as goal

abbrev pub invariant-loop-ident : goal.invariant-loop-ident
invariant-loop-ident l = l.keys.items ≡ map ident_key (take l.ident-index l.idents)
