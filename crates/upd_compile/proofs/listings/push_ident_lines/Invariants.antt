use Rattle.upd_compile.proofs.Common.{◌≡◌, ◌++◌, drop, flat_map}
use Rattle.upd_compile.specs.Listings.{ident_line}
use Rattle.upd_compile.proofs.listings.push_ident_lines.Given as goal

abbrev pub invariant-loop-ident : goal.invariant-loop-ident
invariant-loop-ident l =
    l.text.items ++ flat_map (ident_line) (drop l.ident-index l.idents)
    ≡ l.initial.text.items ++ flat_map (ident_line) l.idents
