use Rattle.upd_core.proofs.Common.{◌≡◌, map, take, drop, ◌++◌, unheld, is_gone}
use Rattle.upd_core.proofs.gone.unhold.Given as goal

abbrev pub invariant-loop-ident : goal.invariant-loop-ident
invariant-loop-ident l =
    l.idents ≡ map (unheld (is_gone l.gone)) (take l.ident-index l.initial.idents) ++ drop l.ident-index l.initial.idents
