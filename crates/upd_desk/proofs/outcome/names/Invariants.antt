use Rattle.upd_desk.proofs.Common.{◌≡◌, map, take, name_of}
use Rattle.upd_desk.proofs.outcome.names.Given as goal

abbrev pub invariant-loop-age : goal.invariant-loop-age
invariant-loop-age l = l.names.items ≡ map (name_of l.idents) (take l.age-index l.ages)
