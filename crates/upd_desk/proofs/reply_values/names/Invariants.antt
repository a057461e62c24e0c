use Rattle.upd_desk.proofs.Common.{◌≡◌, map, take, IsUtf8, AllByRecursion, view}
use Rattle.serde_json.specs.Data.{string}
use Rattle.upd_desk.proofs.reply_values.names.Given as goal

abbrev pub invariant-loop-ident : goal.invariant-loop-ident
invariant-loop-ident l = AllByRecursion IsUtf8 l.idents → map view l.list.items ≡ map string (take l.ident-index l.idents)
