use Rattle.upd_compile.proofs.Common.{◌≡◌, ◌∙◌, sym, slice_get, arith, option_and_then, option_copied, common_steps, gets, position_named}
use Rattle.upd_compile.proofs.PositionLemmas.{common_named-position}
use Rattle.upd_compile.proofs.indexed.Indexed.common_named.Goals as goal

pub returns-in_err-position : goal.returns-in_err-position
returns-in_err-position c =
    let a = c.args.self.now in
    let here : option_copied c.from_residual.result ≡ option_and_then (slice_get a.decks) (position_named c.args.name.now a) = grind (arith, common_steps) in
    here ∙ sym (common_named-position c.args.name.now a)

pub returns : goal.returns
returns c =
    let a = c.args.self.now in
    let here : option_copied c.get.result ≡ option_and_then (slice_get a.decks) (position_named c.args.name.now a) = grind (arith, common_steps, gets) in
    here ∙ sym (common_named-position c.args.name.now a)
