use Rattle.upd_compile.proofs.Common.{◌≡◌, true, rules, is_call, called, position_named}
use Rattle.upd_compile.proofs.chains.called_position.Goals as goal

pub returns-then-is_call : goal.returns-then-is_call
returns-then-is_call c =
    let call : is_call c.args.card.now.text ≡ true = search rules in
    let named : c.position_named.result ≡ position_named (called c.args.card.now.text) c.args.source.now =
    rw (← c.card.view_is, ← c.called.ensures) c.position_named.ensures in
    rw call named
