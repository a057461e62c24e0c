use Rattle.std.proofs.Common.{◌≡◌, true, false, if◌then◌else◌, None, refl, sym, rules}
use Rattle.std.specs.Str.{is_utf8}
use Rattle.std.proofs.lemmas.Str.{IsUtf8-from_is_utf8, is_utf8-from_IsUtf8}
use Rattle.serde_json.specs.Errors.{IsMemory}
use Rattle.serde_json.specs.Read.{read}
use Rattle.upd_views.proofs.runs.reply_value.Goals as goal

pub returns-in-Ok : goal.returns-in-Ok
returns-in-Ok c = rw (is_utf8-from_IsUtf8 c.args.reply.now c.in-Ok.ensures.ok.0) (sym c.in-Ok.ensures.ok.1)

pub returns-else-is_memory : goal.returns-else-is_memory
returns-else-is_memory c =
    let other : ¬ IsMemory c.in-Err.error = search rules in
    elim (is_utf8 c.args.reply.now) as (λ b. is_utf8 c.args.reply.now ≡ b → None ≡ (if b then read c.args.reply.now else None)) [
      | true ↦ λ e. sym (c.in-Err.ensures.err other (IsUtf8-from_is_utf8 c.args.reply.now e))
      | false ↦ λ e. refl
    ] refl
