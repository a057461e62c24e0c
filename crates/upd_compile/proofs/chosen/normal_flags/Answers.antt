use Rattle.upd_compile.proofs.Common.{◌≡◌, ◌∙◌, map, IfOk-weaker, has_chain, is_changed}
use Rattle.upd_core.specs.Edits.{is_among}
use Rattle.upd_compile.proofs.ChosenLemmas.{any-map}
use Rattle.upd_compile.proofs.chosen.normal_flags.Goals as goal

pub returns : goal.returns
returns c =
    let a = c.args.after.now in
    let before = c.args.before.now in
    let changed : c.in_ok-changed.changed.items ≡ map (is_changed before) a.decks = cc (c.in_ok-changed.ensures) in
    let chained : c.in_ok-chained.chained.items ≡ map (has_chain before a) a.decks = c.in_ok-chained.ensures before (c.deref.ensures.value ∙ changed) in
    IfOk-weaker c.any_of.result _ _
    (λ flags ensured. cc (
      ensured,
      c.in_ok-named.ensures,
      changed,
      chained,
      any-map (λ d. is_among c.args.named.now d.ident) (is_changed before)
          (has_chain before a) a.decks,
    )) c.any_of.ensures
