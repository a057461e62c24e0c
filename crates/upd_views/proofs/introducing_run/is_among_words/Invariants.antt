use Rattle.std.proofs.Common.{◌≡◌, drop}
use Rattle.serde_json.specs.View.{items_view}
use Rattle.upd_views.specs.IntroducingRun.{is_among_words}
use Rattle.upd_views.proofs.introducing_run.is_among_words.Given as goal

abbrev pub invariant-loop-item : goal.invariant-loop-item
invariant-loop-item l = is_among_words l.name (items_view (drop l.item-index l.items)) ≡ is_among_words l.name (items_view l.items)
