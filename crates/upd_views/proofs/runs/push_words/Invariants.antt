use Rattle.std.proofs.Common.{◌≡◌, ◌++◌, drop}
use Rattle.std.specs.List.{flat_map}
use Rattle.serde_json.specs.View.{view}
use Rattle.upd_views.specs.RunLines.{word_of}
use Rattle.upd_views.proofs.runs.push_words.Given as goal

abbrev pub invariant-loop-item : goal.invariant-loop-item
invariant-loop-item l =
    l.text.items ++ flat_map (λ v. word_of (view v)) (drop l.item-index l.items) ≡ l.initial.text.items ++ flat_map (λ v. word_of (view v)) l.items
