use Rattle.std.proofs.Common.{◌≡◌, drop, not}
use Rattle.std.specs.List.{filter}
use Rattle.upd_core.specs.Status.{is_taken}
use Rattle.upd_views.specs.Blame.{last_ident}
use Rattle.upd_views.proofs.deck_blame.switcher.Given as goal

abbrev pub invariant-loop-entry : goal.invariant-loop-entry
invariant-loop-entry l =
    last_ident l.last (filter (λ e. not (is_taken l.live.targets l.deck e.ident)) (drop l.entry-index l.card.history))
    ≡ last_ident l.card.ident (filter (λ e. not (is_taken l.live.targets l.deck e.ident)) l.card.history)
