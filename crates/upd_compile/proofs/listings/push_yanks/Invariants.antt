use Rattle.upd_compile.proofs.Common.{◌≡◌, ◌++◌, drop, flat_map}
use Rattle.upd_compile.specs.Listings.{yank_lines}
use Rattle.upd_compile.proofs.listings.push_yanks.Given as goal

abbrev pub invariant-loop-card : goal.invariant-loop-card
invariant-loop-card l =
    l.text.items ++ flat_map (yank_lines l.idents l.live.targets) (drop l.card-index l.yanks)
    ≡ l.initial.text.items ++ flat_map (yank_lines l.idents l.live.targets) l.yanks
