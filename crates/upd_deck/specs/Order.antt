-- The order of the lines of a run.
use Rattle.std.specs.Prelude.{ℕ, ◌+◌, ◌≤◌, List, [], ◌∷◌}
use Rattle.upd_deck.specs.Items.{LineView}

-- numbers rise from `number`, and each span begins at or after the end of the one before it, the first at or after `place`
abbrev pub FollowFrom : ℕ → ℕ → List LineView → Type 0
FollowFrom number place [] = Unit {0}
FollowFrom number place (line ∷ lines) =
    (number ≤ line.number) × (place ≤ line.span.start) × (line.span.start ≤ line.span.end) × FollowFrom (line.number + 1) line.span.end lines
