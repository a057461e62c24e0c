use Rattle.upd_core.proofs.Common.{◌≡◌, ℕ, length, take, is_among}
use Rattle.upd_core.specs.Gone.{is_listed}
use Rattle.upd_core.proofs.gone.flags.Given as goal

abbrev pub invariant-loop-age : goal.invariant-loop-age
invariant-loop-age l =
    (length l.flags.items ≡ length l.initial.flags.items) × ((z : ℕ) → is_listed l.flags.items z ≡ is_among (take l.age-index l.ages) z)
