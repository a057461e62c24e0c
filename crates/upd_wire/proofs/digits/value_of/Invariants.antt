use Rattle.upd_wire.proofs.Common.{◌≡◌, ◌<◌, ◌^◌, drop, number_behind}
use Rattle.upd_wire.proofs.digits.value_of.Given as goal

abbrev pub invariant-loop-digit : goal.invariant-loop-digit
invariant-loop-digit l =
    (number_behind l.number (drop l.digit-index l.digits) ≡ number_behind 0 l.digits) × (l.number < 10 ^ l.digit-index)
