-- The card numbers that a run assigns.
use Rattle.std.specs.Prelude.{ℕ, max, Option, Some, None}
use Rattle.upd_apply.specs.declared.state.CurrentSet.{CurrentSet}
use Rattle.upd_apply.specs.declared.state.InsertPoint.{InsertPoint}
use Rattle.upd_apply.specs.declared.state.InsertPoint.TheVariants.{Nowhere, End, Inside}
use Rattle.upd_apply.specs.declared.state.State.{State}

-- the next number of the current set; 1 without one
abbrev pub hand_next : Option CurrentSet → ℕ
hand_next None = 1
hand_next (Some h) = h.next

-- the next number at the end of a new deck; 1 for any other insertion point
abbrev pub spot_next : InsertPoint → ℕ
spot_next Nowhere = 1
spot_next (End d next) = next
spot_next (Inside d after) = 1

-- the greatest number that the next text or yank may get; a line raises it by at most 1
abbrev pub next_most : State → ℕ
next_most s = max 1 (max (hand_next s.current_set) (spot_next s.insert_point))
