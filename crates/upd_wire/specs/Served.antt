-- The journal of a desk that serves calls, and what a crash may add to it.
use Rattle.std.specs.Prelude.{if◌then◌else◌, List, [], ◌∷◌, Some, None, Result, Ok, Err}
use Rattle.upd_text.specs.declared.fault.Fault.{Fault}
use Rattle.upd_desk.specs.Arrivals.{arrival_view}
use Rattle.upd_desk.specs.Holding.{is_lost}
use Rattle.upd_desk.specs.Journal.{Came, Event, Journal, Settled}
use Rattle.upd_wire.specs.Calls.{run, settle}
use Rattle.upd_wire.specs.Responses.{Response}
use Rattle.upd_wire.specs.Serving.{Made}

-- the journal after an arrival that was answered so: an arrival that was lost didn't happen
abbrev pub after_run : Journal → Event → Result Response Fault → Journal
after_run journal event (Ok response) = event ∷ journal
after_run journal event (Err fault) = if is_lost fault.kind then journal else event ∷ journal

-- the journal after a settlement that was answered so: one that was refused or lost didn't happen
abbrev pub after_mark : Journal → Event → Result Response Fault → Journal
after_mark journal event (Ok response) = event ∷ journal
after_mark journal event (Err fault) = journal

-- what a crash may add after either: nothing after an answer, one more where it was lost, and the same after a refusal
abbrev pub in_hand_with : List Event → Event → Result Response Fault → List Event
in_hand_with in_hand event (Ok response) = []
in_hand_with in_hand event (Err fault) = if is_lost fault.kind then event ∷ in_hand else in_hand

-- the journal after a call of the desk, or after none
abbrev pub after_call : Journal → Made → Journal
after_call journal (Some (run site number mode bytes, told)) = after_run journal (Came (arrival_view site number mode bytes)) told
after_call journal (Some (settle site number, told)) = after_mark journal (Settled site number) told
after_call journal _ = journal

-- what a crash may add after it
abbrev pub in_hand_after_call : List Event → Made → List Event
in_hand_after_call in_hand (Some (run site number mode bytes, told)) = in_hand_with in_hand (Came (arrival_view site number mode bytes)) told
in_hand_after_call in_hand (Some (settle site number, told)) = in_hand_with in_hand (Settled site number) told
in_hand_after_call in_hand _ = in_hand

-- the journal after calls, the latest first
abbrev pub after_calls : Journal → List Made → Journal
after_calls journal [] = journal
after_calls journal (made ∷ earlier) = after_call (after_calls journal earlier) made

-- what a crash may add after them
abbrev pub in_hand_after_calls : List Event → List Made → List Event
in_hand_after_calls in_hand [] = in_hand
in_hand_after_calls in_hand (made ∷ earlier) = in_hand_after_call (in_hand_after_calls in_hand earlier) made
