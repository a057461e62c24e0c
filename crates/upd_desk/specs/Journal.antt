-- The journal of a desk, and what the desk owes after it: the library, the stored replies, the marks, and the answer to what comes next.
use Rattle.std.specs.Prelude.{◌≡◌, ℕ, ◌==◌, nat_lt, nat_le, max, Bool, false, not, ◌&&◌, ◌||◌, if◌then◌else◌, List, [], ◌∷◌, ◌++◌, Option, Some, None}
use Rattle.std.specs.Prelude.{is_some, Result, Ok, Err}
use Rattle.std.specs.Str.{bytes_eq}
use Rattle.std.specs.List.{list_any, find}
use Rattle.upd_text.specs.declared.fault.Fault.{Fault}
use Rattle.upd_text.specs.declared.fault.FaultKind.TheVariants as fault
use Rattle.upd_text.specs.Outcome.{◌>>=◌, at_line, refuse_if}
use Rattle.upd_core.specs.Library.{LibraryView, empty}
use Rattle.upd_records.specs.Rows.{RunView}
use Rattle.upd_compile.specs.declared.mode.Mode.{Mode}
use Rattle.upd_row_store.specs.Tables.{is_run}
use Rattle.upd_desk.specs.Arrivals.{ArrivalView, check_arrival, mode_number}
use Rattle.upd_desk.specs.Outcomes.{Outcome, ReplyView, outcome}

-- What happened at a desk. An arrival that was lost, to out of memory or a failure of the store, didn't happen.
pub data Event : Type 0 where
  -- an arrival was answered
  Came : ArrivalView → Event
  -- an arrival was refused by rules that have changed since: it keeps that reply, and its run does nothing
  Carried : ArrivalView → List ℕ → Event
  -- a site has settled its runs up to a number
  Settled : List ℕ → ℕ → Event

-- a journal: the events, the latest first
abbrev pub Journal : Type 0
Journal = List Event

-- ---- marks

-- a site's mark: the greatest number that it has settled, 0 where it never did
abbrev pub mark : Journal → List ℕ → ℕ
mark [] site = 0
mark (Came a ∷ before) site = mark before site
mark (Carried a reply ∷ before) site = mark before site
mark (Settled s n ∷ before) site = if bytes_eq s site then max n (mark before site) else mark before site

-- ---- the distinct runs

-- An arrival that is heard: the mode that it asks for, and the reply that it carries, if it does.
pub record Heard : Type 0 where
  pub arrival : ArrivalView
  pub mode : Mode
  pub carried : Option (List ℕ)

-- whether an arrival has a key
abbrev pub has_key : List ℕ → ℕ → Heard → Bool
has_key site number h = bytes_eq h.arrival.site site && (h.arrival.number == number)

-- The distinct runs with one more arrival: it is added where it passed the admission checks, its number isn't settled, and none of them has its key.
abbrev pub with_arrival : Journal → List Heard → ArrivalView → Option (List ℕ) → Result Mode Fault → List Heard
with_arrival before runs a carried (Ok mode) =
    if nat_lt (mark before a.site) a.number && not (list_any (has_key a.site a.number) runs)
    then record { arrival = a; mode = mode; carried = carried } ∷ runs
    else runs
with_arrival before runs a carried (Err fault) = runs

-- the distinct runs of a journal: the first arrival of each key, the latest first
abbrev pub distinct : Journal → List Heard
distinct [] = []
distinct (Came a ∷ before) = with_arrival before (distinct before) a None (check_arrival a)
distinct (Carried a reply ∷ before) = with_arrival before (distinct before) a (Some reply) (check_arrival a)
distinct (Settled s n ∷ before) = distinct before

-- ---- the distinct runs, once more: those whose key isn't heard earlier

-- An arrival is heard where it passed the admission checks in a mode and its number isn't settled.
abbrev pub heard_one : Journal → ArrivalView → Option (List ℕ) → Result Mode Fault → List Heard
heard_one before a carried (Ok mode) =
    if nat_lt (mark before a.site) a.number then record { arrival = a; mode = mode; carried = carried } ∷ [] else []
heard_one before a carried (Err fault) = []

-- all arrivals of a journal that are heard, repeats too, the latest first
abbrev pub heard : Journal → List Heard
heard [] = []
heard (Came a ∷ before) = heard_one before a None (check_arrival a) ++ heard before
heard (Carried a reply ∷ before) = heard_one before a (Some reply) (check_arrival a) ++ heard before
heard (Settled s n ∷ before) = heard before

-- those whose key isn't heard earlier
abbrev pub first_arrivals : List Heard → List Heard
first_arrivals [] = []
first_arrivals (h ∷ earlier) =
    if list_any (has_key h.arrival.site h.arrival.number) earlier then first_arrivals earlier else h ∷ first_arrivals earlier

-- ---- the library and the stored replies

-- what a distinct run makes of the library: what its lines say, or nothing where it carries a refusal
abbrev pub outcome_of : Heard → LibraryView → Outcome
outcome_of h l = by h.carried
  where
    by : Option (List ℕ) → Outcome
    by None = outcome h.mode h.arrival l
    by (Some reply) = record { library = l; reply = record { accepted = false; text = reply } }

-- the library that distinct runs make, each applied once to what those before it have made
abbrev pub made_by : List Heard → LibraryView
made_by [] = empty
made_by (h ∷ earlier) = (outcome_of h (made_by earlier)).library

-- the library after a journal
abbrev pub library_after : Journal → LibraryView
library_after journal = made_by (distinct journal)

-- a run with its reply, as it is kept
abbrev pub run_of : Heard → ReplyView → RunView
run_of h reply = record {
  site = h.arrival.site;
  number = h.arrival.number;
  mode = mode_number h.mode;
  bytes = h.arrival.bytes;
  accepted = reply.accepted;
  reply = reply.text;
}

-- distinct runs, each with its reply
abbrev pub answered : List Heard → List RunView
answered [] = []
answered (h ∷ earlier) = run_of h (outcome_of h (made_by earlier)).reply ∷ answered earlier

-- what is kept under a key: the first arrival of it with its reply, as long as it isn't settled
abbrev pub kept : Journal → List ℕ → ℕ → Option RunView
kept journal site number = if nat_le number (mark journal site) then None else find (is_run site number) (answered (distinct journal))

-- whether a key has been used: its number is settled, or its run is kept
abbrev pub is_known : Journal → List ℕ → ℕ → Bool
is_known journal site number = nat_le number (mark journal site) || is_some (kept journal site number)

-- ---- answers

-- An arrival whose key is kept gets the first reply where mode and bytes are the same, and RunChanged where they differ;
-- one whose key isn't kept gets a reply of its own.
abbrev pub reply_to : Mode → ArrivalView → LibraryView → Option RunView → Result ReplyView Fault
reply_to mode a l None = Ok (outcome mode a l).reply
reply_to mode a l (Some run) =
    if (run.mode == mode_number mode) && bytes_eq run.bytes a.bytes
    then Ok (record { accepted = run.accepted; text = run.reply })
    else Err (record { kind = fault.RunChanged; at = 0 })

-- the answer to an arrival after a journal
abbrev pub answer : Journal → ArrivalView → Result ReplyView Fault
answer journal a = do
  mode ← check_arrival a
  _ ← at_line 0 (refuse_if (nat_le a.number (mark journal a.site)) fault.Settled)
  reply_to mode a (library_after journal) (kept journal a.site a.number)

-- ---- journals that are continued alike

-- Two journals are alike where they have the same distinct runs, in the same order, and the same marks.
pub record Alike (a b : Journal) : Type 0 where
  pub runs : distinct a ≡ distinct b
  pub marks : (site : List ℕ) → mark a site ≡ mark b site
