-- Journals that are continued alike, and what tables hold after one more event.
use Rattle.upd_desk.proofs.Common.{◌≡◌, ℕ, nat_lt, true, false, List, ◌∷◌, Option, Some, None, Result, Ok, Err, refl, ap, sym, ◌∙◌, subst, list_any, find}
use Rattle.upd_desk.proofs.Common.{option_map_or, Fault, Rows, Shows, ShowsStates, Mode, is_run, run_at, ArrivalView, check_arrival, Alike, Event, Came}
use Rattle.upd_desk.proofs.Common.{Carried, Settled, Heard, Journal, mark, has_key, with_arrival, distinct, made_by, library_after, answered, kept, outcome}
use Rattle.upd_desk.proofs.Common.{Holds, AddsRun}
use Rattle.upd_row_store.specs.Tables.{is_mark_of}
use Rattle.upd_desk.proofs.JournalLemmas.{answered_any, heard_new}
use Rattle.upd_desk.proofs.KeptLemmas.{kept_with_run, not_below}
use Rattle.upd_desk.proofs.RepeatLemmas.{missed}

-- an arrival that isn't heard changes nothing of how a journal goes on
pub alike_unheard : (j : Journal) (a : ArrivalView) → distinct (Came a ∷ j) ≡ distinct j → Alike j (Came a ∷ j)
alike_unheard j a same = record { runs = sym same; marks = λ site. refl }

with_alike : (a b : Journal) (x : ArrivalView) (carried : Option (List ℕ)) (d : Result Mode Fault) → Alike a b
    → with_arrival a (distinct a) x carried d ≡ with_arrival b (distinct b) x carried d
with_alike a b x carried (Ok mode) same = rw (same.runs, same.marks x.site) refl
with_alike a b x carried (Err fault) same = same.runs

-- journals that are continued alike do so after one more event
pub alike_more : (a b : Journal) (e : Event) → Alike a b → Alike (e ∷ a) (e ∷ b)
alike_more a b (Came x) same = record { runs = with_alike a b x None (check_arrival x) same; marks = same.marks }
alike_more a b (Carried x reply) same = record { runs = with_alike a b x (Some reply) (check_arrival x) same; marks = same.marks }
alike_more a b (Settled s n) same = record { runs = same.runs; marks = λ site. rw (same.marks site) refl }

-- tables that hold what is expected after a journal do so after one that is continued alike
pub holds_alike : (a b : Journal) (rows : Rows) → Alike a b → Holds a rows → Holds b rows
holds_alike a b rows same held = record {
  library = subst (λ runs. Shows rows (made_by runs)) same.runs held.library;
  states = subst (λ runs. ShowsStates rows (made_by runs)) same.runs held.states;
  runs = λ site n. held.runs site n ∙ rw (same.runs, same.marks site) refl;
  marks = λ site. held.marks site ∙ same.marks site;
}

-- a key that no run is kept under, above the mark, is none of those heard
pub unkept_key : (j : Journal) (site : List ℕ) (n : ℕ) → nat_lt (mark j site) n ≡ true → kept j site n ≡ None
    → list_any (has_key site n) (distinct j) ≡ false
unkept_key j site n above none =
    let found : kept j site n ≡ find (is_run site n) (answered (distinct j)) = rw (not_below (mark j site) n above) refl in
    sym (answered_any site n (distinct j)) ∙ missed (is_run site n) (answered (distinct j)) (sym found ∙ none)

pub unheard_key : (j : Journal) (rows : Rows) (site : List ℕ) (n : ℕ) → Holds j rows → nat_lt (mark j site) n ≡ true
    → run_at site n rows ≡ None → list_any (has_key site n) (distinct j) ≡ false
unheard_key j rows site n held above none = unkept_key j site n above (sym (held.runs site n) ∙ none)

-- tables that a new run was added to hold what is expected after its arrival
pub holds_new : (j : Journal) (a : ArrivalView) (mode : Mode) (rows new : Rows) → Holds j rows → check_arrival a ≡ Ok mode
    → nat_lt (mark j a.site) a.number ≡ true → run_at a.site a.number rows ≡ None → AddsRun mode a (library_after j) rows new → Holds (Came a ∷ j) new
holds_new j a mode rows new held passed above none adds =
    let fresh = unheard_key j rows a.site a.number held above none in
    let heard : distinct (Came a ∷ j) ≡ h ∷ distinct j = heard_new j a mode passed above fresh in
    record {
      library = subst (λ runs. Shows new (made_by runs)) (sym heard) adds.library;
      states = subst (λ runs. ShowsStates new (made_by runs)) (sym heard) adds.states;
      runs = λ site n. ap (find (is_run site n)) adds.runs
          ∙ kept_with_run j h (outcome mode a (library_after j)).reply rows held.runs above fresh site n ∙ rw heard refl;
      marks = λ site. ap (λ rows. option_map_or (λ m. m.mark) (find (is_mark_of site) rows) 0) adds.settled ∙ held.marks site;
    }
  where
    h : Heard
    h = record { arrival = a; mode = mode; carried = None }
