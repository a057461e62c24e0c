-- How a journal goes on with one more event.
use Rattle.upd_desk.proofs.Common.{◌≡◌, ℕ, nat_lt, Bool, true, false, not, ◌&&◌, if◌then◌else◌, List, [], ◌∷◌, None, Ok, Err, refl, list_any, Fault, Mode}
use Rattle.upd_desk.proofs.Common.{is_run, ArrivalView, check_arrival, Came, Heard, Journal, mark, has_key, distinct, answered}

-- an arrival that is refused by the admission checks changes nothing
pub unheard_unadmitted : (j : Journal) (a : ArrivalView) (fault : Fault) → check_arrival a ≡ Err fault → distinct (Came a ∷ j) ≡ distinct j
unheard_unadmitted j a fault refused = rw refused refl

-- one at or below the mark changes nothing
pub unheard_settled : (j : Journal) (a : ArrivalView) (mode : Mode) → check_arrival a ≡ Ok mode → nat_lt (mark j a.site) a.number ≡ false
    → distinct (Came a ∷ j) ≡ distinct j
unheard_settled j a mode passed below = rw (passed, below) refl

-- whether a key is among distinct runs, and whether a run is kept under it
pub answered_any : (site : List ℕ) (n : ℕ) (hs : List Heard) → list_any (is_run site n) (answered hs) ≡ list_any (has_key site n) hs
answered_any site n [] = refl
answered_any site n (h ∷ hs) = rw (answered_any site n hs) refl

-- one of a key that is there changes nothing
pub unheard_known : (j : Journal) (a : ArrivalView) (mode : Mode) → check_arrival a ≡ Ok mode → list_any (has_key a.site a.number) (distinct j) ≡ true
    → distinct (Came a ∷ j) ≡ distinct j
unheard_known j a mode passed known = rw passed (go (nat_lt (mark j a.site) a.number))
  where
    go : (above : Bool) → (if above && not (list_any (has_key a.site a.number) (distinct j))
        then record { arrival = a; mode = mode; carried = None } ∷ distinct j else distinct j) ≡ distinct j
    go false = refl
    go true = rw known refl

-- one of a new key above the mark is the latest of the distinct runs
pub heard_new : (j : Journal) (a : ArrivalView) (mode : Mode) → check_arrival a ≡ Ok mode → nat_lt (mark j a.site) a.number ≡ true
    → list_any (has_key a.site a.number) (distinct j) ≡ false → distinct (Came a ∷ j) ≡ record { arrival = a; mode = mode; carried = None } ∷ distinct j
heard_new j a mode passed above fresh = rw (passed, above, fresh) refl
