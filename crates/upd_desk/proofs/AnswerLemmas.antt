-- Which answer an arrival gets, by what the tables hold.
use Rattle.upd_desk.proofs.Common.{◌≡◌, nat_lt, nat_le, Bool, true, false, not, ◌∷◌, Option, Some, None, Result, Ok, Err, length, refl, ap, sym, ◌∙◌, rules}
use Rattle.upd_desk.proofs.Common.{Fault, ◌>>=◌, at_line, need, refuse_if, RunView, Rows, Mode, mode_named, run_at, mark_at, is_site, is_run_number}
use Rattle.upd_desk.proofs.Common.{ArrivalView, check_arrival, Came, Journal, mark, distinct, library_after, kept, reply_to, answer, ReplyView, outcome}
use Rattle.upd_desk.proofs.Common.{Holds, is_lost}
use Rattle.upd_text.specs.declared.fault.FaultKind.TheVariants as fault
use Rattle.upd_text.specs.declared.limits.TheConstants.{MAX_RUN_BYTES}
use Rattle.upd_desk.proofs.JournalLemmas.{unheard_known}
use Rattle.upd_desk.proofs.KeptLemmas.{not_below}
use Rattle.upd_desk.proofs.RepeatLemmas.{known_where_kept}

-- a refusal by the admission checks is the answer
pub answer_unadmitted : (j : Journal) (a : ArrivalView) (fault : Fault) → check_arrival a ≡ Err fault → answer j a ≡ Err fault
answer_unadmitted j a fault refused = rw refused refl

-- a refusal by the admission checks is no lost call
pub admission_not_lost : (a : ArrivalView) (f : Fault) → check_arrival a ≡ Err f → is_lost f.kind ≡ false
admission_not_lost a f refused = by_site (is_site a.site) refused
  where
    after_mode : Mode → Bool → Result Mode Fault
    after_mode mode long = at_line 0 (refuse_if long fault.RunLong) >>= λ _. Ok mode

    after_number : Option Mode → Result Mode Fault
    after_number mode = at_line 0 (need fault.BadMode mode) >>= λ mode. after_mode mode (nat_lt MAX_RUN_BYTES (length a.bytes))

    after_site : Bool → Result Mode Fault
    after_site number = at_line 0 (refuse_if (not number) fault.BadNumber) >>= λ _. after_number (mode_named a.mode)

    by_length : (mode : Mode) (long : Bool) → after_mode mode long ≡ Err f → is_lost f.kind ≡ false
    by_length mode true is = grind rules
    by_length mode false is = grind rules

    by_mode : (mode : Option Mode) → after_number mode ≡ Err f → is_lost f.kind ≡ false
    by_mode None is = grind rules
    by_mode (Some mode) is = by_length mode (nat_lt MAX_RUN_BYTES (length a.bytes)) is

    by_number : (number : Bool) → after_site number ≡ Err f → is_lost f.kind ≡ false
    by_number false is = grind rules
    by_number true is = by_mode (mode_named a.mode) is

    by_site : (site : Bool)
        → (at_line 0 (refuse_if (not site) fault.BadSite) >>= λ _. at_line 0 (refuse_if (not (is_run_number a.number)) fault.BadNumber))
        >>= (λ _. after_number (mode_named a.mode)) ≡ Err f
        → is_lost f.kind ≡ false
    by_site false is = grind rules
    by_site true is = by_number (is_run_number a.number) is

-- a number at or below the mark that the tables hold is settled
pub answer_settled : (j : Journal) (a : ArrivalView) (mode : Mode) (rows : Rows) → Holds j rows → check_arrival a ≡ Ok mode
    → nat_le a.number (mark_at a.site rows) ≡ true → answer j a ≡ Err (record { kind = fault.Settled; at = 0 })
answer_settled j a mode rows held passed below =
    let settled : nat_le a.number (mark j a.site) ≡ true = rw (← held.marks a.site) below in
    rw (passed, settled) refl

-- above it the answer goes by what is kept under the key
answer_above : (j : Journal) (a : ArrivalView) (mode : Mode) (rows : Rows) (run : Option RunView) → Holds j rows → check_arrival a ≡ Ok mode
    → nat_lt (mark_at a.site rows) a.number ≡ true → run_at a.site a.number rows ≡ run → answer j a ≡ reply_to mode a (library_after j) run
answer_above j a mode rows run held passed above is =
    let higher : nat_lt (mark j a.site) a.number ≡ true = rw (← held.marks a.site) above in
    let kept_is : kept j a.site a.number ≡ run = sym (held.runs a.site a.number) ∙ is in
    by (not_below (mark j a.site) a.number higher) kept_is
  where
    by : nat_le a.number (mark j a.site) ≡ false → kept j a.site a.number ≡ run → answer j a ≡ reply_to mode a (library_after j) run
    by high kept_is = ap (λ m. go m (nat_le a.number (mark j a.site)) (kept j a.site a.number)) passed
        ∙ ap (λ b. go (Ok mode) b (kept j a.site a.number)) high ∙ ap (reply_to mode a (library_after j)) kept_is
      where
        go : Result Mode Fault → Bool → Option RunView → Result ReplyView Fault
        go d settled k = d >>= λ mode. at_line 0 (refuse_if settled fault.Settled) >>= λ _. reply_to mode a (library_after j) k

-- a key that is kept gets what is kept, and isn't heard again
pub answer_again : (j : Journal) (a : ArrivalView) (mode : Mode) (rows : Rows) (run : RunView) → Holds j rows → check_arrival a ≡ Ok mode
    → nat_lt (mark_at a.site rows) a.number ≡ true → run_at a.site a.number rows ≡ Some run
    → (answer j a ≡ reply_to mode a (library_after j) (Some run)) × (distinct (Came a ∷ j) ≡ distinct j)
answer_again j a mode rows run held passed above is = (
  answer_above j a mode rows (Some run) held passed above is,
  unheard_known j a mode passed (known_where_kept j a.site a.number run (sym (held.runs a.site a.number) ∙ is)),
)

-- a new key gets the reply of its own outcome
pub answer_new : (j : Journal) (a : ArrivalView) (mode : Mode) (rows : Rows) → Holds j rows → check_arrival a ≡ Ok mode
    → nat_lt (mark_at a.site rows) a.number ≡ true → run_at a.site a.number rows ≡ None → answer j a ≡ Ok (outcome mode a (library_after j)).reply
answer_new j a mode rows held passed above is = answer_above j a mode rows None held passed above is
