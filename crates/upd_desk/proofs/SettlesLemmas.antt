-- What each answer to a settlement makes of a desk over a store.
use Rattle.upd_desk.proofs.Common.{◌≡◌, ℕ, ◌<◌, ◌≤◌, nat_le, max, Bool, true, false, not, ◌⊎◌, if◌then◌else◌, List, ◌∷◌, Ok, Err, inl, inr, refl, ap, sym}
use Rattle.upd_desk.proofs.Common.{◌∙◌, subst, rules, arith, bytes_eq, false≢true, nat_tests, Fault, ◌>>=◌, at_line, refuse_if, Rows, Ghosts, IsLost, Keeps}
use Rattle.upd_desk.proofs.Common.{Tries, mark_at, settled_to, later_twice, max_right, same_bytes, is_run_number, is_site, check_key, Alike, Event, Settled}
use Rattle.upd_desk.proofs.Common.{Journal, Result, mark, library_after, Guards, Holds, HoldsIn, IsHeld, IsLeft, is_lost}
use Rattle.upd_text.specs.declared.fault.FaultKind.TheVariants as fault
use Rattle.upd_row_store.specs.Keeping.{FindsRows, LeavesWrite}
use Rattle.upd_row_store.proofs.TableLemmas.{shows_settled, states_settled}
use Rattle.upd_desk.specs.Holding.{IsIdleSettlement, Settles, mark_after}
use Rattle.upd_desk.proofs.ArrivesLemmas.{LeavesTables, holds_in_alike, left_held, left_here, left_more, lost_kind}
use Rattle.upd_desk.proofs.KeptLemmas.{kept_settled, mark_settled}

-- a refusal of a key is no lost call
pub key_not_lost : (site : List ℕ) (n : ℕ) (f : Fault) → check_key site n ≡ Err f → is_lost f.kind ≡ false
key_not_lost site n f refused = by_site (is_site site) refused
  where
    by_number : (number : Bool) → at_line 0 (refuse_if (not number) fault.BadNumber) ≡ Err f → is_lost f.kind ≡ false
    by_number true is = grind rules
    by_number false is = grind rules

    by_site : (good : Bool)
        → (at_line 0 (refuse_if (not good) fault.BadSite) >>= λ _. at_line 0 (refuse_if (not (is_run_number n)) fault.BadNumber)) ≡ Err f
        → is_lost f.kind ≡ false
    by_site false is = grind rules
    by_site true is = by_number (is_run_number n) is

-- a settlement at or below the mark changes nothing
pub alike_settled : (j : Journal) (s : List ℕ) (n : ℕ) → nat_le n (mark j s) ≡ true → Alike j (Settled s n ∷ j)
alike_settled j s n below = record { runs = refl; marks = λ site. go site (bytes_eq s site) refl }
  where
    go : (site : List ℕ) (same : Bool) → bytes_eq s site ≡ same → mark j site ≡ (if same then max n (mark j site) else mark j site)
    go site false is = refl
    go site true is =
        let here : nat_le n (mark j site) ≡ true = rw (← same_bytes s site is) below in
        sym (max_right n (mark j site) here)

-- tables that a settlement has changed hold what is expected after it
pub holds_settled : (j : Journal) (s : List ℕ) (n : ℕ) (rows : Rows) → Holds j rows → Holds (Settled s n ∷ j) (settled_to s n rows)
holds_settled j s n rows held = record {
  library = shows_settled s n rows (library_after j) held.library;
  states = states_settled s n rows (library_after j) held.states;
  runs = kept_settled j s n rows held.marks held.runs;
  marks = mark_settled j s n rows held.marks;
}

module _ {S : Type 0} {meaning : Ghosts S} where
  open meaning use {Image, shows, image, is_open, is_honest, may_leave}

  -- a refusal of the site or the number
  pub refuses_key : (site : List ℕ) (n : ℕ) (f : Fault) (old new : S) → Keeps meaning old new
      → check_key site n ≡ Err f → Settles meaning site n (Err f) old new
  refuses_key site n f old new keeps refused = record {
    later = keeps.later;
    opens = λ honest. tt;
    same = λ honest is idle. keeps.same honest is;
    answers = λ honest j held. inr (rw refused refl);
    holds = λ honest j held is. subst (HoldsIn shows j) (sym (keeps.same honest is)) (held (keeps.later.was_open honest is));
    leaves = λ honest j hand guards i may. rw (key_not_lost site n f refused) (guards.left i (keeps.crash honest i may));
  }

  -- a call that failed and tried no write
  pub loses_key : (site : List ℕ) (n : ℕ) (f : Fault) (old new : S) → Keeps meaning old new
      → IsLost f → Settles meaning site n (Err f) old new
  loses_key site n f old new keeps lost = record {
    later = keeps.later;
    opens = λ honest. tt;
    same = λ honest is idle. keeps.same honest is;
    answers = λ honest j held. inl lost;
    holds = λ honest j held is. subst (HoldsIn shows j) (sym (keeps.same honest is)) (held (keeps.later.was_open honest is));
    leaves = λ honest j hand guards i may. rw (lost_kind f lost) (left_more shows j (Settled site n) hand i (guards.left i (keeps.crash honest i may)));
  }

  -- what is at or below the mark is settled already: the mark is the answer
  pub tells_mark : (leaves : LeavesTables meaning) (site : List ℕ) (n m : ℕ) (old new : S)
      → Keeps meaning old new → (is_honest new → is_open new) → check_key site n ≡ Ok false
      → (is_honest new → (rows : Rows) → shows (image old) rows → m ≡ mark_at site rows) → n ≤ m → Settles meaning site n (Ok m) old new
  tells_mark leaves site n m old new keeps opens passed found below = record {
    later = keeps.later;
    opens = opens;
    same = λ honest is idle. keeps.same honest is;
    answers = λ honest j held. owed honest j (held (was_open honest));
    holds = holds;
    leaves = λ honest j hand guards i may.
        inl (left_held shows (Settled site n ∷ j) (image new) i (leaves new i honest (opens honest) may) (holds honest j guards.shown (opens honest)));
  }
    where
      was_open : is_honest new → is_open old
      was_open honest = keeps.later.was_open honest (opens honest)

      is_mark : is_honest new → (j : Journal) → HoldsIn shows j (image old) → m ≡ mark j site
      is_mark honest j (rows, shown, held) = found honest rows shown ∙ held.marks site

      lower : (mark : ℕ) → m ≡ mark → nat_le n mark ≡ true
      lower mark is = let under = below in grind (arith, nat_tests)

      alike : is_honest new → (j : Journal) → HoldsIn shows j (image old) → Alike j (Settled site n ∷ j)
      alike honest j held = alike_settled j site n (lower (mark j site) (is_mark honest j held))

      owed : is_honest new → (j : Journal) → HoldsIn shows j (image old) → mark_after j site n ≡ Ok m
      owed honest j held = rw passed (ap Ok (sym ((alike honest j held).marks site) ∙ sym (is_mark honest j held)))

      holds : is_honest new → (j : Journal) → IsHeld meaning j old → is_open new → HoldsIn shows (Settled site n ∷ j) (image new)
      holds honest j held is =
          let before = held (was_open honest) in
          subst (HoldsIn shows (Settled site n ∷ j)) (sym (keeps.same honest is))
          (holds_in_alike shows j (Settled site n ∷ j) (image old) (alike honest j before) before)

  -- a settlement that was carried out after a call that only read
  settles_after : (leaves : LeavesTables meaning) (site : List ℕ) (n before m : ℕ)
      (old mid new : S) → Keeps meaning old mid
      → (is_honest mid → (rows : Rows) → shows (image old) rows → before ≡ mark_at site rows) → before < n
      → Tries meaning (λ _. Unit {0}) (settled_to site n) mid new → (is_honest new → is_open new)
      → check_key site n ≡ Ok false
      → (is_honest new → (rows : Rows) → shows (image mid) rows
      → (m ≡ mark_at site (settled_to site n rows)) × shows (image new) (settled_to site n rows))
      → Settles meaning site n (Ok m) old new
  settles_after leaves site n before m old mid new keeps marks below tries opens passed done = record {
    later = later_twice keeps.later tries.later;
    opens = opens;
    same = λ honest is idle. absurd (unsettled honest idle);
    answers = λ honest j held. owed honest j (there honest j held);
    holds = λ honest j held is. holds honest j (there honest j held);
    leaves = λ honest j hand guards i may.
        inl (left_held shows (Settled site n ∷ j) (image new) i (leaves new i honest (opens honest) may) (holds honest j (there honest j guards.shown)));
  }
    where
      unsettled : is_honest new → IsIdleSettlement meaning site n (Ok m) old → ⊥
      unsettled honest (inl failed) = false≢true failed
      unsettled honest (inr (rows, shown, settled)) = let is = marks (tries.later.honest honest) rows shown in omega (arith, is, below, settled)

      there : is_honest new → (j : Journal) → IsHeld meaning j old → HoldsIn shows j (image mid)
      there honest j held =
          let before = tries.later.honest honest in
          let is = tries.later.was_open honest (opens honest) in
          subst (HoldsIn shows j) (sym (keeps.same before is)) (held (keeps.later.was_open before is))

      owed : is_honest new → (j : Journal) → HoldsIn shows j (image mid) → mark_after j site n ≡ Ok m
      owed honest j (rows, shown, held) =
          rw passed (ap Ok (sym (mark_settled j site n rows held.marks site) ∙ sym (done honest rows shown).0))

      holds : is_honest new → (j : Journal) → HoldsIn shows j (image mid) → HoldsIn shows (Settled site n ∷ j) (image new)
      holds honest j (rows, shown, held) = (settled_to site n rows, (done honest rows shown).1, holds_settled j site n rows held)

  -- a settlement that failed after such a call and may have been carried out: it is in hand
  loses_settlement : (site : List ℕ) (n : ℕ) (f : Fault) (old mid new : S) → Keeps meaning old mid
      → Tries meaning (λ _. Unit {0}) (settled_to site n) mid new → IsLost f
      → (is_honest new → is_open new → image new ≡ image mid) → Settles meaning site n (Err f) old new
  loses_settlement site n f old mid new keeps tries lost same = record {
    later = later_twice keeps.later tries.later;
    opens = λ honest. tt;
    same = λ honest is idle. same honest is ∙ keeps.same (tries.later.honest honest) (tries.later.was_open honest is);
    answers = λ honest j held. inl lost;
    holds = λ honest j held is.
        subst (HoldsIn shows j) (sym (same honest is)) (there (tries.later.honest honest) j held (tries.later.was_open honest is));
    leaves = λ honest j hand guards i may.
        rw (lost_kind f lost) (by (tries.later.honest honest) j hand guards i (tries.crash honest i may));
  }
    where
      there : is_honest mid → (j : Journal) → IsHeld meaning j old → is_open mid → HoldsIn shows j (image mid)
      there honest j held is = subst (HoldsIn shows j) (sym (keeps.same honest is)) (held (keeps.later.was_open honest is))

      carried : (j : Journal) (i : Image) → ((rows : Rows) → shows (image mid) rows → Unit {0} → shows i (settled_to site n rows))
          → HoldsIn shows j (image mid) → HoldsIn shows (Settled site n ∷ j) i
      carried j i writes (rows, shown, held) = (settled_to site n rows, writes rows shown tt, holds_settled j site n rows held)

      by : is_honest mid → (j : Journal) (hand : List Event) → Guards meaning j hand old → (i : Image)
          → may_leave mid i ⊎ (is_open mid × ((rows : Rows) → shows (image mid) rows → Unit {0} → shows i (settled_to site n rows)))
          → IsLeft shows j (Settled site n ∷ hand) i
      by honest j hand guards i (inl may) = left_more shows j (Settled site n) hand i (guards.left i (keeps.crash honest i may))
      by honest j hand guards i (inr (is, writes)) =
          left_here shows j (Settled site n) hand i (carried j i writes (there honest j guards.shown is))

  -- a settlement after a call that only read, whether it is carried out or fails
  pub settles_then : (leaves : LeavesTables meaning) (site : List ℕ) (n before : ℕ) (result : Result ℕ Fault) (old mid new : S) → Keeps meaning old mid
      → (is_honest mid → (rows : Rows) → shows (image old) rows → before ≡ mark_at site rows) → before < n → check_key site n ≡ Ok false
      → LeavesWrite meaning (λ _. Unit {0}) (settled_to site n) result mid new
      → FindsRows meaning result mid new (λ rows m. (m ≡ mark_at site (settled_to site n rows)) × shows (image new) (settled_to site n rows))
      → Settles meaning site n result old new
  settles_then leaves site n before (Ok m) old mid new keeps marks below passed writes done =
      settles_after leaves site n before m old mid new keeps marks below writes.crash writes.opens passed done
  settles_then leaves site n before (Err f) old mid new keeps marks below passed writes done =
      loses_settlement site n f old mid new keeps writes.crash writes.lost writes.undone
