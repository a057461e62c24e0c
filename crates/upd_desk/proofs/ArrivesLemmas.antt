-- What each answer to an arrival makes of a desk over a store.
use Rattle.upd_desk.proofs.Common.{◌≡◌, ℕ, suc, ◌≤◌, ◌<◌, nat_lt, nat_le, Bool, true, false, ◌⊎◌, if◌then◌else◌, List, ◌∷◌, Option, Some, None, Result, Ok}
use Rattle.upd_desk.proofs.Common.{Err, ◌==◌, ◌&&◌, inl, inr, refl, ap, sym, ◌∙◌, subst, rules, arith, bytes_eq, false≢true, nat_tests, Fault, fault_at}
use Rattle.upd_desk.proofs.Common.{LibraryView, empty, RunView, Rows, Shows, ShowsStates, Mode, Ghosts, IsLost, Keeps, OfMemory, mark_at, run_at, keeps_still}
use Rattle.upd_desk.proofs.Common.{later_twice, ArrivalView, check_arrival, mode_number, Alike, Event, Came, Journal, answer, distinct, mark, reply_to}
use Rattle.upd_desk.proofs.Common.{library_after, IsMade, ReplyView, outcome, Arrives, Becomes, Guards, HoldsIn, IsHeld, IsIdle, IsLeft, TriesRun, is_lost}
use Rattle.std.proofs.Common.{IsSome}
use Rattle.upd_text.specs.declared.fault.FaultKind.TheVariants as fault
use Rattle.std.specs.Prelude.{IfErr, OnErr, OnOk}
use Rattle.std.specs.Result.{result_map_both}
use Rattle.upd_row_store.specs.Keeping.{OfStore, OpensOk}
use Rattle.upd_desk.specs.Holding.{FindsMade}
use Rattle.upd_desk.proofs.AlikeLemmas.{alike_more, alike_unheard, holds_alike, holds_new}
use Rattle.upd_desk.proofs.AnswerLemmas.{answer_again, answer_unadmitted, answer_new, answer_settled, admission_not_lost}
use Rattle.upd_desk.proofs.RepeatLemmas.{refused_unheard}

-- a fault that is lost is one by its kind
pub lost_kind : (f : Fault) → IsLost f → is_lost f.kind ≡ true
lost_kind f (OfMemory g is at) = rw is refl
lost_kind f (OfStore g is at) = rw is refl

-- a fault that isn't lost is no failure of a store
pub unstored : (f : Fault) → is_lost f.kind ≡ false → ¬ (f.kind ≡ fault.Store)
unstored f stays is = let clash : true ≡ false = sym (ap is_lost is) ∙ stays in grind rules

-- another run under a kept key is RunChanged
pub changed_is : (mode : Mode) (a : ArrivalView) (l : LibraryView) (run : RunView) (f : Fault) → Err f ≡ reply_to mode a l (Some run)
    → f ≡ fault_at fault.RunChanged 0
changed_is mode a l run f is = go ((run.mode == mode_number mode) && bytes_eq run.bytes a.bytes) is
  where
    row_changes : Result ReplyView Fault
    row_changes = Ok (record { accepted = run.accepted; text = run.reply })

    changed : Result ReplyView Fault
    changed = Err (record { kind = fault.RunChanged; at = 0 })

    go : (same : Bool) → Err f ≡ (if same then row_changes else changed) → f ≡ fault_at fault.RunChanged 0
    go true is = absurd (cc)
    go false is = cc is

pub changed_keeps : (mode : Mode) (a : ArrivalView) (l : LibraryView) (run : RunView) (f : Fault) → Err f ≡ reply_to mode a l (Some run)
    → is_lost f.kind ≡ false
changed_keeps mode a l run f is = ap (λ g. is_lost g.kind) (changed_is mode a l run f is)

-- ---- images

module _ {Image : Type 0} (shows : Image → Rows → Type 0) where
  pub holds_in_alike : (a b : Journal) (i : Image) → Alike a b → HoldsIn shows a i → HoldsIn shows b i
  holds_in_alike a b i alike held = (held.0, held.1, holds_alike a b held.0 alike held.2)

  -- what shows the same tables holds what is expected
  pub left_held : (j : Journal) (kept left : Image) → ((rows : Rows) → shows kept rows → shows left rows) → HoldsIn shows j kept → HoldsIn shows j left
  left_held j kept left same held = (held.0, same held.0 held.1, held.2)

  -- what is left after a journal is left after one that is continued alike
  pub left_alike : (a b : Journal) (hand : List Event) (i : Image) → Alike a b → IsLeft shows a hand i → IsLeft shows b hand i
  left_alike a b hand i alike (inl held) = inl (holds_in_alike a b i alike held)
  left_alike a b hand i alike (inr some) =
      inr (some.0, some.1, some.2, some.3, holds_in_alike (some.1 ∷ a) (some.1 ∷ b) i (alike_more a b some.1 alike) some.4)

  -- one more in hand leaves no less
  pub left_more : (j : Journal) (e : Event) (hand : List Event) (i : Image) → IsLeft shows j hand i → IsLeft shows j (e ∷ hand) i
  left_more j e hand i (inl held) = inl held
  left_more j e hand i (inr some) = inr (suc some.0, some.1, (let less = some.2 in omega (arith, less)), some.3, some.4)

  -- what is in hand may be left
  pub left_here : (j : Journal) (e : Event) (hand : List Event) (i : Image) → HoldsIn shows (e ∷ j) i → IsLeft shows j (e ∷ hand) i
  left_here j e hand i held = inr (0, e, grind arith, refl, held)

-- ---- answers

module _ {S : Type 0} (meaning : Ghosts S) where
  open meaning use {Image, shows, image, is_open, is_honest, may_leave}

  -- a crash leaves the tables that an open store keeps
  abbrev pub LeavesTables : Type 0
  LeavesTables = (s : S) (i : Image) → is_honest s → is_open s → may_leave s i → (rows : Rows) → shows (image s) rows → shows i rows

  -- an arrival that has to change nothing has to change nothing of a store with the same image
  pub idle_there : (a : ArrivalView) (result : Result ReplyView Fault) (old mid : S) → image mid ≡ image old → IsIdle meaning a result old
      → IsIdle meaning a result mid
  idle_there a result old mid same (inl failed) = inl failed
  idle_there a result old mid same (inr (rows, shown, some)) = inr (rows, subst (λ i. shows i rows) (sym same) shown, some)

  -- What is known of an arrival that is looked up: it passed the admission checks, its number is above the mark that the tables hold, and what is kept.
  pub record IsAsked (mode : Mode) (a : ArrivalView) (kept : Option RunView) (s : S) : Type 0 where
    pub passed : check_arrival a ≡ Ok mode
    pub above : is_open s → (rows : Rows) → shows (image s) rows → nat_lt (mark_at a.site rows) a.number ≡ true
    pub found : is_open s → (rows : Rows) → shows (image s) rows → run_at a.site a.number rows ≡ kept

module _ {S : Type 0} {meaning : Ghosts S} where
  open meaning use {Image, shows, image, is_open, is_honest, may_leave}

  held_after : (old new : S) → Keeps meaning old new → is_honest new → (j k : Journal) → Alike j k
      → IsHeld meaning j old → is_open new → HoldsIn shows k (image new)
  held_after old new keeps honest j k alike held is =
      subst (HoldsIn shows k) (sym (keeps.same honest is)) (holds_in_alike shows j k (image old) alike (held (keeps.later.was_open honest is)))

  -- A call that only read, and a refusal that isn't kept: nothing changed, and the journal is continued alike.
  pub refuses : (a : ArrivalView) (f : Fault) (old new : S) → Keeps meaning old new
      → is_lost f.kind ≡ false → (is_honest new → (j : Journal) → IsHeld meaning j old → answer j a ≡ Err f) → Arrives meaning a (Err f) old new
  refuses a f old new keeps stays answers = record {
    later = keeps.later;
    opens = λ honest. tt;
    same = λ honest is idle. keeps.same honest is;
    answers = λ honest j held. inr (answers honest j held);
    holds = λ honest j held is. rw stays (held_after old new keeps honest j (Came a ∷ j) (alike honest j held) held is);
    leaves = λ honest j hand guards i may.
        rw stays (left_alike shows j (Came a ∷ j) hand i (alike honest j guards.shown) (guards.left i (keeps.crash honest i may)));
  }
    where
      alike : is_honest new → (j : Journal) → IsHeld meaning j old → Alike j (Came a ∷ j)
      alike honest j held = alike_unheard j a (refused_unheard j a f (answers honest j held))

  -- A call that only read, and a stored reply: nothing changed, and nothing is in hand.
  pub tells : (leaves : LeavesTables meaning) (a : ArrivalView) (reply : ReplyView)
      (old new : S) → Keeps meaning old new → (is_honest new → is_open new)
      → (is_honest new → (j : Journal) → IsHeld meaning j old → (answer j a ≡ Ok reply) × (distinct (Came a ∷ j) ≡ distinct j))
      → Arrives meaning a (Ok reply) old new
  tells leaves a reply old new keeps opens answers = record {
    later = keeps.later;
    opens = opens;
    same = λ honest is idle. keeps.same honest is;
    answers = λ honest j held. (answers honest j held).0;
    holds = holds;
    leaves = λ honest j hand guards i may.
        inl (left_held shows (Came a ∷ j) (image new) i (leaves new i honest (opens honest) may) (holds honest j guards.shown (opens honest)));
  }
    where
      holds : is_honest new → (j : Journal) → IsHeld meaning j old → is_open new → HoldsIn shows (Came a ∷ j) (image new)
      holds honest j held is = held_after old new keeps honest j (Came a ∷ j) (alike_unheard j a (answers honest j held).1) held is

  -- A call that failed and tried no write: nothing changed, and the arrival didn't happen.
  pub loses : (a : ArrivalView) (f : Fault) (old new : S) → Keeps meaning old new
      → IsLost f → Arrives meaning a (Err f) old new
  loses a f old new keeps lost = record {
    later = keeps.later;
    opens = λ honest. tt;
    same = λ honest is idle. keeps.same honest is;
    answers = λ honest j held. inl lost;
    holds = λ honest j held is. rw (lost_kind f lost) (subst (HoldsIn shows j) (sym (keeps.same honest is)) (held (keeps.later.was_open honest is)));
    leaves = λ honest j hand guards i may. rw (lost_kind f lost) (left_more shows j (Came a) hand i (guards.left i (keeps.crash honest i may)));
  }

  becomes_held : (made : (j : Journal) → IsMade (library_after j)) (mode : Mode) (a : ArrivalView) (old : S) (i : Image) (j : Journal)
      → IsAsked meaning mode a None old
      → is_open old → HoldsIn shows j (image old) → Becomes shows mode a (image old) i → HoldsIn shows (Came a ∷ j) i
  becomes_held made mode a old i j new is (rows, shown, held) becomes =
      let later = becomes (library_after j) (made j) rows shown held.library held.states in
      let above : nat_lt (mark j a.site) a.number ≡ true = rw (← held.marks a.site) (new.above is rows shown) in
      (later.0, later.1, holds_new j a mode rows later.0 held new.passed above (new.found is rows shown) later.2)

  -- A call that failed and may have tried to keep a new run: it is in hand.
  loses_new : (made : (j : Journal) → IsMade (library_after j)) (mode : Mode) (a : ArrivalView) (f : Fault) (old new : S)
      → TriesRun meaning mode a old new → (is_honest old → IsAsked meaning mode a None old) → IsLost f
      → (is_honest new → is_open new → image new ≡ image old) → Arrives meaning a (Err f) old new
  loses_new made mode a f old new tries is_new lost same = record {
    later = tries.later;
    opens = λ honest. tt;
    same = λ honest is idle. same honest is;
    answers = λ honest j held. inl lost;
    holds = λ honest j held is. rw (lost_kind f lost) (subst (HoldsIn shows j) (sym (same honest is)) (held (tries.later.was_open honest is)));
    leaves = λ honest j hand guards i may. rw (lost_kind f lost) (by honest j hand guards i (tries.crash honest i may));
  }
    where
      by : is_honest new → (j : Journal) (hand : List Event) → Guards meaning j hand old → (i : Image)
          → may_leave old i ⊎ (is_open old × Becomes shows mode a (image old) i) → IsLeft shows j (Came a ∷ hand) i
      by honest j hand guards i (inl may) = left_more shows j (Came a) hand i (guards.left i may)
      by honest j hand guards i (inr (is, becomes)) = left_here shows j (Came a) hand i
          (becomes_held made mode a old i j (is_new (tries.later.honest honest)) is (guards.shown is) becomes)

  -- A new run was kept: the store holds the journal with it, and nothing is in hand.
  keeps_new : (made : (j : Journal) → IsMade (library_after j))
      (leaves : LeavesTables meaning) (mode : Mode) (a : ArrivalView) (reply : ReplyView)
      (old new : S) → TriesRun meaning mode a old new → (is_honest old → IsAsked meaning mode a None old)
      → (is_honest new → is_open new) → (is_honest new → Becomes shows mode a (image old) (image new))
      → (is_honest new → (l : LibraryView) → IsMade l → (rows : Rows) → shows (image old) rows → Shows rows l → ShowsStates rows l
      → reply ≡ (outcome mode a l).reply)
      → Arrives meaning a (Ok reply) old new
  keeps_new made leaves mode a reply old new tries is_new opens becomes replies = record {
    later = tries.later;
    opens = opens;
    same = λ honest is idle. absurd (unknown honest idle);
    answers = λ honest j held. owed honest j (held (was_open honest));
    holds = holds;
    leaves = λ honest j hand guards i may.
        inl (left_held shows (Came a ∷ j) (image new) i (leaves new i honest (opens honest) may) (holds honest j guards.shown (opens honest)));
  }
    where
      was_open : is_honest new → is_open old
      was_open honest = tries.later.was_open honest (opens honest)

      unknown : is_honest new → IsIdle meaning a (Ok reply) old → ⊥
      unknown honest (inl failed) = false≢true failed
      unknown honest (inr (rows, shown, some)) =
          false≢true (subst IsSome ((is_new (tries.later.honest honest)).found (was_open honest) rows shown) some)

      holds : is_honest new → (j : Journal) → IsHeld meaning j old → is_open new → HoldsIn shows (Came a ∷ j) (image new)
      holds honest j held is =
          becomes_held made mode a old (image new) j (is_new (tries.later.honest honest)) (was_open honest) (held (was_open honest)) (becomes honest)

      owed : is_honest new → (j : Journal) → HoldsIn shows j (image old) → answer j a ≡ Ok reply
      owed honest j (rows, shown, held) =
          let new = is_new (tries.later.honest honest) in
          let first = answer_new j a mode rows held new.passed (new.above (was_open honest) rows shown) (new.found (was_open honest) rows shown) in
          first ∙ ap Ok (sym (replies honest (library_after j) (made j) rows shown held.library held.states))

  -- a new run, whether it is kept or lost
  pub new_arrives : (made : (j : Journal) → IsMade (library_after j)) (leaves : LeavesTables meaning) {A : Type 0} (told : A → ReplyView) (mode : Mode)
      (a : ArrivalView) (result : Result A Fault) (old new : S) → TriesRun meaning mode a old new → (is_honest old → IsAsked meaning mode a None old)
      → OpensOk meaning result new → (is_honest new → OnOk result (Becomes shows mode a (image old) (image new)))
      → FindsMade meaning result old new (λ l rows answered. ShowsStates rows l → told answered ≡ (outcome mode a l).reply)
      → IfErr result IsLost → (is_honest new → is_open new → OnErr result (image new ≡ image old))
      → Arrives meaning a (result_map_both told (λ f. f) result) old new
  new_arrives made leaves told mode a (Ok answered) old new tries is_new opens becomes replies lost same =
      keeps_new made leaves mode a (told answered) old new tries is_new opens becomes replies
  new_arrives made leaves told mode a (Err f) old new tries is_new opens becomes replies lost same =
      loses_new made mode a f old new tries is_new lost same

  -- ---- calls before that only read

  -- what an arrival does after such calls it does with them
  pub keeps_arrives : (a : ArrivalView) (result : Result ReplyView Fault) (old mid new : S)
      → Keeps meaning old mid → Arrives meaning a result mid new → Arrives meaning a result old new
  keeps_arrives a result old mid new keeps went = record {
    later = later_twice keeps.later went.later;
    opens = went.opens;
    same = λ honest is idle. let there = keeps.same (went.later.honest honest) (went.later.was_open honest is) in
        went.same honest is (idle_there meaning a result old mid there idle) ∙ there;
    answers = λ honest j held. went.answers honest j (later (went.later.honest honest) j held);
    holds = λ honest j held is. went.holds honest j (later (went.later.honest honest) j held) is;
    leaves = λ honest j hand guards i may. went.leaves honest j hand
        (record {
          shown = later (went.later.honest honest) j guards.shown;
          left = λ i may. guards.left i (keeps.crash (went.later.honest honest) i may);
        }) i may;
  }
    where
      later : is_honest mid → (j : Journal) → IsHeld meaning j old → IsHeld meaning j mid
      later honest j held is = subst (HoldsIn shows j) (sym (keeps.same honest is)) (held (keeps.later.was_open honest is))

  -- what is known once the mark and the stored run were read
  pub asked : (mode : Mode) (a : ArrivalView) (m : ℕ) (kept : Option RunView) (old mid new : S)
      → Keeps meaning old mid → Keeps meaning mid new
      → check_arrival a ≡ Ok mode → m < a.number
      → (is_honest mid → (rows : Rows) → shows (image old) rows → m ≡ mark_at a.site rows)
      → (is_honest new → (rows : Rows) → shows (image mid) rows → kept ≡ run_at a.site a.number rows)
      → is_honest new → IsAsked meaning mode a kept new
  asked mode a m kept old mid new first last passed above marks runs honest = record {
    passed = passed;
    above = λ is rows shown. higher (mark_at a.site rows) (marks before rows (there is rows shown));
    found = λ is rows shown. sym (runs honest rows (subst (λ i. shows i rows) (last.same honest is) shown));
  }
    where
      before : is_honest mid
      before = last.later.honest honest

      there : is_open new → (rows : Rows) → shows (image new) rows → shows (image old) rows
      there is rows shown = subst (λ i. shows i rows) (last.same honest is ∙ first.same before (last.later.was_open honest is)) shown

      higher : (mark : ℕ) → m ≡ mark → nat_lt mark a.number ≡ true
      higher mark is = let over = above in grind (arith, nat_tests)

  -- ---- the answers after them

  pub refuses_unadmitted : (a : ArrivalView) (f : Fault) (s : S) → Err f ≡ check_arrival a → Arrives meaning a (Err f) s s
  refuses_unadmitted a f s refused = refuses a f s s (keeps_still s) (admission_not_lost a f (sym refused))
      (λ honest j held. answer_unadmitted j a f (sym refused))

  pub refuses_settled : (mode : Mode) (a : ArrivalView) (m : ℕ) (f : Fault) (old new : S)
      → Keeps meaning old new → (is_honest new → is_open new) → check_arrival a ≡ Ok mode → a.number ≤ m
      → (is_honest new → (rows : Rows) → shows (image old) rows → m ≡ mark_at a.site rows) → f ≡ record { kind = fault.Settled; at = 0 }
      → Arrives meaning a (Err f) old new
  refuses_settled mode a m f old new keeps opens passed below marks is = refuses a f old new keeps (ap (λ g. is_lost g.kind) is) owed
    where
      lower : (mark : ℕ) → m ≡ mark → nat_le a.number mark ≡ true
      lower mark same = let under = below in grind (arith, nat_tests)

      by : (j : Journal) → is_honest new → HoldsIn shows j (image old) → answer j a ≡ Err f
      by j honest (rows, shown, held) = answer_settled j a mode rows held passed (lower (mark_at a.site rows) (marks honest rows shown)) ∙ ap Err (sym is)

      owed : is_honest new → (j : Journal) → IsHeld meaning j old → answer j a ≡ Err f
      owed honest j held = by j honest (held (keeps.later.was_open honest (opens honest)))

  known : (mode : Mode) (a : ArrivalView) (run : RunView) (s : S) (j : Journal) → is_open s → IsAsked meaning mode a (Some run) s
      → HoldsIn shows j (image s) → (answer j a ≡ reply_to mode a (library_after j) (Some run)) × (distinct (Came a ∷ j) ≡ distinct j)
  known mode a run s j is asks (rows, shown, held) = answer_again j a mode rows run held asks.passed (asks.above is rows shown) (asks.found is rows shown)

  pub tells_kept : (leaves : LeavesTables meaning) (mode : Mode) (a : ArrivalView)
      (run : RunView) (reply : ReplyView) (s : S) → (is_honest s → is_open s) → (is_honest s → IsAsked meaning mode a (Some run) s)
      → ((l : LibraryView) → Ok reply ≡ reply_to mode a l (Some run)) → Arrives meaning a (Ok reply) s s
  tells_kept leaves mode a run reply s opens asks row_changes = tells leaves a reply s s (keeps_still s) opens owed
    where
      owed : is_honest s → (j : Journal) → IsHeld meaning j s → (answer j a ≡ Ok reply) × (distinct (Came a ∷ j) ≡ distinct j)
      owed honest j held =
          let both = known mode a run s j (opens honest) (asks honest) (held (opens honest)) in
          (both.0 ∙ sym (row_changes (library_after j)), both.1)

  pub refuses_changed : (mode : Mode) (a : ArrivalView) (run : RunView) (f : Fault) (s : S) → (is_honest s → is_open s)
      → (is_honest s → IsAsked meaning mode a (Some run) s) → ((l : LibraryView) → Err f ≡ reply_to mode a l (Some run)) → Arrives meaning a (Err f) s s
  refuses_changed mode a run f s opens asks row_changes = refuses a f s s (keeps_still s)
      (changed_keeps mode a empty run f (row_changes empty))
      (λ honest j held. (known mode a run s j (opens honest) (asks honest) (held (opens honest))).0 ∙ sym (row_changes (library_after j)))
