-- Arrivals one after the other: one more at the end.
use Rattle.upd_desk.proofs.Common.{◌≡◌, ℕ, ◌+◌, ◌≤◌, false, List, [], ◌∷◌, ◌++◌, length, Result, Ok, Err, IfErr, OnOk, refl, sym, ◌∙◌, subst, rules, arith}
use Rattle.upd_desk.proofs.Common.{false≢true, Fault, Ghosts, failures_after, later_twice, ArrivalView, Event, Journal, ReplyView, AreArrivalFaults, RunAll}
use Rattle.upd_desk.proofs.Common.{Arrives, EndsInReply, HoldsIn, IsIdle, IsLeft, IsWork, ReadsNeededByAll, is_lost, failures_after_all, work_after_all}
use Rattle.upd_desk.proofs.Common.{needed_by}
use Rattle.std.proofs.Common.{IfOk, OnErr}
use Rattle.upd_row_store.proofs.StoreLemmas.{later_still}
use Rattle.upd_desk.specs.Holding.{AreAnswers, AreIdle, IsAnswer, IsArrivalFault, IsNoneLost, LooksAt, ReadsNeeded, needed_by_all}
use Rattle.upd_desk.specs.Holding.{after, after_all, in_hand_after, in_hand_after_all, work_after}
use Rattle.upd_desk.proofs.ArrivesLemmas.{idle_there}

after_more : (j : Journal) (list : List ArrivalView) (results : List (Result ReplyView Fault)) (a : ArrivalView) (result : Result ReplyView Fault)
    → length list ≡ length results → after_all j (list ++ a ∷ []) (results ++ result ∷ []) ≡ after (after_all j list results) a result
after_more j [] [] a result same = refl
after_more j [] (r ∷ results) a result same = grind (arith, same)
after_more j (b ∷ list) [] a result same = grind (arith, same)
after_more j (b ∷ list) (r ∷ results) a result same = after_more (after j b r) list results a result (omega (arith, same))

in_hand_more : (hand : List Event) (list : List ArrivalView) (results : List (Result ReplyView Fault)) (a : ArrivalView)
    (result : Result ReplyView Fault) → length list ≡ length results
    → in_hand_after_all hand (list ++ a ∷ []) (results ++ result ∷ []) ≡ in_hand_after a (in_hand_after_all hand list results) result
in_hand_more hand [] [] a result same = refl
in_hand_more hand [] (r ∷ results) a result same = grind (arith, same)
in_hand_more hand (b ∷ list) [] a result same = grind (arith, same)
in_hand_more hand (b ∷ list) (r ∷ results) a result same = in_hand_more (in_hand_after b hand r) list results a result (omega (arith, same))

work_more : (work : ℕ) (j : Journal) (list : List ArrivalView) (results : List (Result ReplyView Fault)) (a : ArrivalView)
    (result : Result ReplyView Fault) → length list ≡ length results → work_after_all work j (list ++ a ∷ []) (results ++ result ∷ [])
    ≡ work_after (work_after_all work j list results) (after_all j list results) a result
work_more work j [] [] a result same = refl
work_more work j [] (r ∷ results) a result same = grind (arith, same)
work_more work j (b ∷ list) [] a result same = grind (arith, same)
work_more work j (b ∷ list) (r ∷ results) a result same =
    work_more (work_after work j b r) (after j b r) list results a result (omega (arith, same))

answers_more : (j : Journal) (list : List ArrivalView) (results : List (Result ReplyView Fault)) (a : ArrivalView) (result : Result ReplyView Fault)
    → AreAnswers j list results → IsAnswer (after_all j list results) a result → AreAnswers j (list ++ a ∷ []) (results ++ result ∷ [])
answers_more j [] [] a result are is = (is, tt)
answers_more j [] (r ∷ results) a result are is = grind rules
answers_more j (b ∷ list) [] a result are is = grind rules
answers_more j (b ∷ list) (r ∷ results) a result are is = (are.0, answers_more (after j b r) list results a result are.1 is)

needed_more : (j : Journal) (list : List ArrivalView) (results : List (Result ReplyView Fault)) (a : ArrivalView)
    (result : Result ReplyView Fault) → length list ≡ length results → needed_by_all j (list ++ a ∷ []) (results ++ result ∷ [])
    ≡ needed_by_all j list results + length (needed_by (after_all j list results) a)
needed_more j [] [] a result same = omega arith
needed_more j [] (r ∷ results) a result same = grind (arith, same)
needed_more j (b ∷ list) [] a result same = grind (arith, same)
needed_more j (b ∷ list) (r ∷ results) a result same =
    let more = needed_more (after j b r) list results a result (omega (arith, same)) in omega (arith, more)

none_lost_more : (results : List (Result ReplyView Fault)) (result : Result ReplyView Fault) → IsNoneLost (results ++ result ∷ [])
    → IsNoneLost results × IfErr result (λ fault. is_lost fault.kind ≡ false)
none_lost_more [] result none = (tt, none.0)
none_lost_more (r ∷ results) result none = let both = none_lost_more results result none.1 in ((none.0, both.0), both.1)

-- the faults of one arrival more
pub faults_more : (list : List ArrivalView) (results : List (Result ReplyView Fault)) (a : ArrivalView) (result : Result ReplyView Fault)
    → AreArrivalFaults list results → IfErr result (IsArrivalFault a) → AreArrivalFaults (list ++ a ∷ []) (results ++ result ∷ [])
faults_more [] [] a result are is = (is, tt)
faults_more [] (r ∷ results) a result are is = absurd are
faults_more (b ∷ list) [] a result are is = absurd are
faults_more (b ∷ list) (r ∷ results) a result are is = (are.0, faults_more list results a result are.1 is)

-- after an answer that is a reply the store is open
pub opens_more : {Open : Type 0} (results : List (Result ReplyView Fault)) (result : Result ReplyView Fault) → OnOk result Open
    → EndsInReply (results ++ result ∷ []) → Open
opens_more [] (Ok reply) opens is = opens
opens_more [] (Err fault) opens is = absurd (false≢true is)
opens_more (x ∷ []) result opens is = opens_more [] result opens is
opens_more (x ∷ y ∷ results) result opens is = opens_more (y ∷ results) result opens is

-- the count of failures after one more answer
pub failures_more : (results : List (Result ReplyView Fault)) (result : Result ReplyView Fault) (n : ℕ)
    → failures_after_all (results ++ result ∷ []) n ≡ failures_after result (failures_after_all results n)
failures_more [] result n = refl
failures_more (r ∷ results) result n = failures_more results result (failures_after r n)

module _ {S : Type 0} (meaning : Ghosts S) where
  idle_more : (list : List ArrivalView) (results : List (Result ReplyView Fault)) (a : ArrivalView) (result : Result ReplyView Fault) (s : S)
      → length list ≡ length results → AreIdle meaning (list ++ a ∷ []) (results ++ result ∷ []) s
      → AreIdle meaning list results s × IsIdle meaning a result s
  idle_more [] [] a result s same idle = (tt, idle.0)
  idle_more [] (r ∷ results) a result s same idle = grind (arith, same)
  idle_more (b ∷ list) [] a result s same idle = grind (arith, same)
  idle_more (b ∷ list) (r ∷ results) a result s same idle =
      let both = idle_more list results a result s (omega (arith, same)) idle.1 in ((idle.0, both.0), both.1)

  -- no arrival reads nothing
  pub none_read_by : (s : S) → ReadsNeededByAll meaning [] [] s s
  none_read_by s honest j held none = omega arith

module _ {S : Type 0} {meaning : Ghosts S} where
  open meaning use {Image, shows, image, is_open, is_honest, decks_read_of}

  -- no arrival does nothing
  pub none_arrived : (s : S) → RunAll meaning [] [] s s
  none_arrived s = record {
    later = later_still s;
    same = λ honest is idle. refl;
    answers = λ honest j held. tt;
    holds = λ honest j held is. held is;
    leaves = λ honest j hand guards i may. guards.left i may;
  }

  -- one arrival more
  pub one_more : (list : List ArrivalView) (results : List (Result ReplyView Fault)) (a : ArrivalView) (result : Result ReplyView Fault)
      (old mid new : S) → length list ≡ length results → RunAll meaning list results old mid
      → Arrives meaning a result mid new
      → RunAll meaning (list ++ a ∷ []) (results ++ result ∷ []) old new
  one_more list results a result old mid new same all went = record {
    later = later_twice all.later went.later;
    same = λ honest is idle. let both = idle_more meaning list results a result old same idle in
        let there = all.same (went.later.honest honest) (went.later.was_open honest is) both.0 in
        went.same honest is (idle_there meaning a result old mid there both.1) ∙ there;
    answers = λ honest j held. answers_more j list results a result (all.answers (went.later.honest honest) j held)
        (went.answers honest (after_all j list results) (all.holds (went.later.honest honest) j held));
    holds = λ honest j held is. subst (λ k. HoldsIn shows k (image new)) (sym (after_more j list results a result same))
        (went.holds honest (after_all j list results) (all.holds (went.later.honest honest) j held) is);
    leaves = λ honest j hand guards i may. left j hand (went.leaves honest (after_all j list results) (in_hand_after_all hand list results) (record {
      shown = all.holds (went.later.honest honest) j guards.shown;
      left = all.leaves (went.later.honest honest) j hand guards;
    }) i may);
  }
    where
      left : (j : Journal) (hand : List Event) {i : Image}
          → IsLeft shows (after (after_all j list results) a result) (in_hand_after a (in_hand_after_all hand list results) result) i
          → IsLeft shows (after_all j (list ++ a ∷ []) (results ++ result ∷ [])) (in_hand_after_all hand (list ++ a ∷ []) (results ++ result ∷ [])) i
      left j hand {i} was = subst (λ k. IsLeft shows k (in_hand_after_all hand (list ++ a ∷ []) (results ++ result ∷ [])) i)
          (sym (after_more j list results a result same))
          (subst (λ h. IsLeft shows (after (after_all j list results) a result) h i) (sym (in_hand_more hand list results a result same)) was)

  -- the cards that are looked at for one arrival more
  pub work_one_more : (list : List ArrivalView) (results : List (Result ReplyView Fault)) (a : ArrivalView) (result : Result ReplyView Fault)
      (old mid new : S) (work before later : ℕ) → length list ≡ length results
      → RunAll meaning list results old mid
      → Arrives meaning a result mid new
      → (is_honest mid → (j : Journal) → (is_open old → HoldsIn shows j (image old)) → before ≡ work_after_all work j list results)
      → LooksAt meaning a result (λ _. later) mid new
      → OnErr result (later ≡ before)
      → is_honest new → (j : Journal) → (is_open old → HoldsIn shows j (image old))
      → later ≡ work_after_all work j (list ++ a ∷ []) (results ++ result ∷ [])
  work_one_more list results a result old mid new work before later same all went earlier looks idle honest j held =
      by result (looks honest (after_all j list results) (all.holds (went.later.honest honest) j held)) idle
      ∙ sym (work_more work j list results a result same)
    where
      by : (r : Result ReplyView Fault) → IfOk r (λ reply. IsWork (after_all j list results) a later) → OnErr r (later ≡ before)
          → later ≡ work_after (work_after_all work j list results) (after_all j list results) a r
      by (Ok reply) looked none = looked.0
      by (Err f) none stays = stays ∙ earlier (went.later.honest honest) j held

  -- the decks that are read for one arrival more
  pub reads_one_more : (list : List ArrivalView) (results : List (Result ReplyView Fault)) (a : ArrivalView) (result : Result ReplyView Fault)
      (old mid new : S) → length list ≡ length results
      → RunAll meaning list results old mid
      → Arrives meaning a result mid new
      → ReadsNeededByAll meaning list results old mid
      → ReadsNeeded meaning a result mid new
      → ReadsNeededByAll meaning (list ++ a ∷ []) (results ++ result ∷ []) old new
  reads_one_more list results a result old mid new same all went earlier needs honest j held heard =
      let both = none_lost_more results result heard in
      let before = earlier (went.later.honest honest) j held both.0 in
      let last = by result (needs.0 honest (after_all j list results) (all.holds (went.later.honest honest) j held)) needs.1 both.1 in
      let more = needed_more j list results a result same in
      omega (arith, before, last, more)
    where
      count : ℕ
      count = length (needed_by (after_all j list results) a)

      by : (r : Result ReplyView Fault) → OnOk r (decks_read_of new ≤ decks_read_of mid + count)
          → IfErr r (λ fault. is_lost fault.kind ≡ false → decks_read_of new ≡ decks_read_of mid)
          → IfErr r (λ fault. is_lost fault.kind ≡ false) → decks_read_of new ≤ decks_read_of mid + count
      by (Ok reply) reads unread answered = reads
      by (Err f) reads unread answered = let is = unread answered in omega (arith, is)
