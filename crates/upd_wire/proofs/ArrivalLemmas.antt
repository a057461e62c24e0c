-- Arrivals one after the other, and further ones behind them.
use Rattle.upd_wire.proofs.Common.{◌≡◌, List, [], ◌∷◌, ◌++◌, length, Result, refl, sym, ◌∙◌, subst, arith, Fault, Ghosts, ArrivalView, Event, Journal}
use Rattle.upd_wire.proofs.Common.{ReplyView, Arrives, HoldsIn, IsLeft, after, in_hand_after}
use Rattle.upd_row_store.proofs.StoreLemmas.{later_still, later_twice}
use Rattle.upd_desk.specs.Holding.{AreAnswers, AreIdle, RunAll, after_all, in_hand_after_all}
use Rattle.upd_desk.proofs.ArrivesLemmas.{idle_there}

after_further : (j : Journal) (list more : List ArrivalView) (results further : List (Result ReplyView Fault)) → length results ≡ length list
    → after_all j (list ++ more) (results ++ further) ≡ after_all (after_all j list results) more further
after_further j [] more [] further same = refl
after_further j [] more (r ∷ results) further same = absurd (omega (arith, same))
after_further j (a ∷ list) more [] further same = absurd (omega (arith, same))
after_further j (a ∷ list) more (r ∷ results) further same = after_further (after j a r) list more results further (omega (arith, same))

in_hand_further : (hand : List Event) (list more : List ArrivalView) (results further : List (Result ReplyView Fault)) → length results ≡ length list
    → in_hand_after_all hand (list ++ more) (results ++ further) ≡ in_hand_after_all (in_hand_after_all hand list results) more further
in_hand_further hand [] more [] further same = refl
in_hand_further hand [] more (r ∷ results) further same = absurd (omega (arith, same))
in_hand_further hand (a ∷ list) more [] further same = absurd (omega (arith, same))
in_hand_further hand (a ∷ list) more (r ∷ results) further same = in_hand_further (in_hand_after a hand r) list more results further (omega (arith, same))

answers_further : (j : Journal) (list more : List ArrivalView) (results further : List (Result ReplyView Fault))
    → AreAnswers j list results → AreAnswers (after_all j list results) more further → AreAnswers j (list ++ more) (results ++ further)
answers_further j [] more [] further are then = then
answers_further j [] more (r ∷ results) further are then = absurd are
answers_further j (a ∷ list) more [] further are then = absurd are
answers_further j (a ∷ list) more (r ∷ results) further are then = (are.0, answers_further (after j a r) list more results further are.1 then)

module _ {S : Type 0} (meaning : Ghosts S) where
  open meaning use {image}

  idle_further : (list more : List ArrivalView) (results further : List (Result ReplyView Fault)) (s : S) → length results ≡ length list
      → AreIdle meaning (list ++ more) (results ++ further) s → AreIdle meaning list results s × AreIdle meaning more further s
  idle_further [] more [] further s same idle = (tt, idle)
  idle_further [] more (r ∷ results) further s same idle = absurd (omega (arith, same))
  idle_further (a ∷ list) more [] further s same idle = absurd (omega (arith, same))
  idle_further (a ∷ list) more (r ∷ results) further s same idle =
      let both = idle_further list more results further s (omega (arith, same)) idle.1 in ((idle.0, both.0), both.1)

  -- arrivals that have to change nothing have to change nothing of a store with the same image
  all_idle_there : (list : List ArrivalView) (results : List (Result ReplyView Fault)) (old mid : S) → image mid ≡ image old
      → AreIdle meaning list results old → AreIdle meaning list results mid
  all_idle_there [] results old mid same idle = tt
  all_idle_there (a ∷ list) [] old mid same idle = tt
  all_idle_there (a ∷ list) (r ∷ results) old mid same idle =
      (idle_there meaning a r old mid same idle.0, all_idle_there list results old mid same idle.1)

module _ {S : Type 0} {meaning : Ghosts S} where
  open meaning use {Image, shows, image}

  -- no arrival does nothing
  pub none_arrived : (s : S) → RunAll meaning [] [] s s
  none_arrived s = record {
    later = later_still s;
    same = λ honest is idle. refl;
    answers = λ honest j held. tt;
    holds = λ honest j held is. held is;
    leaves = λ honest j hand guards i may. guards.left i may;
  }

  -- one arrival alone
  pub one_arrived : (a : ArrivalView) (result : Result ReplyView Fault) (old new : S)
      → Arrives meaning a result old new
      → RunAll meaning (a ∷ []) (result ∷ []) old new
  one_arrived a result old new went = record {
    later = went.later;
    same = λ honest is idle. went.same honest is idle.0;
    answers = λ honest j held. (went.answers honest j held, tt);
    holds = went.holds;
    leaves = went.leaves;
  }

  -- further arrivals
  pub further_arrived : (list more : List ArrivalView) (results further : List (Result ReplyView Fault)) (old mid new : S) → length results ≡ length list
      → RunAll meaning list results old mid
      → RunAll meaning more further mid new
      → RunAll meaning (list ++ more) (results ++ further) old new
  further_arrived list more results further old mid new same all went = record {
    later = later_twice all.later went.later;
    same = λ honest is idle. let both = idle_further meaning list more results further old same idle in
        let there = all.same (went.later.honest honest) (went.later.was_open honest is) both.0 in
        went.same honest is (all_idle_there meaning more further old mid there both.1) ∙ there;
    answers = λ honest j held. answers_further j list more results further (all.answers (went.later.honest honest) j held)
        (went.answers honest (after_all j list results) (all.holds (went.later.honest honest) j held));
    holds = λ honest j held is. subst (λ k. HoldsIn shows k (image new)) (sym (after_further j list more results further same))
        (went.holds honest (after_all j list results) (all.holds (went.later.honest honest) j held) is);
    leaves = λ honest j hand guards i may.
        left j hand (went.leaves honest (after_all j list results) (in_hand_after_all hand list results) (record {
          shown = all.holds (went.later.honest honest) j guards.shown;
          left = all.leaves (went.later.honest honest) j hand guards;
        }) i may);
  }
    where
      left : (j : Journal) (hand : List Event) {i : Image}
          → IsLeft shows (after_all (after_all j list results) more further) (in_hand_after_all (in_hand_after_all hand list results) more further) i
          → IsLeft shows (after_all j (list ++ more) (results ++ further)) (in_hand_after_all hand (list ++ more) (results ++ further)) i
      left j hand {i} was =
          subst (λ k. IsLeft shows k (in_hand_after_all hand (list ++ more) (results ++ further)) i) (sym (after_further j list more results further same))
          (subst (λ h. IsLeft shows (after_all (after_all j list results) more further) h i) (sym (in_hand_further hand list more results further same)) was)
