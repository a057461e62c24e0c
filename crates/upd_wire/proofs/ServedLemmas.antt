-- A desk that serves calls holds the journal that goes on with them.
use Rattle.upd_wire.proofs.Common.{◌≡◌, ℕ, List, [], ◌∷◌, Some, None, Result, Ok, Err, refl, sym, subst, result_map_both, Fault, Ghosts, HoldsIn, IsLeft}
use Rattle.upd_wire.proofs.Common.{after, in_hand_after, Event, Journal, Settled, ReplyView, Asked, run, settle, compile, deck, card, idents, yanks, Response}
use Rattle.upd_wire.proofs.Common.{reply_response, DoesAsAsked, IsMarkResponse, LeadsThrough, Made}
use Rattle.upd_row_store.specs.Keeping.{Keeps}
use Rattle.upd_desk.specs.Arrivals.{arrival_view}
use Rattle.upd_desk.specs.Holding.{Guards, after_settlement, in_hand_after_settlement}
use Rattle.upd_desk.specs.Journal.{Came}
use Rattle.upd_wire.specs.Served.{after_call, after_calls, after_mark, after_run, in_hand_after_call, in_hand_after_calls, in_hand_with}
use Rattle.upd_wire.specs.Serving.{Leads}

-- the journal and what is in hand after a call, as the desk says it and as its answer says it
run_after : (journal : Journal) (site : List ℕ) (number : ℕ) (mode bytes : List ℕ) (result : Result ReplyView Fault) (told : Result Response Fault)
    → told ≡ result_map_both reply_response (λ fault. fault) result
    → after journal (arrival_view site number mode bytes) result ≡ after_run journal (Came (arrival_view site number mode bytes)) told
run_after journal site number mode bytes (Ok reply) told same =
    subst (λ t. Came (arrival_view site number mode bytes) ∷ journal ≡ after_run journal (Came (arrival_view site number mode bytes)) t) (sym same) refl
run_after journal site number mode bytes (Err fault) told same =
    subst (λ t. after journal (arrival_view site number mode bytes) (Err fault) ≡ after_run journal (Came (arrival_view site number mode bytes)) t)
    (sym same) refl

run_in_hand : (in_hand : List Event) (site : List ℕ) (number : ℕ) (mode bytes : List ℕ) (result : Result ReplyView Fault) (told : Result Response Fault)
    → told ≡ result_map_both reply_response (λ fault. fault) result
    → in_hand_after (arrival_view site number mode bytes) in_hand result ≡ in_hand_with in_hand (Came (arrival_view site number mode bytes)) told
run_in_hand in_hand site number mode bytes (Ok reply) told same =
    subst (λ t. [] ≡ in_hand_with in_hand (Came (arrival_view site number mode bytes)) t) (sym same) refl
run_in_hand in_hand site number mode bytes (Err fault) told same =
    subst (λ t. in_hand_after (arrival_view site number mode bytes) in_hand (Err fault) ≡ in_hand_with in_hand (Came (arrival_view site number mode bytes)) t)
    (sym same) refl

mark_after_told : (journal : Journal) (site : List ℕ) (n : ℕ) (result : Result ℕ Fault) (told : Result Response Fault) → IsMarkResponse site result told
    → after_settlement journal site n result ≡ after_mark journal (Settled site n) told
mark_after_told journal site n (Ok m) told (body, same, text) = subst (λ t. Settled site n ∷ journal ≡ after_mark journal (Settled site n) t) (sym same) refl
mark_after_told journal site n (Err fault) told same = subst (λ t. journal ≡ after_mark journal (Settled site n) t) (sym same) refl

mark_in_hand : (in_hand : List Event) (site : List ℕ) (n : ℕ) (result : Result ℕ Fault) (told : Result Response Fault) → IsMarkResponse site result told
    → in_hand_after_settlement site n in_hand result ≡ in_hand_with in_hand (Settled site n) told
mark_in_hand in_hand site n (Ok m) told (body, same, text) = subst (λ t. [] ≡ in_hand_with in_hand (Settled site n) t) (sym same) refl
mark_in_hand in_hand site n (Err fault) told same =
    subst (λ t. in_hand_after_settlement site n in_hand (Err fault) ≡ in_hand_with in_hand (Settled site n) t) (sym same) refl

module _ {S : Type 0} (meaning : Ghosts S) where
  open meaning use {shows, image, is_open, is_honest, may_leave}

  -- a store that guards a journal guards it under another name
  renamed : (store : S) (j k : Journal) (h i : List Event) → j ≡ k → h ≡ i → Guards meaning j h store → Guards meaning k i store
  renamed store j k h i same_journal same_hand guards =
      subst (λ x. Guards meaning k x store) same_hand (subst (λ x. Guards meaning x h store) same_journal guards)

  -- a query leaves what the store guards
  kept : (old new : S) (j : Journal) (h : List Event) → Keeps meaning old new → is_honest new → Guards meaning j h old → Guards meaning j h new
  kept old new j h keeps honest guards = record {
    shown = λ opened. subst (λ i. HoldsIn shows j i) (sym (keeps.same honest opened)) (guards.shown (keeps.later.was_open honest opened));
    left = λ i may. guards.left i (keeps.crash honest i may);
  }

  -- a call that was honest at its end was so at its beginning
  honest_before : (made : Made) (old new : S) → Leads meaning made old new → is_honest new → is_honest old
  honest_before None old new same honest = subst is_honest same honest
  honest_before (Some (run site number mode bytes, told)) old new (result, arrives, fails, same) honest = arrives.later.honest honest
  honest_before (Some (settle site n, told)) old new (result, settles, fails, tells) honest = settles.later.honest honest
  honest_before (Some (compile, told)) old new (result, tells, keeps, fails, same) honest = keeps.later.honest honest
  honest_before (Some (deck name, told)) old new (result, tells, keeps, fails, same) honest = keeps.later.honest honest
  honest_before (Some (card c, told)) old new (result, tells, keeps, fails, same) honest = keeps.later.honest honest
  honest_before (Some (idents, told)) old new (result, tells, keeps, fails, same) honest = keeps.later.honest honest
  honest_before (Some (yanks, told)) old new (result, tells, keeps, fails, same) honest = keeps.later.honest honest

  -- one call
  goes_on : (made : Made) (old new : S) → Leads meaning made old new → is_honest new → (j : Journal) (h : List Event) → Guards meaning j h old
      → Guards meaning (after_call j made) (in_hand_after_call h made) new
  goes_on None old new same honest j h guards = subst (Guards meaning j h) (sym same) guards
  goes_on (Some (run site number mode bytes, told)) old new (result, arrives, fails, same) honest j h guards =
      renamed new _ _ _ _ (run_after j site number mode bytes result told same) (run_in_hand h site number mode bytes result told same) (record {
        shown = λ opened. arrives.holds honest j guards.shown opened;
        left = arrives.leaves honest j h guards;
      })
  goes_on (Some (settle site n, told)) old new (result, settles, fails, tells) honest j h guards =
      renamed new _ _ _ _ (mark_after_told j site n result told tells) (mark_in_hand h site n result told tells) (record {
        shown = λ opened. settles.holds honest j guards.shown opened;
        left = settles.leaves honest j h guards;
      })
  goes_on (Some (compile, told)) old new (result, tells, keeps, fails, same) honest j h guards = kept old new j h keeps honest guards
  goes_on (Some (deck name, told)) old new (result, tells, keeps, fails, same) honest j h guards = kept old new j h keeps honest guards
  goes_on (Some (card c, told)) old new (result, tells, keeps, fails, same) honest j h guards = kept old new j h keeps honest guards
  goes_on (Some (idents, told)) old new (result, tells, keeps, fails, same) honest j h guards = kept old new j h keeps honest guards
  goes_on (Some (yanks, told)) old new (result, tells, keeps, fails, same) honest j h guards = kept old new j h keeps honest guards

  -- calls one after the other
  pub all_go_on : (made : List Made) (old new : S) → LeadsThrough meaning made old new → is_honest new → (j : Journal) (h : List Event)
      → Guards meaning j h old → Guards meaning (after_calls j made) (in_hand_after_calls h made) new
  all_go_on [] old new same honest j h guards = subst (Guards meaning j h) (sym same) guards
  all_go_on (made ∷ earlier) old new (mid, before, last) honest j h guards =
      goes_on made mid new last honest _ _ (all_go_on earlier old mid before (honest_before made mid new last honest) j h guards)
