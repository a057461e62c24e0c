use Rattle.upd_keep.proofs.Common.{◌≡◌, ◌∷◌, subst, rules, NoMemory, Store, ArrivalView, Came, arrival_of}
use Rattle.upd_desk.specs.Arrivals.{arrival_view}
use Rattle.upd_desk.specs.Holding.{HoldsIn}
use Rattle.upd_keep.proofs.ReplayLemmas.{fault_decided}
use Rattle.upd_keep.proofs.stored_replies.is_answered_as_stored.Goals as goal

pub returns-in-Ok-clause-held : goal.returns-in-Ok-clause-held
returns-in-Ok-clause-held g c = λ honest j held same is_open.
    let run = c.args.run.now in
    let IsRight : ArrivalView → Type 0 = λ a. HoldsIn g.S.Meaning.shows (Came a ∷ j) (g.S.Meaning.image c.arrive.new.self.store) in
    let is : arrival_view c.deref.result.now c.run.inside.number c.stored_mode.result.now c.deref-2.result.now ≡ arrival_of run = search rules in
    subst IsRight is (c.in-Ok.ensures.arrives.holds honest j held is_open)

pub returns-in_default : goal.returns-in_default
returns-in_default g c =
    let run = c.args.run.now in
    let is : arrival_view c.deref.result.now c.run.inside.number c.stored_mode.result.now c.deref-2.result.now ≡ arrival_of run = search rules in
    let memory : c.in-Err.fault.kind ≡ NoMemory → ⊥ = c.in_default.not-NoMemory in
    let store : c.in-Err.fault.kind ≡ Store → ⊥ = c.in_default.not-Store in
    record {
      later = c.in-Err.ensures.arrives.later;
      right = λ honest j held.
          fault_decided j run (arrival_view c.deref.result.now c.run.inside.number c.stored_mode.result.now c.deref-2.result.now) c.in-Err.fault is memory
          store (c.in-Err.ensures.arrives.answers honest j held);
      held = λ honest j held no. absurd (cc);
      lost = tt;
    }
