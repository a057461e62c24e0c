-- What comes of a run with a condition.
use Rattle.upd_edit.proofs.Common.{◌≡◌, ◌∙◌, ℕ, Bool, false, List, [], Some, None, Ok, Err, sym, subst, ap, fails_owed, LibraryView}
use Rattle.std.proofs.Common.{inl, inr, ◌⊎◌, Option, Result, if◌then◌else◌}
use Rattle.std.proofs.lemmas.Bool.{false≢true}
use Rattle.upd_text.specs.declared.fault.Fault.{Fault}
use Rattle.upd_text.specs.declared.fault.FaultKind.TheVariants.{IdentUnknown}
use Rattle.upd_text.specs.Faults.{fault_at}
use Rattle.upd_text.specs.Outcome.{◌>>=◌, FailsAt, at_line, need}
use Rattle.upd_core.specs.Library.{ident_of}
use Rattle.upd_deck.specs.Reading.{reading}
use Rattle.upd_row_store.specs.declared.meaning.Meaning.{Ghosts}
use Rattle.upd_row_store.specs.Keeping.{IsLost, Keeps}
use Rattle.upd_desk.specs.Arrivals.{ArrivalView}
use Rattle.upd_desk.specs.Holding.{Arrives, EachHeld, HoldsIn, IsHeld, IsOwed, Tells, is_lost}
use Rattle.upd_desk.specs.Journal.{Journal, is_known, library_after}
use Rattle.upd_desk.specs.Outcomes.{ReplyView}
use Rattle.upd_desk.proofs.ArrivesLemmas.{keeps_arrives, loses, lost_kind}
use Rattle.upd_edit.specs.declared.warning.Warning.{Warning}
use Rattle.upd_edit.specs.Conditions.{ArrivesSince, IsLookFault, stops}
use Rattle.upd_edit.specs.Conflicts.{SeenView}
use Rattle.upd_edit.specs.Found.{conflicts_among}
use Rattle.upd_edit.specs.Warnings.{conflicts, read_warnings}

-- conflicts are refused only where no ident has the name
pub conflicts_met : (since run : List ℕ) (l : LibraryView) (f : Fault) → conflicts since run l ≡ Err f → f ≡ fault_at IdentUnknown 0
conflicts_met since run l f is = by (ident_of since l) is
  where
    seen : LibraryView → ℕ → SeenView
    seen l z = record { library = l; since = z }

    by : (o : Option ℕ) → (((at_line 0 (need IdentUnknown o) >>= (λ z. Ok (seen l z))) >>= (λ s. Ok (read_warnings run (reading run) (Some since) s)))
        >>= (λ list. Ok (conflicts_among list))) ≡ Err f → f ≡ fault_at IdentUnknown 0
    by (Some z) e = absurd (cc)
    by None e = let same : fault_at IdentUnknown 0 ≡ f = cc e in sym same

pub look_fault : (since run : List ℕ) (l : LibraryView) (f : Fault) → FailsAt f (conflicts since run l) → IsLookFault f
look_fault since run l f fails = by (fails_owed f (conflicts since run l) fails)
  where
    by : IsLost f ⊎ (conflicts since run l ≡ Err f) → IsLookFault f
    by (inl lost) = inl lost
    by (inr met) = inr (conflicts_met since run l f met)

module _ {S : Type 0} (meaning : Ghosts S) where
  open meaning use {shows, image, is_open, is_honest}

  -- what stops a run whose number isn't known is what it meets
  pub stops_new : (since site : List ℕ) (n : ℕ) (run : List ℕ) (result : Result (List Warning) Fault) (old mid new : S)
      → Keeps meaning old mid → Keeps meaning mid new → EachHeld meaning old mid (λ j. false ≡ is_known j site n)
      → Tells meaning (conflicts since run) result mid new → EachHeld meaning old new (λ j. IsOwed (stops since site n run j) result)
  stops_new since site n run result old mid new first last fresh tells honest j held =
      subst (λ (known : Bool). IsOwed (if known then Ok [] else conflicts since run (library_after j)) result) (fresh before j held) (tells honest j there)
    where
      before : is_honest mid
      before = last.later.honest honest

      there : IsHeld meaning j mid
      there is = subst (HoldsIn shows j) (sym (first.same before is)) (held (first.later.was_open before is))

  -- nothing stopped it, and it arrived
  pub arrived : (since : List ℕ) (a : ArrivalView) (met : List Warning) (reply : ReplyView) (old mid new : S) → Keeps meaning old mid → met ≡ []
      → EachHeld meaning old mid (λ j. stops since a.site a.number a.bytes j ≡ Ok met) → Arrives meaning a (Ok reply) mid new
      → ArrivesSince meaning since a (Ok (Ok reply)) old new
  arrived since a met reply old mid new keeps none stopped went = (
    keeps_arrives a (Ok reply) old mid new keeps went,
    λ honest j held. subst (λ m. stops since a.site a.number a.bytes j ≡ Ok m) none (stopped (went.later.honest honest) j held),
  )

  -- nothing stopped it, and it got a fault
  pub refused : (since : List ℕ) (a : ArrivalView) (fault : Fault) (old mid new : S) → Keeps meaning old mid
      → Arrives meaning a (Err fault) mid new → ArrivesSince meaning since a (Err fault) old new
  refused since a fault old mid new keeps went = inl (keeps_arrives a (Err fault) old mid new keeps went)

  -- the look failed
  pub unseen : (since : List ℕ) (a : ArrivalView) (fault : Fault) (old mid : S) → Keeps meaning old mid → IsLookFault fault
      → EachHeld meaning old mid (λ j. IsOwed (stops since a.site a.number a.bytes j) (Err fault)) → ArrivesSince meaning since a (Err fault) old mid
  unseen since a fault old mid keeps (inl lost) owed = inl (loses a fault old mid keeps lost)
  unseen since a fault old mid keeps (inr unknown) owed = inr (keeps, λ honest j held. by j (owed honest j held))
    where
      never : IsLost fault → ⊥
      never lost = false≢true (ap (λ f. is_lost f.kind) (sym unknown) ∙ lost_kind fault lost)

      by : (j : Journal) → IsLost fault ⊎ (stops since a.site a.number a.bytes j ≡ Err fault) → stops since a.site a.number a.bytes j ≡ Err fault
      by j (inr is) = is
      by j (inl lost) = absurd (never lost)
