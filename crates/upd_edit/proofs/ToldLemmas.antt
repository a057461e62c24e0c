-- What is made of the library that a desk returned is made of the library after each journal that its store holds.
use Rattle.upd_edit.proofs.Common.{◌≡◌, List, ℕ, Some, None, Ok, Err, sym, subst, LibraryView}
use Rattle.upd_edit.proofs.Common.{ap, memory_is_lost}
use Rattle.std.proofs.Common.{inl, inr, refl, Result, IsErrAnd, IsOkAnd}
use Rattle.std.specs.Prelude.{◌⊎◌, unwrap_or}
use Rattle.std.specs.Result.{result_map_both}
use Rattle.upd_text.specs.declared.fault.Fault.{Fault}
use Rattle.upd_text.specs.Outcome.{◌>>=◌}
use Rattle.upd_core.specs.Library.{ident_of}
use Rattle.upd_row_store.specs.declared.meaning.Meaning.{Ghosts}
use Rattle.upd_row_store.specs.Keeping.{IsLost}
use Rattle.upd_desk.specs.Holding.{IsOwed, Tells}
use Rattle.upd_desk.specs.Journal.{library_after}
use Rattle.upd_desk.specs.Made.{IsMade}
use Rattle.upd_desk.proofs.MadeLemmas.{library_made}
use Rattle.upd_correct.specs.Causes.{AreRefusals, IsCause, IsCauseSince}
use Rattle.upd_correct.specs.declared.refusal.CorrectError.{CorrectError}
use Rattle.upd_correct.specs.declared.refusal.CorrectError.TheVariants.{NoMemory, Refused}
use Rattle.upd_edit.specs.EditCauses.{EditBase, IsAnswerIn, IsEditLoss, base_in, edit_error}
use Rattle.upd_edit.specs.Earlier.{as_of}

module _ {S : Type 0} (meaning : Ghosts S) where
  -- an answer that is right of the library that was returned
  pub told_of : {A : Type 0} (defined : LibraryView → Result A Fault) (found : LibraryView) (result : Result A Fault) (old new : S)
      → Tells meaning (λ l. Ok l) (Ok found) old new → (IsMade found → IsOwed (defined found) result) → Tells meaning defined result old new
  told_of defined found result old new tells meets honest journal held =
      let is : library_after journal ≡ found = cc (tells honest journal held) in
      let IsRight : LibraryView → Type 0 = λ l. IsOwed (defined l) result in
      subst IsRight (sym is) (meets (subst IsMade is (library_made journal)))

  -- no library was returned
  pub none_told : {A : Type 0} (defined : LibraryView → Result A Fault) (fault : Fault) (result : Result A Fault) (old new : S)
      → IsErrAnd result (λ e. e ≡ fault) → Tells meaning (λ l. Ok l) (Err fault) old new → Tells meaning defined result old new
  none_told defined fault (Ok x) old new is tells honest journal held = absurd is
  none_told defined fault (Err e) old new is tells honest journal held = by (tells honest journal held)
    where
      by : IsOwed (Ok (library_after journal)) (Err fault) → IsOwed (defined (library_after journal)) (Err e)
      by (inl lost) = inl (subst IsLost (sym is) lost)
      by (inr met) = absurd (cc)

-- an error is shown as it is
pub shown_error : {X A : Type 0} (view : X → A) (result : Result X Fault) (fault : Fault) → IsErrAnd result (λ e. e ≡ fault)
    → IsErrAnd (result_map_both view (λ f. f) result) (λ e. e ≡ fault)
shown_error view (Ok x) fault is = absurd is
shown_error view (Err e) fault is = is

-- what is so of a library as of an ident, of its serial and of the present library
pub base_found : (since : List ℕ) (l taken : LibraryView) (last : ℕ) → as_of since l ≡ Ok taken → last ≡ unwrap_or (ident_of since l) 0
    → (P : EditBase → Type 0) → P (record { taken = taken; last = last; met = l }) → IsOkAnd (base_in (Some since) l) P
base_found since l taken last found is P holds =
    subst (λ (r : Result LibraryView Fault). IsOkAnd (r >>= (λ (taken : LibraryView). Ok
    (record { taken = taken; last = unwrap_or (ident_of since l) 0; met = l }))) P)
    (sym found) (subst (λ (serial : ℕ). P (record { taken = taken; last = serial; met = l })) is holds)

-- no such library
pub base_failed : (since : List ℕ) (l : LibraryView) (fault : Fault) → IsLost fault ⊎ (as_of since l ≡ Err fault)
    → IsLost fault ⊎ (base_in (Some since) l ≡ Err fault)
base_failed since l fault (inl lost) = inl lost
base_failed since l fault (inr failed) =
    inr (ap (λ (r : Result LibraryView Fault). r >>= (λ (taken : LibraryView). Ok
    (record { taken = taken; last = unwrap_or (ident_of since l) 0; met = l }))) failed)

-- ---- why there is no run, as the desk tells it

pub edit_lost : (text : List ℕ) (error : CorrectError) → IsEditLoss text (edit_error error)
edit_lost text NoMemory = λ short. memory_is_lost _ refl
edit_lost text (Refused refusals) = tt

-- of the library as it is
pub none_now : (l : LibraryView) (set text : List ℕ) (error : CorrectError) → IsCause l set text error
    → IsAnswerIn (base_in None l) set text (Err (edit_error error))
none_now l set text NoMemory cause = inl (memory_is_lost _ refl)
none_now l set text (Refused refusals) cause = cause

-- of the library as it was
pub none_since : (since : List ℕ) (l taken : LibraryView) (last : ℕ) (set text : List ℕ) (error : CorrectError) → as_of since l ≡ Ok taken
    → last ≡ unwrap_or (ident_of since l) 0 → IsCauseSince taken l set text error → IsAnswerIn (base_in (Some since) l) set text (Err (edit_error error))
none_since since l taken last set text NoMemory found is cause = inl (memory_is_lost _ refl)
none_since since l taken last set text (Refused refusals) found is cause =
    base_found since l taken last found is (λ b. AreRefusals b.taken b.met set text refusals.items) cause
