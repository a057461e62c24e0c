-- What the desk returns is what is required.
use Rattle.upd_wire.proofs.Common.{◌≡◌, inl, inr, ℕ, List, ◌∷◌, Bool, true, false, not, Result, Ok, Err, refl, sym, ap, ◌∙◌, subst, result_map_both, Ghosts}
use Rattle.upd_wire.proofs.Common.{is_site, HoldsIn, Journal, Settled, Asked, run, settle, compile, deck, card, idents, yanks, Fault, Response, page}
use Rattle.upd_wire.proofs.Common.{reply_response, DoesAsAsked, IsMarkResponse}
use Rattle.upd_text.specs.Keys.{is_run_number}
use Rattle.upd_desk.specs.Holding.{IsOwed, mark_after}
use Rattle.upd_desk.specs.Journal.{mark}
use Rattle.upd_text.specs.Outcome.{◌>>=◌, at_line, refuse_if}
use Rattle.upd_text.specs.declared.fault.FaultKind.TheVariants.{BadSite, BadNumber}
use Rattle.upd_wire.specs.Owed.{owed}
use Rattle.upd_wire.specs.Responses.{mark_response}

-- what is required, seen another way
owed_as : {A : Type 0} (f : A → Response) (due result : Result A Fault) (told : Result Response Fault) → IsOwed due result
    → told ≡ result_map_both f (λ fault. fault) result → IsOwed (result_map_both f (λ fault. fault) due) told
owed_as f due (Ok x) told is same =
    let P : Result Response Fault → Type 0 = λ t. IsOwed (result_map_both f (λ fault. fault) due) t in
    subst P (sym same) (ap (result_map_both f (λ fault. fault)) is)
owed_as f due (Err fault) told (inl lost) same =
    let P : Result Response Fault → Type 0 = λ t. IsOwed (result_map_both f (λ fault. fault) due) t in
    subst P (sym same) (inl lost)
owed_as f due (Err fault) told (inr is) same =
    let P : Result Response Fault → Type 0 = λ t. IsOwed (result_map_both f (λ fault. fault) due) t in
    subst P (sym same) (inr (ap (result_map_both f (λ fault. fault)) is))

err_is_ok : {A : Type 0} {e : Fault} {x : A} → Err e ≡ Ok x → ⊥
err_is_ok is = cc

-- a mark is required only for a valid site
site_of : (journal : Journal) (site : List ℕ) (n m : ℕ) → mark_after journal site n ≡ Ok m → is_site site ≡ true
site_of journal site n m is = by (is_site site) refl is
  where
    Marked : Bool → Result ℕ Fault
    Marked v = (at_line 0 (refuse_if (not v) BadSite) >>= (λ u. at_line 0 (refuse_if (not (is_run_number n)) BadNumber)))
        >>= (λ u. Ok (mark (Settled site n ∷ journal) site))

    by : (v : Bool) → is_site site ≡ v → Marked v ≡ Ok m → v ≡ true
    by true e is = refl
    by false e is = absurd (err_is_ok is)

mark_owed : (journal : Journal) (site : List ℕ) (n : ℕ) (result : Result ℕ Fault) (told : Result Response Fault) → IsOwed (mark_after journal site n) result
    → IsMarkResponse site result told → IsOwed (result_map_both (mark_response site) (λ fault. fault) (mark_after journal site n)) told
mark_owed journal site n (Ok m) told is (body, same, text) =
    let whole : told ≡ Ok (mark_response site m) =
    same ∙ ap (λ b. Ok (record (mark_response site m) { body = b })) (text (site_of journal site n m is)) in
    owed_as (mark_response site) (mark_after journal site n) (Ok m) told is whole
mark_owed journal site n (Err fault) told is same = owed_as (mark_response site) (mark_after journal site n) (Err fault) told is same

module _ {S : Type 0} (meaning : Ghosts S) where
  open meaning use {shows, image, is_open, is_honest}

  pub told_is_owed : (asked : Asked) (told : Result Response Fault) (old new : S) → DoesAsAsked meaning asked told old new
      → is_honest new → (journal : Journal) → (is_open old → HoldsIn shows journal (image old)) → IsOwed (owed journal asked) told
  told_is_owed (run site number mode bytes) told old new (result, arrives, fails, same) honest journal holds =
      owed_as reply_response _ result told (arrives.answers honest journal holds) same
  told_is_owed (settle site n) told old new (result, settles, fails, tells) honest journal holds =
      mark_owed journal site n result told (settles.answers honest journal holds) tells
  told_is_owed compile told old new (result, tells, keeps, fails, same) honest journal holds =
      owed_as (λ file. page file.bytes) _ result told (tells honest journal holds) same
  told_is_owed (deck name) told old new (result, tells, keeps, fails, same) honest journal holds = owed_as page _ result told (tells honest journal holds) same
  told_is_owed (card c) told old new (result, tells, keeps, fails, same) honest journal holds = owed_as page _ result told (tells honest journal holds) same
  told_is_owed idents told old new (result, tells, keeps, fails, same) honest journal holds = owed_as page _ result told (tells honest journal holds) same
  told_is_owed yanks told old new (result, tells, keeps, fails, same) honest journal holds = owed_as page _ result told (tells honest journal holds) same
