-- Frames of runs, one after the other, and their numbers.
use Rattle.upd_subcommands.proofs.Common.{◌≡◌, ℕ, ◌+◌, ◌<◌, ◌≤◌, ◌⊎◌, List, [], ◌∷◌, ◌++◌, length, refl, sym, ap, ◌∙◌, subst, arith, append_assoc}
use Rattle.upd_subcommands.proofs.Common.{arrival_view, frame_text, frames_text, IsAdmitted, frames_from, inl, inr, cases_lt, Option, None, Some, Keeps, Ghosts}
use Rattle.upd_subcommands.proofs.Common.{Vec, Global, map, Result, Ok, Err, IsErrAnd, Fault}
use Rattle.upd_subcommands.proofs.Common.{EditError, Failed, Refused}
use Rattle.std.proofs.Common.{IfErr, IsOk, suc, codes}
use Rattle.std.proofs.lemmas.List.{flat_map_more, length-map}
use Rattle.upd_correct.specs.Parts.{CorrectsInParts}
use Rattle.upd_desk.specs.Arrivals.{ArrivalView, check_arrival}
use Rattle.upd_desk.specs.Holding.{EachHeld}
use Rattle.upd_desk.specs.Journal.{Journal, library_after}
use Rattle.upd_edit.specs.EditCauses.{IsEditLoss, IsPartsRefusal}
use Rattle.upd_edit.specs.declared.editing.TheConstants.{MAX_TEXT_BYTES}
use Rattle.upd_subcommands.proofs.TriedLemmas.{held_still}
use Rattle.upd_row_store.specs.Keeping.{IsLost}
use Rattle.upd_subcommands.specs.Parts.{IsFirstUsed, IsFreeSpool, IsSpoolFailure, IsSpoolRefusal, IsSpoolTo, IsUsedError, check_all, check_frames}
use Rattle.upd_text.specs.Faults.{fault_at}
use Rattle.upd_text.specs.Outcome.{◌>>=◌}
use Rattle.upd_text.specs.Units.{Bytes}
use Rattle.upd_text.specs.declared.fault.FaultKind.TheVariants.{RunLong}

frames_more : (site : Bytes) (n : ℕ) (mode : Bytes) (runs : List Bytes) (run : Bytes)
    → frames_from site n mode (runs ++ run ∷ []) ≡ frames_from site n mode runs ++ arrival_view site (n + length runs) mode run ∷ []
frames_more site n mode [] run = let e : n ≡ n + 0 = omega arith in ap (λ k. arrival_view site k mode run ∷ []) e
frames_more site n mode (first ∷ runs) run =
    let e : (n + 1) + length runs ≡ n + suc (length runs) = omega arith in
    ap (λ frames. arrival_view site n mode first ∷ frames)
    (frames_more site (n + 1) mode runs run ∙ ap (λ k. frames_from site (n + 1) mode runs ++ arrival_view site k mode run ∷ []) e)

-- the frame of one more run
pub text_more : (site : Bytes) (n next : ℕ) (mode : Bytes) (runs : List Bytes) (run old new : Bytes) → next ≡ n + length runs
    → old ≡ frames_text (frames_from site n mode runs) → new ≡ old ++ frame_text (arrival_view site next mode run)
    → new ≡ frames_text (frames_from site n mode (runs ++ run ∷ []))
text_more site n next mode runs run old new count was is =
    is ∙ ap (λ bytes. bytes ++ frame_text (arrival_view site next mode run)) was
    ∙ flat_map_more frame_text [] (frames_from site n mode runs) (arrival_view site next mode run)
    ∙ ap frames_text (ap (λ k. frames_from site n mode runs ++ arrival_view site k mode run ∷ []) count ∙ sym (frames_more site n mode runs run))

pub admitted_first : (a : ArrivalView) (later : List ArrivalView) → IsAdmitted a → check_all (a ∷ later) ≡ check_all later
admitted_first a later (mode, is) = ap (λ r. r >>= (λ _. check_all later)) is

pub refused_first : (a : ArrivalView) (later : List ArrivalView) (fault : Fault) → check_arrival a ≡ Err fault → check_all (a ∷ later) ≡ Err fault
refused_first a later fault is = ap (λ r. r >>= (λ _. check_all later)) is

-- a frame is appended in five steps
pub frame_made : (old s1 s2 s3 s4 s5 site digits mode size run : Bytes) → s1 ≡ old ++ (codes "RUN " ++ (site ++ 32 ∷ [])) → s2 ≡ s1 ++ (digits ++ 32 ∷ [])
    → s3 ≡ s2 ++ (mode ++ 32 ∷ []) → s4 ≡ s3 ++ (size ++ 10 ∷ []) → s5 ≡ s4 ++ (run ++ 10 ∷ [])
    → s5 ≡ old ++ ((codes "RUN" ++ 32 ∷ (site ++ 32 ∷ (digits ++ 32 ∷ (mode ++ 32 ∷ size)))) ++ 10 ∷ (run ++ 10 ∷ []))
frame_made old s1 s2 s3 s4 s5 site digits mode size run e1 e2 e3 e4 e5 = rw e5 (rw e4 (rw e3 (rw e2 (rw e1 (simp append_assoc refl)))))

-- ---- refusals

-- a fault, where `?` passes it on
pub passed_fault : {A : Type 0} (IsWhy : Fault → Type 0) (result : Result A Fault) (fault : Fault) → IsErrAnd result (λ e. e ≡ fault) → IsWhy fault
    → IfErr result IsWhy
passed_fault IsWhy (Ok x) fault is why = absurd is
passed_fault IsWhy (Err e) fault is why = subst IsWhy (sym is) why

pub parts_refusal : (j : Journal) (set site : Bytes) (number : ℕ) (mode text : Bytes) (error : EditError) → IsPartsRefusal (library_after j) set text error
    → IsSpoolRefusal j set site number mode text error
parts_refusal j set site number mode text (Failed fault) is = tt
parts_refusal j set site number mode text (Refused refusals) is = inl is

-- what was found of the numbers of a spool
abbrev pub IsSeen : Journal → Bytes → Bytes → ℕ → Bytes → Bytes → Bytes → Option ℕ → Type 0
IsSeen j set site number mode text spool used = (made : IsSpoolTo (library_after j) set site number mode text spool)
    × IsFirstUsed j site number (number + length made.runs) used

pub used_refusal : (j : Journal) (set site : Bytes) (number : ℕ) (mode text spool : Bytes) (used : ℕ) (error : EditError) → IsUsedError used error
    → IsSeen j set site number mode text spool (Some used) → IsSpoolRefusal j set site number mode text error
used_refusal j set site number mode text spool used (Failed fault) is seen = tt
used_refusal j set site number mode text spool used (Refused refusals) is seen =
    inr (record { spool = spool; made = seen.0; used = used; first = seen.1; problem = is })

pub seen_free : (j : Journal) (set site : Bytes) (number : ℕ) (mode text spool : Bytes) → IsSeen j set site number mode text spool None
    → IsFreeSpool j set site number mode text spool
seen_free j set site number mode text spool seen = record { made = seen.0; free = seen.1 }

-- the bytes of runs
abbrev pub bytes_of : List (Vec ℕ Global) → List Bytes
bytes_of runs = map (λ run. run.items) runs

module _ {S : Type 0} (meaning : Ghosts S) where
  open meaning use {is_honest}

  pub parts_failure : (set site : Bytes) (number : ℕ) (mode text : Bytes) (old new : S) (error : EditError) → IsEditLoss text error
      → (MAX_TEXT_BYTES < length text → error ≡ Failed (fault_at RunLong 0)) → IsSpoolFailure meaning set site number mode text old new error
  parts_failure set site number mode text old new (Refused refusals) lost long = tt
  parts_failure set site number mode text old new (Failed fault) lost long = by (cases_lt MAX_TEXT_BYTES (length text))
    where
      by : (MAX_TEXT_BYTES < length text) ⊎ (length text ≤ MAX_TEXT_BYTES) → IsSpoolFailure meaning set site number mode text old new (Failed fault)
      by (inl more) = let is = long more in inr (inl (more, cc))
      by (inr few) = inl (lost few)

  pub used_failure : (set site : Bytes) (number : ℕ) (mode text : Bytes) (old new : S) (used : ℕ) (error : EditError) → IsUsedError used error
      → IsSpoolFailure meaning set site number mode text old new error
  used_failure set site number mode text old new used (Failed fault) is = inl is
  used_failure set site number mode text old new used (Refused refusals) is = tt

  -- runs were found, and then a frame was refused or lost
  pub frame_failure : (set given site : Bytes) (number : ℕ) (mode text : Bytes) (runs shown : List (Vec ℕ Global)) (fault : Fault) (old new : S)
      → given ≡ set → shown ≡ runs → EachHeld meaning old new (λ j. CorrectsInParts (library_after j) given text (bytes_of runs))
      → IsLost fault ⊎ (check_frames site number mode (bytes_of shown) ≡ Err fault)
      → IsSpoolFailure meaning set site number mode text old new (Failed fault)
  frame_failure set given site number mode text runs shown fault old new same all corrects (inl lost) = inl lost
  frame_failure set given site number mode text runs shown fault old new same all corrects (inr refused) =
      inr (inr (
        bytes_of runs,
        (λ honest j held. subst (λ s. CorrectsInParts (library_after j) s text (bytes_of runs)) same (corrects honest j held)),
        subst (λ vecs. check_frames site number mode (bytes_of vecs) ≡ Err fault) all refused,
      ))

  -- a spool was made, and then its numbers were looked at
  pub spool_seen : (set given site : Bytes) (number end : ℕ) (mode text spool : Bytes) (runs shown : List (Vec ℕ Global)) (found used : Option ℕ)
      (old mid new : S) → given ≡ set → shown ≡ runs → found ≡ used → Keeps meaning old mid → Keeps meaning mid new
      → EachHeld meaning old mid (λ j. CorrectsInParts (library_after j) given text (bytes_of runs))
      → spool ≡ frames_text (frames_from site number mode (bytes_of shown)) → IsOk (check_frames site number mode (bytes_of shown))
      → EachHeld meaning mid new (λ j. IsFirstUsed j site number end found) → end ≡ number + length runs
      → EachHeld meaning old new (λ j. IsSeen j set site number mode text spool used)
  spool_seen set given site number end mode text spool runs shown found used old mid new same all is first last corrects frames admitted seen count
      honest j held =
      let before : is_honest mid = last.later.honest honest in (
        record {
          runs = bytes_of runs;
          corrects = subst (λ s. CorrectsInParts (library_after j) s text (bytes_of runs)) same (corrects before j held);
          frames = subst (λ vecs. spool ≡ frames_text (frames_from site number mode (bytes_of vecs))) all frames;
          admitted = subst (λ vecs. IsOk (check_frames site number mode (bytes_of vecs))) all admitted;
        },
        subst (λ e. IsFirstUsed j site number e used) (count ∙ ap (λ k. number + k) (sym (length-map runs (λ run. run.items))))
            (subst (λ o. IsFirstUsed j site number end o) is (seen honest j (held_still meaning old mid first before j held))),
      )
