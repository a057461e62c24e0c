use Rattle.upd_wire.proofs.Common.{◌≡◌, ℕ, ◌+◌, List, ◌∷◌, ◌++◌, [], length, refl, sym, ap, ◌∙◌, arith, Consumes-nil, ArrivalView, MAX_FRAMES}
use Rattle.std.proofs.Common.{length-append}
use Rattle.upd_wire.proofs.SpoolLemmas.{bytes_more, ends_at_most, ends_further, nothing_answered, one_more}
use Rattle.upd_wire.proofs.frames.spool.Goals as goal

longer : (frames : List ArrivalView) (frame : ArrivalView) (n : ℕ) → length frames ≡ n → length (frames ++ frame ∷ []) ≡ n + 1
longer frames frame n e = length-append frames (frame ∷ []) ∙ ap (λ n. n + 1) e

pub loop-count-init : goal.loop-count-init
loop-count-init g c = ([], [], refl, nothing_answered _ _ _ _ [] (Consumes-nil _))

pub returns-in-Ok-false : goal.returns-in-Ok-false
returns-in-Ok-false g c =
    let (frames, results, count, so_far) = c.loop-count.invariant in
    let end = rw c.in-Ok-false.field-0-test at c.in-Ok-false.ensures in
    (frames, results, bytes_more frames results [] so_far end.0, sym count, end.1)

pub returns-in-Err : goal.returns-in-Err
returns-in-Err g c =
    let (frames, results, count, so_far) = c.loop-count.invariant in (
      frames,
      results,
      ends_further _ _ _ c.in-Err.kind frames results (omega (arith, count)) so_far c.in-Err.ensures,
      ap (λ n. n + 1) (sym count),
    )

pub loop-count-preserved : goal.loop-count-preserved
loop-count-preserved g c =
    let (frames, results, count, so_far) = c.loop-count.invariant in
    let (frame, result, one) = rw c.in-Ok-true.field-0-test at c.in-Ok-true.ensures in (
      frames ++ frame ∷ [],
      results ++ result ∷ [],
      longer frames frame _ count,
      one_more frames results frame result (omega (arith, count)) so_far one,
    )

pub returns-in-Err-read_nothing : goal.returns-in-Err-read_nothing
returns-in-Err-read_nothing g c =
    let (frames, results, count, so_far) = c.loop-count.invariant in
    let (taken, consumed, stops) = c.in-Err-read_nothing.ensures.err in
    let most : length frames ≡ MAX_FRAMES = omega (arith, count) in (
      frames,
      results,
      ends_at_most c.in-Err-read_nothing.kind frames results taken most so_far
          (nothing_answered _ _ _ _ taken consumed) stops,
      ap (λ n. n + 1) (sym most),
    )
