-- What is read of a frame before it stops.
use Rattle.upd_wire.proofs.Common.{◌≡◌, ℕ, ◌<◌, ◌≤◌, ◌≢◌, ◌==◌, zero, suc, false, List, [], ◌∷◌, ◌++◌, length, take, get_or, Option, Some, Result, Ok, Err}
use Rattle.upd_wire.proofs.Common.{refl, sym, ap, ◌∙◌, subst, arith, append_assoc, append-nil, or_from, take_all, list_any-append, Consumes}
use Rattle.upd_wire.proofs.Common.{Consumes-trans, FaultKind, BadFrame, NoMemory, Read, HeaderView, IsHeader, header_text, IsBad, IsFrame}
use Rattle.upd_wire.specs.Header.{header_of}
use Rattle.upd_wire.proofs.Common.{arrival_of, frame_text, has_lf, no_lf, no_end, in_run, StopsRun, Stops}
use Rattle.std.proofs.lemmas.Bool.{ne_eqb}
use Rattle.std.specs.Result.{IsErrAnd}
use Rattle.upd_text.specs.declared.fault.FaultKind.TheVariants.{CutFrame}
use Rattle.upd_wire.specs.Exchange.{StopsEnd}
use Rattle.upd_wire.proofs.FrameLemmas.{cut_is_no_frame, frame_made}
use Rattle.upd_wire.proofs.HeaderLemmas.{header_is_spelled}

-- what an early return passes on is the fault that was met
pub error_is : {T : Type 0} (result : Result T FaultKind) (kind : FaultKind) → IsErrAnd result (λ e. e ≡ kind) → result ≡ Err kind
error_is (Ok x) kind is = absurd is
error_is (Err e) kind is = ap Err is

-- a further byte that is no LF
pub byte_without : (text buffer : List ℕ) (n : ℕ) → has_lf text ≡ false → length buffer ≡ 1 → get_or buffer 0 0 ≢ 10 → has_lf (text ++ take n buffer) ≡ false
byte_without text buffer n none one other = list_any-append (λ b. b == 10) text (take n buffer) ∙ or_from _ _ none (alone buffer n one other)
  where
    nothing : (n : ℕ) → has_lf (take n []) ≡ false
    nothing zero = refl
    nothing (suc n) = refl

    alone : (buffer : List ℕ) (n : ℕ) → length buffer ≡ 1 → get_or buffer 0 0 ≢ 10 → has_lf (take n buffer) ≡ false
    alone [] n one other = absurd (omega (arith, one))
    alone (b ∷ []) zero one other = refl
    alone (b ∷ []) (suc n) one other = or_from _ _ (ne_eqb b 10 other) (nothing n)
    alone (b ∷ c ∷ buffer) n one other = absurd (omega (arith, one))

-- so many bytes without LF begin no frame
pub long_is_bad : (text : List ℕ) → 63 < length text → length text ≤ 64 → has_lf text ≡ false → IsBad text
long_is_bad text many most none = no_lf many (rw (take_all 64 text most) none)

-- the run was read, and not its LF
pub end_stops : (kind : FaultKind) (size : ℕ) (bytes taken : List ℕ) (input' : Option (List ℕ)) → length bytes ≡ size → StopsEnd kind taken input'
    → StopsRun kind size (bytes ++ taken) input'
end_stops BadFrame size bytes taken input' all (b, is, other) = (bytes, b, ap (λ l. bytes ++ l) is, all, other)
end_stops CutFrame size bytes taken input' all (is, end) = (rw is (rw append-nil (omega (arith, all))), end)
end_stops Read size bytes taken input' all is = rw is (rw append-nil (omega (arith, all)))
end_stops _ size bytes taken input' all stops = absurd stops

-- so no frame was read whose header was
pub run_stops : (kind : FaultKind) (h : HeaderView) (taken : List ℕ) (input' : Option (List ℕ)) → IsHeader h → StopsRun kind h.size taken input'
    → Stops kind (header_text h ++ 10 ∷ taken) input'
run_stops BadFrame h taken input' is (bytes, b, split, all, other) = no_end h bytes b [] is all other (ap (λ l. header_text h ++ 10 ∷ l) split)
run_stops CutFrame h taken input' is (short, end) = (in_run h taken is short refl, end)
run_stops Read h taken input' is short = cut_is_no_frame _ (in_run h taken is short refl)
run_stops NoMemory h taken input' is short = cut_is_no_frame _ (in_run h taken is short refl)
run_stops _ h taken input' is stops = absurd stops

pub header_found : (line text : List ℕ) (h : HeaderView) → Some h ≡ header_of text → text ≡ line → IsHeader h × (line ≡ header_text h)
header_found line text h found same = header_is_spelled line h (ap header_of (sym same) ∙ sym found)

-- a header's line was read, and then these bytes
pub behind_header : (a b c : Option (List ℕ)) (line bytes : List ℕ) (h : HeaderView) → Consumes a b (line ++ 10 ∷ []) → Consumes b c bytes
    → line ≡ header_text h → Consumes a c (header_text h ++ 10 ∷ bytes)
behind_header a b c line bytes h first then same =
    subst (Consumes a c) (append_assoc line (10 ∷ []) bytes ∙ ap (λ l. l ++ 10 ∷ bytes) same) (Consumes-trans a b c _ bytes first then)

-- a whole frame was read
pub frame_taken : (a b c : Option (List ℕ)) (line items bytes : List ℕ) (h : HeaderView) → IsHeader h × (line ≡ header_text h)
    → Consumes a b (line ++ 10 ∷ []) → Consumes b c (items ++ 10 ∷ []) → length items ≡ h.size → bytes ≡ items
    → IsFrame (arrival_of h bytes) × Consumes a c (frame_text (arrival_of h bytes))
frame_taken a b c line items bytes h (is, spelled) first then all same =
    let made = frame_made h bytes [] is (ap length same ∙ all) in
    let text : header_text h ++ 10 ∷ (items ++ 10 ∷ []) ≡ frame_text (arrival_of h bytes) =
    ap (λ l. header_text h ++ 10 ∷ (l ++ 10 ∷ [])) (sym same) ∙ made.1 ∙ append-nil (frame_text (arrival_of h bytes)) in
    (made.0, subst (Consumes a c) text (behind_header a b c line (items ++ 10 ∷ []) h first then spelled))
