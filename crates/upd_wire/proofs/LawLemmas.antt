-- Each text is that of a spool, and in one way.
use Rattle.upd_wire.proofs.Common.{◌≡◌, ℕ, ◌+◌, ◌<◌, ◌≤◌, ◌==◌, zero, suc, Bool, true, false, cond, not, ◌⊎◌, inl, inr, List, [], ◌∷◌, ◌++◌, length, take}
use Rattle.upd_wire.proofs.Common.{drop, get_or, Option, Some, None, refl, sym, ap, ap₂, ◌∙◌, subst, arith, append_assoc, take-append-drop, after_first}
use Rattle.upd_wire.proofs.Common.{before_first, position_or_len, cases_lt, cond-true, or_from, length-take-le, list_any-append, ArrivalView, MAX_FRAMES}
use Rattle.upd_wire.proofs.Common.{HeaderView, IsHeader, header_text, no_lf, no_header, no_end, in_line, in_run, IsBad, IsCut, IsFrame}
use Rattle.upd_wire.specs.Header.{header_of}
use Rattle.upd_wire.specs.Frames.{frame_of}
use Rattle.upd_wire.proofs.Common.{frame_text, frames_text, has_lf}
use Rattle.std.specs.List.{AllByRecursion}
use Rattle.std.proofs.lemmas.Bool.{cases_Bool, cases_eq, or_parts}
use Rattle.std.proofs.lemmas.List.Elements.{All-from_recursion, recursion_from_All}
use Rattle.upd_wire.specs.Spools.{IsRest, IsSpool}
use Rattle.upd_wire.proofs.FrameLemmas.{bad_is_no_frame, cut_is_no_frame, frame_is_read, frame_is_spelled, frame_made, no_lf_no_frame, parted_at}
use Rattle.upd_wire.proofs.HeaderLemmas.{cut_whole, header_is_spelled}

-- behind its frames no further frame begins, or it has the most frames
no_more : (frames : List ArrivalView) (rest : List ℕ) → IsRest frames rest → (frame_of rest ≡ None) ⊎ (length frames ≡ MAX_FRAMES)
no_more frames rest (inl none) = inl (ap frame_of none ∙ no_lf_no_frame [] refl)
no_more frames rest (inr (inl bad)) = inl (bad_is_no_frame rest bad)
no_more frames rest (inr (inr (inl cut))) = inl (cut_is_no_frame rest cut)
no_more frames rest (inr (inr (inr most))) = inr most

-- where a frame begins, one is read
begins : (a : ArrivalView) (text behind : List ℕ) → IsFrame a → text ≡ frame_text a ++ behind → frame_of text ≡ None → ⊥
begins a text behind is e none =
    let both : (let p : Option (ArrivalView × List ℕ) = Some (a, behind) in p) ≡ None = sym (frame_is_read a behind is) ∙ ap frame_of (sym e) ∙ none in
    apart (a, behind) both
  where
    apart : (p : ArrivalView × List ℕ) → Some p ≡ None → ⊥
    apart p e = absurd (cc)

one_way : (frames others : List ArrivalView) (rest other : List ℕ) (n : ℕ) → AllByRecursion IsFrame frames → AllByRecursion IsFrame others
    → frames_text frames ++ rest ≡ frames_text others ++ other → n + length frames ≤ MAX_FRAMES → n + length others ≤ MAX_FRAMES
    → (frame_of rest ≡ None) ⊎ (n + length frames ≡ MAX_FRAMES) → (frame_of other ≡ None) ⊎ (n + length others ≡ MAX_FRAMES)
    → (frames ≡ others) × (rest ≡ other)
one_way [] [] rest other n is1 is2 e few1 few2 end1 end2 = (refl, e)
one_way [] (b ∷ others) rest other n is1 is2 e few1 few2 end1 end2 = absurd (by end1)
  where
    by : (frame_of rest ≡ None) ⊎ (n + 0 ≡ MAX_FRAMES) → ⊥
    by (inl none) = begins b rest (frames_text others ++ other) is2.0 (e ∙ append_assoc (frame_text b) (frames_text others) other) none
    by (inr most) = absurd (omega (arith, most, few2))
one_way (a ∷ frames) [] rest other n is1 is2 e few1 few2 end1 end2 = absurd (by end2)
  where
    by : (frame_of other ≡ None) ⊎ (n + 0 ≡ MAX_FRAMES) → ⊥
    by (inl none) = begins a other (frames_text frames ++ rest) is1.0 (sym e ∙ append_assoc (frame_text a) (frames_text frames) rest) none
    by (inr most) = absurd (omega (arith, most, few1))
one_way (a ∷ frames) (b ∷ others) rest other n is1 is2 e few1 few2 end1 end2 =
    let both : (let p : Option (ArrivalView × List ℕ) = Some (a, frames_text frames ++ rest) in p) ≡ Some (b, frames_text others ++ other) =
    sym (frame_is_read a (frames_text frames ++ rest) is1.0)
    ∙ ap frame_of (sym (append_assoc (frame_text a) (frames_text frames) rest) ∙ e ∙ append_assoc (frame_text b) (frames_text others) other)
    ∙ frame_is_read b (frames_text others ++ other) is2.0 in
    let (same, behind) = one_way frames others rest other (n + 1) is1.1 is2.1 (ap (λ o. second o) both) (omega (arith, few1)) (omega (arith, few2))
    (next (frame_of rest ≡ None) (length frames) end1) (next (frame_of other ≡ None) (length others) end2) in
    (ap₂ (λ (x : ArrivalView) (xs : List ArrivalView). x ∷ xs) (ap (λ o. first o) both) same, behind)
  where
    first : Option (ArrivalView × List ℕ) → ArrivalView
    first (Some p) = p.0
    first None = a

    second : Option (ArrivalView × List ℕ) → List ℕ
    second (Some p) = p.1
    second None = []

    next : (P : Type 0) (m : ℕ) → P ⊎ (n + suc m ≡ MAX_FRAMES) → P ⊎ ((n + 1) + m ≡ MAX_FRAMES)
    next P m (inl none) = inl none
    next P m (inr most) = inr (omega (arith, most))

pub spool_is_read_in_one_way : (text : List ℕ) (frames others : List ArrivalView) (rest other : List ℕ)
    → IsSpool text frames rest → IsSpool text others other → (frames ≡ others) × (rest ≡ other)
spool_is_read_in_one_way text frames others rest other is1 is2 =
    one_way frames others rest other 0 (recursion_from_All IsFrame frames is1.are_frames) (recursion_from_All IsFrame others is2.are_frames)
    (sym is1.whole ∙ is2.whole) (omega (arith, is1.few)) (omega (arith, is2.few)) (from frames (no_more frames rest is1.behind))
    (from others (no_more others other is2.behind))
  where
    from : {P : Type 0} (l : List ArrivalView) → P ⊎ (length l ≡ MAX_FRAMES) → P ⊎ (0 + length l ≡ MAX_FRAMES)
    from l (inl none) = inl none
    from l (inr most) = inr (omega (arith, most))

-- ---- each text is one

none_in_front : (text : List ℕ) (n : ℕ) → has_lf text ≡ false → has_lf (take n text) ≡ false
none_in_front text n none = (or_parts _ (has_lf (drop n text))
    (sym (list_any-append (λ b. b == 10) (take n text) (drop n text)) ∙ ap has_lf (take-append-drop n text) ∙ none)).0

no_lf_rest : (text : List ℕ) → has_lf text ≡ false → (text ≡ []) ⊎ (IsBad text ⊎ IsCut text)
no_lf_rest [] none = inl refl
no_lf_rest (b ∷ text) none = by (cases_lt 63 (length (b ∷ text)))
  where
    by : (63 < length (b ∷ text)) ⊎ (length (b ∷ text) ≤ 63) → ((b ∷ text) ≡ []) ⊎ (IsBad (b ∷ text) ⊎ IsCut (b ∷ text))
    by (inl many) = inr (inl (no_lf many (none_in_front (b ∷ text) 64 none)))
    by (inr few) = inr (inr (in_line (omega arith) few none))

none_before : (text : List ℕ) → has_lf (before_first (λ b. b == 10) text) ≡ false
none_before [] = refl
none_before (b ∷ text) = by (none_before text) (b == 10) refl
  where
    further : (n place : ℕ) → n ≡ suc place → (b == 10) ≡ false → has_lf (take place text) ≡ false → has_lf (take n (b ∷ text)) ≡ false
    further n place e here none = subst (λ k. has_lf (take k (b ∷ text)) ≡ false) (sym e) (or_from _ _ here none)

    by : has_lf (before_first (λ c. c == 10) text) ≡ false → (here : Bool) → (b == 10) ≡ here
        → has_lf (take (cond (not here) (1 + position_or_len (λ c. c == 10) text) 0) (b ∷ text)) ≡ false
    by later true e = refl
    by later false e = further (1 + position_or_len (λ c. c == 10) text) (position_or_len (λ c. c == 10) text) (omega arith) e later

-- behind a header: the front of a run, or a run with a byte behind it
behind_header_rest : (h : HeaderView) (behind : List ℕ) → IsHeader h → frame_of (header_text h ++ 10 ∷ behind) ≡ None
    → IsBad (header_text h ++ 10 ∷ behind) ⊎ IsCut (header_text h ++ 10 ∷ behind)
behind_header_rest h behind is none = by (cases_lt h.size (length behind))
  where
    of_byte : h.size < length behind → (get_or behind h.size 0 ≡ 10) ⊎ (get_or behind h.size 0 ≡ 10 → ⊥)
        → IsBad (header_text h ++ 10 ∷ behind) ⊎ IsCut (header_text h ++ 10 ∷ behind)
    of_byte within (inl end) =
        let made = frame_made h (take h.size behind) (drop (h.size + 1) behind) is (length-take-le h.size behind (omega arith)) in
        absurd (begins _ (header_text h ++ 10 ∷ behind) _ made.0 (ap (λ l. header_text h ++ 10 ∷ l) (parted_at h.size behind 10 within end) ∙ made.1) none)
    of_byte within (inr other) = inl (no_end h (take h.size behind) (get_or behind h.size 0) (drop (h.size + 1) behind) is
        (length-take-le h.size behind (omega arith)) other (ap (λ l. header_text h ++ 10 ∷ l) (parted_at h.size behind _ within refl)))

    by : (h.size < length behind) ⊎ (length behind ≤ h.size) → IsBad (header_text h ++ 10 ∷ behind) ⊎ IsCut (header_text h ++ 10 ∷ behind)
    by (inl within) = of_byte within (cases_eq (get_or behind h.size 0) 10)
    by (inr short) = inr (in_run h behind is short refl)

-- what begins with no frame is nothing, bad or cut
rest_is : (text : List ℕ) → frame_of text ≡ None → (text ≡ []) ⊎ (IsBad text ⊎ IsCut text)
rest_is text none = by (cases_Bool (has_lf text))
  where
    line : List ℕ
    line = before_first (λ b. b == 10) text

    behind : List ℕ
    behind = after_first (λ b. b == 10) text

    read : text ≡ line ++ 10 ∷ behind → (o : Option HeaderView) → header_of line ≡ o → IsBad text ⊎ IsCut text
    read whole None e = inl (no_header line behind (none_before text) e whole)
    read whole (Some h) e =
        let (is, spelled) = header_is_spelled line h e in
        let text_is : text ≡ header_text h ++ 10 ∷ behind = whole ∙ ap (λ l. l ++ 10 ∷ behind) spelled in
        subst (λ t. IsBad t ⊎ IsCut t) (sym text_is) (behind_header_rest h behind is (ap frame_of (sym text_is) ∙ none))

    by : (has_lf text ≡ true) ⊎ (has_lf text ≡ false) → (text ≡ []) ⊎ (IsBad text ⊎ IsCut text)
    by (inr absent) = no_lf_rest text absent
    by (inl some) = inr (read (cut_whole 10 text (line, behind) (cond-true _ _ _ some)) (header_of line) refl)

-- at most so many frames of a text, and the rest
record Begins (n : ℕ) (text : List ℕ) (frames : List ArrivalView) (rest : List ℕ) : Type 0 where
  whole : text ≡ frames_text frames ++ rest
  are_frames : AllByRecursion IsFrame frames
  few : length frames ≤ n
  behind : ((rest ≡ []) ⊎ (IsBad rest ⊎ IsCut rest)) ⊎ (length frames ≡ n)

frames_in : (n : ℕ) (text : List ℕ) → (frames : List ArrivalView) × (rest : List ℕ) × Begins n text frames rest
frames_in zero text = ([], text, record { whole = refl; are_frames = tt; few = omega arith; behind = inr refl })
frames_in (suc n) text = by (frames_in n) (frame_of text) refl
  where
    more : (a : ArrivalView) (behind : List ℕ) → IsFrame a × (text ≡ frame_text a ++ behind)
        → (frames : List ArrivalView) × (rest : List ℕ) × Begins n behind frames rest
        → (frames : List ArrivalView) × (rest : List ℕ) × Begins (suc n) text frames rest
    more a behind is (frames, rest, begun) = (
      a ∷ frames,
      rest,
      record {
        whole = is.1 ∙ ap (λ l. frame_text a ++ l) begun.whole ∙ sym (append_assoc (frame_text a) (frames_text frames) rest);
        are_frames = (is.0, begun.are_frames);
        few = (let few = begun.few in omega (arith, few));
        behind = counted begun.behind;
      },
    )
      where
        counted : {P : Type 0} → P ⊎ (length frames ≡ n) → P ⊎ (suc (length frames) ≡ suc n)
        counted (inl end) = inl end
        counted (inr most) = inr (ap suc most)

    by : ((behind : List ℕ) → (frames : List ArrivalView) × (rest : List ℕ) × Begins n behind frames rest)
        → (o : Option (ArrivalView × List ℕ)) → frame_of text ≡ o → (frames : List ArrivalView) × (rest : List ℕ) × Begins (suc n) text frames rest
    by later None e = ([], text, record { whole = refl; are_frames = tt; few = omega arith; behind = inl (rest_is text e) })
    by later (Some found) e = more found.0 found.1 (frame_is_spelled text found.1 found.0 e) (later found.1)

pub text_is_spool : (text : List ℕ) → (frames : List ArrivalView) × (rest : List ℕ) × IsSpool text frames rest
text_is_spool text = of (frames_in MAX_FRAMES text)
  where
    rest_of : (frames : List ArrivalView) (rest : List ℕ) → ((rest ≡ []) ⊎ (IsBad rest ⊎ IsCut rest)) ⊎ (length frames ≡ MAX_FRAMES) → IsRest frames rest
    rest_of frames rest (inl (inl none)) = inl none
    rest_of frames rest (inl (inr (inl bad))) = inr (inl bad)
    rest_of frames rest (inl (inr (inr cut))) = inr (inr (inl cut))
    rest_of frames rest (inr most) = inr (inr (inr most))

    of : (frames : List ArrivalView) × (rest : List ℕ) × Begins MAX_FRAMES text frames rest
        → (frames : List ArrivalView) × (rest : List ℕ) × IsSpool text frames rest
    of (frames, rest, begun) = (
      frames,
      rest,
      record {
        whole = begun.whole;
        are_frames = All-from_recursion IsFrame frames begun.are_frames;
        few = begun.few;
        behind = rest_of frames rest begun.behind;
      },
    )
