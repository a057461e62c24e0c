-- What one frame does, and further frames behind it.
use Rattle.upd_wire.proofs.Common.{◌≡◌, ℕ, ◌+◌, ◌<◌, ◌≤◌, ◌≢◌, true, ◌⊎◌, inl, inr, IsTrue, List, [], ◌∷◌, ◌++◌, length, Option, Result, Err, refl, sym, ap}
use Rattle.upd_wire.proofs.Common.{ap₂, ◌∙◌, subst, arith, rules, append_assoc, append-nil, Appends, Consumes, Appends-nil, Appends-trans, Consumes-trans}
use Rattle.upd_wire.proofs.Common.{false≢true, flat_map-append, Fault, FaultKind, NoMemory, BadFrame, Read, Ghosts, ArrivalView, ReplyView, Arrives}
use Rattle.upd_wire.proofs.Common.{MAX_FRAMES, IsBad, IsFrame, frame_text, frames_text, Answered, Stops}
use Rattle.upd_wire.specs.Frames.{frame_of}
use Rattle.std.proofs.Common.{length-append}
use Rattle.std.proofs.lemmas.List.Elements.{All-append, All-nil, All-push}
use Rattle.upd_text.specs.declared.fault.FaultKind.TheVariants.{CutFrame, Store, Write}
use Rattle.upd_row_store.specs.Keeping.{MoreFailures, failures_with}
use Rattle.upd_row_store.proofs.KeepingLemmas.{counts_more}
use Rattle.upd_desk.specs.Answers.{answer_line, is_answered}
use Rattle.upd_desk.specs.Holding.{is_lost}
use Rattle.upd_wire.specs.Exchange.{StopsNothing, LeavesNoLine}
use Rattle.upd_wire.specs.Spools.{EndsBy, GetsNoLine, Handled, LosesOne, WritesFront, answer_lines}
use Rattle.upd_wire.proofs.ArrivalLemmas.{further_arrived, none_arrived, one_arrived}
use Rattle.upd_wire.proofs.FrameLemmas.{no_lf_no_frame}

-- only a lost arrival, or want of memory, leaves no line
lost_kind : (kind : FaultKind) (fault : Fault) → GetsNoLine kind fault → is_lost kind ≡ true
lost_kind kind fault (inl (lost, same)) = subst (λ k. is_lost k ≡ true) same lost
lost_kind kind fault (inr (told, same)) = subst (λ k. is_lost k ≡ true) (sym same) refl

-- an arrival that got no line for a failure of the store was counted
store_counted : (fault : Fault) (old new : ℕ) → GetsNoLine Store fault → new ≡ failures_with fault.kind old → MoreFailures old new
store_counted fault old new (inl (lost, is)) counts = counts_more {A = ReplyView} (Err fault) old new counts is
store_counted fault old new (inr (told, clash)) counts = absurd (let is : Store ≡ NoMemory = clash in cc)

read_further : (texts more taken : List ℕ) → (texts ++ []) ++ (more ++ taken) ≡ (texts ++ more) ++ taken
read_further texts more taken = ap (λ l. l ++ (more ++ taken)) (append-nil texts) ∙ sym (append_assoc texts more taken)

module _ {S : Type 0} {meaning : Ghosts S} where
  -- nothing but bytes of the input went
  pub nothing_handled : (s : S) (input input' output : Option (List ℕ)) (taken : List ℕ) → Consumes input input' taken
      → Handled meaning [] [] taken [] s s input input' output output
  nothing_handled s input input' output taken consumed = record {
    are_frames = All-nil _;
    few = omega arith;
    each = refl;
    arrived = none_arrived s;
    read = consumed;
    written = Appends-nil output;
  }

  pub nothing_answered : (s : S) (input input' output : Option (List ℕ)) (taken : List ℕ) → Consumes input input' taken
      → Answered meaning s s input input' output output [] [] taken
  nothing_answered s input input' output taken consumed =
      record { handled = nothing_handled s input input' output taken consumed; answered = All-nil _ }

  -- one frame went
  one_handled : (a : ArrivalView) (result : Result ReplyView Fault) (out : List ℕ) (old new : S) (input input' output output' : Option (List ℕ))
      → IsFrame a → Arrives meaning a result old new → Consumes input input' (frame_text a)
      → Appends output output' out → Handled meaning (a ∷ []) (result ∷ []) [] out old new input input' output output'
  one_handled a result out old new input input' output output' is went consumed appended = record {
    are_frames = All-push IsFrame [] a (All-nil _) is;
    few = omega arith;
    each = refl;
    arrived = one_arrived a result old new went;
    read = subst (Consumes input input') (sym (append-nil (frame_text a ++ []) ∙ append-nil (frame_text a))) consumed;
    written = appended;
  }

  -- further frames went
  further_handled : (frames more : List ArrivalView) (results further : List (Result ReplyView Fault)) (taken out later : List ℕ) (old mid new : S)
      (i0 i1 i2 o0 o1 o2 : Option (List ℕ)) → Handled meaning frames results [] out old mid i0 i1 o0 o1
      → Handled meaning more further taken later mid new i1 i2 o1 o2
      → length frames + length more ≤ MAX_FRAMES
      → Handled meaning (frames ++ more) (results ++ further) taken (out ++ later) old new i0 i2 o0 o2
  further_handled frames more results further taken out later old mid new i0 i1 i2 o0 o1 o2 first then few = record {
    are_frames = All-append IsFrame frames more first.are_frames then.are_frames;
    few = omega (arith, few, length-append frames more);
    each = length-append results further ∙ ap₂ (λ m n. m + n) first.each then.each ∙ sym (length-append frames more);
    arrived = further_arrived frames more results further old mid new first.each first.arrived then.arrived;
    read = subst (Consumes i0 i2) (read_further (frames_text frames) (frames_text more) taken
        ∙ ap (λ l. l ++ taken) (sym (flat_map-append frame_text frames more)))
        (Consumes-trans i0 i1 i2 _ _ first.read then.read);
    written = Appends-trans o0 o1 o2 out later first.written then.written;
  }

-- ---- one frame

module _ {S : Type 0} (meaning : Ghosts S) where
  -- bytes of a frame were read, and it stops there
  pub stopped : (kind : FaultKind) (s : S) (input input' output : Option (List ℕ)) (taken : List ℕ) → Consumes input input' taken → Stops kind taken input'
      → EndsBy meaning s s input input' output output kind [] []
  stopped BadFrame s input input' output taken consumed bad =
      (taken, nothing_answered s input input' output taken consumed, inl bad)
  stopped NoMemory s input input' output taken consumed stops =
      inl (taken, nothing_answered s input input' output taken consumed, stops)
  stopped CutFrame s input input' output taken consumed stops =
      (taken, nothing_answered s input input' output taken consumed, stops, omega arith)
  stopped Store s input input' output taken consumed stops = absurd stops
  stopped Write s input input' output taken consumed stops = absurd stops
  stopped _ s input input' output taken consumed stops =
      (taken, nothing_answered s input input' output taken consumed, stops)

  pub bad_stops : (s : S) (input input' output : Option (List ℕ)) (taken : List ℕ) → Consumes input input' taken → IsBad taken
      → EndsBy meaning s s input input' output output BadFrame [] []
  bad_stops s input input' output taken consumed bad = stopped BadFrame s input input' output taken consumed bad

  -- the frame arrived, and its line isn't out whole
  pub line_missing : (kind : FaultKind) (a : ArrivalView) (old new : S) (output output' : Option (List ℕ))
      → LeavesNoLine meaning kind a old new output output' → IsFrame a → (input input' : Option (List ℕ)) → Consumes input input' (frame_text a)
      → EndsBy meaning old new input input' output output' kind [] []
  line_missing Write a old new output output' missing is input input' consumed =
      let result = missing.0 in
      let begun = missing.3 in (
        a,
        result,
        begun.0,
        begun.1,
        record {
          handled = one_handled a result begun.0 old new input input' output output' is missing.1 consumed begun.3;
          answered = All-push (λ r. IsTrue (is_answered r)) [] result (All-nil _) missing.2;
          line = begun.2;
        },
      )
  line_missing Store a old new output output' missing is input input' consumed = (
    a,
    missing.0,
    record {
      handled = one_handled a (Err missing.0) [] old new input input' output output' is missing.1 consumed missing.4;
      answered = All-nil _;
      lost = missing.2;
    },
    store_counted missing.0 _ _ missing.2 missing.3,
  )
  line_missing NoMemory a old new output output' missing is input input' consumed =
      inr (
        a,
        missing.0,
        record {
          handled = one_handled a (Err missing.0) [] old new input input' output output' is missing.1 consumed missing.4;
          answered = All-nil _;
          lost = missing.2;
        },
      )
  line_missing _ a old new output output' missing is input input' consumed = absurd (false≢true (lost_kind _ missing.0 missing.2))

module _ {S : Type 0} {meaning : Ghosts S} where
  -- the frame has its line
  pub line_out : (a : ArrivalView) (result : Result ReplyView Fault) {old new : S} {input input' output output' : Option (List ℕ)}
      → IsFrame a → Arrives meaning a result old new → IsTrue (is_answered result)
      → Consumes input input' (frame_text a) → Appends output output' (answer_line result)
      → Answered meaning old new input input' output output' (a ∷ []) (result ∷ []) []
  line_out a result {old} {new} {input} {input'} {output} {output'} is went told consumed appended = record {
    handled = one_handled a result (answer_lines (result ∷ [])) old new input input' output output' is went consumed
        (subst (Appends output output') (sym (append-nil (answer_line result))) appended);
    answered = All-push (λ r. IsTrue (is_answered r)) [] result (All-nil _) told;
  }

  -- ---- further frames

  module _ {old mid new : S} {i0 i1 i2 o0 o1 o2 : Option (List ℕ)} where
    -- one frame more
    pub one_more : (frames : List ArrivalView) (results : List (Result ReplyView Fault)) (a : ArrivalView) (result : Result ReplyView Fault)
        → length frames < MAX_FRAMES → Answered meaning old mid i0 i1 o0 o1 frames results []
        → Answered meaning mid new i1 i2 o1 o2 (a ∷ []) (result ∷ []) []
        → Answered meaning old new i0 i2 o0 o2 (frames ++ a ∷ []) (results ++ result ∷ []) []
    one_more frames results a result few first then = record {
      handled = subst (λ out. Handled meaning (frames ++ a ∷ []) (results ++ result ∷ []) [] out old new i0 i2 o0 o2)
          (sym (flat_map-append answer_line results (result ∷ [])))
          (further_handled frames (a ∷ []) results (result ∷ []) [] (answer_lines results) (answer_lines (result ∷ [])) old mid new i0 i1 i2 o0 o1 o2
          first.handled then.handled (omega (arith, few)));
      answered = All-append (λ r. IsTrue (is_answered r)) results (result ∷ []) first.answered then.answered;
    }

    -- only bytes of the input more
    pub bytes_more : (frames : List ArrivalView) (results : List (Result ReplyView Fault)) (taken : List ℕ)
        → Answered meaning old mid i0 i1 o0 o1 frames results []
        → Answered meaning mid new i1 i2 o1 o2 [] [] taken
        → Answered meaning old new i0 i2 o0 o2 frames results taken
    bytes_more frames results taken first then = record {
      handled = same (append-nil frames) (append-nil results) (append-nil (answer_lines results))
          (further_handled frames [] results [] taken (answer_lines results) [] old mid new i0 i1 i2 o0 o1 o2 first.handled then.handled
          (let few = first.handled.few in omega (arith, few)));
      answered = first.answered;
    }
      where
        same : {f g : List ArrivalView} {r q : List (Result ReplyView Fault)} {x y : List ℕ} → f ≡ g → r ≡ q → x ≡ y
            → Handled meaning f r taken x old new i0 i2 o0 o2
            → Handled meaning g q taken y old new i0 i2 o0 o2
        same {f} {g} {r} {q} {x} {y} e1 e2 e3 h =
            subst (λ f. Handled meaning f q taken y old new i0 i2 o0 o2) e1
            (subst (λ r. Handled meaning f r taken y old new i0 i2 o0 o2) e2
            (subst (λ x. Handled meaning f r taken x old new i0 i2 o0 o2) e3 h))

    -- a frame more that got no line
    loses_more : (kind : FaultKind) (frames : List ArrivalView) (results : List (Result ReplyView Fault)) (a : ArrivalView) (fault : Fault)
        → length frames < MAX_FRAMES → Answered meaning old mid i0 i1 o0 o1 frames results []
        → LosesOne meaning mid new i1 i2 o1 o2 kind [] [] a fault
        → LosesOne meaning old new i0 i2 o0 o2 kind frames results a fault
    loses_more kind frames results a fault few first then = record {
      handled = subst (λ out. Handled meaning (frames ++ a ∷ []) (results ++ Err fault ∷ []) [] out old new
          i0 i2 o0 o2)
          (append-nil (answer_lines results))
          (further_handled frames (a ∷ []) results (Err fault ∷ []) [] (answer_lines results) [] old mid new i0 i1 i2 o0 o1 o2 first.handled then.handled
          (omega (arith, few)));
      answered = first.answered;
      lost = then.lost;
    }

    -- the end behind the most frames
    pub ends_at_most : (kind : FaultKind) (frames : List ArrivalView) (results : List (Result ReplyView Fault)) (taken : List ℕ)
        → length frames ≡ MAX_FRAMES → Answered meaning old mid i0 i1 o0 o1 frames results []
        → Answered meaning mid new i1 i2 o1 o2 [] [] taken → StopsNothing kind taken
        → EndsBy meaning old new i0 i2 o0 o2 kind frames results
    ends_at_most BadFrame frames results taken most first then stops = (taken, bytes_more frames results taken first then, inr (most, stops))
    ends_at_most Read frames results taken most first then stops =
        (taken, bytes_more frames results taken first then, ap frame_of stops ∙ no_lf_no_frame [] refl)
    ends_at_most _ frames results taken most first then stops = absurd stops

  module _ {old mid : S} (new : S) {i0 i1 : Option (List ℕ)} (i2 : Option (List ℕ)) {o0 o1 : Option (List ℕ)} (o2 : Option (List ℕ)) where
    -- the end behind further frames
    pub ends_further : (kind : FaultKind) (frames : List ArrivalView) (results : List (Result ReplyView Fault))
        → length frames < MAX_FRAMES → Answered meaning old mid i0 i1 o0 o1 frames results []
        → EndsBy meaning mid new i1 i2 o1 o2 kind [] []
        → EndsBy meaning old new i0 i2 o0 o2 kind frames results
    ends_further Write frames results few first end = writes end.0 end.1 end.2 end.3 end.4
      where
        writes : (a : ArrivalView) (result : Result ReplyView Fault) (front rest : List ℕ)
            → WritesFront meaning mid new i1 i2 o1 o2 [] [] a result front rest
            → EndsBy meaning old new i0 i2 o0 o2 Write frames results
        writes a result front rest then = (
          a,
          result,
          front,
          rest,
          record {
            handled = further_handled frames (a ∷ []) results (result ∷ []) [] (answer_lines results) front old mid new i0 i1 i2 o0 o1 o2 first.handled
                then.handled (omega (arith, few));
            answered = All-append (λ r. IsTrue (is_answered r)) results (result ∷ []) first.answered then.answered;
            line = then.line;
          },
        )
    ends_further Store frames results few first end = (
      end.0,
      end.1,
      loses_more Store frames results end.0 end.1 few first end.2,
      (let counts = first.handled.arrived.later.counts in let more = end.3 in grind (arith, rules)),
    )
    ends_further NoMemory frames results few first end = by end
      where
        by : EndsBy meaning mid new i1 i2 o1 o2 NoMemory [] []
            → EndsBy meaning old new i0 i2 o0 o2 NoMemory frames results
        by (inl (taken, then, stops)) = inl (taken, bytes_more frames results taken first then, stops)
        by (inr (a, fault, then)) = inr (a, fault, loses_more NoMemory frames results a fault few first then)
    ends_further BadFrame frames results few first end = (end.0, bytes_more frames results end.0 first end.1, by end.0 end.2)
      where
        by : (taken : List ℕ) → IsBad taken ⊎ ((0 ≡ MAX_FRAMES) × (taken ≢ [])) → IsBad taken ⊎ ((length frames ≡ MAX_FRAMES) × (taken ≢ []))
        by taken (inl bad) = inl bad
        by taken (inr (none, some)) = absurd (omega (arith, none))
    ends_further CutFrame frames results few first end = (end.0, bytes_more frames results end.0 first end.1, end.2, few)
    ends_further _ frames results few first end = (end.0, bytes_more frames results end.0 first end.1, end.2)
