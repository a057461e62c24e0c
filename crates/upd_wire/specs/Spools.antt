-- Spools: their frames, and how the reading of them ends.
use Rattle.std.specs.Prelude.{◌≡◌, ◌⊎◌, ℕ, ◌+◌, ◌<◌, ◌≤◌, ◌≢◌, true, false, IsTrue, List, [], ◌∷◌, ◌++◌, length, Option, None, Result, Ok, Err}
use Rattle.std.specs.Io.KnownBytes.{Appends, Consumes, IsAtEnd}
use Rattle.std.specs.List.{All, flat_map}
use Rattle.upd_text.specs.declared.fault.Fault.{Fault}
use Rattle.upd_text.specs.declared.fault.FaultKind.{FaultKind}
use Rattle.upd_text.specs.declared.fault.FaultKind.TheVariants.{NoMemory, Store, BadFrame, CutFrame, Read, Write}
use Rattle.upd_row_store.specs.declared.meaning.Meaning.{Ghosts}
use Rattle.upd_row_store.specs.Keeping.{MoreFailures}
use Rattle.upd_desk.specs.Answers.{answer_line, is_answered}
use Rattle.upd_desk.specs.Arrivals.{ArrivalView}
use Rattle.upd_desk.specs.Outcomes.{ReplyView}
use Rattle.upd_desk.specs.Holding.{RunAll, is_lost}
use Rattle.upd_wire.specs.declared.frames.TheConstants.{MAX_FRAMES}
use Rattle.upd_wire.specs.Frames.{IsBad, IsCut, IsFrame, frame_of, frames_text}

-- ---- the text of a spool

-- What can stand behind the frames of a spool: nothing, what no frame begins with, the front of a frame, or anything behind the most frames.
abbrev pub IsRest : List ArrivalView → List ℕ → Type 0
IsRest frames rest = (rest ≡ []) ⊎ (IsBad rest ⊎ (IsCut rest ⊎ (length frames ≡ MAX_FRAMES)))

-- A text as a spool: at most n frames, and a rest.
pub record IsSpool (text : List ℕ) (frames : List ArrivalView) (rest : List ℕ) : Type 0 where
  pub whole : text ≡ frames_text frames ++ rest
  pub are_frames : All IsFrame frames
  pub few : length frames ≤ MAX_FRAMES
  pub behind : IsRest frames rest

-- ---- answers

-- lines one after the other
abbrev pub answer_lines : List (Result ReplyView Fault) → List ℕ
answer_lines results = flat_map answer_line results

-- why an arrival got no line: it was lost, or it was refused and there was no memory for the text of its fault
abbrev pub GetsNoLine : FaultKind → Fault → Type 0
GetsNoLine kind fault =
    ((is_lost fault.kind ≡ true) × (fault.kind ≡ kind)) ⊎ ((is_lost fault.kind ≡ false) × (kind ≡ NoMemory))

-- ---- what a spool does

-- why no whole frame was read, of which so much was taken
abbrev pub Stops : FaultKind → List ℕ → Option (List ℕ) → Type 0
Stops BadFrame taken input' = IsBad taken
Stops CutFrame taken input' = IsCut taken × IsAtEnd input'
Stops Read taken input' = frame_of taken ≡ None
Stops NoMemory taken input' = frame_of taken ≡ None
Stops _ taken input' = ⊥

module _ {S : Type 0} (meaning : Ghosts S) where
  open meaning use {failures_of}

  -- At most this number of frames were read one after the other and arrived, with these results. Of the input so much is taken beyond them, and these
  -- bytes are out.
  pub record Handled (frames : List ArrivalView) (results : List (Result ReplyView Fault)) (taken out : List ℕ) (old new : S)
      (input input' output output' : Option (List ℕ)) : Type 0 where
    pub are_frames : All IsFrame frames
    pub few : length frames ≤ MAX_FRAMES
    pub each : length results ≡ length frames
    pub arrived : RunAll meaning frames results old new
    pub read : Consumes input input' (frames_text frames ++ taken)
    pub written : Appends output output' out

  module _ (old new : S) (input input' output output' : Option (List ℕ)) where
    -- each frame so far was answered, and its line is out; nothing else is
    pub record Answered (frames : List ArrivalView) (results : List (Result ReplyView Fault)) (taken : List ℕ) : Type 0 where
      pub handled : Handled frames results taken (answer_lines results) old new input input' output output'
      pub answered : All (λ result. IsTrue (is_answered result)) results

    -- a further frame arrived, and got no line
    pub record LosesOne (kind : FaultKind) (frames : List ArrivalView) (results : List (Result ReplyView Fault)) (frame : ArrivalView)
        (fault : Fault) : Type 0 where
      pub handled : Handled (frames ++ frame ∷ []) (results ++ Err fault ∷ []) [] (answer_lines results) old new input input' output output'
      pub answered : All (λ result. IsTrue (is_answered result)) results
      pub lost : GetsNoLine kind fault

    -- a further frame was answered, and a beginning of its line is out, or all of it
    pub record WritesFront (frames : List ArrivalView) (results : List (Result ReplyView Fault)) (frame : ArrivalView)
        (result : Result ReplyView Fault) (front rest : List ℕ) : Type 0 where
      pub handled : Handled (frames ++ frame ∷ []) (results ++ result ∷ []) [] (answer_lines results ++ front) old new input input' output output'
      pub answered : All (λ result. IsTrue (is_answered result)) (results ++ result ∷ [])
      pub line : answer_line result ≡ front ++ rest

    -- How the reading of a spool ends by a fault of some kind, after this number of answered frames.
    abbrev pub EndsBy : FaultKind → List ArrivalView → List (Result ReplyView Fault) → Type 0
    EndsBy Write frames results =
        (frame : ArrivalView) × (result : Result ReplyView Fault) × (front : List ℕ) × (rest : List ℕ) × WritesFront frames results frame result front rest
    EndsBy Store frames results =
        (frame : ArrivalView) × (fault : Fault) × LosesOne Store frames results frame fault × MoreFailures (failures_of old) (failures_of new)
    EndsBy NoMemory frames results =
        ((taken : List ℕ) × Answered frames results taken × Stops NoMemory taken input')
        ⊎ ((frame : ArrivalView) × (fault : Fault) × LosesOne NoMemory frames results frame fault)
    EndsBy BadFrame frames results =
        (taken : List ℕ) × Answered frames results taken × (IsBad taken ⊎ ((length frames ≡ MAX_FRAMES) × (taken ≢ [])))
    EndsBy CutFrame frames results =
        (taken : List ℕ) × Answered frames results taken × Stops CutFrame taken input' × (length frames < MAX_FRAMES)
    EndsBy kind frames results = (taken : List ℕ) × Answered frames results taken × Stops kind taken input'

    -- How it ends: at the end of the input with the number of frames, or by a fault with the number of the frame behind those that were answered.
    abbrev pub Ends : Result ℕ Fault → Type 0
    Ends (Ok count) =
        (frames : List ArrivalView) × (results : List (Result ReplyView Fault)) × Answered frames results [] × (count ≡ length frames)
        × IsAtEnd input'
    Ends (Err fault) =
        (frames : List ArrivalView) × (results : List (Result ReplyView Fault)) × EndsBy fault.kind frames results × (fault.at ≡ length frames + 1)
