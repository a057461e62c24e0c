-- One frame: how its parts are read, and how it is answered.
use Rattle.std.specs.Prelude.{◌≡◌, ℕ, ◌≤◌, ◌≢◌, Bool, true, false, IsTrue, List, [], ◌∷◌, ◌++◌, length, Option, Result, Ok, Err}
use Rattle.std.specs.Io.KnownBytes.{Appends, Consumes, IsAtEnd}
use Rattle.upd_wire.specs.Fronts.{AppendsFront}
use Rattle.upd_text.specs.declared.fault.Fault.{Fault}
use Rattle.upd_text.specs.declared.fault.FaultKind.{FaultKind}
use Rattle.upd_text.specs.declared.fault.FaultKind.TheVariants.{NoMemory, BadFrame, CutFrame, Read, Write}
use Rattle.upd_row_store.specs.declared.meaning.Meaning.{Ghosts}
use Rattle.upd_row_store.specs.Keeping.{failures_with}
use Rattle.upd_desk.specs.Answers.{answer_line, is_answered}
use Rattle.upd_desk.specs.Arrivals.{ArrivalView}
use Rattle.upd_desk.specs.Outcomes.{ReplyView}
use Rattle.upd_desk.specs.Holding.{Arrives}
use Rattle.upd_wire.specs.Frames.{has_lf}
use Rattle.upd_wire.specs.Spools.{Answered, EndsBy, GetsNoLine}

-- ---- reading

-- a line was read up to its LF, or the input has ended before it
abbrev pub LineRead : Bool → List ℕ → Option (List ℕ) → Option (List ℕ) → Type 0
LineRead true line input input' = Consumes input input' (line ++ 10 ∷ []) × (has_lf line ≡ false)
LineRead false line input input' = Consumes input input' [] × IsAtEnd input'

-- why no run was read, of which so much was taken: another byte stands behind it, the input ended, or a failure came first
abbrev pub StopsRun : FaultKind → ℕ → List ℕ → Option (List ℕ) → Type 0
StopsRun BadFrame size taken input' = (run : List ℕ) × (b : ℕ) × (taken ≡ run ++ b ∷ []) × (length run ≡ size) × (b ≢ 10)
StopsRun CutFrame size taken input' = (length taken ≤ size) × IsAtEnd input'
StopsRun Read size taken input' = length taken ≤ size
StopsRun NoMemory size taken input' = length taken ≤ size
StopsRun _ size taken input' = ⊥

-- the same of the LF behind a run
abbrev pub StopsEnd : FaultKind → List ℕ → Option (List ℕ) → Type 0
StopsEnd BadFrame taken input' = (b : ℕ) × (taken ≡ b ∷ []) × (b ≢ 10)
StopsEnd CutFrame taken input' = (taken ≡ []) × IsAtEnd input'
StopsEnd Read taken input' = taken ≡ []
StopsEnd _ taken input' = ⊥

-- the same of the end of a spool with the most frames
abbrev pub StopsNothing : FaultKind → List ℕ → Type 0
StopsNothing BadFrame taken = taken ≢ []
StopsNothing Read taken = taken ≡ []
StopsNothing _ taken = ⊥

-- ---- answering

module _ {S : Type 0} (meaning : Ghosts S) where
  open meaning use {failures_of}

  -- The line of an arrival isn't out whole: a beginning of it is, or all of it and the flush failed; or nothing is, where the arrival was lost
  -- or there was no memory for the line.
  abbrev pub LeavesNoLine : FaultKind → ArrivalView → S → S → Option (List ℕ) → Option (List ℕ) → Type 0
  LeavesNoLine Write a old new output output' =
      (result : Result ReplyView Fault) × Arrives meaning a result old new × IsTrue (is_answered result)
      × AppendsFront output output' (answer_line result)
  LeavesNoLine kind a old new output output' =
      (fault : Fault) × Arrives meaning a (Err fault) old new × GetsNoLine kind fault
      × (failures_of new ≡ failures_with fault.kind (failures_of old)) × Appends output output' []

  module _ (old new : S) (input input' output output' : Option (List ℕ)) where
    -- How one frame goes: it was answered, or the input has ended before it, or it ends the spool.
    abbrev pub Exchanges : Result Bool FaultKind → Type 0
    Exchanges (Ok true) =
        (frame : ArrivalView) × (result : Result ReplyView Fault)
        × Answered meaning old new input input' output output' (frame ∷ []) (result ∷ []) []
    Exchanges (Ok false) = Answered meaning old new input input' output output' [] [] [] × IsAtEnd input'
    Exchanges (Err kind) = EndsBy meaning old new input input' output output' kind [] []
