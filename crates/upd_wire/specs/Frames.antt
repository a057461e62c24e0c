-- Frames of a spool: how a run is spelled as one, how one is read, and what is not a frame.
use Rattle.std.specs.Prelude.{◌≡◌, ℕ, ◌+◌, ◌<◌, ◌≤◌, ◌≢◌, ◌==◌, nat_lt, Bool, false, ◌&&◌, List, [], ◌∷◌, ◌++◌, length, take, drop, slice_index, Option, None}
use Rattle.std.specs.List.{flat_map, list_any}
use Rattle.upd_desk.specs.Arrivals.{ArrivalView}
use Rattle.upd_wire.specs.declared.header.TheConstants.{MAX_HEADER_BYTES}
use Rattle.upd_wire.specs.Header.{HeaderView, IsHeader, ◌>>=◌, cut, header_of, header_text, where_true}

-- ---- as it is spelled

-- the header of a run
abbrev pub header_for : ArrivalView → HeaderView
header_for a = record { site = a.site; number = a.number; mode = a.mode; size = length a.bytes }

-- a run as a frame: its header, LF, its bytes, LF
abbrev pub frame_text : ArrivalView → List ℕ
frame_text a = header_text (header_for a) ++ 10 ∷ (a.bytes ++ 10 ∷ [])

-- a run that can be sent as a frame
abbrev pub IsFrame : ArrivalView → Type 0
IsFrame a = IsHeader (header_for a)

-- frames one after the other
abbrev pub frames_text : List ArrivalView → List ℕ
frames_text frames = flat_map frame_text frames

-- ---- as it is read

-- a run from its header and its bytes
abbrev pub arrival_of : HeaderView → List ℕ → ArrivalView
arrival_of h bytes = record { site = h.site; number = h.number; mode = h.mode; bytes = bytes }

-- a whole frame, and what stands behind it
unfoldable pub frame_of : List ℕ → Option (ArrivalView × List ℕ)
frame_of text = do
  line ← cut 10 text
  header ← header_of line.0
  where_true (nat_lt header.size (length line.1) && (slice_index line.1 header.size == 10))
      (arrival_of header (take header.size line.1), drop (header.size + 1) line.1)

-- ---- where no frame begins

-- whether a text has an LF
abbrev pub has_lf : List ℕ → Bool
has_lf text = list_any (λ b. b == 10) text

-- No frame can begin so, whatever comes behind.
pub data IsBad (text : List ℕ) : Type 0 where
  -- no LF among the first 64 bytes
  no_lf : MAX_HEADER_BYTES < length text → has_lf (take (MAX_HEADER_BYTES + 1) text) ≡ false → IsBad text
  -- a line that is no header
  no_header : (line behind : List ℕ) → has_lf line ≡ false → header_of line ≡ None → text ≡ line ++ 10 ∷ behind → IsBad text
  -- another byte than LF behind the run
  no_end : (h : HeaderView) (run : List ℕ) (b : ℕ) (behind : List ℕ) → IsHeader h → length run ≡ h.size → b ≢ 10
      → text ≡ header_text h ++ 10 ∷ (run ++ b ∷ behind) → IsBad text

-- A text ends inside a frame.
pub data IsCut (text : List ℕ) : Type 0 where
  -- before its first LF
  in_line : 0 < length text → length text ≤ MAX_HEADER_BYTES → has_lf text ≡ false → IsCut text
  -- inside its run, or before the LF behind it
  in_run : (h : HeaderView) (front : List ℕ) → IsHeader h → length front ≤ h.size → text ≡ header_text h ++ 10 ∷ front → IsCut text
