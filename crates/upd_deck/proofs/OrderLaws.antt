-- The lines of a run are in order.
use Rattle.upd_deck.proofs.Common.{◌≡◌, ℕ, ◌+◌, ◌-◌, ◌<◌, ◌≤◌, ◌==◌, Bool, true, false, cond, not, List, [], ◌∷◌, ◌++◌, length, take, drop, get_or}
use Rattle.upd_deck.proofs.Common.{length-append, Result, Ok, Err, sym, ap, ◌∙◌, subst, refl, arith, AllByRecursion, list_all, slice_split, suffix_len}
use Rattle.upd_deck.proofs.Common.{strip_carriage_return, cond_both, Fault, FaultKind, MAX_RUN_BYTES, MAX_RUN_LINES, MAX_LINE_BYTES, is_blank, is_comment}
use Rattle.upd_deck.proofs.Common.{◌>>=◌, at_line, each, refuse_if, ItemView, LineView, line_view, CutLine, cut, cut_from, is_allowed, is_feed, item_of}
use Rattle.upd_deck.proofs.Common.{reading, said, said_at, trimmed}
use Rattle.std.proofs.Common.{nat_lt, if◌then◌else◌, IfOk}
use Rattle.std.proofs.lemmas.Bool.Decides.{nat_tests}
use Rattle.std.proofs.lemmas.List.{append-nil, take-append-drop}
use Rattle.upd_text.specs.declared.fault.FaultKind.TheVariants as fault
use Rattle.upd_deck.specs.Order.{FollowFrom}
use Rattle.upd_deck.proofs.GrammarNames.{step_back, ok_same}

-- ---- the reading of a line

-- the line that is read, cut from the run
record IsOf (line : CutLine) (x : LineView) : Type 0 where
  number : x.number ≡ line.number
  start : x.span.start ≡ line.start
  end : x.span.end ≡ line.start + length x.text
  text : x.text ≡ trimmed line.bytes

abbrev IsSaid : CutLine → List LineView → Type 0
IsSaid line [] = Unit {0}
IsSaid line (x ∷ more) = (more ≡ []) × IsOf line x

said_of : (line : CutLine) (more : List LineView) → said line ≡ Ok more → IsSaid line more
said_of line more e =
    of_tail (is_comment (trimmed line.bytes)) (item_of (trimmed line.bytes))
    (of_text (not (list_all is_allowed line.bytes)) (nat_lt MAX_LINE_BYTES (length (trimmed line.bytes))) e)
  where
    tail : Bool → Result ItemView FaultKind → Result (List LineView) FaultKind
    tail comment item =
        if comment then Ok [] else (item >>= (λ i. Ok (line_view line.number line.start (trimmed line.bytes) i ∷ [])))

    of_text : (bad long : Bool)
        → ((refuse_if bad fault.BadByte >>= (λ _. refuse_if long fault.LineLong >>= (λ _. Ok (trimmed line.bytes))))
        >>= (λ text. if is_comment text then Ok [] else (item_of text >>= (λ i. Ok (line_view line.number line.start text i ∷ []))))) ≡ Ok more
        → tail (is_comment (trimmed line.bytes)) (item_of (trimmed line.bytes)) ≡ Ok more
    of_text true long e = cc
    of_text false true e = cc
    of_text false false e = e

    of_tail : (comment : Bool) (item : Result ItemView FaultKind) → tail comment item ≡ Ok more → IsSaid line more
    of_tail true item e = let same : [] ≡ more = cc in subst (IsSaid line) same tt
    of_tail false (Err kind) e = cc
    of_tail false (Ok i) e =
        let x : LineView = line_view line.number line.start (trimmed line.bytes) i in
        let same : x ∷ [] ≡ more = cc in
        subst (IsSaid line) same (refl, record { number = refl; start = refl; end = refl; text = refl })

-- Induction over cut lines and the lines read from them: what holds of no lines, and is kept by a comment and by a line with an item, holds
-- of all.
read_all : (Q : List CutLine → List LineView → Type 0) → Q [] []
    → ((line : CutLine) (lines : List CutLine) (out : List LineView) → Q lines out → Q (line ∷ lines) out)
    → ((line : CutLine) (x : LineView) (lines : List CutLine) (out : List LineView) → IsOf line x → Q lines out → Q (line ∷ lines) (x ∷ out))
    → (lines : List CutLine) (out : List LineView) → each said_at lines ≡ Ok out → Q lines out
read_all Q none silent speaks [] out e = subst (Q []) (ok_same _ _ e) none
read_all Q none silent speaks (line ∷ lines) out e = of (said line) (said_of line) e (λ rest. read_all Q none silent speaks lines rest)
  where
    of : (r : Result (List LineView) FaultKind) → ((more : List LineView) → r ≡ Ok more → IsSaid line more)
        → (at_line line.number r >>= (λ more. each said_at lines >>= (λ rest. Ok (more ++ rest)))) ≡ Ok out
        → ((rest : List LineView) → each said_at lines ≡ Ok rest → Q lines rest) → Q (line ∷ lines) out
    of (Err kind) is e later = cc
    of (Ok []) is e later =
        let rest = step_back (each said_at lines) (λ rest. Ok rest) out e in
        subst (Q (line ∷ lines)) (ok_same _ _ rest.2) (silent line lines rest.0 (later rest.0 rest.1))
    of (Ok (x ∷ more)) is e later =
        let rest = step_back (each said_at lines) (λ rest. Ok (x ∷ more ++ rest)) out e in
        let said = is (x ∷ more) refl in
        subst (Q (line ∷ lines)) (ap (λ m. x ∷ m ++ rest.0) (sym said.0) ∙ ok_same _ _ rest.2) (speaks line x lines rest.0 said.1 (later rest.0 rest.1))

-- what holds of the lines that were read, in a run within its limits
if_read : (bytes : List ℕ) (P : List LineView → Type 0)
    → ((out : List LineView) → nat_lt MAX_RUN_LINES (length (cut bytes)) ≡ false → each said_at (cut bytes) ≡ Ok out → P out) → IfOk (reading bytes) P
if_read bytes P holds = of (nat_lt MAX_RUN_BYTES (length bytes)) (nat_lt MAX_RUN_LINES (length (cut bytes))) (each said_at (cut bytes)) holds
  where
    of : (long many : Bool) (r : Result (List LineView) Fault) → ((out : List LineView) → many ≡ false → r ≡ Ok out → P out)
        → IfOk (at_line 0 (refuse_if long fault.RunLong) >>= (λ _. at_line 0 (refuse_if many fault.TooManyLines) >>= (λ _. r))) P
    of true many r holds = tt
    of false true r holds = tt
    of false false (Err e) holds = tt
    of false false (Ok out) holds = holds out refl refl

-- ---- where lines are cut

-- a line with its carriage return
strip_again : (piece : List ℕ) → (rest : List ℕ) × (piece ≡ strip_carriage_return piece ++ rest)
strip_again piece = of (get_or piece (length piece - 1) 0 == 13)
  where
    of : (return : Bool) → (rest : List ℕ) × (piece ≡ cond return (take (length piece - 1) piece) piece ++ rest)
    of true = (drop (length piece - 1) piece, sym (take-append-drop (length piece - 1) piece))
    of false = ([], sym (append-nil piece))

length-strip-le : (piece : List ℕ) → length (strip_carriage_return piece) ≤ length piece
length-strip-le piece = omega (arith, simp length-append at (ap length (strip_again piece).1))

-- numbers rise from a number on, and each line begins at or after the end of the one before it
abbrev IsCutFrom : ℕ → ℕ → List CutLine → Type 0
IsCutFrom number place [] = Unit {0}
IsCutFrom number place (line ∷ lines) = (number ≤ line.number) × (place ≤ line.start) × IsCutFrom (line.number + 1) (line.start + length line.bytes) lines

IsCutFrom-earlier : (number place number' place' : ℕ) (lines : List CutLine) → number ≤ number' → place ≤ place' → IsCutFrom number' place' lines
    → IsCutFrom number place lines
IsCutFrom-earlier number place number' place' [] n p from = tt
IsCutFrom-earlier number place number' place' (line ∷ lines) n p from = (omega (arith, from.0), omega (arith, from.1), from.2)

cut_from_follows : (number start : ℕ) (pieces : List (List ℕ)) → IsCutFrom number start (cut_from number start pieces)
cut_from_follows number start [] = tt
cut_from_follows number start (piece ∷ []) =
    let line : CutLine = record { number = number; start = start; bytes = piece } in
    cond_both (length piece == 0) [] (line ∷ []) (IsCutFrom number start) (λ _. tt) (λ _. (omega arith, omega arith, tt))
cut_from_follows number start (piece ∷ next ∷ pieces) = (
  omega arith,
  omega arith,
  IsCutFrom-earlier (number + 1) (start + length (strip_carriage_return piece)) (number + 1) (start + length piece + 1)
      (cut_from (number + 1) (start + length piece + 1) (next ∷ pieces))
      (omega arith) (omega (arith, length-strip-le piece)) (cut_from_follows (number + 1) (start + length piece + 1) (next ∷ pieces)),
)

-- the numbers of a given count of lines
cut_from_is_below : (most number start : ℕ) (pieces : List (List ℕ)) → number + length (cut_from number start pieces) ≤ most
    → AllByRecursion (λ line. line.number < most) (cut_from number start pieces)
cut_from_is_below most number start [] few = tt
cut_from_is_below most number start (piece ∷ []) few =
    let line : CutLine = record { number = number; start = start; bytes = piece } in
    cond_both (length piece == 0) [] (line ∷ []) (λ lines. number + length lines ≤ most → AllByRecursion (λ line. line.number < most) lines) (λ _ _. tt)
    (λ _ h. (omega (arith, h), tt)) few
cut_from_is_below most number start (piece ∷ next ∷ pieces) few =
    (omega (arith, few), cut_from_is_below most (number + 1) (start + length piece + 1) (next ∷ pieces) (omega (arith, few)))

-- ---- what is read

trim_again : (line : List ℕ) → trimmed line ++ drop (length line - suffix_len is_blank line) line ≡ line
trim_again line = take-append-drop (length line - suffix_len is_blank line) line

length-trimmed-le : (line : List ℕ) → length (trimmed line) ≤ length line
length-trimmed-le line = omega (arith, simp length-append at (ap length (trim_again line)))

pub lines_follow : (bytes : List ℕ) → IfOk (reading bytes) (FollowFrom 1 0)
lines_follow bytes = if_read bytes (FollowFrom 1 0) (λ out few e.
    let r =
    read_all (λ lines out. (number place : ℕ) → IsCutFrom number place lines → FollowFrom number place out) (λ number place from. tt) silent speaks
    (cut bytes) out e in
    r 1 0 (cut_from_follows 1 0 (slice_split is_feed bytes)))
  where
    silent : (line : CutLine) (lines : List CutLine) (out : List LineView) → ((number place : ℕ) → IsCutFrom number place lines → FollowFrom number place out)
        → (number place : ℕ) → IsCutFrom number place (line ∷ lines) → FollowFrom number place out
    silent line lines out later number place from =
        later number place
        (IsCutFrom-earlier number place (line.number + 1) (line.start + length line.bytes) lines (omega (arith, from.0)) (omega (arith, from.1)) from.2)

    speaks : (line : CutLine) (x : LineView) (lines : List CutLine) (out : List LineView) → IsOf line x
        → ((number place : ℕ) → IsCutFrom number place lines → FollowFrom number place out)
        → (number place : ℕ) → IsCutFrom number place (line ∷ lines) → FollowFrom number place (x ∷ out)
    speaks line x lines out of later number place from =
        let short : length x.text ≤ length line.bytes = omega (arith, ap length of.text, length-trimmed-le line.bytes) in (
          omega (arith, from.0, of.number),
          omega (arith, from.1, of.start),
          omega (arith, of.start, of.end),
          later (x.number + 1) x.span.end
              (IsCutFrom-earlier (x.number + 1) x.span.end (line.number + 1) (line.start + length line.bytes) lines
              (omega (arith, of.number)) (omega (arith, of.end, short)) from.2),
        )

pub numbers_are_few : (bytes : List ℕ) → IfOk (reading bytes) (AllByRecursion (λ line. line.number ≤ MAX_RUN_LINES))
numbers_are_few bytes = if_read bytes (AllByRecursion (λ line. line.number ≤ MAX_RUN_LINES)) (λ out few e.
    let r = read_all (λ lines out. AllByRecursion (λ line. line.number < MAX_RUN_LINES + 1) lines → AllByRecursion (λ line. line.number ≤ MAX_RUN_LINES) out)
    (λ _. tt) (λ line lines out q h. q h.1) (λ line x lines out of q h. (omega (arith, h.0, of.number), q h.1)) (cut bytes) out e in
    r (cut_from_is_below (MAX_RUN_LINES + 1) 1 0 (slice_split is_feed bytes) (at_most (length (cut bytes)) few)))
  where
    at_most : (n : ℕ) → nat_lt MAX_RUN_LINES n ≡ false → 1 + n ≤ MAX_RUN_LINES + 1
    at_most n few = grind (arith, nat_tests)
