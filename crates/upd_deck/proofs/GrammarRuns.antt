-- A run is read as lines exactly when the grammar spells these lines.
use Rattle.upd_deck.proofs.Common.{◌≡◌, ◌↔◌, ℕ, zero, suc, ◌+◌, ◌-◌, ◌<◌, ◌≤◌, Bool, true, false, cond, eqb, ltb, ◌⊎◌, inl, inr, ⊎_elim, List, [], ◌∷◌, ◌++◌}
use Rattle.upd_deck.proofs.Common.{length, take, get_or, length-append, append_assoc, append-nil, refl, sym, ap, ◌∙◌, subst, Result, Ok, Err, arith}
use Rattle.upd_deck.proofs.Common.{take-append_seam, ne_eqb, eqb-true, le-ltb, ltb-false, cond-false, take_more, take_all, join_with_byte-slice_split}
use Rattle.upd_deck.proofs.Common.{AllByRecursion, slice_split, join_with_byte, strip_carriage_return, Fault, FaultKind, MAX_RUN_BYTES, MAX_RUN_LINES, ◌>>=◌}
use Rattle.upd_deck.proofs.Common.{refuse_if, at_line, each, LineView, blanks, IsAllowed, IsTextOf, Trimmed, IsLine, Comment, Line, Feed, ReturnFeed}
use Rattle.upd_deck.proofs.Common.{AreLines, NoMore, LastLine, NextLine, CutLine, cut_from, is_feed, cut, said, said_at, reading}
use Rattle.std.proofs.Math.Seq.{get_or-append_seam}
use Rattle.std.proofs.lemmas.List.Elements.{All-from_recursion}
use Rattle.upd_text.specs.declared.fault.FaultKind.TheVariants as fault
use Rattle.upd_deck.specs.Grammar.{Reads}
use Rattle.upd_deck.proofs.GrammarParts.{all_weaker, all_append, first_piece}
use Rattle.upd_deck.proofs.GrammarNames.{step_back, ok_same}
use Rattle.upd_deck.proofs.GrammarLines.{line_read, line_back, cut_line}

-- ---- pieces between LFs

-- neither a CR nor an LF
pub IsPlain : ℕ → Type 0
IsPlain b = (eqb b 10 ≡ false) × (eqb b 13 ≡ false)

allowed_plain : (b : ℕ) → IsAllowed b → IsPlain b
unfolding IsPlain
allowed_plain b h =
    (ne_eqb b 10 (λ e. ⊎_elim (λ r. omega (arith, r.0)) (λ n. omega arith) h), ne_eqb b 13 (λ e. ⊎_elim (λ r. omega (arith, r.0)) (λ n. omega arith) h))

blanks_plain : (n : ℕ) → AllByRecursion IsPlain (blanks n)
unfolding IsPlain
blanks_plain zero = tt
blanks_plain (suc n) = ((refl, refl), blanks_plain n)

text_plain : (text line : List ℕ) → IsTextOf text line → AllByRecursion IsPlain line
text_plain text line (Trimmed _ n allowed short inked) =
    all_append IsPlain text (blanks n) (all_weaker IsAllowed IsPlain allowed_plain text allowed) (blanks_plain n)

pub line_plain : (number start : ℕ) (line : List ℕ) (lines : List LineView) → IsLine number start line lines → AllByRecursion IsPlain line
line_plain number start line lines (Comment _ _ _ text few is comment) = text_plain text line is
line_plain number start line lines (Line _ _ _ text item few is no_comment says) = text_plain text line is

split_whole : (line : List ℕ) → AllByRecursion (λ b. eqb b 10 ≡ false) line → slice_split is_feed line ≡ line ∷ []
split_whole [] h = refl
split_whole (b ∷ bs) h = rw (h.0, split_whole bs h.1) refl

split_at_feed : (line rest : List ℕ) → AllByRecursion (λ b. eqb b 10 ≡ false) line → slice_split is_feed (line ++ 10 ∷ rest) ≡ line ∷ slice_split is_feed rest
split_at_feed [] rest h = refl
split_at_feed (b ∷ bs) rest h = rw (h.0, split_at_feed bs rest h.1) refl

-- ---- the CR before an LF

last_plain : (line : List ℕ) → AllByRecursion (λ b. eqb b 13 ≡ false) line → eqb (get_or line (length line - 1) 0) 13 ≡ false
last_plain [] h = refl
last_plain (b ∷ bs) h = All-from_recursion (λ b. eqb b 13 ≡ false) (b ∷ bs) h (length (b ∷ bs) - 1) 0 (omega arith)

strip_plain : (line : List ℕ) → AllByRecursion (λ b. eqb b 13 ≡ false) line → strip_carriage_return line ≡ line
strip_plain line h = cond-false _ (take (length line - 1) line) line (last_plain line h)

strip_return : (line : List ℕ) → strip_carriage_return (line ++ 13 ∷ []) ≡ line
strip_return line =
    let place : length (line ++ 13 ∷ []) - 1 ≡ length line = omega (arith, length-append line (13 ∷ [])) in
    rw (place, get_or-append_seam line 13 [] 0) (take-append_seam line (13 ∷ []))

strip_split : (piece : List ℕ) → (strip_carriage_return piece ≡ piece) ⊎ (piece ≡ strip_carriage_return piece ++ 13 ∷ [])
strip_split [] = inl refl
strip_split (b ∷ bs) = by_return (eqb (get_or (b ∷ bs) (length (b ∷ bs) - 1) 0) 13) refl
  where
    piece : List ℕ
    piece = b ∷ bs

    by_return : (t : Bool) → eqb (get_or piece (length piece - 1) 0) 13 ≡ t
        → (cond t (take (length piece - 1) piece) piece ≡ piece) ⊎ (piece ≡ cond t (take (length piece - 1) piece) piece ++ 13 ∷ [])
    by_return false e = inl refl
    by_return true e =
        inr (sym (take_all (length piece - 1 + 1) piece (omega arith)) ∙ take_more piece (length piece - 1) 0 (omega arith)
        ∙ ap (λ c. take (length piece - 1) piece ++ c ∷ []) (eqb-true (get_or piece (length piece - 1) 0) 13 e))

-- ---- a spelled run is read as spelled

pub plain_feed : (line : List ℕ) → AllByRecursion IsPlain line → AllByRecursion (λ b. eqb b 10 ≡ false) line
unfolding IsPlain
plain_feed line h = all_weaker IsPlain (λ b. eqb b 10 ≡ false) (λ b k. k.0) line h

plain_return : (line : List ℕ) → AllByRecursion IsPlain line → AllByRecursion (λ b. eqb b 13 ≡ false) line
unfolding IsPlain
plain_return line h = all_weaker IsPlain (λ b. eqb b 13 ≡ false) (λ b k. k.1) line h

cut_last : (number start : ℕ) (line : List ℕ) → 0 < length line → cut_from number start (line ∷ []) ≡ cut_line number start line ∷ []
cut_last number start line some = cond-false (eqb (length line) 0) [] (cut_line number start line ∷ []) (ne_eqb (length line) 0 (λ e. omega arith))

cut_next : (number start : ℕ) (line piece rest : List ℕ) → strip_carriage_return piece ≡ line → AllByRecursion (λ b. eqb b 10 ≡ false) piece
    → cut_from number start (slice_split is_feed (piece ++ 10 ∷ rest))
    ≡ cut_line number start line ∷ cut_from (number + 1) (start + length piece + 1) (slice_split is_feed rest)
cut_next number start line piece rest strip plain =
    let first = first_piece is_feed rest in
    rw (split_at_feed piece rest plain, first.2)
    (ap (λ l. cut_line number start l ∷ cut_from (number + 1) (start + length piece + 1) (first.0 ∷ first.1)) strip)

-- a line that was read, and the lines after it
next_read : (number start : ℕ) (line : List ℕ) (more later : List LineView) (cuts all : List CutLine) → all ≡ cut_line number start line ∷ cuts
    → said (cut_line number start line) ≡ Ok more → each said_at cuts ≡ Ok later → each said_at all ≡ Ok (more ++ later)
next_read number start line more later cuts all e one rest =
    ap (each said_at) e ∙ ap (λ r. at_line number r >>= (λ m. each said_at cuts >>= (λ l. Ok (m ++ l)))) one ∙ ap (λ r. r >>= (λ l. Ok (more ++ l))) rest

-- the rest of a run from an offset on is read as lines, and these are within the limit
abbrev IsReadAs : ℕ → List ℕ → List LineView → ℕ → Type 0
IsReadAs number bytes lines start =
    (each said_at (cut_from number start (slice_split is_feed bytes)) ≡ Ok lines)
    × (number + length (cut_from number start (slice_split is_feed bytes)) ≤ MAX_RUN_LINES + 1)

lines_read : (number start : ℕ) (bytes : List ℕ) (lines : List LineView) → AreLines number start bytes lines → number ≤ MAX_RUN_LINES + 1
    → IsReadAs number bytes lines start
lines_read number start bytes lines (NoMore _ _) few = (refl, omega arith)
lines_read number start bytes lines (LastLine _ _ _ _ some is) few =
    let one = line_read number start bytes lines is in
    let all : cut_from number start (slice_split is_feed bytes) ≡ cut_line number start bytes ∷ [] =
    ap (cut_from number start) (split_whole bytes (plain_feed bytes (line_plain number start bytes lines is))) ∙ cut_last number start bytes some in
    (next_read number start bytes lines [] [] _ all one.1 refl ∙ ap Ok (append-nil lines), omega (arith, ap length all, one.0))
lines_read number start bytes lines (NextLine _ _ line end rest more later is Feed behind) few =
    let one = line_read number start line more is in
    let plain = line_plain number start line more is in
    let all =
    ap (λ l. cut_from number start (slice_split is_feed l)) (append_assoc line (10 ∷ []) rest)
    ∙ cut_next number start line line rest (strip_plain line (plain_return line plain)) (plain_feed line plain) in
    let others = lines_read (number + 1) (start + length line + 1) rest later behind (omega (arith, one.0)) in
    (next_read number start line more later _ _ all one.1 others.0, omega (arith, ap length all, others.1))
lines_read number start bytes lines (NextLine _ _ line end rest more later is ReturnFeed behind) few =
    let one = line_read number start line more is in
    let piece : List ℕ = line ++ 13 ∷ [] in
    let plain = all_append (λ b. eqb b 10 ≡ false) line (13 ∷ []) (plain_feed line (line_plain number start line more is)) (refl, tt) in
    let all =
    ap (λ l. cut_from number start (slice_split is_feed l)) (append_assoc line (13 ∷ 10 ∷ []) rest ∙ sym (append_assoc line (13 ∷ []) (10 ∷ rest)))
    ∙ cut_next number start line piece rest (strip_return line) plain in
    let begin : start + length line + 2 ≡ start + length piece + 1 = omega (arith, length-append line (13 ∷ [])) in
    let others = subst (IsReadAs (number + 1) rest later) begin (lines_read (number + 1) (start + length line + 2) rest later behind (omega (arith, one.0))) in
    (next_read number start line more later _ _ all one.1 others.0, omega (arith, ap length all, others.1))

-- ---- a run that is read is spelled as read

at_line_back : {A : Type 0} (number : ℕ) (r : Result A FaultKind) (x : A) → at_line number r ≡ Ok x → r ≡ Ok x
at_line_back number (Ok y) x e = cc
at_line_back number (Err kind) x e = absurd cc

last_back : (number start : ℕ) (piece : List ℕ) (lines : List LineView) → number + length (cut_from number start (piece ∷ [])) ≤ MAX_RUN_LINES + 1
    → each said_at (cut_from number start (piece ∷ [])) ≡ Ok lines → AreLines number start piece lines
last_back number start [] lines few e = subst (AreLines number start []) (ok_same _ _ e) (NoMore number start)
last_back number start (b ∷ bs) lines few e =
    let all = cut_last number start (b ∷ bs) (omega arith) in
    let line : CutLine = cut_line number start (b ∷ bs) in
    let step = step_back (at_line number (said line)) (λ found. Ok (found ++ [])) lines (sym (ap (each said_at) all) ∙ e) in
    let is = line_back number start (b ∷ bs) step.0 (omega (arith, ap length all)) (at_line_back number (said line) step.0 step.1) in
    subst (AreLines number start (b ∷ bs)) (sym (append-nil step.0) ∙ ok_same _ _ step.2) (LastLine number start (b ∷ bs) step.0 (omega arith) is)

next_back : (number start : ℕ) (piece rest : List ℕ) (more later : List LineView) → IsLine number start (strip_carriage_return piece) more
    → AreLines (number + 1) (start + length piece + 1) rest later → AreLines number start (piece ++ 10 ∷ rest) (more ++ later)
next_back number start piece rest more later is behind = ⊎_elim by_feed by_return (strip_split piece)
  where
    line : List ℕ
    line = strip_carriage_return piece

    by_feed : line ≡ piece → AreLines number start (piece ++ 10 ∷ rest) (more ++ later)
    by_feed e =
        let next = NextLine number start piece (10 ∷ []) rest more later (subst (λ l. IsLine number start l more) e is) Feed behind in
        subst (λ l. AreLines number start l (more ++ later)) (append_assoc piece (10 ∷ []) rest) next

    by_return : piece ≡ line ++ 13 ∷ [] → AreLines number start (piece ++ 10 ∷ rest) (more ++ later)
    by_return e =
        let begin : start + length piece + 1 ≡ start + length line + 2 = omega (arith, ap length e, length-append line (13 ∷ [])) in
        let bytes : line ++ 13 ∷ 10 ∷ [] ++ rest ≡ piece ++ 10 ∷ rest =
        append_assoc line (13 ∷ 10 ∷ []) rest ∙ sym (append_assoc line (13 ∷ []) (10 ∷ rest)) ∙ ap (λ l. l ++ 10 ∷ rest) (sym e) in
        subst (λ l. AreLines number start l (more ++ later)) bytes
        (NextLine number start line (13 ∷ 10 ∷ []) rest more later is ReturnFeed (subst (λ k. AreLines (number + 1) k rest later) begin behind))

lines_back : (number start : ℕ) (piece : List ℕ) (pieces : List (List ℕ)) (lines : List LineView)
    → number + length (cut_from number start (piece ∷ pieces)) ≤ MAX_RUN_LINES + 1 → each said_at (cut_from number start (piece ∷ pieces)) ≡ Ok lines
    → AreLines number start (join_with_byte 10 (piece ∷ pieces)) lines
lines_back number start piece [] lines few e = last_back number start piece lines few e
lines_back number start piece (next ∷ pieces) lines few e =
    let line : CutLine = cut_line number start (strip_carriage_return piece) in
    let cuts : List CutLine = cut_from (number + 1) (start + length piece + 1) (next ∷ pieces) in
    let first = step_back (at_line number (said line)) (λ found. each said_at cuts >>= (λ more. Ok (found ++ more))) lines e in
    let rest = step_back (each said_at cuts) (λ more. Ok (first.0 ++ more)) lines first.2 in
    let is = line_back number start (strip_carriage_return piece) first.0 (omega arith) (at_line_back number (said line) first.0 first.1) in
    let behind = lines_back (number + 1) (start + length piece + 1) next pieces rest.0 (omega arith) rest.1 in
    subst (AreLines number start (join_with_byte 10 (piece ∷ next ∷ pieces))) (ok_same _ _ rest.2)
    (next_back number start piece (join_with_byte 10 (next ∷ pieces)) first.0 rest.0 is behind)

-- ---- the limits of a run

pub gate_read : {B : Type 0} (bad : Bool) (kind : FaultKind) (next : Bool → Result B Fault) → bad ≡ false
    → (at_line 0 (refuse_if bad kind) >>= next) ≡ next false
gate_read bad kind next e = ap (λ b. at_line 0 (refuse_if b kind) >>= next) e

gate_back : {B : Type 0} (bad : Bool) (kind : FaultKind) (next : Bool → Result B Fault) (y : B) → (at_line 0 (refuse_if bad kind) >>= next) ≡ Ok y
    → (bad ≡ false) × (next false ≡ Ok y)
gate_back true kind next y e = absurd cc
gate_back false kind next y e = (refl, e)

abbrev pub reading_of_lines : List ℕ → Result (List LineView) Fault
reading_of_lines bytes = at_line 0 (refuse_if (ltb MAX_RUN_LINES (length (cut bytes))) fault.TooManyLines) >>= (λ _. each said_at (cut bytes))

run_read : (bytes : List ℕ) (lines : List LineView) → Reads bytes lines → reading bytes ≡ Ok lines
run_read bytes lines h =
    let read = lines_read 1 0 bytes lines h.spelled (omega arith) in
    gate_read (ltb MAX_RUN_BYTES (length bytes)) fault.RunLong (λ _. reading_of_lines bytes) (le-ltb MAX_RUN_BYTES (length bytes) h.short)
    ∙ gate_read (ltb MAX_RUN_LINES (length (cut bytes))) fault.TooManyLines (λ _. each said_at (cut bytes))
    (le-ltb MAX_RUN_LINES (length (cut bytes)) (omega (arith, read.1)))
    ∙ read.0

pub run_back : (bytes : List ℕ) (lines : List LineView) → reading bytes ≡ Ok lines → Reads bytes lines
run_back bytes lines e =
    let short = gate_back (ltb MAX_RUN_BYTES (length bytes)) fault.RunLong (λ _. reading_of_lines bytes) lines e in
    let few = gate_back (ltb MAX_RUN_LINES (length (cut bytes))) fault.TooManyLines (λ _. each said_at (cut bytes)) lines short.1 in
    let first = first_piece is_feed bytes in
    let cuts : cut bytes ≡ cut_from 1 0 (first.0 ∷ first.1) = ap (cut_from 1 0) first.2 in
    let rest = lines_back 1 0 first.0 first.1 lines (omega (arith, ltb-false MAX_RUN_LINES (length (cut bytes)) few.0, ap length cuts))
    (sym (ap (each said_at) cuts) ∙ few.1) in
    let joined : join_with_byte 10 (first.0 ∷ first.1) ≡ bytes = ap (join_with_byte 10) (sym first.2) ∙ join_with_byte-slice_split 10 bytes in
    record {
      short = ltb-false MAX_RUN_BYTES (length bytes) short.0;
      spelled = subst (λ l. AreLines 1 0 l lines) joined rest;
    }

pub runs : (bytes : List ℕ) (lines : List LineView) → Reads bytes lines ↔ (reading bytes ≡ Ok lines)
runs bytes lines = (run_read bytes lines, run_back bytes lines)
