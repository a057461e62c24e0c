-- The lines of a run are at their spans.
use Rattle.upd_deck.proofs.Common.{◌≡◌, ℕ, ◌+◌, eqb, cond, false, List, [], ◌∷◌, ◌++◌, length, length-append, append_assoc, append-nil, refl, sym, ap, ◌∙◌}
use Rattle.upd_deck.proofs.Common.{subst, Ok, arith, AllByRecursion, LineView, blanks, Trimmed, IsLine, Comment, Line, Feed, ReturnFeed, AreLines, NoMore}
use Rattle.upd_deck.proofs.Common.{LastLine, NextLine, is_feed, reading}
use Rattle.std.proofs.lemmas.List.Sums.{sum_by-append, sum_by-cons}
use Rattle.std.specs.List.{count_by}
use Rattle.upd_deck.specs.Grammar.{IsLineEnd, StandsIn}
use Rattle.upd_deck.proofs.GrammarParts.{all_append}
use Rattle.upd_deck.proofs.GrammarRuns.{line_plain, plain_feed, run_back}

feeds : List ℕ → ℕ
feeds bytes = count_by is_feed bytes

feeds_append : (xs ys : List ℕ) → feeds (xs ++ ys) ≡ feeds xs + feeds ys
unfolding feeds
feeds_append xs ys = sum_by-append (λ b. cond (is_feed b) 1 0) xs ys

feeds_none : (line : List ℕ) → AllByRecursion (λ b. eqb b 10 ≡ false) line → feeds line ≡ 0
unfolding feeds
feeds_none [] h = refl
feeds_none (b ∷ bs) h = sum_by-cons (λ c. cond (is_feed c) 1 0) b bs ∙ ap (λ t. cond t 1 0 + count_by is_feed bs) h.0 ∙ ap (λ n. 0 + n) (feeds_none bs h.1)

feeds_end : (end : List ℕ) → IsLineEnd end → feeds end ≡ 1
unfolding feeds
feeds_end end Feed = refl
feeds_end end ReturnFeed = refl

line_stands : (number start : ℕ) (line : List ℕ) (lines : List LineView) → IsLine number start line lines → (front behind : List ℕ) → start ≡ length front
    → number ≡ feeds front + 1 → AllByRecursion (StandsIn (front ++ (line ++ behind))) lines
unfolding feeds
line_stands number start line lines (Comment _ _ _ text few is comment) front behind begin count = tt
line_stands number start line lines (Line _ _ _ text item few (Trimmed _ n allowed short inked) no_comment says) front behind begin count = (
  record {
    before = front;
    behind = blanks n ++ behind;
    whole = ap (λ l. front ++ l) (append_assoc text (blanks n) behind) ∙ sym (append_assoc front text (blanks n ++ behind));
    start = begin;
    end = omega (arith, length-append front text);
    number = count;
  },
  tt,
)

lines_stand : (number start : ℕ) (bytes : List ℕ) (lines : List LineView) → AreLines number start bytes lines → (front : List ℕ) → start ≡ length front
    → number ≡ feeds front + 1 → AllByRecursion (StandsIn (front ++ bytes)) lines
lines_stand number start bytes lines (NoMore _ _) front begin count = tt
lines_stand number start bytes lines (LastLine _ _ _ _ some is) front begin count =
    subst (λ l. AllByRecursion (StandsIn (front ++ l)) lines) (append-nil bytes) (line_stands number start bytes lines is front [] begin count)
lines_stand number start bytes lines (NextLine _ _ line end rest more later is ends behind) front begin count =
    let first =
    subst (λ l. AllByRecursion (StandsIn (front ++ l)) more) (sym (append_assoc line end rest))
    (line_stands number start line more is front (end ++ rest) begin count) in
    let place : start + length line + length end ≡ length (front ++ (line ++ end)) = omega (arith, length-append front (line ++ end), length-append line end) in
    let next : number + 1 ≡ feeds (front ++ (line ++ end)) + 1 =
    omega (
      arith,
      feeds_append front (line ++ end),
      feeds_append line end,
      feeds_none line (plain_feed line (line_plain number start line more is)),
      feeds_end end ends,
    ) in
    let others =
    subst (λ l. AllByRecursion (StandsIn l) later) (append_assoc front (line ++ end) rest)
    (lines_stand (number + 1) (start + length line + length end) rest later behind (front ++ (line ++ end)) place next) in
    all_append (StandsIn (front ++ (line ++ end ++ rest))) more later first others

pub stand : (bytes : List ℕ) (lines : List LineView) → reading bytes ≡ Ok lines → AllByRecursion (StandsIn bytes) lines
unfolding feeds
stand bytes lines e = let run = run_back bytes lines e in lines_stand 1 0 bytes lines run.spelled [] refl refl
