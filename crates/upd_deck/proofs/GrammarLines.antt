-- A line is read as its text, and has the item of that text.
use Rattle.upd_deck.proofs.Common.{◌≡◌, ℕ, zero, suc, ◌+◌, ◌-◌, ◌<◌, ◌≤◌, Bool, true, false, cond, eqb, ltb, leb, not, ◌&&◌, inl, inr, ⊎_elim, List, [], ◌∷◌}
use Rattle.upd_deck.proofs.Common.{◌++◌, length, take, get_or, length-append, refl, sym, ap, ◌∙◌, subst, Result, Ok, arith, take-append_seam, or_left}
use Rattle.upd_deck.proofs.Common.{or_right, and_parts, and_from, or_cases, ne_eqb, eqb-true, eqb-false, le-leb, leb-true, le-ltb, ltb-false, false≢true}
use Rattle.upd_deck.proofs.Common.{not-false, false_from_ne_true, both_ways, length-replicate, take_more, take_all, AllByRecursion, list_all, suffix_len}
use Rattle.upd_deck.proofs.Common.{FaultKind, MAX_RUN_LINES, MAX_LINE_BYTES, is_blank, is_comment, ◌>>=◌, refuse_if, LineView, line_view, blanks, IsAllowed}
use Rattle.upd_deck.proofs.Common.{IsTextOf, Trimmed, IsLine, Comment, Line, item_of, trimmed, is_allowed, text_of, CutLine, said}
use Rattle.std.proofs.lemmas.Bool.{and_right, eq-eqb}
use Rattle.std.proofs.lemmas.List.{get_or-append_right, get_or-replicate, get_or_append_left}
use Rattle.std.proofs.lemmas.List.Sums.{suffix_len_is}
use Rattle.upd_text.specs.declared.fault.FaultKind.TheVariants as fault
use Rattle.upd_deck.specs.Grammar.{EndsInked, IsComment, Slashed}
use Rattle.upd_deck.proofs.GrammarParts.{all_weaker, all_append}
use Rattle.upd_deck.proofs.GrammarNames.{done, step_back, ok_same, all_of, all_to}
use Rattle.upd_deck.proofs.GrammarSays.{refuse_back, refuse_read, says_read, says_back}

-- ---- blanks at the end

last_inked : (text : List ℕ) → EndsInked text → 0 < length text → is_blank (get_or text (length text - 1) 0) ≡ false
last_inked text inked some = ne_eqb (get_or text (length text - 1) 0) 32 (λ e. inked (take (length text - 1) text) (whole e))
  where
    whole : get_or text (length text - 1) 0 ≡ 32 → text ≡ take (length text - 1) text ++ 32 ∷ []
    whole e =
        sym (take_all (length text - 1 + 1) text (omega arith)) ∙ take_more text (length text - 1) 0 (omega arith)
        ∙ ap (λ b. take (length text - 1) text ++ b ∷ []) e

long_blanks : (n : ℕ) → length (blanks n) ≡ n
long_blanks n = length-replicate n (let b : ℕ = 32 in b)

blanks_counted : (text : List ℕ) (n : ℕ) → EndsInked text → suffix_len is_blank (text ++ blanks n) ≡ n
blanks_counted text n inked =
    let long : length (text ++ blanks n) ≡ length text + n = length-append text (blanks n) ∙ ap (λ m. length text + m) (long_blanks n) in
    suffix_len_is is_blank (text ++ blanks n) (length text) 0 (omega (arith, long)) (λ k low high. blank k low (omega (arith, long))) (λ some. inked_at some)
    ∙ omega (arith, long)
  where
    blank : (k : ℕ) → length text ≤ k → k < length text + n → is_blank (get_or (text ++ blanks n) k 0) ≡ true
    blank k low high = ap is_blank (get_or-append_right text (blanks n) (length text) k 0 refl low ∙ get_or-replicate n (k - length text) 32 0 (omega arith))

    inked_at : 0 < length text → is_blank (get_or (text ++ blanks n) (length text - 1) 0) ≡ false
    inked_at some = ap is_blank (get_or_append_left text (blanks n) 0 (length text - 1) (omega arith)) ∙ last_inked text inked some

pub trimmed_is : (text : List ℕ) (n : ℕ) → EndsInked text → trimmed (text ++ blanks n) ≡ text
trimmed_is text n inked =
    let long : length (text ++ blanks n) - suffix_len is_blank (text ++ blanks n) ≡ length text =
    omega (arith, blanks_counted text n inked, length-append text (blanks n), long_blanks n) in
    rw long (take-append_seam text (blanks n))

-- each line is a text and blanks
pub ends_nil : EndsInked []
ends_nil [] e = cc
ends_nil (x ∷ xs) e = cc

ends_one : (b : ℕ) → is_blank b ≡ false → EndsInked (b ∷ [])
ends_one b h [] e = eqb-false b 32 h cc
ends_one b h (x ∷ xs) e = ends_nil xs cc

ends_more : (b c : ℕ) (cs : List ℕ) → EndsInked (c ∷ cs) → EndsInked (b ∷ c ∷ cs)
ends_more b c cs h [] e = cc
ends_more b c cs h (x ∷ xs) e = h xs cc

abbrev pub EndSplit : List ℕ → Type 0
EndSplit line = (text : List ℕ) × (n : ℕ) × (line ≡ text ++ blanks n) × EndsInked text

end_first : (b : ℕ) (bs : List ℕ) (t : Bool) → is_blank b ≡ t → EndSplit bs → EndSplit (b ∷ bs)
end_first b bs true h ([], n, e, inked) = ([], suc n, cc (eqb-true b 32 h, e), ends_nil)
end_first b bs false h ([], n, e, inked) = (b ∷ [], n, ap (λ l. b ∷ l) e, ends_one b h)
end_first b bs t h (c ∷ cs, n, e, inked) = (b ∷ c ∷ cs, n, ap (λ l. b ∷ l) e, ends_more b c cs inked)

pub end_split : (line : List ℕ) → EndSplit line
end_split [] = ([], 0, refl, ends_nil)
end_split (b ∷ bs) = end_first b bs (is_blank b) refl (end_split bs)

-- ---- the text of a line

pub allowed_read : (b : ℕ) → IsAllowed b → is_allowed b ≡ true
allowed_read b h = ⊎_elim (λ r. or_left _ (eqb b 9) (and_from _ _ (le-leb 32 b r.0) (le-leb b 126 r.1))) (λ e. or_right _ (eqb b 9) (eq-eqb b 9 e)) h

pub allowed_back : (b : ℕ) → is_allowed b ≡ true → IsAllowed b
allowed_back b h =
    ⊎_elim (λ r. let both = and_parts (leb 32 b) (leb b 126) r in inl (leb-true 32 b both.0, leb-true b 126 both.1)) (λ e. inr (eqb-true b 9 e))
    (or_cases (leb 32 b && leb b 126) (eqb b 9) h)

pub allowed_blanks : (n : ℕ) → AllByRecursion (λ b. is_allowed b ≡ true) (blanks n)
allowed_blanks zero = tt
allowed_blanks (suc n) = (refl, allowed_blanks n)

long_or_text : List ℕ → Result (List ℕ) FaultKind
long_or_text line = refuse_if (ltb MAX_LINE_BYTES (length (trimmed line))) fault.LineLong >>= (λ _. Ok (trimmed line))

pub text_read : (text line : List ℕ) → IsTextOf text line → text_of line ≡ Ok text
unfolding long_or_text
text_read text line (Trimmed _ n allowed short inked) =
    let all : list_all is_allowed (text ++ blanks n) ≡ true =
    all_to is_allowed (text ++ blanks n) (all_append (λ b. is_allowed b ≡ true) text (blanks n)
    (all_weaker IsAllowed (λ b. is_allowed b ≡ true) allowed_read text allowed) (allowed_blanks n)) in
    let same = trimmed_is text n inked in
    refuse_read (not (list_all is_allowed (text ++ blanks n))) fault.BadByte (λ _. long_or_text (text ++ blanks n)) (ap not all)
    ∙ refuse_read (ltb MAX_LINE_BYTES (length (trimmed (text ++ blanks n)))) fault.LineLong (λ _. done (trimmed (text ++ blanks n)))
    (ap (λ l. ltb MAX_LINE_BYTES (length l)) same ∙ le-ltb MAX_LINE_BYTES (length text) short)
    ∙ ap Ok same

pub all_front : (P : ℕ → Type 0) (xs ys : List ℕ) → AllByRecursion P (xs ++ ys) → AllByRecursion P xs
all_front P [] ys h = tt
all_front P (x ∷ xs) ys h = (h.0, all_front P xs ys h.1)

pub text_back : (line text : List ℕ) → text_of line ≡ Ok text → IsTextOf text line
unfolding long_or_text
text_back line text e =
    let allowed = refuse_back (not (list_all is_allowed line)) fault.BadByte (λ _. long_or_text line) text e in
    let short = refuse_back (ltb MAX_LINE_BYTES (length (trimmed line))) fault.LineLong (λ _. done (trimmed line)) text allowed.1 in
    let split = end_split line in
    let same : split.0 ≡ text = sym (ap trimmed split.2 ∙ trimmed_is split.0 split.1 split.3) ∙ ok_same _ _ short.1 in
    let all = all_of is_allowed (split.0 ++ blanks split.1) (ap (list_all is_allowed) (sym split.2) ∙ not-false (list_all is_allowed line) allowed.0) in
    let front = all_weaker (λ b. is_allowed b ≡ true) IsAllowed allowed_back split.0 (all_front (λ b. is_allowed b ≡ true) split.0 (blanks split.1) all) in
    let fits : length split.0 ≤ MAX_LINE_BYTES =
    ltb-false MAX_LINE_BYTES (length split.0) (ap (λ l. ltb MAX_LINE_BYTES (length l)) (same ∙ sym (ok_same _ _ short.1)) ∙ short.0) in
    subst (λ l. IsTextOf l line) same (subst (IsTextOf split.0) (sym split.2) (Trimmed split.0 split.1 front fits split.3))

-- ---- comments

pub comment_read : (text : List ℕ) → IsComment text → is_comment text ≡ true
comment_read text (Slashed rest) = refl

pub comment_back : (text : List ℕ) → is_comment text ≡ true → IsComment text
comment_back [] e = absurd (false≢true e)
comment_back (b ∷ []) e = absurd (false≢true (sym (and_right (eqb b 42) false refl) ∙ e))
comment_back (b ∷ c ∷ cs) e =
    let both = and_parts (eqb b 42) (eqb c 47) e in
    subst IsComment (cc (eqb-true b 42 both.0, eqb-true c 47 both.1)) (Slashed cs)

-- ---- lines

abbrev pub cut_line : ℕ → ℕ → List ℕ → CutLine
cut_line number start line = record { number = number; start = start; bytes = line }

abbrev said_by : ℕ → ℕ → List ℕ → Result (List LineView) FaultKind
said_by number start text = cond (is_comment text) (Ok []) (item_of text >>= (λ item. Ok (line_view number start text item ∷ [])))

pub line_read : (number start : ℕ) (line : List ℕ) (lines : List LineView) → IsLine number start line lines
    → (number ≤ MAX_RUN_LINES) × (said (cut_line number start line) ≡ Ok lines)
line_read number start line lines (Comment _ _ _ text few is comment) = (
  few,
  ap (λ r. r >>= said_by number start) (text_read text line is)
      ∙ ap (λ t. cond t (done []) (item_of text >>= (λ item. Ok (line_view number start text item ∷ [])))) (comment_read text comment),
)
line_read number start line lines (Line _ _ _ text item few is no_comment says) =
    let plain : is_comment text ≡ false = false_from_ne_true (is_comment text) (λ e. no_comment (comment_back text e)) in (
      few,
      ap (λ r. r >>= said_by number start) (text_read text line is)
          ∙ ap (λ t. cond t (done []) (item_of text >>= (λ item. Ok (line_view number start text item ∷ [])))) plain
          ∙ ap (λ r. r >>= (λ item. done (line_view number start text item ∷ []))) (says_read text item says),
    )

pub line_back : (number start : ℕ) (line : List ℕ) (lines : List LineView) → number ≤ MAX_RUN_LINES → said (cut_line number start line) ≡ Ok lines
    → IsLine number start line lines
line_back number start line lines few e =
    let step = step_back (text_of line) (said_by number start) lines e in
    by_comment step.0 (text_back line step.0 step.1) (is_comment step.0) refl step.2
  where
    by_comment : (text : List ℕ) → IsTextOf text line → (t : Bool) → is_comment text ≡ t
        → cond t (Ok []) (item_of text >>= (λ item. Ok (line_view number start text item ∷ []))) ≡ Ok lines → IsLine number start line lines
    by_comment text is true h e = subst (IsLine number start line) (ok_same _ _ e) (Comment number start line text few is (comment_back text h))
    by_comment text is false h e =
        let item = step_back (item_of text) (λ item. done (line_view number start text item ∷ [])) lines e in
        subst (IsLine number start line) (ok_same _ _ item.2)
        (Line number start line text item.0 few is (λ c. both_ways (is_comment text) h (comment_read text c)) (says_back text item.0 item.1))
