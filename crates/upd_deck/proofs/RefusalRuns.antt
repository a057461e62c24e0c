-- A run is refused with a fault exactly when the order of refusals gives that fault.
use Rattle.upd_deck.proofs.Common.{◌≡◌, ◌↔◌, ℕ, zero, suc, ◌≤◌, Bool, true, false, cond, ltb, not, ◌&&◌, List, [], ◌∷◌, ◌++◌, length, refl, sym, ap, ◌∙◌}
use Rattle.upd_deck.proofs.Common.{subst, Option, Some, None, Result, Ok, Err, arith, both_ways, false_from_ne_true, false≢true, ltb-false, le-ltb}
use Rattle.upd_deck.proofs.Common.{AllByRecursion, Contains, list_all, Fault, FaultKind, MAX_RUN_BYTES, MAX_RUN_LINES, MAX_LINE_BYTES, is_comment, is_starred}
use Rattle.upd_deck.proofs.Common.{word, fields, ◌>>=◌, refuse_if, at_line, each, Word, LineView, line_view, Text, blanks, IsAllowed, IsTextOf, meaning}
use Rattle.upd_deck.proofs.Common.{item_by, item_of, trimmed, is_allowed, text_of, CutLine, cut, said, said_at, reading}
use Rattle.std.proofs.lemmas.Bool.{ltb-true, lt-ltb}
use Rattle.upd_text.specs.declared.fault.FaultKind.TheVariants as fault
use Rattle.upd_deck.specs.Refusals.{LineFails, Byte, Long, Fields, IsFaultless, fault_of, RunFails, ManyBytes, ManyLines, FirstFaulty}
use Rattle.upd_deck.proofs.GrammarNames.{all_of, all_to, done}
use Rattle.upd_deck.proofs.GrammarParts.{all_weaker, all_append}
use Rattle.upd_deck.proofs.GrammarLines.{trimmed_is, end_split, allowed_read, allowed_back, allowed_blanks, text_read, text_back, comment_read, comment_back}
use Rattle.upd_deck.proofs.GrammarLines.{cut_line, all_front}
use Rattle.upd_deck.proofs.GrammarSays.{word_read, word_back, means_read, means_back}
use Rattle.upd_deck.proofs.RefusalFields.{ok_not_err, err_same, and_no, made_err, fields_fail_read, fields_fail_back}
use Rattle.upd_deck.proofs.GrammarRuns.{gate_read, reading_of_lines}

-- ---- bytes

failing_in : {A : Type 0} (test : A → Bool) (xs : List A) → list_all test xs ≡ false → (x : A) × Contains xs x × (test x ≡ false)
failing_in test [] h = absurd (false≢true (sym h))
failing_in {A = A} test (x ∷ xs) h = by_test (test x) refl h (failing_in test xs)
  where
    by_test : (t : Bool) → test x ≡ t → (t && list_all test xs) ≡ false → (list_all test xs ≡ false → (y : A) × Contains xs y × (test y ≡ false))
        → (y : A) × Contains (x ∷ xs) y × (test y ≡ false)
    by_test false e h rest = (x, (0, omega arith, refl), e)
    by_test true e h rest = let found = rest h in (found.0, (suc found.1.0, omega (arith, found.1.1), found.1.2), found.2)

not_all : {A : Type 0} (test : A → Bool) (xs : List A) (x : A) → Contains xs x → test x ≡ false → list_all test xs ≡ false
not_all test [] x (k, lt, e) h = absurd (omega arith)
not_all test (y ∷ xs) x (zero, lt, e) h = ap (λ t. t && list_all test xs) (ap test e ∙ h)
not_all test (y ∷ xs) x (suc k, lt, e) h = ap (λ t. test y && t) (not_all test xs x (k, omega arith, e) h) ∙ and_no (test y)

-- ---- the bytes of a line

length_asked : List ℕ → Result (List ℕ) FaultKind
length_asked line = refuse_if (ltb MAX_LINE_BYTES (length (trimmed line))) fault.LineLong >>= (λ _. Ok (trimmed line))

said_of_text : ℕ → ℕ → List ℕ → Result (List LineView) FaultKind
said_of_text number start text = cond (is_comment text) (Ok []) (item_of text >>= (λ item. Ok (line_view number start text item ∷ [])))

text_refused : (line : List ℕ) (k : FaultKind) (number start : ℕ) → text_of line ≡ Err k → said (cut_line number start line) ≡ Err k
unfolding said_of_text
text_refused line k number start e = ap (λ r. r >>= said_of_text number start) e

byte_refused : (line : List ℕ) → list_all is_allowed line ≡ false → text_of line ≡ Err fault.BadByte
unfolding length_asked
byte_refused line e = ap (λ t. refuse_if (not t) fault.BadByte >>= (λ _. length_asked line)) e

long_refused : (line : List ℕ) → list_all is_allowed line ≡ true → ltb MAX_LINE_BYTES (length (trimmed line)) ≡ true → text_of line ≡ Err fault.LineLong
unfolding length_asked
long_refused line allowed long =
    ap (λ t. refuse_if (not t) fault.BadByte >>= (λ _. length_asked line)) allowed
    ∙ ap (λ t. refuse_if t fault.LineLong >>= (λ _. Ok (trimmed line))) long

item_refused : (text line : List ℕ) (k : FaultKind) (number start : ℕ) → IsTextOf text line → is_comment text ≡ false → item_of text ≡ Err k
    → said (cut_line number start line) ≡ Err k
unfolding said_of_text
item_refused text line k number start is plain e =
    ap (λ r. r >>= said_of_text number start) (text_read text line is)
    ∙ ap (λ t. cond t (Ok []) (item_of text >>= (λ item. Ok (line_view number start text item ∷ [])))) plain
    ∙ ap (λ r. r >>= (λ item. Ok (line_view number start text item ∷ []))) e

pub line_fails_read : (number start : ℕ) (line : List ℕ) (k : FaultKind) → LineFails line k → said (cut_line number start line) ≡ Err k
line_fails_read number start line k (Byte _ byte stands bad) =
    let not_allowed : is_allowed byte ≡ false = false_from_ne_true (is_allowed byte) (λ e. bad (allowed_back byte e)) in
    text_refused line k number start (byte_refused line (not_all is_allowed line byte stands not_allowed))
line_fails_read number start line k (Long text n allowed inked long) =
    let all : list_all is_allowed (text ++ blanks n) ≡ true =
    all_to is_allowed (text ++ blanks n) (all_append (λ b. is_allowed b ≡ true) text (blanks n)
    (all_weaker IsAllowed (λ b. is_allowed b ≡ true) allowed_read text allowed) (allowed_blanks n)) in
    text_refused line k number start
    (long_refused (text ++ blanks n) all (ap (λ l. ltb MAX_LINE_BYTES (length l)) (trimmed_is text n inked) ∙ lt-ltb MAX_LINE_BYTES (length text) long))
line_fails_read number start line k (Fields _ text w known _ is no_comment has means fail) =
    let plain : is_comment text ≡ false = false_from_ne_true (is_comment text) (λ e. no_comment (comment_back text e)) in
    let starred = word_read text w has in
    item_refused text line k number start is plain
    (ap (λ t. cond t (item_by (meaning (word text)) (fields text)) (done Text)) starred.0
    ∙ ap (λ m. item_by m (fields text)) (ap meaning starred.1 ∙ means_read w known means)
    ∙ fields_fail_read known (fields text) k fail)

item_back : (text line : List ℕ) (k : FaultKind) → IsTextOf text line → is_comment text ≡ false → item_of text ≡ Err k → LineFails line k
item_back text line k is plain e = by_star (is_starred text) refl (meaning (word text)) refl e
  where
    by_star : (t : Bool) → is_starred text ≡ t → (m : Option Word) → meaning (word text) ≡ m → cond t (item_by m (fields text)) (done Text) ≡ Err k
        → LineFails line k
    by_star false star m means e = absurd cc
    by_star true star None means e = absurd cc
    by_star true star (Some known) means e =
        Fields line text (word text) known k is (λ c. both_ways (is_comment text) plain (comment_read text c)) (word_back text star)
        (means_back (word text) known means) (fields_fail_back known (fields text) k e)

text_accepted : (line : List ℕ) → list_all is_allowed line ≡ true → ltb MAX_LINE_BYTES (length (trimmed line)) ≡ false → text_of line ≡ Ok (trimmed line)
unfolding length_asked
text_accepted line allowed short =
    ap (λ t. refuse_if (not t) fault.BadByte >>= (λ _. length_asked line)) allowed
    ∙ ap (λ t. refuse_if t fault.LineLong >>= (λ _. Ok (trimmed line))) short

byte_back : (line : List ℕ) → list_all is_allowed line ≡ false → LineFails line fault.BadByte
byte_back line bad =
    let found = failing_in is_allowed line bad in
    Byte line found.0 found.1 (λ h. both_ways (is_allowed found.0) found.2 (allowed_read found.0 h))

long_back : (line : List ℕ) → list_all is_allowed line ≡ true → ltb MAX_LINE_BYTES (length (trimmed line)) ≡ true → LineFails line fault.LineLong
long_back line allowed long =
    let split = end_split line in
    let all = all_of is_allowed (split.0 ++ blanks split.1) (ap (list_all is_allowed) (sym split.2) ∙ allowed) in
    let front =
    all_weaker (λ b. is_allowed b ≡ true) IsAllowed allowed_back split.0 (all_front (λ b. is_allowed b ≡ true) split.0 (blanks split.1) all) in
    let same : trimmed line ≡ split.0 = ap trimmed split.2 ∙ trimmed_is split.0 split.1 split.3 in
    let longer = ltb-true MAX_LINE_BYTES (length split.0) (ap (λ l. ltb MAX_LINE_BYTES (length l)) (sym same) ∙ long) in
    subst (λ l. LineFails l fault.LineLong) (sym split.2) (Long split.0 split.1 front split.3 longer)

text_said_back : (number start : ℕ) (text line : List ℕ) (k : FaultKind) → IsTextOf text line → said_of_text number start text ≡ Err k → LineFails line k
unfolding said_of_text
text_said_back number start text line k is e = by_comment (is_comment text) refl e
  where
    by_comment : (t : Bool) → is_comment text ≡ t → cond t (Ok []) (item_of text >>= (λ item. Ok (line_view number start text item ∷ []))) ≡ Err k
        → LineFails line k
    by_comment true comment e = absurd cc
    by_comment false plain e = item_back text line k is plain (made_err (item_of text) (λ item. line_view number start text item ∷ []) k e)

pub line_fails_back : (number start : ℕ) (line : List ℕ) (k : FaultKind) → said (cut_line number start line) ≡ Err k → LineFails line k
unfolding said_of_text
line_fails_back number start line k e = by_allowed (list_all is_allowed line) refl
  where
    refused_as : (kind : FaultKind) → text_of line ≡ Err kind → LineFails line kind → LineFails line k
    refused_as kind refused fails = subst (LineFails line) (err_same kind k (sym (text_refused line kind number start refused) ∙ e)) fails

    by_length : (t : Bool) → list_all is_allowed line ≡ true → ltb MAX_LINE_BYTES (length (trimmed line)) ≡ t → LineFails line k
    by_length true allowed long = refused_as fault.LineLong (long_refused line allowed long) (long_back line allowed long)
    by_length false allowed short =
        let accepted = text_accepted line allowed short in
        text_said_back number start (trimmed line) line k (text_back line (trimmed line) accepted)
        (sym (ap (λ r. r >>= said_of_text number start) accepted) ∙ e)

    by_allowed : (t : Bool) → list_all is_allowed line ≡ t → LineFails line k
    by_allowed false bad = refused_as fault.BadByte (byte_refused line bad) (byte_back line bad)
    by_allowed true allowed = by_length (ltb MAX_LINE_BYTES (length (trimmed line))) allowed refl

-- ---- the first refusal in a list

-- what is in front is accepted
abbrev IsAccepted : {A B E : Type 0} → (A → Result (List B) E) → A → Type 0
IsAccepted {B = B} f y = (found : List B) × (f y ≡ Ok found)

abbrev FirstRefused : {A B E : Type 0} → (A → Result (List B) E) → List A → E → Type 0
FirstRefused {A = A} f xs e = (front : List A) × (x : A) × (behind : List A) × (xs ≡ front ++ x ∷ behind) × AllByRecursion (IsAccepted f) front × (f x ≡ Err e)

each_refused : {A B E : Type 0} (f : A → Result (List B) E) (front behind : List A) (x : A) (e : E) → AllByRecursion (IsAccepted f) front → f x ≡ Err e
    → each f (front ++ x ∷ behind) ≡ Err e
each_refused f [] behind x e all h = rw h refl
each_refused f (y ∷ front) behind x e all h = rw (all.0.1, each_refused f front behind x e all.1 h) refl

first_refused : {A B E : Type 0} (f : A → Result (List B) E) (xs : List A) (e : E) → each f xs ≡ Err e → FirstRefused f xs e
first_refused f [] e h = absurd cc
first_refused {A = A} {B = B} {E = E} f (x ∷ xs) e h = by_first (f x) refl h (first_refused f xs e)
  where
    by_first : (r : Result (List B) E) → f x ≡ r → (r >>= (λ found. each f xs >>= (λ more. Ok (found ++ more)))) ≡ Err e
        → (each f xs ≡ Err e → FirstRefused f xs e) → FirstRefused f (x ∷ xs) e
    by_first (Err e') first h rest = ([], x, xs, refl, tt, first ∙ h)
    by_first (Ok found) first h rest =
        let later = rest (made_err (each f xs) (λ more. found ++ more) e h) in
        (x ∷ later.0, later.1, later.2, ap (λ l. x ∷ l) later.3, ((found, first), later.4), later.5)

-- ---- runs

at_line_err : {A : Type 0} (r : Result A FaultKind) (n : ℕ) (e : Fault) → at_line n r ≡ Err e → (k : FaultKind) × (r ≡ Err k) × (fault_of k n ≡ e)
at_line_err (Ok x) n e h = absurd cc
at_line_err (Err k) n e h = (k, refl, err_same (fault_of k n) e h)

accepted : (line : CutLine) → IsFaultless line → IsAccepted said_at line
accepted line faultless = by_said (said line) refl
  where
    by_said : (r : Result (List LineView) FaultKind) → said line ≡ r → IsAccepted said_at line
    by_said (Ok found) e = (found, ap (at_line line.number) e)
    by_said (Err k) e = absurd (faultless k (line_fails_back line.number line.start line.bytes k e))

faultless : (line : CutLine) → IsAccepted said_at line → IsFaultless line
faultless line h k fails =
    ok_not_err (said_at line) h.0 (fault_of k line.number) h.1 (ap (at_line line.number) (line_fails_read line.number line.start line.bytes k fails))

pub run_fails_read : (bytes : List ℕ) (e : Fault) → RunFails bytes e → reading bytes ≡ Err e
run_fails_read bytes e (ManyBytes _ many) =
    ap (λ t. at_line 0 (refuse_if t fault.RunLong) >>= (λ _. reading_of_lines bytes)) (lt-ltb MAX_RUN_BYTES (length bytes) many)
run_fails_read bytes e (ManyLines _ short many) =
    gate_read (ltb MAX_RUN_BYTES (length bytes)) fault.RunLong (λ _. reading_of_lines bytes) (le-ltb MAX_RUN_BYTES (length bytes) short)
    ∙ ap (λ t. at_line 0 (refuse_if t fault.TooManyLines) >>= (λ _. each said_at (cut bytes))) (lt-ltb MAX_RUN_LINES (length (cut bytes)) many)
run_fails_read bytes e (FirstFaulty _ front behind line k short few parts before fails) =
    let here : said_at line ≡ Err (fault_of k line.number) = ap (at_line line.number) (line_fails_read line.number line.start line.bytes k fails) in
    gate_read (ltb MAX_RUN_BYTES (length bytes)) fault.RunLong (λ _. reading_of_lines bytes) (le-ltb MAX_RUN_BYTES (length bytes) short)
    ∙ gate_read (ltb MAX_RUN_LINES (length (cut bytes))) fault.TooManyLines (λ _. each said_at (cut bytes)) (le-ltb MAX_RUN_LINES (length (cut bytes)) few)
    ∙ ap (each said_at) parts
    ∙ each_refused said_at front behind line (fault_of k line.number) (all_weaker IsFaultless (IsAccepted said_at) accepted front before) here

pub run_fails_back : (bytes : List ℕ) (e : Fault) → reading bytes ≡ Err e → RunFails bytes e
run_fails_back bytes e h = by_bytes (ltb MAX_RUN_BYTES (length bytes)) refl h
  where
    by_line : length bytes ≤ MAX_RUN_BYTES → length (cut bytes) ≤ MAX_RUN_LINES → FirstRefused said_at (cut bytes) e → RunFails bytes e
    by_line short few (front, line, behind, parts, before, refused) =
        let fault = at_line_err (said line) line.number e refused in
        subst (RunFails bytes) fault.2
        (FirstFaulty bytes front behind line fault.0 short few parts (all_weaker (IsAccepted said_at) IsFaultless faultless front before)
        (line_fails_back line.number line.start line.bytes fault.0 fault.1))

    by_lines : (t : Bool) → length bytes ≤ MAX_RUN_BYTES → ltb MAX_RUN_LINES (length (cut bytes)) ≡ t
        → (at_line 0 (refuse_if t fault.TooManyLines) >>= (λ _. each said_at (cut bytes))) ≡ Err e → RunFails bytes e
    by_lines true short many h = subst (RunFails bytes) (err_same _ _ h) (ManyLines bytes short (ltb-true MAX_RUN_LINES (length (cut bytes)) many))
    by_lines false short few h = by_line short (ltb-false MAX_RUN_LINES (length (cut bytes)) few) (first_refused said_at (cut bytes) e h)

    by_bytes : (t : Bool) → ltb MAX_RUN_BYTES (length bytes) ≡ t → (at_line 0 (refuse_if t fault.RunLong) >>= (λ _. reading_of_lines bytes)) ≡ Err e →
        RunFails bytes e
    by_bytes true long h = subst (RunFails bytes) (err_same _ _ h) (ManyBytes bytes (ltb-true MAX_RUN_BYTES (length bytes) long))
    by_bytes false short h = by_lines (ltb MAX_RUN_LINES (length (cut bytes))) (ltb-false MAX_RUN_BYTES (length bytes) short) refl h

pub run_fails : (bytes : List ℕ) (e : Fault) → RunFails bytes e ↔ (reading bytes ≡ Err e)
run_fails bytes e = (run_fails_read bytes e, run_fails_back bytes e)
