-- The fields of a line are those that its spelling has, and a line without an empty field has a spelling.
use Rattle.upd_deck.proofs.Common.{◌≡◌, ℕ, zero, suc, ◌<◌, Bool, true, false, cond, eqb, not, IsTrue, List, [], ◌∷◌, ◌++◌, length, drop, length-append, refl}
use Rattle.upd_deck.proofs.Common.{sym, ap, ◌∙◌, subst, append_assoc, append-nil, arith, cond_both, not-true, cond-false, ne_eqb, eqb-true, eqb-false}
use Rattle.upd_deck.proofs.Common.{false≢true, length-replicate, join_with_byte-slice_split, AllByRecursion, slice_split, onto_first, join_with_byte}
use Rattle.upd_deck.proofs.Common.{is_blank, is_comma, ends_word, up_to, from_first, after_blanks, after_comma, is_starred, word, field, remark, fields_of}
use Rattle.upd_deck.proofs.Common.{fields, blanks, IsInk, IsField, Comma, IsLead, Blanks, Separator, BeginsInked, IsStarLine, Bare, Fields}
use Rattle.upd_deck.specs.Grammar.{IsRemark, Nothing, Remark, AreFields, Last, Next}
use Rattle.upd_deck.proofs.GrammarParts.{all_weaker, Begins, up_to_end, from_end, both_parts, up_to_all, from_begins, not_blank, ink_no_comma, ink_no_end}
use Rattle.upd_deck.proofs.GrammarParts.{no_end_ink, blanks_gone, blanks_only, ink_stays, lead_gone, HasNoComma, blanks_no_comma, field_no_comma}
use Rattle.upd_deck.proofs.GrammarParts.{split_at_comma, split_onto, first_piece, begins_field, field_is, remark_is, begins_blanks, begins_more, fields_more}
use Rattle.upd_deck.proofs.GrammarParts.{fields_last, blanks_before}

-- ---- a spelled line is read as spelled

read_remark : (f rest : List ℕ) → IsField f → IsRemark rest → fields_of (slice_split is_comma (f ++ rest)) ≡ f ∷ []
read_remark f _ h Nothing =
    rw (split_onto f [] [] [] (field_no_comma f h) refl)
    (fields_more (f ++ []) [] (remark_is f [] h tt) ∙ ap (λ g. g ∷ []) (field_is f [] h tt))
read_remark f _ h (Remark n [] some ink) =
    let blank : Begins is_blank (blanks n ++ []) = rw append-nil (begins_blanks n) in
    rw (split_onto f (blanks n ++ []) (blanks n ++ []) [] (field_no_comma f h) (split_onto (blanks n) [] [] [] (blanks_no_comma n) refl))
    (fields_more (f ++ (blanks n ++ [])) [] (remark_is f (blanks n ++ []) h blank ∙ blanks_gone n []) ∙ ap (λ g. g ∷ []) (field_is f (blanks n ++ []) h blank))
read_remark f _ h (Remark n (b ∷ bs) some ink) =
    let first = first_piece is_comma bs in
    let piece : List ℕ = blanks n ++ b ∷ first.0 in
    let blank : Begins is_blank piece = begins_more is_blank (blanks n) (b ∷ first.0) (rw length-replicate some) (begins_blanks n) in
    let split =
    split_onto (blanks n) (b ∷ bs) (b ∷ first.0) first.1 (blanks_no_comma n) (split_onto (b ∷ []) bs first.0 first.1 (ink_no_comma b ink, tt) first.2) in
    rw (split_onto f (blanks n ++ b ∷ bs) piece first.1 (field_no_comma f h) split)
    (fields_last (f ++ piece) first.1 b first.0 (remark_is f piece h blank ∙ blanks_gone n (b ∷ first.0) ∙ ink_stays (b ∷ first.0) ink)
    ∙ ap (λ g. g ∷ []) (field_is f piece h blank))

read_next : (f text : List ℕ) (m n : ℕ) → IsField f
    → fields_of (slice_split is_comma (f ++ (blanks m ++ 44 ∷ blanks n) ++ text)) ≡ f ∷ fields_of (slice_split is_comma text)
read_next f text m n h =
    let pieces : List (List ℕ) = slice_split is_comma (blanks n ++ text) in
    rw (
      append_assoc f (blanks m ++ 44 ∷ blanks n) text,
      append_assoc (blanks m) (44 ∷ blanks n) text,
      split_onto f (blanks m ++ 44 ∷ (blanks n ++ text))
          (blanks m) pieces (field_no_comma f h) (split_at_comma (blanks m) (blanks n ++ text) (blanks_no_comma m)),
    )
    (fields_more (f ++ blanks m) pieces (remark_is f (blanks m) h (begins_blanks m) ∙ blanks_only m)
    ∙ ap (λ g. g ∷ fields_of pieces) (field_is f (blanks m) h (begins_blanks m)) ∙ ap (λ gs. f ∷ gs) (blanks_before n text))

read_fields : (text : List ℕ) (fs : List (List ℕ)) → AreFields text fs → fields_of (slice_split is_comma text) ≡ fs
read_fields text fs (Last f rest h r) = read_remark f rest h r
read_fields text fs (Next f separator rest gs h (Comma m n) more) = read_next f rest m n h ∙ ap (λ l. f ∷ l) (read_fields rest gs more)

some_field : (f rest : List ℕ) → IsField f → 0 < length (f ++ rest)
some_field f rest h = rw length-append (omega (arith, h.0))

begin_fields : (text : List ℕ) (fs : List (List ℕ)) → AreFields text fs → BeginsInked text × (0 < length text)
begin_fields text fs (Last f rest h r) = (begins_field f rest h, some_field f rest h)
begin_fields text fs (Next f separator rest gs h s more) = rw append_assoc (begins_field f (separator ++ rest) h, some_field f (separator ++ rest) h)

begin_lead : (lead : List ℕ) → IsLead lead → Begins ends_word lead
begin_lead lead (Blanks zero) = tt
begin_lead lead (Blanks (suc n)) = refl
begin_lead lead (Separator separator (Comma zero n)) = refl
begin_lead lead (Separator separator (Comma (suc m) n)) = refl

fields_by : List ℕ → List (List ℕ)
fields_by text = cond (eqb (length text) 0) [] (fields_of (slice_split is_comma text))

fields_by_some : (text : List ℕ) → 0 < length text → fields_by text ≡ fields_of (slice_split is_comma text)
unfolding fields_by
fields_by_some text some = cond-false (eqb (length text) 0) [] (fields_of (slice_split is_comma text)) (ne_eqb (length text) 0 (λ e. omega arith))

pub star_line_read : (line w : List ℕ) (fs : List (List ℕ)) → IsStarLine line w fs → (word line ≡ w) × (fields line ≡ fs)
unfolding fields_by
star_line_read line v fs (Bare w lead ink l) =
    let ends : AllByRecursion (λ b. ends_word b ≡ false) w = all_weaker IsInk (λ b. ends_word b ≡ false) ink_no_end w ink in
    let rest = from_end ends_word w lead ends (begin_lead lead l) in
    let gone = lead_gone lead [] l tt in (
      up_to_end ends_word w lead ends (begin_lead lead l),
      ap (λ t. fields_by (after_blanks (after_comma (after_blanks t)))) (rest ∙ sym (append-nil lead))
          ∙ ap fields_by gone,
    )
star_line_read line v fs (Fields w lead text gs ink l some more) =
    let ends : AllByRecursion (λ b. ends_word b ≡ false) w = all_weaker IsInk (λ b. ends_word b ≡ false) ink_no_end w ink in
    let begins : Begins ends_word (lead ++ text) = begins_more ends_word lead text some (begin_lead lead l) in
    let begin = begin_fields text gs more in
    let assoc : drop 1 line ≡ w ++ (lead ++ text) = append_assoc w lead text in (
      ap (up_to ends_word) assoc ∙ up_to_end ends_word w (lead ++ text) ends begins,
      ap (λ t. fields_by (after_blanks (after_comma (after_blanks (from_first ends_word t))))) assoc
          ∙ ap (λ t. fields_by (after_blanks (after_comma (after_blanks t)))) (from_end ends_word w (lead ++ text) ends begins)
          ∙ ap fields_by (lead_gone lead text l begin.0) ∙ fields_by_some text begin.1 ∙ read_fields text gs more,
    )

-- ---- a line that is read is spelled as read

blanks_split : (text : List ℕ) → (n : ℕ) × (text ≡ blanks n ++ after_blanks text)
blanks_split [] = (0, refl)
blanks_split (b ∷ bs) = by_blank (is_blank b) refl (blanks_split bs)
  where
    by_blank : (t : Bool) → is_blank b ≡ t → (n : ℕ) × (bs ≡ blanks n ++ after_blanks bs)
        → (n : ℕ) × (b ∷ bs ≡ blanks n ++ cond (not t) (b ∷ bs) (after_blanks bs))
    by_blank true e rest = (suc rest.0, cc (eqb-true b 32 e, rest.1))
    by_blank false e rest = (0, refl)

after_again : (text : List ℕ) → after_blanks (after_blanks text) ≡ after_blanks text
after_again text = by_first (after_blanks text) (from_begins not_blank text)
  where
    by_first : (rest : List ℕ) → Begins not_blank rest → after_blanks rest ≡ rest
    by_first [] h = refl
    by_first (b ∷ bs) h = rw h refl

-- a text that isn't all blanks keeps what follows it
blanks_first : (front rest : List ℕ) → 0 < length (after_blanks front) → after_blanks (front ++ rest) ≡ after_blanks front ++ rest
blanks_first [] rest some = absurd (omega arith)
blanks_first (b ∷ bs) rest some = by_blank (is_blank b) (blanks_first bs rest) some
  where
    by_blank : (t : Bool) → (0 < length (after_blanks bs) → after_blanks (bs ++ rest) ≡ after_blanks bs ++ rest)
        → 0 < length (cond (not t) (b ∷ bs) (after_blanks bs))
        → cond (not t) (b ∷ (bs ++ rest)) (after_blanks (bs ++ rest)) ≡ cond (not t) (b ∷ bs) (after_blanks bs) ++ rest
    by_blank true ih some = ih some
    by_blank false ih some = refl

-- blanks that no comma follows begin a remark
remark_of : (rest : List ℕ) → Begins is_blank rest → BeginsInked (after_blanks rest) → IsRemark rest
remark_of [] blank ink = Nothing
remark_of (b ∷ bs) blank ink =
    let split = blanks_split bs in
    let gone : after_blanks (b ∷ bs) ≡ after_blanks bs = rw blank refl in
    let same : b ∷ bs ≡ blanks (suc split.0) ++ after_blanks bs = cc (eqb-true b 32 blank, split.1) in
    subst IsRemark (sym same) (Remark (suc split.0) (after_blanks bs) (omega arith) (subst BeginsInked gone ink))

-- the rest of a line after its word and lead
lead_of : (text : List ℕ) → (lead : List ℕ) × IsLead lead × (text ≡ lead ++ after_blanks (after_comma (after_blanks text)))
lead_of text =
    let split = blanks_split text in
    let lead = by_first (after_blanks text) (from_begins not_blank text) split.0 in
    (lead.0, lead.1, split.1 ∙ lead.2)
  where
    by_comma : (n b : ℕ) (bs : List ℕ) (t : Bool) → not_blank b ≡ true → is_comma b ≡ t
        → (lead : List ℕ) × IsLead lead × (blanks n ++ b ∷ bs ≡ lead ++ after_blanks (cond t bs (b ∷ bs)))
    by_comma n b bs true h e =
        let split = blanks_split bs in (
          blanks n ++ 44 ∷ blanks split.0,
          Separator (blanks n ++ 44 ∷ blanks split.0) (Comma n split.0),
          rw append_assoc (ap (λ l. blanks n ++ l) (cc (eqb-true b 44 e, split.1))),
        )
    by_comma n b bs false h e = (blanks n, Blanks n, rw h refl)

    by_first : (rest : List ℕ) → Begins not_blank rest → (n : ℕ) → (lead : List ℕ) × IsLead lead × (blanks n ++ rest ≡ lead ++ after_blanks (after_comma rest))
    by_first [] h n = (blanks n, Blanks n, refl)
    by_first (b ∷ bs) h n = by_comma n b bs (is_comma b) h refl

-- ---- the pieces between the commas of a text

no_commas : (text : List ℕ) → AllByRecursion HasNoComma (slice_split is_comma text)
no_commas [] = (tt, tt)
no_commas (b ∷ bs) =
    cond_both (is_comma b) ([] ∷ slice_split is_comma bs) (onto_first b (slice_split is_comma bs)) (AllByRecursion HasNoComma) (λ e. (tt, no_commas bs))
    (λ e. onto b (slice_split is_comma bs) e (no_commas bs))
  where
    onto : (b : ℕ) (pieces : List (List ℕ)) → is_comma b ≡ false → AllByRecursion HasNoComma pieces → AllByRecursion HasNoComma (onto_first b pieces)
    onto b [] e h = ((e, tt), tt)
    onto b (piece ∷ pieces) e h = ((e, h.0), h.1)

no_comma_after : (test : ℕ → Bool) (text : List ℕ) → HasNoComma text → HasNoComma (from_first test text)
no_comma_after test [] h = tt
no_comma_after test (b ∷ bs) h = cond_both (test b) (b ∷ bs) (from_first test bs) HasNoComma (λ e. h) (λ e. no_comma_after test bs h.1)

no_comma_before : (test : ℕ → Bool) (text : List ℕ) → HasNoComma text → HasNoComma (up_to test text)
no_comma_before test [] h = tt
no_comma_before test (b ∷ bs) h = cond_both (test b) [] (b ∷ up_to test bs) HasNoComma (λ e. tt) (λ e. (h.0, no_comma_before test bs h.1))

all_both : {A : Type 0} (P Q : A → Type 0) (xs : List A) → AllByRecursion P xs → AllByRecursion Q xs → AllByRecursion (λ x. P x × Q x) xs
all_both P Q [] g h = tt
all_both P Q (x ∷ xs) g h = ((g.0, h.0), all_both P Q xs g.1 h.1)

no_blank_or_comma : (b : ℕ) → (is_blank b ≡ false) × (is_comma b ≡ false) → IsInk b
no_blank_or_comma b h = (eqb-false b 32 h.0, eqb-false b 44 h.1)

-- the field of a piece is a field if it isn't empty
is_field : (piece : List ℕ) → HasNoComma piece → 0 < length (field piece) → IsField (field piece)
is_field piece h some = (
  some,
  all_weaker (λ b. (is_blank b ≡ false) × (is_comma b ≡ false)) IsInk no_blank_or_comma (field piece)
      (all_both (λ b. is_blank b ≡ false) (λ b. is_comma b ≡ false) (field piece) (up_to_all is_blank (after_blanks piece))
      (no_comma_before is_blank (after_blanks piece) (no_comma_after not_blank piece h))),
)

inked_after : (text : List ℕ) → HasNoComma text → BeginsInked (after_blanks text)
inked_after text h = by_first (after_blanks text) (from_begins not_blank text) (no_comma_after not_blank text h)
  where
    by_first : (rest : List ℕ) → Begins not_blank rest → HasNoComma rest → BeginsInked rest
    by_first [] g h = tt
    by_first (b ∷ bs) g h = no_blank_or_comma b (not-true (is_blank b) g, h.0)

-- what follows the field in its piece
behind : List ℕ → List ℕ
behind piece = from_first is_blank (after_blanks piece)

parts_is : (piece : List ℕ) → after_blanks piece ≡ field piece ++ behind piece
unfolding behind
parts_is piece = sym (both_parts is_blank (after_blanks piece))

some_parts : (piece : List ℕ) → 0 < length (field piece) → 0 < length (after_blanks piece)
some_parts piece some = rw (parts_is piece, length-append) (omega arith)

spelled_last : (piece rest : List ℕ) → HasNoComma piece → 0 < length (field piece) → IsRemark (behind piece ++ rest)
    → AreFields (after_blanks (piece ++ rest)) (field piece ∷ [])
spelled_last piece rest h some r =
    let same : after_blanks (piece ++ rest) ≡ field piece ++ (behind piece ++ rest) =
    blanks_first piece rest (some_parts piece some) ∙ ap (λ l. l ++ rest) (parts_is piece) ∙ append_assoc (field piece) (behind piece) rest in
    subst (λ l. AreFields l (field piece ∷ [])) (sym same) (Last (field piece) (behind piece ++ rest) (is_field piece h some) r)

spelled_next : (piece text : List ℕ) (fs : List (List ℕ)) → HasNoComma piece → 0 < length (field piece) → remark piece ≡ [] → AreFields (after_blanks text) fs
    → AreFields (after_blanks (piece ++ 44 ∷ text)) (field piece ∷ fs)
unfolding behind
spelled_next piece text fs h some none more =
    let f : List ℕ = field piece in
    let j = blanks_split (behind piece) in
    let k = blanks_split text in
    let blank : behind piece ≡ blanks j.0 = j.1 ∙ ap (λ l. blanks j.0 ++ l) none ∙ append-nil (blanks j.0) in
    let spelled : f ++ (blanks j.0 ++ 44 ∷ blanks k.0) ++ after_blanks text ≡ f ++ (blanks j.0 ++ 44 ∷ text) =
    append_assoc f (blanks j.0 ++ 44 ∷ blanks k.0) (after_blanks text) ∙ ap (λ l. f ++ l) (append_assoc (blanks j.0) (44 ∷ blanks k.0) (after_blanks text))
    ∙ ap (λ l. f ++ (blanks j.0 ++ 44 ∷ l)) (sym k.1) in
    let read : after_blanks (piece ++ 44 ∷ text) ≡ f ++ (blanks j.0 ++ 44 ∷ text) =
    blanks_first piece (44 ∷ text) (some_parts piece some) ∙ ap (λ l. l ++ 44 ∷ text) (parts_is piece) ∙ append_assoc f (behind piece) (44 ∷ text)
    ∙ ap (λ l. f ++ (l ++ 44 ∷ text)) blank in
    subst (λ l. AreFields l (f ∷ fs)) (spelled ∙ sym read)
    (Next f (blanks j.0 ++ 44 ∷ blanks k.0) (after_blanks text) fs (is_field piece h some) (Comma j.0 k.0) more)

first_some : (piece : List ℕ) (pieces : List (List ℕ)) → AllByRecursion (λ f. 0 < length f) (fields_of (piece ∷ pieces)) → 0 < length (field piece)
first_some piece pieces some = by_remark (eqb (length (remark piece)) 0) some
  where
    by_remark : (t : Bool) → AllByRecursion (λ f. 0 < length f) (cond t (field piece ∷ fields_of pieces) (field piece ∷ [])) → 0 < length (field piece)
    by_remark true some = some.0
    by_remark false some = some.0

-- a remark in a piece that a comma follows
remark_before : (piece text : List ℕ) (b : ℕ) (bs : List ℕ) → HasNoComma piece → remark piece ≡ b ∷ bs → IsRemark (behind piece ++ 44 ∷ text)
unfolding behind
remark_before piece text b bs h e =
    let some : 0 < length (remark piece) = rw e (omega arith) in
    let j = blanks_split (behind piece) in
    let long : 0 < length (behind piece) = omega (arith, ap length j.1, length-append (blanks j.0) (after_blanks (behind piece))) in
    let ink : BeginsInked (b ∷ bs) =
    subst BeginsInked e (inked_after (behind piece) (no_comma_after is_blank (after_blanks piece) (no_comma_after not_blank piece h))) in
    remark_of (behind piece ++ 44 ∷ text) (begins_more is_blank (behind piece) (44 ∷ text) long (from_begins is_blank (after_blanks piece)))
    (subst BeginsInked (sym (blanks_first (behind piece) (44 ∷ text) some ∙ ap (λ l. l ++ 44 ∷ text) e)) ink)

remark_last : (piece : List ℕ) → HasNoComma piece → IsRemark (behind piece)
unfolding behind
remark_last piece h =
    remark_of (behind piece) (from_begins is_blank (after_blanks piece))
    (inked_after (behind piece) (no_comma_after is_blank (after_blanks piece) (no_comma_after not_blank piece h)))

spelled_alone : (piece : List ℕ) → HasNoComma piece → 0 < length (field piece) → AreFields (after_blanks piece) (field piece ∷ [])
spelled_alone piece h some =
    subst (λ l. AreFields (after_blanks l) (field piece ∷ [])) (append-nil piece)
    (spelled_last piece [] h some (subst IsRemark (sym (append-nil (behind piece))) (remark_last piece h)))

spelled_pieces : (piece : List ℕ) (pieces : List (List ℕ)) → AllByRecursion HasNoComma (piece ∷ pieces)
    → AllByRecursion (λ f. 0 < length f) (fields_of (piece ∷ pieces))
    → AreFields (after_blanks (join_with_byte 44 (piece ∷ pieces))) (fields_of (piece ∷ pieces))
spelled_pieces piece [] h some =
    let alone = spelled_alone piece h.0 (first_some piece [] some) in
    cond_both (eqb (length (remark piece)) 0) (field piece ∷ []) (field piece ∷ []) (AreFields (after_blanks piece)) (λ _. alone) (λ _. alone)
spelled_pieces piece (next ∷ pieces) h some = by_remark (remark piece) refl (spelled_pieces next pieces h.1)
  where
    text : List ℕ
    text = join_with_byte 44 (next ∷ pieces)

    by_remark : (r : List ℕ) → remark piece ≡ r
        → (AllByRecursion (λ f. 0 < length f) (fields_of (next ∷ pieces)) → AreFields (after_blanks text) (fields_of (next ∷ pieces)))
        → AreFields (after_blanks (piece ++ 44 ∷ text)) (fields_of (piece ∷ next ∷ pieces))
    by_remark [] e ih =
        let more = fields_more piece (next ∷ pieces) e in
        subst (AreFields (after_blanks (piece ++ 44 ∷ text))) (sym more)
        (spelled_next piece text (fields_of (next ∷ pieces)) h.0 (first_some piece (next ∷ pieces) some) e
        (ih (subst (AllByRecursion (λ f. 0 < length f)) more some).1))
    by_remark (b ∷ bs) e ih =
        subst (AreFields (after_blanks (piece ++ 44 ∷ text))) (sym (fields_last piece (next ∷ pieces) b bs e))
        (spelled_last piece (44 ∷ text) h.0 (first_some piece (next ∷ pieces) some) (remark_before piece text b bs h.0 e))

-- a text after a lead whose fields aren't empty
spelled_text : (text : List ℕ) → after_blanks text ≡ text → AllByRecursion (λ f. 0 < length f) (fields_of (slice_split is_comma text))
    → AreFields text (fields_of (slice_split is_comma text))
spelled_text text same some =
    let first = first_piece is_comma text in
    let commas = subst (AllByRecursion HasNoComma) first.2 (no_commas text) in
    let nonempty = subst (λ l. AllByRecursion (λ f. 0 < length f) (fields_of l)) first.2 some in
    let pieces = subst (λ l. AreFields (after_blanks (join_with_byte 44 l)) (fields_of l)) (sym first.2) (spelled_pieces first.0 first.1 commas nonempty) in
    subst (λ l. AreFields l (fields_of (slice_split is_comma text))) (ap after_blanks (join_with_byte-slice_split 44 text) ∙ same) pieces

-- the parts of a line, and that the lead isn't empty where fields follow
spelled_line : (line w lead text : List ℕ) → w ++ (lead ++ text) ≡ line → AllByRecursion IsInk w → IsLead lead → after_blanks text ≡ text
    → Begins ends_word (lead ++ text) → AllByRecursion (λ f. 0 < length f) (fields_by text) → IsStarLine (42 ∷ line) w (fields_by text)
unfolding fields_by
spelled_line line w lead [] parts ink l same ends some =
    subst (λ t. IsStarLine (42 ∷ t) w []) (ap (λ t. w ++ t) (sym (append-nil lead)) ∙ parts) (Bare w lead ink l)
spelled_line line w lead (c ∷ cs) parts ink l same ends some =
    let by = fields_by_some (c ∷ cs) (omega arith) in
    let fs : List (List ℕ) = fields_of (slice_split is_comma (c ∷ cs)) in
    let are : AreFields (c ∷ cs) fs = spelled_text (c ∷ cs) same (subst (AllByRecursion (λ f. 0 < length f)) by some) in
    let long : 0 < length lead = long_lead lead ends (ink_no_end c (begin_fields (c ∷ cs) fs are).0) in
    subst (IsStarLine (42 ∷ line) w) (sym by) (subst (λ t. IsStarLine (42 ∷ t) w fs) (append_assoc w lead (c ∷ cs)
    ∙ parts) (Fields w lead (c ∷ cs) fs ink l long are))
  where
    long_lead : (lead : List ℕ) → Begins ends_word (lead ++ c ∷ cs) → ends_word c ≡ false → 0 < length lead
    long_lead [] ends ink = absurd (false≢true (sym ink ∙ ends))
    long_lead (x ∷ xs) ends ink = omega arith

pub star_line_back : (line : List ℕ) → IsTrue (is_starred line) → AllByRecursion (λ f. 0 < length f) (fields line) → IsStarLine line (word line) (fields line)
unfolding fields_by
star_line_back [] star some = absurd (false≢true star)
star_line_back (b ∷ bs) star some =
    let w : List ℕ = up_to ends_word bs in
    let rest : List ℕ = from_first ends_word bs in
    let text : List ℕ = after_blanks (after_comma (after_blanks rest)) in
    let lead = lead_of rest in
    let ink : AllByRecursion IsInk w = all_weaker (λ b. ends_word b ≡ false) IsInk no_end_ink w (up_to_all ends_word bs) in
    let line =
    spelled_line bs w lead.0 text (ap (λ t. w ++ t) (sym lead.2) ∙ both_parts ends_word bs) ink lead.1 (after_again (after_comma (after_blanks rest)))
    (subst (Begins ends_word) lead.2 (from_begins ends_word bs)) some in
    subst (λ c. IsStarLine (c ∷ bs) w (fields_by text)) (sym (eqb-true b 42 star)) line

pub star_line_once : (line v w : List ℕ) (es fs : List (List ℕ)) → IsStarLine line v es → IsStarLine line w fs → (v ≡ w) × (es ≡ fs)
star_line_once line v w es fs g h =
    let a = star_line_read line v es g in
    let b = star_line_read line w fs h in
    (sym a.0 ∙ b.0, sym a.1 ∙ b.1)
