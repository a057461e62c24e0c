-- A text has the item that the grammar spells: a word of the profile with its fields, or a text card.
use Rattle.upd_deck.proofs.Common.{◌≡◌, ℕ, zero, suc, ◌<◌, Bool, true, false, cond, eqb, not, ◌&&◌, inl, inr, ⊎_elim, List, [], ◌∷◌, length, refl, sym, ap}
use Rattle.upd_deck.proofs.Common.{◌∙◌, subst, Option, Some, None, Result, Ok, arith, or_left, or_right, or_cases, both_ways, false_from_ne_true, and_parts}
use Rattle.upd_deck.proofs.Common.{or_parts, eqb-true, eqb-false, false≢true, not-true, not-false, bytes_eq-Decides, AllByRecursion, Contains, list_any}
use Rattle.upd_deck.proofs.Common.{bytes_eq, FaultKind, is_blank, is_comma, ends_word, up_to, from_first, is_starred, word, fields, ◌>>=◌, refuse_if, Word}
use Rattle.upd_deck.proofs.Common.{ItemView, Text, IsInk, IsStarLine, Bare, Fields, Says, Directive, Other, Spelling, spelled, spellings, meaning}
use Rattle.upd_deck.proofs.Common.{are_its_fields, item_with, item_by, item_of}
use Rattle.std.specs.List.{find}
use Rattle.std.specs.Option.{option_map}
use Rattle.upd_text.specs.declared.fault.FaultKind.TheVariants as fault
use Rattle.upd_deck.specs.Grammar.{EndsWord, HasWord, Starred, Means}
use Rattle.upd_deck.proofs.GrammarParts.{all_weaker, Begins, up_to_end, both_parts, up_to_all, from_begins, ink_no_end, no_end_ink}
use Rattle.upd_deck.proofs.GrammarFields.{star_line_read, star_line_back}
use Rattle.upd_deck.proofs.GrammarNames.{done, ok_same}
use Rattle.upd_deck.proofs.GrammarItems.{takes_read, takes_back}

-- ---- words

same_text : (w v : List ℕ) → bytes_eq w v ≡ true → w ≡ v
same_text w v e = (bytes_eq-Decides w v).0 e

text_same : (w : List ℕ) → bytes_eq w w ≡ true
text_same w = (bytes_eq-Decides w w).1 refl

same_spelling : (s : Spelling) (w : List ℕ) (word : Word) → w ≡ s.text → s.means ≡ word → s ≡ spelled w word
same_spelling s w word e f i = record { text = sym e i; means = f i }

-- the meaning of the first spelling that equals a text
abbrev meaning_by : List Spelling → List ℕ → Option Word
meaning_by ss w = option_map (λ s. s.means) (find (λ s. bytes_eq w s.text) ss)

in_table : (ss : List Spelling) (w : List ℕ) (word : Word) → meaning_by ss w ≡ Some word → Contains ss (spelled w word)
in_table [] w word e = absurd cc
in_table (s ∷ ss) w word e = by_test (bytes_eq w s.text) refl e (in_table ss w word)
  where
    by_test : (t : Bool) → bytes_eq w s.text ≡ t → option_map (λ s. s.means) (cond t (Some s) (find (λ s. bytes_eq w s.text) ss)) ≡ Some word
        → (meaning_by ss w ≡ Some word → Contains ss (spelled w word)) → Contains (s ∷ ss) (spelled w word)
    by_test true h e ih = (0, omega arith, same_spelling s w word (same_text w s.text h) cc)
    by_test false h e ih = let rest = ih e in (suc rest.0, omega (arith, rest.1), rest.2)

-- no two spellings are equal
abbrev are_apart : List Spelling → Bool
are_apart [] = true
are_apart (s ∷ ss) = not (list_any (λ t. bytes_eq s.text t.text) ss) && are_apart ss

any_in : (ss : List Spelling) (test : Spelling → Bool) (x : Spelling) → Contains ss x → test x ≡ true → list_any test ss ≡ true
any_in [] test x (k, lt, e) h = absurd (omega arith)
any_in (s ∷ ss) test x (zero, lt, e) h = or_left (test s) (list_any test ss) (ap test e ∙ h)
any_in (s ∷ ss) test x (suc k, lt, e) h = or_right (test s) (list_any test ss) (any_in ss test x (k, omega arith, e) h)

from_table : (ss : List Spelling) (w : List ℕ) (word : Word) → are_apart ss ≡ true → Contains ss (spelled w word) → meaning_by ss w ≡ Some word
from_table [] w word a (k, lt, e) = absurd (omega arith)
from_table (s ∷ ss) w word a (zero, lt, e) =
    let here : bytes_eq w s.text ≡ true = ap (λ x. bytes_eq w x.text) e ∙ text_same w in
    rw here (ap (λ x. Some x.means) e)
from_table (s ∷ ss) w word a (suc k, lt, e) =
    let both = and_parts (not (list_any (λ t. bytes_eq s.text t.text) ss)) (are_apart ss) a in
    let rest : Contains ss (spelled w word) = (k, omega arith, e) in
    let not_here : bytes_eq w s.text ≡ false =
    false_from_ne_true (bytes_eq w s.text) (λ h. both_ways (list_any (λ t. bytes_eq s.text t.text) ss) (not-true _ both.0)
    (any_in ss (λ t. bytes_eq s.text t.text) (spelled w word) rest (ap (λ v. bytes_eq s.text v) (same_text w s.text h) ∙ text_same s.text))) in
    rw not_here (from_table ss w word both.1 rest)

pub means_read : (w : List ℕ) (word : Word) → Means w word → meaning w ≡ Some word
means_read w word h = from_table spellings w word refl h

pub means_back : (w : List ℕ) (word : Word) → meaning w ≡ Some word → Means w word
means_back w word e = in_table spellings w word e

ends_read : (rest : List ℕ) → EndsWord rest → Begins ends_word rest
ends_read [] h = tt
ends_read (b ∷ bs) h = ⊎_elim (λ e. ap ends_word e) (λ e. ap ends_word e) h

ends_back : (rest : List ℕ) → Begins ends_word rest → EndsWord rest
ends_back [] h = tt
ends_back (b ∷ bs) h = ⊎_elim (λ e. inl (eqb-true b 32 e)) (λ e. inr (eqb-true b 44 e)) (or_cases (is_blank b) (is_comma b) h)

pub word_read : (text w : List ℕ) → HasWord text w → (is_starred text ≡ true) × (word text ≡ w)
word_read text v (Starred w rest ink ends) =
    (refl, up_to_end ends_word w rest (all_weaker IsInk (λ b. ends_word b ≡ false) ink_no_end w ink) (ends_read rest ends))

pub word_back : (text : List ℕ) → is_starred text ≡ true → HasWord text (word text)
word_back [] star = absurd (false≢true star)
word_back (b ∷ bs) star =
    let ink = all_weaker (λ b. ends_word b ≡ false) IsInk no_end_ink (up_to ends_word bs) (up_to_all ends_word bs) in
    let has = Starred (up_to ends_word bs) (from_first ends_word bs) ink (ends_back (from_first ends_word bs) (from_begins ends_word bs)) in
    subst (λ l. HasWord l (up_to ends_word bs)) (cc (eqb-true b 42 star, both_parts ends_word bs)) has

-- ---- the item of a line

pub star_starred : (text w : List ℕ) (fs : List (List ℕ)) → IsStarLine text w fs → is_starred text ≡ true
star_starred text v fs (Bare w lead ink l) = refl
star_starred text v fs (Fields w lead rest gs ink l some more) = refl

pub refuse_back : {B : Type 0} (bad : Bool) (kind : FaultKind) (next : Bool → Result B FaultKind) (y : B) → (refuse_if bad kind >>= next) ≡ Ok y
    → (bad ≡ false) × (next false ≡ Ok y)
refuse_back true kind next y e = absurd cc
refuse_back false kind next y e = (refl, e)

pub refuse_read : {B : Type 0} (bad : Bool) (kind : FaultKind) (next : Bool → Result B FaultKind) → bad ≡ false → (refuse_if bad kind >>= next) ≡ next false
refuse_read bad kind next e = ap (λ b. refuse_if b kind >>= next) e

item_read : (text w : List ℕ) (known : Word) (fs : List (List ℕ)) (item : ItemView) → is_starred text ≡ true → word text ≡ w → fields text ≡ fs
    → meaning w ≡ Some known → are_its_fields known fs ≡ true → item_with known fs ≡ Ok item → item_of text ≡ Ok item
item_read text w known fs item star e f m a i =
    ap (λ t. cond t (item_by (meaning (word text)) (fields text)) (done Text)) star ∙ ap (λ k. item_by k (fields text)) (ap meaning e ∙ m)
    ∙ ap (item_by (Some known)) f
    ∙ refuse_read (not (are_its_fields known fs)) fault.BadField (λ _. item_with known fs) (ap not a) ∙ i

pub says_read : (text : List ℕ) (item : ItemView) → Says text item → item_of text ≡ Ok item
says_read text item (Directive _ w known fs _ star means takes) =
    let is = star_line_read text w fs star in
    let taken = takes_read known fs item takes in
    item_read text w known fs item (star_starred text w fs star) is.0 is.1 (means_read w known means) taken.0 taken.1
says_read text item (Other _ none) = by_star (is_starred text) refl (meaning (word text)) refl
  where
    by_star : (t : Bool) → is_starred text ≡ t → (m : Option Word) → meaning (word text) ≡ m → cond t (item_by m (fields text)) (Ok Text) ≡ Ok Text
    by_star false star m e = refl
    by_star true star None e = refl
    by_star true star (Some known) e = absurd (none (word text) known (word_back text star) (means_back (word text) known e))

-- none of the fields that a word takes is empty
filled_back : (fs : List (List ℕ)) → list_any (λ f. eqb (length f) 0) fs ≡ false → AllByRecursion (λ f. 0 < length f) fs
filled_back [] e = tt
filled_back (f ∷ fs) e =
    let both = or_parts (eqb (length f) 0) (list_any (λ f. eqb (length f) 0) fs) e in
    (above_zero (length f) (eqb-false (length f) 0 both.0), filled_back fs both.1)
  where
    above_zero : (n : ℕ) → (n ≡ 0 → ⊥) → 0 < n
    above_zero n h = omega arith

its_fields_filled : (known : Word) (fs : List (List ℕ)) → are_its_fields known fs ≡ true → AllByRecursion (λ f. 0 < length f) fs
its_fields_filled known fs a = filled_back fs (not-true _ (and_parts _ _ (and_parts _ _ a).0).1)

pub says_back : (text : List ℕ) (item : ItemView) → item_of text ≡ Ok item → Says text item
says_back text item e = by_star (is_starred text) refl (meaning (word text)) refl e
  where
    by_star : (t : Bool) → is_starred text ≡ t → (m : Option Word) → meaning (word text) ≡ m → cond t (item_by m (fields text)) (Ok Text) ≡ Ok item
        → Says text item
    by_star false star m means e = subst (Says text) (ok_same _ _ e) (Other text (λ w known has _. both_ways (is_starred text) star (word_read text w has).0))
    by_star true star None means e =
        subst (Says text) (ok_same _ _ e) (Other text (λ w known has k. known_none (sym means ∙ ap meaning (word_read text w has).1 ∙ means_read w known k)))
      where
        known_none : {known : Word} → None ≡ Some known → ⊥
        known_none e = cc
    by_star true star (Some known) means e =
        let step = refuse_back (not (are_its_fields known (fields text))) fault.BadField (λ _. item_with known (fields text)) item e in
        let taken = not-false (are_its_fields known (fields text)) step.0 in
        Directive text (word text) known (fields text) item (star_line_back text star (its_fields_filled known (fields text) taken))
        (means_back (word text) known means) (takes_back known (fields text) item taken step.1)
