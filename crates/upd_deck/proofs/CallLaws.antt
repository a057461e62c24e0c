-- A line that is read as a call is one that a compile file follows.
use Rattle.upd_deck.proofs.Common.{◌≡◌, ◌↔◌, ℕ, zero, suc, Bool, true, ◌||◌, IsTrue, List, [], ◌∷◌, codes, refl, sym, ap, ◌∙◌, subst, ⊎_elim, Some, arith}
use Rattle.upd_deck.proofs.Common.{and_parts, and_from, or_cases, bytes_eq-Decides, Contains, list_all, bytes_eq, is_starred, word, Word, ItemView, Call}
use Rattle.upd_deck.proofs.Common.{Takes, TakesCall, Says, Directive, Other, Spelling, spelled, spellings, meaning}
use Rattle.upd_text.specs.Lines.{is_call, called}
use Rattle.upd_deck.specs.declared.word.Word.TheVariants as words
use Rattle.upd_deck.proofs.GrammarFields.{star_line_read}
use Rattle.upd_deck.proofs.GrammarSays.{means_read, means_back, word_back, star_starred}

-- ---- the words of a call

all_in : (ss : List Spelling) (test : Spelling → Bool) (x : Spelling) → Contains ss x → list_all test ss ≡ true → test x ≡ true
all_in [] test x (k, lt, e) all = absurd (omega arith)
all_in (s ∷ ss) test x (zero, lt, e) all = sym (ap test e) ∙ (and_parts (test s) (list_all test ss) all).0
all_in (s ∷ ss) test x (suc k, lt, e) all = all_in ss test x (k, omega arith, e) (and_parts (test s) (list_all test ss) all).1

abbrev is_call_word : List ℕ → Bool
is_call_word w = bytes_eq w (codes "CALL") || bytes_eq w (codes "CA")

abbrev calls_if_it_means : Spelling → Bool
calls_if_it_means s = elim s.means as (λ _. Bool) [ words.Call ↦ is_call_word s.text | _ ↦ true ]

pub call_words : (text : List ℕ) → IsTrue (is_call text) ↔ (IsTrue (is_starred text) × (meaning (word text) ≡ Some words.Call))
call_words text = (there, back)
  where
    there : IsTrue (is_call text) → IsTrue (is_starred text) × (meaning (word text) ≡ Some words.Call)
    there h =
        let both = and_parts (is_starred text) (is_call_word (word text)) h in (
          both.0,
          ⊎_elim (λ e. ap meaning ((bytes_eq-Decides (word text) (codes "CALL")).0 e)) (λ e. ap meaning ((bytes_eq-Decides (word text) (codes "CA")).0 e))
              (or_cases (bytes_eq (word text) (codes "CALL")) (bytes_eq (word text) (codes "CA")) both.1),
        )

    back : IsTrue (is_starred text) × (meaning (word text) ≡ Some words.Call) → IsTrue (is_call text)
    back h =
        let stands = means_back (word text) words.Call h.1 in
        and_from (is_starred text) (is_call_word (word text)) h.0 (all_in spellings calls_if_it_means (spelled (word text) words.Call) stands refl)

-- ---- the name that a call calls

pub call_read : (text name : List ℕ) → Says text (Call name) → IsTrue (is_call text) × (called text ≡ name)
call_read text name (Directive _ w known fs _ star means (TakesCall a h)) =
    let is = star_line_read text w (a ∷ []) star in
    let call = (call_words text).1 (star_starred text w (a ∷ []) star, ap meaning is.0 ∙ means_read w words.Call means) in
    (call, rw is.1 refl)

call_taken : (fs : List (List ℕ)) (item : ItemView) → Takes words.Call fs item → (a : List ℕ) × (fs ≡ a ∷ []) × (item ≡ Call a)
call_taken fs item (TakesCall a h) = (a, refl, refl)

pub call_said : (text : List ℕ) (item : ItemView) → Says text item → IsTrue (is_call text) → item ≡ Call (called text)
call_said text item (Other _ none) call =
    let words_of = (call_words text).0 call in
    absurd (none (word text) words.Call (word_back text words_of.0) (means_back (word text) words.Call words_of.1))
call_said text item (Directive _ w known fs _ star means takes) call =
    let is = star_line_read text w fs star in
    let same : known ≡ words.Call = some_same known words.Call (sym (means_read w known means) ∙ ap meaning (sym is.0) ∙ ((call_words text).0 call).1) in
    let taken = call_taken fs item (subst (λ v. Takes v fs item) same takes) in
    taken.2 ∙ ap Call (sym (rw (is.1 ∙ taken.1) refl))
  where
    some_same : (v w : Word) → Some v ≡ Some w → v ≡ w
    some_same v w e = cc
