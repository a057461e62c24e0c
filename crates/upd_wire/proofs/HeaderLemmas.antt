-- Headers are read as they are spelled.
use Rattle.upd_wire.proofs.Common.{◌≡◌, ℕ, ◌+◌, ◌<◌, ◌≤◌, ◌^◌, ◌==◌, nat_le, zero, suc, Bool, true, false, cond, not, ◌&&◌, ◌||◌, List, [], ◌∷◌, ◌++◌, length}
use Rattle.upd_wire.proofs.Common.{get_or, decimal, codes, Bor, Option, Some, None, Result, Ok, Err, sym, ap, ap₂, ◌∙◌, refl, subst, arith, lit<, list_all}
use Rattle.upd_wire.proofs.Common.{position_or_len, before_first, after_first, IsUtf8, bytes_eq, and_parts, cond-true, eqb-true, le-leb, or_right, nat_tests}
use Rattle.upd_wire.proofs.Common.{bytes_eq-Decides, take-append_seam, drop-append-add, MAX_RUN_BYTES, is_digit, number_behind, HeaderView, IsHeader, ◌>>=◌}
use Rattle.upd_wire.proofs.Common.{cut, header_text, where_true}
use Rattle.upd_wire.specs.Header.{header_of}
use Rattle.std.proofs.Common.{MatchResult}
use Rattle.std.specs.List.{list_any}
use Rattle.std.specs.Option.{option_map}
use Rattle.std.specs.Result.{result_ok}
use Rattle.std.proofs.lemmas.Bool.{leb-true, or_left}
use Rattle.std.proofs.lemmas.Fmt.{decimal-digits_value, decimal_digit, digits_decimal, digits_value-decimal, decimal_nonempty, length-decimal-le, first_decimal}
use Rattle.std.proofs.lemmas.List.Sums.{passes_at_first, split_at_first}
use Rattle.std.proofs.lemmas.Str.{IsUtf8-from_ascii}
use Rattle.std.proofs.lemmas.Str.Parse.{digits_value_short}
use Rattle.upd_text.proofs.CardRefLemmas.{numeral_model}
use Rattle.upd_wire.specs.declared.header.TheConstants.{MAX_HEADER_BYTES}
use Rattle.upd_wire.specs.Numbers.{is_number, number_of}
use Rattle.upd_wire.specs.Header.{is_visible, is_word, size_of}

-- ---- words

visible_below : (text : List ℕ) → list_all is_visible text ≡ true → (i : ℕ) → get_or text i 0 < 128
visible_below [] all i = grind arith
visible_below (b ∷ text) all zero = small (is_visible b) (list_all is_visible text) all
  where
    small : (here later : Bool) → (is_visible b && later) ≡ true → b < 128
    small here later e = grind (arith, nat_tests)
visible_below (b ∷ text) all (suc i) = visible_below text (and_parts (is_visible b) (list_all is_visible text) all).1 i

-- a word is text
pub words_are_text : (text : List ℕ) → is_word text ≡ true → IsUtf8 text
words_are_text text is = IsUtf8-from_ascii text (visible_below text (and_parts (nat_le 1 (length text)) (list_all is_visible text) is).1)

-- so it is read as one
pub word_read : {E : Type 0} (Z : E → Type 0) (text : List ℕ) (r : Result (Bor (List ℕ)) E) (o : Option (Bor (List ℕ))) → is_word text ≡ true
    → MatchResult r (λ s. (s.now ≡ text) × IsUtf8 text) (λ e. ¬ (IsUtf8 text) × Z e) → o ≡ result_ok r
    → option_map (λ word. word.now) o ≡ where_true (is_word text) text
word_read Z text (Ok s) o is cases e = rw e (ap Some cases.0 ∙ sym (cond-true _ _ _ is))
word_read Z text (Err error) o is cases e = absurd (cases.0 (words_are_text text is))

-- ---- what stands before the first of a byte

first_place : (at : ℕ) (word rest : List ℕ) → list_any (λ b. b == at) word ≡ false → position_or_len (λ b. b == at) (word ++ at ∷ rest) ≡ length word
first_place at [] rest none = first (at == at) (position_or_len (λ b. b == at) rest) (same at)
  where
    same : (n : ℕ) → (n == n) ≡ true
    same n = grind (arith, nat_tests)

    first : (here : Bool) (n : ℕ) → here ≡ true → cond (not here) (1 + n) 0 ≡ 0
    first here n e = grind (arith, nat_tests)
first_place at (b ∷ word) rest none = more (b == at) (list_any (λ b. b == at) word) _ (length word) none (first_place at word rest)
  where
    more : (here later : Bool) (place n : ℕ) → (here || later) ≡ false → (later ≡ false → place ≡ n) → cond (not here) (1 + place) 0 ≡ suc n
    more here later place n none next = grind (arith, nat_tests)

any_at : (at : ℕ) (word rest : List ℕ) → list_any (λ b. b == at) (word ++ at ∷ rest) ≡ true
any_at at [] rest = or_left (at == at) (list_any (λ b. b == at) rest) (same at)
  where
    same : (n : ℕ) → (n == n) ≡ true
    same n = grind (arith, nat_tests)
any_at at (b ∷ word) rest = or_right (b == at) _ (any_at at word rest)

-- a word is cut off at the byte behind it
pub cut_behind : (at : ℕ) (word rest : List ℕ) → list_any (λ b. b == at) word ≡ false → cut at (word ++ at ∷ rest) ≡ Some (word, rest)
cut_behind at word rest none =
    let place = first_place at word rest none in
    let before : before_first (λ b. b == at) (word ++ at ∷ rest) ≡ word = rw place (take-append_seam word (at ∷ rest)) in
    let behind : after_first (λ b. b == at) (word ++ at ∷ rest) ≡ rest = rw place (drop-append-add word (at ∷ rest) 1) in
    cond-true _ _ _ (any_at at word rest) ∙ pair _ _ before behind
  where
    pair : (a b : List ℕ) → a ≡ word → b ≡ rest → (let p : Option (List ℕ × List ℕ) = Some (a, b) in p) ≡ Some (word, rest)
    pair a b e f = ap₂ (λ (x y : List ℕ). let p : Option (List ℕ × List ℕ) = Some (x, y) in p) e f

place_within : (test : ℕ → Bool) (text : List ℕ) → list_any test text ≡ true → position_or_len test text < length text
place_within test [] some = grind (arith, nat_tests)
place_within test (b ∷ text) some = more (test b) (list_any test text) (position_or_len test text) (length text) some (place_within test text)
  where
    more : (here later : Bool) (place n : ℕ) → (here || later) ≡ true → (later ≡ true → place < n) → cond (not here) (1 + place) 0 < suc n
    more here later place n some next = grind (arith, nat_tests)

-- what passes, and what was found
pub passes : {A : Type 0} (b : Bool) (x y : A) → where_true b x ≡ Some y → (b ≡ true) × (x ≡ y)
passes true x y e = (refl, cc)
passes false x y e = absurd (cc)

-- what was cut
pub cut_whole : (at : ℕ) (text : List ℕ) (parts : List ℕ × List ℕ) → cut at text ≡ Some parts → text ≡ parts.0 ++ at ∷ parts.1
cut_whole at text parts e =
    let (some, same) = passes _ _ parts e in
    let test : ℕ → Bool = λ b. b == at in
    let within = place_within test text some in
    let found : get_or text (position_or_len test text) 0 ≡ at = eqb-true _ at (passes_at_first test text 0 within) in
    whole (before_first test text) (after_first test text) same (split_at_first test text 0 within
    ∙ ap (λ b. before_first test text ++ b ∷ after_first test text) found)
  where
    whole : (before behind : List ℕ) → (let p : List ℕ × List ℕ = (before, behind) in p) ≡ parts → text ≡ before ++ at ∷ behind → text ≡ parts.0 ++ at ∷ parts.1
    whole before behind same e = e ∙ ap (λ (p : List ℕ × List ℕ). p.0 ++ at ∷ p.1) same

-- ---- numbers

pub record IsNumber (ds : List ℕ) : Type 0 where
  pub some : 0 < length ds
  pub short : length ds ≤ 9
  pub digits : list_all is_digit ds ≡ true
  pub first : get_or ds 0 0 ≡ 48 → length ds ≡ 1

pub number_facts : (ds : List ℕ) → is_number ds ≡ true → IsNumber ds
number_facts ds ok =
    let f = of (length ds) (get_or ds 0 0) (list_all is_digit ds) ok in
    record { some = f.0; short = f.1; digits = f.2; first = f.3 }
  where
    of : (n first : ℕ) (all : Bool) → ((nat_le 1 n && nat_le n 9) && all && (not (first == 48) || (n == 1))) ≡ true
        → (0 < n) × (n ≤ 9) × (all ≡ true) × (first ≡ 48 → n ≡ 1)
    of n first all ok = (grind (arith, nat_tests), grind (arith, nat_tests), grind (arith, nat_tests), λ e. grind (arith, nat_tests))

-- a number is what is written of its value
number_is : (ds : List ℕ) (n : ℕ) → number_of ds ≡ Some n → (ds ≡ decimal n) × (n < 10 ^ 9)
number_is ds n e =
    let (ok, same) = passes _ _ n e in
    let f = number_facts ds ok in
    let small : number_behind 0 ds < 10 ^ 9 = digits_value_short numeral_model ds 9 f.digits f.short in
    let written = decimal-digits_value numeral_model ds f.digits f.some f.first (omega (arith, small)) in
    (sym written ∙ ap decimal same, omega (arith, small, same))

-- what is written of a number is read back
number_read : (n : ℕ) → n < 10 ^ 9 → number_of (decimal n) ≡ Some n
number_read n high = cond-true _ _ _ (is n high) ∙ ap Some (digits_value-decimal numeral_model n (fits n high))
  where
    fits : (n : ℕ) → n < 10 ^ 9 → n < 2 ^ 64
    fits n high = omega (arith, high)

    of : (len first : ℕ) (all : Bool) → 0 < len → len ≤ 9 → all ≡ true → (first ≡ 48 → len ≡ 1)
        → ((nat_le 1 len && nat_le len 9) && all && (not (first == 48) || (len == 1))) ≡ true
    of len first all some short digits alone = grind (arith, nat_tests)

    alone : (n : ℕ) → n < 10 ^ 9 → get_or (decimal n) 0 0 ≡ 48 → length (decimal n) ≡ 1
    alone zero high e = ap length (decimal_digit 0 (lit< tt))
    alone (suc n) high e = let above = first_decimal (suc n) (omega arith) (fits (suc n) high) in absurd (omega (arith, above, e))

    is : (n : ℕ) → n < 10 ^ 9 → is_number (decimal n) ≡ true
    is n high =
        of (length (decimal n)) (get_or (decimal n) 0 0) (list_all is_digit (decimal n)) (decimal_nonempty n (fits n high))
        (length-decimal-le 9 n (lit< tt) high (fits n high)) (digits_decimal numeral_model n (fits n high)) (alone n high)

-- ---- headers

pub bound : {A B : Type 0} (o : Option A) (x : A) (f : A → Option B) → o ≡ Some x → (o >>= f) ≡ f x
bound o x f e = ap (λ (q : Option _). q >>= f) e

-- what was found before what comes behind
pub bind_then : {A B : Type 0} (o : Option A) (f : A → Option B) (y : B) (P : Type 0) → (o >>= f) ≡ Some y → ((x : A) → o ≡ Some x → f x ≡ Some y → P) → P
bind_then (Some x) f y P e then = then x refl e
bind_then None f y P e then = absurd (cc)

size_read : (n : ℕ) → n ≤ MAX_RUN_BYTES → size_of (decimal n) ≡ Some n
size_read n within = bound _ _ _ (number_read n (omega arith)) ∙ cond-true _ _ _ (le-leb n MAX_RUN_BYTES within)

size_is : (ds : List ℕ) (n : ℕ) → size_of ds ≡ Some n → (ds ≡ decimal n) × (n ≤ MAX_RUN_BYTES)
size_is ds n e = bind_then (number_of ds) _ n _ e (λ size found passed. of size found (passes _ _ n passed))
  where
    of : (size : ℕ) → number_of ds ≡ Some size → (nat_le size MAX_RUN_BYTES ≡ true) × (size ≡ n) → (ds ≡ decimal n) × (n ≤ MAX_RUN_BYTES)
    of size found (within, same) = ((number_is ds size found).0 ∙ ap decimal same, (let most = leb-true size MAX_RUN_BYTES within in omega arith))

-- no visible byte is a blank, or LF
unseen : (at : ℕ) → at < 33 → (text : List ℕ) → list_all is_visible text ≡ true → list_any (λ b. b == at) text ≡ false
unseen at low [] all = refl
unseen at low (b ∷ text) all = more b (list_all is_visible text) (list_any (λ c. c == at) text) all (unseen at low text)
  where
    more : (b : ℕ) (later any : Bool) → (is_visible b && later) ≡ true → (later ≡ true → any ≡ false) → ((b == at) || any) ≡ false
    more b later any ok next = grind (arith, nat_tests)

pub word_without : (at : ℕ) → at < 33 → (text : List ℕ) → is_word text ≡ true → list_any (λ b. b == at) text ≡ false
word_without at low text is = unseen at low text (and_parts (nat_le 1 (length text)) (list_all is_visible text) is).1

digits_visible : (ds : List ℕ) → list_all is_digit ds ≡ true → list_all is_visible ds ≡ true
digits_visible [] all = refl
digits_visible (d ∷ ds) all = more d (list_all is_digit ds) (list_all is_visible ds) all (digits_visible ds)
  where
    more : (d : ℕ) (later seen : Bool) → (is_digit d && later) ≡ true → (later ≡ true → seen ≡ true) → (is_visible d && seen) ≡ true
    more d later seen ok next = grind (arith, nat_tests)

pub number_without : (at : ℕ) → at < 33 → (n : ℕ) → n < 10 ^ 9 → list_any (λ b. b == at) (decimal n) ≡ false
number_without at low n high = unseen at low (decimal n) (digits_visible (decimal n) (digits_decimal numeral_model n (omega (arith, high))))

-- a header from its parts, one behind the other
in_parts : (text command site number mode size a b c : List ℕ) (n m : ℕ)
    → where_true (nat_le (length text) MAX_HEADER_BYTES) text ≡ Some text
    → cut 32 text ≡ Some (command, a) → where_true (bytes_eq command (codes "RUN")) command ≡ Some command
    → cut 32 a ≡ Some (site, b) → where_true (is_word site) site ≡ Some site
    → cut 32 b ≡ Some (number, c) → number_of number ≡ Some n
    → cut 32 c ≡ Some (mode, size) → where_true (is_word mode) mode ≡ Some mode
    → size_of size ≡ Some m → header_of text ≡ Some (record { site = site; number = n; mode = mode; size = m })
unfolding header_of
in_parts text command site number mode size a b c n m e1 e2 e3 e4 e5 e6 e7 e8 e9 e10 =
    bound _ _ _ e1 ∙ bound _ _ _ e2 ∙ bound _ _ _ e3 ∙ bound _ _ _ e4 ∙ bound _ _ _ e5 ∙ bound _ _ _ e6 ∙ bound _ _ _ e7 ∙ bound _ _ _ e8
    ∙ bound _ _ _ e9 ∙ bound _ _ _ e10

pub header_is_read : (h : HeaderView) → IsHeader h → header_of (header_text h) ≡ Some h
header_is_read h is =
    in_parts (header_text h) (codes "RUN") h.site (decimal h.number) h.mode (decimal h.size) _ _ _ h.number h.size
    (cond-true _ _ _ (le-leb _ _ is.fits))
    (cut_behind 32 (codes "RUN") (h.site ++ 32 ∷ (decimal h.number ++ 32 ∷ (h.mode ++ 32 ∷ decimal h.size))) refl)
    refl
    (cut_behind 32 h.site (decimal h.number ++ 32 ∷ (h.mode ++ 32 ∷ decimal h.size)) (word_without 32 (lit< tt) h.site is.site))
    (cond-true _ _ _ is.site)
    (cut_behind 32 (decimal h.number) (h.mode ++ 32 ∷ decimal h.size) (number_without 32 (lit< tt) h.number is.number))
    (number_read h.number is.number)
    (cut_behind 32 h.mode (decimal h.size) (word_without 32 (lit< tt) h.mode is.mode))
    (cond-true _ _ _ is.mode)
    (size_read h.size is.size)

-- a header's text is its words one behind the other
joined : (text line command run site number mode size word1 word2 a b c : List ℕ) → text ≡ line → line ≡ command ++ 32 ∷ a → command ≡ run
    → a ≡ site ++ 32 ∷ b → site ≡ word1 → b ≡ number ++ 32 ∷ c → (n : List ℕ) → number ≡ n → c ≡ mode ++ 32 ∷ size → mode ≡ word2 → (m : List ℕ) → size ≡ m
    → text ≡ run ++ 32 ∷ (word1 ++ 32 ∷ (n ++ 32 ∷ (word2 ++ 32 ∷ m)))
joined text line command run site number mode size word1 word2 a b c e1 e2 e3 e4 e5 e6 n e7 e8 e9 m e10 = cc

pub header_is_spelled : (text : List ℕ) (h : HeaderView) → header_of text ≡ Some h → IsHeader h × (text ≡ header_text h)
unfolding header_of
header_is_spelled text h e =
    bind_then _ _ h _ e (λ line e1 q1. bind_then _ _ h _ q1 (λ run e2 q2. bind_then _ _ h _ q2 (λ command e3 q3. bind_then _ _ h _ q3 (λ site e4 q4.
    bind_then _ _ h _ q4 (λ word1 e5 q5. bind_then _ _ h _ q5 (λ number e6 q6. bind_then _ _ h _ q6 (λ n e7 q7. bind_then _ _ h _ q7 (λ mode e8 q8.
    bind_then _ _ h _ q8 (λ word2 e9 q9. bind_then _ _ h _ q9 (λ m e10 q10.
    of line run command site word1 number n mode word2 m (passes _ _ line e1) (cut_whole 32 line run e2) (passes _ _ command e3) (cut_whole 32 run.1 site e4)
    (passes _ _ word1 e5) (cut_whole 32 site.1 number e6) (number_is number.0 n e7) (cut_whole 32 number.1 mode e8) (passes _ _ word2 e9)
    (size_is mode.1 m e10) q10))))))))))
  where
    some_is : (a b : HeaderView) → Some a ≡ Some b → a ≡ b
    some_is a b e = cc

    same_bytes : (a b : List ℕ) → bytes_eq a b ≡ true → a ≡ b
    same_bytes a b e = (bytes_eq-Decides a b).0 e

    of : (line : List ℕ) (run : List ℕ × List ℕ) (command : List ℕ) (site : List ℕ × List ℕ) (word1 : List ℕ) (number : List ℕ × List ℕ) (n : ℕ)
        (mode : List ℕ × List ℕ) (word2 : List ℕ) (m : ℕ)
        → (nat_le (length text) MAX_HEADER_BYTES ≡ true) × (text ≡ line) → line ≡ run.0 ++ 32 ∷ run.1
        → (bytes_eq run.0 (codes "RUN") ≡ true) × (run.0 ≡ command) → run.1 ≡ site.0 ++ 32 ∷ site.1
        → (is_word site.0 ≡ true) × (site.0 ≡ word1) → site.1 ≡ number.0 ++ 32 ∷ number.1
        → (number.0 ≡ decimal n) × (n < 10 ^ 9) → number.1 ≡ mode.0 ++ 32 ∷ mode.1
        → (is_word mode.0 ≡ true) × (mode.0 ≡ word2) → (mode.1 ≡ decimal m) × (m ≤ MAX_RUN_BYTES)
        → (let found : Option HeaderView = Some (record { site = word1; number = n; mode = word2; size = m }) in found) ≡ Some h
        → IsHeader h × (text ≡ header_text h)
    of line run command site word1 number n mode word2 m fits e2 is_run e4 first e6 digits e8 second length_is same =
        let whole : text ≡ header_text (record { site = word1; number = n; mode = word2; size = m }) =
        joined text line run.0 (codes "RUN") site.0 number.0 mode.0 mode.1 word1 word2 run.1 site.1 number.1 fits.1 e2 (same_bytes _ _ is_run.0) e4 first.1
        e6 (decimal n) digits.0 e8 second.1 (decimal m) length_is.0 in
        let found : HeaderView = record { site = word1; number = n; mode = word2; size = m } in
        let is : IsHeader found × (text ≡ header_text found) = (
          record {
            site = subst (λ t. is_word t ≡ true) first.1 first.0;
            number = digits.1;
            mode = subst (λ t. is_word t ≡ true) second.1 second.0;
            size = length_is.1;
            fits = subst (λ t. length t ≤ MAX_HEADER_BYTES) whole (leb-true _ _ fits.0);
          },
          whole,
        ) in
        subst (λ (k : HeaderView). IsHeader k × (text ≡ header_text k)) (some_is found h same) is
