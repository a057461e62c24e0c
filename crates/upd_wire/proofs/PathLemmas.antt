-- A path goes by a route's tokens exactly where its segments fit the route's parts.
use Rattle.upd_wire.proofs.Common.{◌≡◌, ◌≢◌, ℕ, ◌<◌, List, [], ◌∷◌, ◌++◌, Bool, true, false, not, nat_lt, ◌==◌, ◌&&◌, refl, sym, ap, ◌∙◌, arith, and_parts}
use Rattle.upd_wire.proofs.Common.{nat_tests, bytes_eq, has_slash, segments_of, Part, word, any, fits, part_fits}
use Rattle.upd_wire.proofs.SeekLemmas.{Ends, IsPlain, goes}
use Rattle.upd_wire.proofs.PathSegmentLemmas.{HaveNoSlash, no_slash, rest_spelled, segments_spell_path, spell}

-- the tokens of parts, each after a slash
abbrev pub tails : List Part → List ℕ
tails [] = []
tails (word w ∷ parts) = 47 ∷ w ++ tails parts
tails (any ∷ parts) = 47 ∷ 256 ∷ tails parts

-- whether the bytes of words are no slashes
abbrev pub is_word : List ℕ → Bool
is_word [] = true
is_word (x ∷ w) = nat_lt x 256 && (not (x == 47) && is_word w)

abbrev pub are_words : List Part → Bool
are_words [] = true
are_words (word w ∷ parts) = is_word w && are_words parts
are_words (any ∷ parts) = are_words parts

pub word_byte : (x : ℕ) (w : List ℕ) → is_word (x ∷ w) ≡ true → (x < 256) × (x ≢ 47) × (is_word w ≡ true)
word_byte x w is =
    let (small, more) = and_parts (nat_lt x 256) (not (x == 47) && is_word w) is in
    let (other, rest) = and_parts (not (x == 47)) (is_word w) more in
    let byte : x < 256 = grind (arith, nat_tests) in
    (byte, λ same. grind (arith, nat_tests), rest)

word_is_plain : (w : List ℕ) → is_word w ≡ true → (tokens : List ℕ) → IsPlain tokens → IsPlain (w ++ tokens)
word_is_plain [] is tokens plain = plain
word_is_plain (x ∷ w) is tokens plain =
    let (small, other, rest) = word_byte x w is in
    (omega arith, λ same. absurd (omega arith), word_is_plain w rest tokens plain)

pub tails_are_plain : (parts : List Part) → are_words parts ≡ true → IsPlain (tails parts) × Ends (tails parts)
tails_are_plain [] is = (tt, tt)
tails_are_plain (word w ∷ parts) is =
    let (here, later) = and_parts (is_word w) (are_words parts) is in
    ((omega arith, λ same. absurd (omega arith), word_is_plain w here (tails parts) (tails_are_plain parts later).0), refl)
tails_are_plain (any ∷ parts) is =
    let (plain, ends) = tails_are_plain parts is in
    ((omega arith, λ same. absurd (omega arith), (omega arith, λ same. ends, plain)), refl)

and_assoc : (p q r : Bool) → (p && (q && r)) ≡ ((p && q) && r)
and_assoc true q r = refl
and_assoc false q r = refl

word_goes : (w : List ℕ) → is_word w ≡ true → (s : List ℕ) → has_slash s ≡ false → (parts : List Part) (segments : List (List ℕ))
    → goes (w ++ tails parts) (s ++ spell segments) ≡ (bytes_eq w s && goes (tails parts) (spell segments))
word_goes [] is [] none parts segments = refl
word_goes [] is (b ∷ s) none [] segments = refl
word_goes [] is (b ∷ s) none (word w ∷ parts) segments =
    let other = (no_slash b s none).0 in
    let apart : (47 == b) ≡ false = grind (arith, nat_tests) in
    rw apart refl
word_goes [] is (b ∷ s) none (any ∷ parts) segments =
    let other = (no_slash b s none).0 in
    let apart : (47 == b) ≡ false = grind (arith, nat_tests) in
    rw apart refl
word_goes (x ∷ w) is [] none parts [] = refl
word_goes (x ∷ w) is [] none parts (t ∷ segments) =
    let (small, other, rest) = word_byte x w is in
    let byte : (x == 256) ≡ false = grind (arith, nat_tests) in
    let apart : (x == 47) ≡ false = grind (arith, nat_tests) in
    rw (byte, apart) refl
word_goes (x ∷ w) is (b ∷ s) none parts segments =
    let (small, other, rest) = word_byte x w is in
    let byte : (x == 256) ≡ false = grind (arith, nat_tests) in
    rw byte (ap (λ v. (x == b) && v) (word_goes w rest s (no_slash b s none).1 parts segments)
    ∙ and_assoc (x == b) (bytes_eq w s) (goes (tails parts) (spell segments)))

any_goes : (s : List ℕ) → has_slash s ≡ false → (parts : List Part) (segments : List (List ℕ))
    → goes (256 ∷ tails parts) (s ++ spell segments) ≡ (part_fits any s && goes (tails parts) (spell segments))
any_goes [] none parts [] = refl
any_goes [] none parts (t ∷ segments) = refl
any_goes (b ∷ s) none parts segments =
    let (other, rest) = no_slash b s none in
    rw (other, rest_spelled s rest segments) refl

parts_go : (parts : List Part) → are_words parts ≡ true → (segments : List (List ℕ)) → HaveNoSlash segments
    → goes (tails parts) (spell segments) ≡ fits parts segments
parts_go [] is [] none = refl
parts_go [] is (s ∷ segments) none = refl
parts_go (word w ∷ parts) is [] none = refl
parts_go (any ∷ parts) is [] none = refl
parts_go (word w ∷ parts) is (s ∷ segments) (none, rest) =
    let (here, later) = and_parts (is_word w) (are_words parts) is in
    word_goes w here s none parts segments ∙ ap (λ v. bytes_eq w s && v) (parts_go parts later segments rest)
parts_go (any ∷ parts) is (s ∷ segments) (none, rest) =
    any_goes s none parts segments ∙ ap (λ v. part_fits any s && v) (parts_go parts is segments rest)

pub path_goes : (parts : List Part) → are_words parts ≡ true → (path : List ℕ) → goes (tails parts) path ≡ fits (word [] ∷ parts) (segments_of path)
path_goes parts is path =
    let (first, more, split, whole, none, rest) = segments_spell_path path in
    ap (goes (tails parts)) whole ∙ (word_goes [] refl first none parts more
    ∙ (ap (λ v. bytes_eq [] first && v) (parts_go parts is more rest) ∙ sym (ap (fits (word [] ∷ parts)) split)))
