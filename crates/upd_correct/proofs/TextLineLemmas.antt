-- The lines of an edited text, and how they are read.
use Rattle.upd_correct.proofs.Common.{◌≡◌, ℕ, zero, suc, ◌+◌, ◌<◌, false, List, [], ◌∷◌, ◌++◌, length, take, drop, get_or, refl, sym, ap}
use Rattle.upd_correct.proofs.Common.{◌∙◌, subst, arith, append-nil, append_assoc, take_more, flat_map-append, map, map-append, flat_map, AllByRecursion}
use Rattle.upd_correct.proofs.Common.{AllZip, is_feed, NewDeck, lines_in}
use Rattle.upd_correct.specs.EditedText.{First, Further, begun_with, lines_of_deck}
use Rattle.upd_correct.specs.LineReads.{IsReadAs}

-- ---- lines

-- no byte is LF
abbrev pub HasNoFeed : List ℕ → Type 0
HasNoFeed bytes = AllByRecursion (λ b. is_feed b ≡ false) bytes

pub lines_from_feed : (front back : List ℕ) → HasNoFeed front → lines_in (front ++ 10 ∷ back) ≡ (front ++ 10 ∷ []) ∷ lines_in back
lines_from_feed [] back none = refl
lines_from_feed (b ∷ front) back none = rw none.0 (ap (begun_with b) (lines_from_feed front back none.1))

pub one_line : (b : ℕ) (bytes : List ℕ) → HasNoFeed (b ∷ bytes) → lines_in (b ∷ bytes) ≡ (b ∷ bytes) ∷ []
one_line b [] none = rw none.0 refl
one_line b (c ∷ bytes) none = rw none.0 (ap (begun_with b) (one_line c bytes none.1))

pub some_line : (bytes : List ℕ) → 0 < length bytes → HasNoFeed bytes → lines_in bytes ≡ bytes ∷ []
some_line [] some none = absurd (omega (arith, some))
some_line (b ∷ bytes) some none = one_line b bytes none

split_at_index : (bytes : List ℕ) (i : ℕ) → i < length bytes → bytes ≡ take i bytes ++ get_or bytes i 0 ∷ drop (i + 1) bytes
split_at_index [] i within = absurd (omega (arith, within))
split_at_index (b ∷ bytes) zero within = refl
split_at_index (b ∷ bytes) (suc i) within =
    let next : suc i + 1 ≡ suc (i + 1) = omega arith in
    rw next (ap (λ more. b ∷ more) (split_at_index bytes i (omega (arith, within))))

pub lines_at_feed : (bytes : List ℕ) (i : ℕ) → i < length bytes → HasNoFeed (take i bytes) → get_or bytes i 0 ≡ 10
    → lines_in bytes ≡ take (i + 1) bytes ∷ lines_in (drop (i + 1) bytes)
lines_at_feed bytes i within none feed =
    ap lines_in (split_at_index bytes i within) ∙ ap (λ b. lines_in (take i bytes ++ b ∷ drop (i + 1) bytes)) feed
    ∙ lines_from_feed (take i bytes) (drop (i + 1) bytes) none
    ∙ ap (λ line. line ∷ lines_in (drop (i + 1) bytes))
    (ap (λ b. take i bytes ++ b ∷ []) (sym feed) ∙ sym (take_more bytes i 0 within))

-- ---- decks grow line by line

pub zip_end : {A B : Type 0} (R : A → B → Type 0) (xs : List A) (ys : List B) (x : A) (y : B) → AllZip R xs ys → R x y → AllZip R (xs ++ x ∷ []) (ys ++ y ∷ [])
zip_end R [] [] x y zip is = (is, tt)
zip_end R [] (w ∷ ys) x y zip is = absurd zip
zip_end R (v ∷ xs) [] x y zip is = absurd zip
zip_end R (v ∷ xs) (w ∷ ys) x y zip is = (zip.0, zip_end R xs ys x y zip.1 is)

-- a deck begins
pub deck_read : (lines : List (List ℕ)) (bytes : List ℕ) (decks new : List NewDeck) (d : NewDeck) → new ≡ decks ++ d ∷ [] → d.lines ≡ []
    → IsReadAs bytes (First d) → AllZip IsReadAs lines (flat_map lines_of_deck decks)
    → AllZip IsReadAs (lines ++ bytes ∷ []) (flat_map lines_of_deck new)
deck_read lines bytes decks new d e none is zip =
    subst (AllZip IsReadAs (lines ++ bytes ∷ []))
    (sym (ap (flat_map lines_of_deck) e ∙ flat_map-append lines_of_deck decks (d ∷ [])
    ∙ ap (λ x. flat_map lines_of_deck decks ++ x) (append-nil (lines_of_deck d)
    ∙ ap (λ texts. First (record d { lines = [] }) ∷ map Further texts) none ∙ ap (λ texts. First (record d { lines = texts }) ∷ []) (sym none))))
    (zip_end IsReadAs lines (flat_map lines_of_deck decks) bytes (First d) zip is)

-- the last of them grows
pub last_piece : {X A : Type 0} (f : X → List A) (done : List X) (s t : X) (more : List A) → f t ≡ f s ++ more
    → flat_map f (done ++ t ∷ []) ≡ flat_map f (done ++ s ∷ []) ++ more
last_piece f done s t more e =
    flat_map-append f done (t ∷ []) ∙ ap (λ x. flat_map f done ++ x) (append-nil (f t) ∙ e) ∙ sym (append_assoc (flat_map f done) (f s) more)
    ∙ ap (λ x. x ++ more) (ap (λ x. flat_map f done ++ x) (sym (append-nil (f s))) ∙ sym (flat_map-append f done (s ∷ [])))

-- the last deck gets a line
pub line_read : (lines : List (List ℕ)) (bytes text : List ℕ) (front old new : List NewDeck) (d e : NewDeck) → old ≡ front ++ d ∷ [] → new ≡ front ++ e ∷ []
    → e ≡ record d { lines = d.lines ++ text ∷ [] } → IsReadAs bytes (Further text) → AllZip IsReadAs lines (flat_map lines_of_deck old)
    → AllZip IsReadAs (lines ++ bytes ∷ []) (flat_map lines_of_deck new)
line_read lines bytes text front old new d e was now grown is zip =
    let larger : NewDeck = record d { lines = d.lines ++ text ∷ [] } in
    subst (AllZip IsReadAs (lines ++ bytes ∷ []))
    (sym (ap (flat_map lines_of_deck) (now ∙ ap (λ x. front ++ x ∷ []) grown)
    ∙ last_piece lines_of_deck front d larger (Further text ∷ [])
    (ap (λ more. First (record d { lines = [] }) ∷ more) (map-append Further d.lines (text ∷ [])))
    ∙ ap (λ x. flat_map lines_of_deck x ++ Further text ∷ []) (sym was)))
    (zip_end IsReadAs lines (flat_map lines_of_deck old) bytes (Further text) zip is)
