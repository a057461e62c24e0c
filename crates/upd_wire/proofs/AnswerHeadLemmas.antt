-- Texts that are put together piece by piece.
use Rattle.upd_wire.proofs.Common.{◌≡◌, ℕ, ◌+◌, Bool, true, false, ◌&&◌, IsTrue, List, [], ◌∷◌, ◌++◌, codes}
use Rattle.upd_wire.proofs.Common.{decimal, refl, sym, ap, ap₂, ◌∙◌, arith, append_assoc, append-nil}
use Rattle.upd_wire.proofs.Common.{false≢true, nat_tests, concat, flat_map, list_all, is_site}
use Rattle.upd_text.specs.Keys.{is_site_byte}
use Rattle.upd_desk.specs.ReplyTexts.{escaped, settled_bytes, settled_text}

-- a piece is added to what is there
pub put_on : (old new piece : List ℕ) (front said : List ℕ) → new ≡ old ++ piece → old ≡ front → piece ≡ said → new ≡ front ++ said
put_on old new piece front said is before what = is ∙ ap₂ (λ a b. a ++ b) before what

pub of_eight : (a b c d e f g h : List ℕ) → ((((((([] ++ a) ++ b) ++ c) ++ d) ++ e) ++ f) ++ g) ++ h ≡ concat (a ∷ b ∷ c ∷ d ∷ e ∷ f ∷ g ∷ h ∷ [])
of_eight a b c d e f g h = simp (append_assoc, append-nil)

both_true : (x y : Bool) → (x && y) ≡ true → (x ≡ true) × (y ≡ true)
both_true true true is = (refl, refl)
both_true true false is = absurd (false≢true is)
both_true false y is = absurd (false≢true is)

-- a byte of a site stands for itself
site_byte_is_plain : (b : ℕ) → is_site_byte b ≡ true → escaped b ≡ b ∷ []
site_byte_is_plain b is = grind (arith, nat_tests)

pub site_is_plain : (site : List ℕ) → list_all is_site_byte site ≡ true → flat_map escaped site ≡ site
site_is_plain [] is = refl
site_is_plain (b ∷ site) is =
    let (first, rest) = both_true (is_site_byte b) (list_all is_site_byte site) is in
    ap₂ (λ x y. x ++ y) (site_byte_is_plain b first) (site_is_plain site rest)

-- the text of a mark, where the site is one
pub mark_text : (site : List ℕ) (mark : ℕ) → IsTrue (is_site site)
    → settled_bytes site mark ≡ settled_text site mark
mark_text site mark is =
    let plain = site_is_plain site (both_true _ (list_all is_site_byte site) is).1 in
    ap (λ l. codes "{\"settled\":" ++ (decimal mark ++ (codes ",\"site\":\"" ++ l)))
    (sym (append_assoc site (codes "\"") (codes "}")) ∙ ap (λ s. (s ++ codes "\"") ++ codes "}") (sym plain))
