-- The texts of decks, and the first line of a run.
use Rattle.upd_correct.proofs.Common.{◌≡◌, ℕ, ◌-◌, ◌<◌, List, [], ◌∷◌, map, length, take, drop, get_or, sym, ap, ◌∙◌, arith, IsTrue, ◌==◌, Result, Ok, Err}
use Rattle.upd_correct.proofs.Common.{Decides-eqb, NewDeck, texts_of}
use Rattle.std.specs.Prelude.{IfOk}
use Rattle.upd_correct.proofs.LeftLemmas.{first_and_more}

-- the first text is that of the deck's first line, and the others are those of its further lines
pub texts_are : {X : Type 0} (now : X → List ℕ) (d : NewDeck) (texts lines : List X) (x : X) → 0 < length texts → now (get_or texts 0 x) ≡ d.first
    → map now (take (length texts - 1) (drop 1 texts)) ≡ map now lines → map now lines ≡ d.lines → map now texts ≡ texts_of d
texts_are now d texts lines x some first rest view =
    ap (map now) (first_and_more texts x some) ∙ ap (λ t. t ∷ map now (take (length texts - 1) (drop 1 texts))) first
    ∙ ap (λ ts. d.first ∷ ts) (rest ∙ view)

-- the other way
pub texts_split : {X : Type 0} (now : X → List ℕ) (d : NewDeck) (texts lines : List X) (x : X) → 0 < length texts
    → map now lines ≡ d.lines → map now texts ≡ texts_of d
    → (now (get_or texts 0 x) ≡ d.first) × (map now (take (length texts - 1) (drop 1 texts)) ≡ map now lines)
texts_split now d texts lines x some view is =
    let whole = sym (ap (map now) (first_and_more texts x some)) ∙ is in
    (ap (λ ts. get_or ts 0 []) whole, ap (drop 1) whole ∙ sym view)

pub feed_first : (rest : List ℕ) → 0 < length rest → IsTrue (get_or rest 0 0 == 10) → rest ≡ 10 ∷ drop 1 rest
feed_first [] some is = absurd (omega (arith, some))
feed_first (b ∷ rest) some is = ap (λ (x : ℕ). x ∷ rest) ((Decides-eqb b 10).0 is)

pub ok_weaker : {A E : Type 0} (P Q : A → Type 0) (r : Result A E) → ((x : A) → P x → Q x) → IfOk r P → IfOk r Q
ok_weaker P Q (Ok x) weaker is = weaker x is
ok_weaker P Q (Err e) weaker is = tt
