-- Some count flipped exactly where a listed one did; where none did, no card is reached.
use Rattle.upd_yank.proofs.Common.{◌≡◌, ℕ, Bool, true, false, ◌||◌, if◌then◌else◌, List, [], ◌∷◌, ◌++◌, inl, inr, refl, ap, sym, ◌∙◌, append-nil, ◌==◌, ◌⊎◌}
use Rattle.upd_yank.proofs.Common.{list_any, or_cases, or_parts, CardRef, same_target, CountedCardView, Entry, Target, Set, SetIn, Deck, differs, is_flipped}
use Rattle.upd_yank.proofs.Common.{is_retaken, count_in, is_same, found_of, is_due}
use Rattle.std.specs.Prelude.{◌↔◌}
use Rattle.std.proofs.lemmas.Bool.{false_from_ne_true, iff_false}

-- whether a target is listed
abbrev pub is_listed : Target → List (Target × ℕ) → Bool
is_listed t ps = list_any (λ p. is_same t p.0) ps

pub unlisted : (ps : List (Target × ℕ)) (t : Target) → is_listed t ps ≡ false → count_in ps t ≡ 0
unlisted [] t e = refl
unlisted (p ∷ ps) t e = let parts = or_parts (is_same t p.0) (is_listed t ps) e in rw parts.0 (unlisted ps t parts.1)

-- a target that is listed where none flipped
listed_unflipped : (before now : Target → ℕ) (ps : List (Target × ℕ)) (t : Target) → list_any (λ p. is_flipped before now p.0) ps ≡ false →
    is_listed t ps ≡ true → is_flipped before now t ≡ false
listed_unflipped before now [] t none is = absurd (cc)
listed_unflipped before now (p ∷ ps) t none is =
    let parts = or_parts (is_flipped before now p.0) (list_any (λ p. is_flipped before now p.0) ps) none in
    go (is_same t p.0) refl parts.0 (λ later. listed_unflipped before now ps t parts.1 later)
  where
    go : (s : Bool) → is_same t p.0 ≡ s → is_flipped before now p.0 ≡ false → (is_listed t ps ≡ true → is_flipped before now t ≡ false) →
        is_flipped before now t ≡ false
    go true e here later = ap (is_flipped before now) (same_target t p.0 e) ∙ here
    go false e here later = later (rw e at is)

-- no target flipped where none of those did that are listed before or now
pub none_flipped : (had has : List (Target × ℕ)) → list_any (λ p. is_flipped (count_in had) (count_in has) p.0) had ≡ false →
    list_any (λ p. is_flipped (count_in had) (count_in has) p.0) has ≡ false → (t : Target) → is_flipped (count_in had) (count_in has) t ≡ false
none_flipped had has before now t = go (is_listed t had) refl (is_listed t has) refl
  where
    go : (a : Bool) → is_listed t had ≡ a → (b : Bool) → is_listed t has ≡ b → is_flipped (count_in had) (count_in has) t ≡ false
    go true e b f = listed_unflipped (count_in had) (count_in has) had t before e
    go false e true f = listed_unflipped (count_in had) (count_in has) has t now f
    go false e false f = λ i. differs (unlisted had t e i == 0) (unlisted has t f i == 0)

some_listed : (before now : Target → ℕ) (ps : List (Target × ℕ)) → list_any (λ p. is_flipped before now p.0) ps ≡ true →
    (t : Target) × (is_flipped before now t ≡ true)
some_listed before now [] some = absurd (cc)
some_listed before now (p ∷ ps) some =
    go (some_listed before now ps) (or_cases (is_flipped before now p.0) (list_any (λ p. is_flipped before now p.0) ps) some)
  where
    go : (list_any (λ p. is_flipped before now p.0) ps ≡ true → (t : Target) × (is_flipped before now t ≡ true)) →
        (is_flipped before now p.0 ≡ true) ⊎ (list_any (λ p. is_flipped before now p.0) ps ≡ true) → (t : Target) × (is_flipped before now t ≡ true)
    go others (inl here) = (p.0, here)
    go others (inr later) = others later

-- some target flipped exactly where one of those did that are listed before or now
pub some_flipped : (had has : List (Target × ℕ)) (flipped : Bool) →
    flipped ≡ (list_any (λ p. is_flipped (count_in had) (count_in has) p.0) had || list_any (λ p. is_flipped (count_in had) (count_in has) p.0) has) →
    (flipped ≡ true) ↔ ((t : Target) × (is_flipped (count_in had) (count_in has) t ≡ true))
some_flipped had has flipped is = (found, row_changes flipped is)
  where
    listed : List (Target × ℕ) → Bool
    listed ps = list_any (λ p. is_flipped (count_in had) (count_in has) p.0) ps

    found : flipped ≡ true → (t : Target) × (is_flipped (count_in had) (count_in has) t ≡ true)
    found some = go (or_cases (listed had) (listed has) (sym is ∙ some))
      where
        go : (listed had ≡ true) ⊎ (listed has ≡ true) → (t : Target) × (is_flipped (count_in had) (count_in has) t ≡ true)
        go (inl before) = some_listed (count_in had) (count_in has) had before
        go (inr now) = some_listed (count_in had) (count_in has) has now

    row_changes : (b : Bool) → b ≡ (listed had || listed has) → ((t : Target) × (is_flipped (count_in had) (count_in has) t ≡ true)) → b ≡ true
    row_changes true e some = refl
    row_changes false e some =
        let parts = or_parts (listed had) (listed has) (sym e) in
        let none = none_flipped had has parts.0 parts.1 some.0 in
        absurd (let flips = some.1 in cc)

-- what no target does where the test says that none does
pub none_told : {flipped : Bool} (before now : Target → ℕ) → ((flipped ≡ true) ↔ ((t : Target) × (is_flipped before now t ≡ true))) → flipped ≡ false →
    (t : Target) → is_flipped before now t ≡ false
none_told before now row_changes none t = false_from_ne_true (is_flipped before now t) (λ some. iff_false row_changes none (t, some))

none_retaken : (before now : Target → ℕ) (d : ℕ) (es : List Entry) → ((t : Target) → is_flipped before now t ≡ false) →
    list_any (is_retaken before now d) es ≡ false
none_retaken before now d [] none = refl
none_retaken before now d (e ∷ es) none = λ i. (none (Set e.ident) i || none (SetIn e.ident d) i) || none_retaken before now d es none i

-- a card that isn't touched is not due where no target flipped: nothing more is found
pub none_found : (touched : CountedCardView → Bool) (before now : Target → ℕ) (k : CountedCardView) (found : List (CardRef × Bool)) →
    ((t : Target) → is_flipped before now t ≡ false) → touched k ≡ false →
    found ≡ found ++ (if is_due touched before now k then found_of now k ∷ [] else [])
none_found touched before now k found none untouched =
    sym (ap (λ b. found ++ (if b then found_of now k ∷ [] else [])) undue ∙ append-nil found)
  where
    undue : is_due touched before now k ≡ false
    undue = λ i. untouched i || (none_retaken before now k.deck k.view.history none i || none (Deck k.deck) i)
