-- Chains of calls: of at most as many calls as there are decks, or as paths.
use Rattle.upd_compile.proofs.Common.{◌≡◌, ℕ, zero, suc, ◌≤◌, ◌⊎◌, ◌↔◌, inl, inr, ⊎_elim, Bool, true, false, ◌&&◌, ◌||◌, if◌then◌else◌, List, [], ◌∷◌, length}
use Rattle.upd_compile.proofs.Common.{Option, Some, None, refl, sym, ap, ◌∙◌, arith, list_any, AllByRecursion, option_and_then, false≢true, and_parts}
use Rattle.upd_compile.proofs.Common.{and_from, or_cases, or_left, or_right, Any-from_list_any, list_any-from_Any, Ident, ActiveCardView, ActiveDeckView}
use Rattle.upd_compile.proofs.Common.{ActivesView, held_named, is_common, is_call, called, called_decks, has_chain, is_changed, is_passed_on, common_named}
use Rattle.upd_compile.proofs.Common.{deck_aged, text_cards}
use Rattle.std.proofs.Common.{IsTrue}
use Rattle.upd_compile.specs.Chosen.{Calls, Chain, Call, Through, has_chain_within}
use Rattle.upd_compile.proofs.ListLemmas.{list_any-weaker, list_any-same, list_any-taken, find-holds, number, number-grows, number-all}

-- whether a change reaches the callers of a deck: it passes changes on, and it changed, or this holds of a deck that it calls
abbrev pub spreads : ActivesView → ActivesView → ℕ → ActiveDeckView → Bool
spreads before a zero c = false
spreads before a (suc k) c = is_passed_on a c && (is_changed before c || list_any (spreads before a k) (called_decks a c))

list_any-never : {A : Type 0} (xs : List A) → list_any (λ x. false) xs ≡ false
list_any-never [] = refl
list_any-never (x ∷ xs) = list_any-never xs

pub has_chain_within-spreads : (before a : ActivesView) (k : ℕ) (d : ActiveDeckView)
    → has_chain_within k before a d ≡ list_any (spreads before a k) (called_decks a d)
has_chain_within-spreads before a zero d = sym (list_any-never (called_decks a d))
has_chain_within-spreads before a (suc k) d =
    list_any-same _ (spreads before a (suc k)) (λ c. ap (λ b. is_passed_on a c && (is_changed before c || b)) (has_chain_within-spreads before a k c))
    (called_decks a d)

-- a change spreads by more calls too
pub spreads-more : (before a : ActivesView) (k : ℕ) (c : ActiveDeckView) → spreads before a k c ≡ true → spreads before a (suc k) c ≡ true
spreads-more before a zero c e = absurd (false≢true e)
spreads-more before a (suc k) c e =
    let parts = and_parts (is_passed_on a c) (is_changed before c || list_any (spreads before a k) (called_decks a c)) e in
    and_from (is_passed_on a c) _ parts.0 (
    ⊎_elim (λ changed. or_left (is_changed before c) _ changed)
    (λ later. or_right (is_changed before c) _
    (list_any-weaker (spreads before a k) (spreads before a (suc k)) (spreads-more before a k) (called_decks a c) later))
    (or_cases (is_changed before c) _ parts.1))

-- a called deck has what all decks have
pub called-holds : (Q : ActiveDeckView → Type 0) (a : ActivesView) → AllByRecursion Q a.decks → (c : ActiveCardView) (d : ActiveDeckView)
    → (if is_call c.text then common_named (called c.text) a else None) ≡ Some d → Q d
called-holds Q a all c d e = of_call (is_call c.text) e
  where
    of_kind : (b : Bool) (age : ℕ) → (if b then deck_aged age a else None) ≡ Some d → Q d
    of_kind true age e = find-holds Q _ a.decks all d e
    of_kind false age e = cc

    of_held : (o : Option Ident) → option_and_then (λ i. if is_common i.kind then deck_aged i.age a else None) o ≡ Some d → Q d
    of_held None e = cc
    of_held (Some i) e = of_kind (is_common i.kind) i.age e

    of_call : (b : Bool) → (if b then common_named (called c.text) a else None) ≡ Some d → Q d
    of_call true e = of_held (held_named (called c.text) a.idents) e
    of_call false e = cc

-- k calls do as much as one more
abbrev pub Settled : ActivesView → ActivesView → ℕ → Type 0
Settled before a k = AllByRecursion (λ c. spreads before a k c ≡ spreads before a (suc k) c) a.decks

pub settled-any : (before a : ActivesView) (k : ℕ) → Settled before a k → (d : ActiveDeckView)
    → list_any (spreads before a k) (called_decks a d) ≡ list_any (spreads before a (suc k)) (called_decks a d)
settled-any before a k settled d =
    list_any-taken _ (spreads before a k) (spreads before a (suc k)) (called-holds (λ c. spreads before a k c ≡ spreads before a (suc k) c) a settled)
    (text_cards d)

all-of : {A : Type 0} (P : A → Type 0) → ((x : A) → P x) → (xs : List A) → AllByRecursion P xs
all-of P p [] = tt
all-of P p (x ∷ xs) = (p x, all-of P p xs)

all-weaker : {A : Type 0} (P Q : A → Type 0) → ((x : A) → P x → Q x) → (xs : List A) → AllByRecursion P xs → AllByRecursion Q xs
all-weaker P Q weaker [] all = tt
all-weaker P Q weaker (x ∷ xs) all = (weaker x all.0, all-weaker P Q weaker xs all.1)

settled-next : (before a : ActivesView) (k : ℕ) → Settled before a k → Settled before a (suc k)
settled-next before a k settled =
    all-of _ (λ c. ap (λ b. is_passed_on a c && (is_changed before c || b)) (settled-any before a k settled c)) a.decks

-- with each further call it is settled, or spreads to one more deck
settled-or-more : (before a : ActivesView) (k : ℕ) → Settled before a k ⊎ (k ≤ number (spreads before a k) a.decks)
settled-or-more before a zero = inr (omega arith)
settled-or-more before a (suc k) =
    ⊎_elim (λ settled. inl (settled-next before a k settled))
    (λ so_many. ⊎_elim (λ more. inr (omega arith)) (λ settled. inl (settled-next before a k settled))
    (number-grows (spreads before a k) (spreads before a (suc k)) (spreads-more before a k) a.decks))
    (settled-or-more before a k)

-- so it is settled once there were as many calls as decks
pub settled-at_length : (before a : ActivesView) → Settled before a (length a.decks)
settled-at_length before a =
    let k : ℕ = length a.decks in
    ⊎_elim (λ settled. settled)
    (λ all. all-weaker (λ c. spreads before a k c ≡ true) (λ c. spreads before a k c ≡ spreads before a (suc k) c)
    (λ c e. e ∙ sym (spreads-more before a k c e)) a.decks (number-all (spreads before a k) a.decks all))
    (settled-or-more before a k)

-- what spreads within k calls has a path
path-of : (before a : ActivesView) (k : ℕ) (d : ActiveDeckView) → list_any (spreads before a k) (called_decks a d) ≡ true → Chain before a d
path-of before a zero d e = absurd (false≢true ((Any-from_list_any (spreads before a zero) (called_decks a d) e).4))
path-of before a (suc k) d e =
    let found = Any-from_list_any (spreads before a (suc k)) (called_decks a d) e in
    let c : ActiveDeckView = found.1 in
    let parts = and_parts (is_passed_on a c) (is_changed before c || list_any (spreads before a k) (called_decks a c)) found.4 in
    let calls : Calls a d c = (parts.0, (found.0, found.2, found.3)) in
    ⊎_elim (λ changed. Call d c calls changed) (λ later. Through d c calls (path-of before a k c later)) (or_cases (is_changed before c) _ parts.1)

-- what a deck calls spreads where it changed, or what it calls does
called-spreads : (before a : ActivesView) (k : ℕ) (d c : ActiveDeckView) → Calls a d c
    → (is_changed before c || list_any (spreads before a k) (called_decks a c)) ≡ true → list_any (spreads before a (suc k)) (called_decks a d) ≡ true
called-spreads before a k d c calls e =
    list_any-from_Any (spreads before a (suc k)) (called_decks a d) (calls.1.0, c, calls.1.1, calls.1.2, and_from (is_passed_on a c) _ calls.0 e)

-- what has a path spreads
spreads-along : (before a : ActivesView) (d : ActiveDeckView) → Chain before a d → list_any (spreads before a (length a.decks)) (called_decks a d) ≡ true
spreads-along before a _ (Call d c calls changed) =
    settled-any before a (length a.decks) (settled-at_length before a) d
    ∙ called-spreads before a (length a.decks) d c calls (or_left (is_changed before c) _ changed)
spreads-along before a _ (Through d c calls chain) =
    settled-any before a (length a.decks) (settled-at_length before a) d
    ∙ called-spreads before a (length a.decks) d c calls (or_right (is_changed before c) _ (spreads-along before a c chain))

pub has_chain_path : (before a : ActivesView) (d : ActiveDeckView) → IsTrue (has_chain before a d) ↔ Chain before a d
has_chain_path before a d =
    let spread = has_chain_within-spreads before a (length a.decks) d in
    (λ e. path-of before a (length a.decks) d (sym spread ∙ e), λ chain. spread ∙ spreads-along before a d chain)
