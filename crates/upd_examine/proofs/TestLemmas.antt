-- Each test of a library's parts decides what the invariant says of it.
use Rattle.upd_examine.proofs.Common.{◌≡◌, ℕ, ◌+◌, ◌≤◌, Bool, true, ◌&&◌, List, [], ◌∷◌, refl, arith, ◌↔◌, ◌==◌, nat_le, nat_lt, and_parts, and_from}
use Rattle.upd_examine.proofs.Common.{eqb-true, eq-eqb, leb-true, le-leb, ltb-true, lt-ltb, list_all, flat_map, AllByRecursion, Entry, Ident, Target, Set}
use Rattle.upd_examine.proofs.Common.{CardView, DeckView, AreAgedFrom, BeginsOn, BeginsWithItsOwn, HasEntriesFrom, weaker, are_aged_from, are_yanks_from}
use Rattle.upd_examine.proofs.Common.{begins_on, begins_with_its_own}
use Rattle.std.proofs.Common.{max}
use Rattle.upd_core.proofs.ApartLemmas.{all_front, all_back}
use Rattle.upd_core.specs.declared.target.Target.TheVariants.{SetIn, Deck}
use Rattle.upd_core.specs.Status.{IsAged, IsOlder, TakesOlder}
use Rattle.upd_diff.proofs.AllLemmas.{all_joined}
use Rattle.upd_examine.specs.SoundTests.{has_entries_from, is_older, takes_older}

-- a test of each element decides what holds of each
pub all_decided : {A : Type 0} (test : A → Bool) (P : A → Type 0) → ((x : A) → (test x ≡ true) ↔ P x) → (xs : List A)
    → (list_all test xs ≡ true) ↔ AllByRecursion P xs
all_decided test P each [] = ((λ _. tt), (λ _. refl))
all_decided test P each (x ∷ xs) =
    let later = all_decided test P each xs in (
      (λ e. let parts = and_parts (test x) (list_all test xs) e in ((each x).0 parts.0, later.0 parts.1)),
      (λ all. and_from (test x) (list_all test xs) ((each x).1 all.0) (later.1 all.1)),
    )

pub both : {A : Type 0} {P Q R : A → Type 0} (xs : List A) → ((x : A) → P x → Q x → R x) → AllByRecursion P xs → AllByRecursion Q xs → AllByRecursion R xs
both [] so p q = tt
both (x ∷ xs) so p q = (so x p.0 q.0, both xs so p.1 q.1)

pub three : {A : Type 0} {P Q R S : A → Type 0} (xs : List A) → ((x : A) → P x → Q x → R x → S x) → AllByRecursion P xs → AllByRecursion Q xs
    → AllByRecursion R xs → AllByRecursion S xs
three [] so p q r = tt
three (x ∷ xs) so p q r = (so x p.0 q.0 r.0, three xs so p.1 q.1 r.1)

-- what holds of the cards of all decks holds of those of each
pub all_flat : (P : CardView → Type 0) (ds : List DeckView) → AllByRecursion P (flat_map (λ d. d.cards) ds) ↔ AllByRecursion (λ d. AllByRecursion P d.cards) ds
all_flat P [] = ((λ _. tt), (λ _. tt))
all_flat P (d ∷ ds) =
    let later = all_flat P ds in
    let rest = flat_map (λ e. e.cards) ds in (
      (λ all. (all_front P d.cards rest all, later.0 (all_back P d.cards rest all))),
      (λ all. all_joined P d.cards rest all.0 (later.1 all.1)),
    )

-- ---- the directory

pub aged_decided : (n : ℕ) (idents : List Ident) → (are_aged_from n idents ≡ true) ↔ AreAgedFrom n idents
aged_decided n [] = ((λ _. tt), (λ _. refl))
aged_decided n (i ∷ rest) =
    let later = aged_decided (n + 1) rest in (
      (λ e. let parts = and_parts (i.age == n) (are_aged_from (n + 1) rest) e in (eqb-true i.age n parts.0, later.0 parts.1)),
      (λ ages. and_from (i.age == n) (are_aged_from (n + 1) rest) (eq-eqb i.age n ages.0) (later.1 ages.1)),
    )

-- ---- cards

pub begins_on_decided : (c : CardView) → (begins_on c ≡ true) ↔ BeginsOn c
begins_on_decided c = go c.history
  where
    go : (h : List Entry) → (begins_on (record c { history = h }) ≡ true) ↔ BeginsOn (record c { history = h })
    go [] = ((λ e. cc), (λ no. absurd no))
    go (e ∷ es) = (
      (λ t. let parts = and_parts (e.ident == c.ident) e.active t in (eqb-true e.ident c.ident parts.0, parts.1)),
      (λ is. and_from (e.ident == c.ident) e.active (eq-eqb e.ident c.ident is.0) is.1),
    )

pub begins_decided : (d : DeckView) → (begins_with_its_own d ≡ true) ↔ BeginsWithItsOwn d
begins_decided d = go d.cards
  where
    go : (cs : List CardView) → (begins_with_its_own (record d { cards = cs }) ≡ true) ↔ BeginsWithItsOwn (record d { cards = cs })
    go [] = ((λ e. cc), (λ no. absurd no))
    go (c ∷ cs) = (
      (λ t. let parts = and_parts (c.ident == d.ident) (c.number == 1) t in (eqb-true c.ident d.ident parts.0, eqb-true c.number 1 parts.1)),
      (λ is. and_from (c.ident == d.ident) (c.number == 1) (eq-eqb c.ident d.ident is.0) (eq-eqb c.number 1 is.1)),
    )

-- ---- `YANK$$$`

older_decided : (age z : ℕ) → (is_older age z ≡ true) ↔ IsOlder age z
older_decided age z = (
  (λ t. let parts = and_parts (nat_lt 0 z) (nat_lt z age) t in (ltb-true 0 z parts.0, ltb-true z age parts.1)),
  (λ is. and_from (nat_lt 0 z) (nat_lt z age) (lt-ltb 0 z is.0) (lt-ltb z age is.1)),
)

takes_decided : (age : ℕ) (t : Target) → (takes_older age t ≡ true) ↔ TakesOlder age t
takes_decided age (Set z) = older_decided age z
takes_decided age (SetIn z d) =
    let one = older_decided age z in
    let two = older_decided age d in (
      (λ t. let parts = and_parts (is_older age z) (is_older age d) t in (one.0 parts.0, two.0 parts.1)),
      (λ is. and_from (is_older age z) (is_older age d) (one.1 is.0) (two.1 is.1)),
    )
takes_decided age (Deck d) = older_decided age d

from_decided : (age : ℕ) (c : CardView) → (has_entries_from age c ≡ true) ↔ HasEntriesFrom age c
from_decided age c = all_decided (λ e. nat_le age e.ident) (λ e. age ≤ e.ident) (λ e. (leb-true age e.ident, le-leb age e.ident)) c.history

from_less : (m n : ℕ) (c : CardView) → m ≤ n → HasEntriesFrom n c → HasEntriesFrom m c
from_less m n c less all = weaker c.history (λ e h. omega (arith, h, less)) all

from_max : (m n : ℕ) (c : CardView) → HasEntriesFrom m c → HasEntriesFrom n c → HasEntriesFrom (max m n) c
from_max m n c one two = both c.history (λ e a b. omega arith) one two

-- yank cards are in order, behind cards of which the greatest serial is n
pub yanks_decided : (n : ℕ) (ys : List CardView) → (are_yanks_from n ys ≡ true) ↔ (AllByRecursion (HasEntriesFrom n) ys × IsAged ys)
yanks_decided n [] = ((λ _. (tt, tt)), (λ _. refl))
yanks_decided n (y ∷ ys) =
    let m = max n y.ident in
    let later = yanks_decided m ys in
    let takes = all_decided (takes_older y.ident) (TakesOlder y.ident) (takes_decided y.ident) y.targets in
    let entries = from_decided m y in
    let left : n ≤ m = omega arith in
    let right : y.ident ≤ m = omega arith in (
      (λ t.
          let parts = and_parts (list_all (takes_older y.ident) y.targets) (has_entries_from m y && are_yanks_from m ys) t in
          let more = and_parts (has_entries_from m y) (are_yanks_from m ys) parts.1 in
          let here = entries.0 more.0 in
          let rest = later.0 more.1 in (
            (from_less n m y left here, weaker ys (λ c all. from_less n m c left all) rest.0),
            (
              takes.0 parts.0,
              (from_less y.ident m y right here, weaker ys (λ c all. from_less y.ident m c right all) rest.0),
              rest.1,
            ),
          )),
      (λ is.
          and_from (list_all (takes_older y.ident) y.targets) (has_entries_from m y && are_yanks_from m ys) (takes.1 is.1.0)
          (and_from (has_entries_from m y) (are_yanks_from m ys) (entries.1 (from_max n y.ident y is.0.0 is.1.1.0))
          (later.1 (both ys (λ c one two. from_max n y.ident c one two) is.0.1 is.1.1.1, is.1.2)))),
    )
