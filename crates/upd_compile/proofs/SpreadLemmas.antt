-- The flags of decks that spread a change, by the positions that are reached from changed ones.
use Rattle.upd_compile.proofs.Common.{◌≡◌, ℕ, zero, suc, ◌<◌, ◌==◌, ⊎_elim, nat_lt, Bool, true, false, ◌&&◌, ◌||◌, if◌then◌else◌, List, [], ◌∷◌, map, length}
use Rattle.upd_compile.proofs.Common.{Option, Some, None, slice_get, refl, sym, ap, ◌∙◌, subst, arith, list_any, filter_map, cons_option, zip, AllByRecursion}
use Rattle.upd_compile.proofs.Common.{option_map, option_map_or, option_and_then, false≢true, and_parts, and_from, and_right, or_cases, or_left, or_right}
use Rattle.upd_compile.proofs.Common.{eqb-true, eq-eqb, lt-ltb, Any-from_list_any, list_any-from_Any, length-map, slice_get-map, slice_get_within}
use Rattle.upd_compile.proofs.Common.{ActiveDeckView, ActivesView, is_call, called, called_decks, has_chain, is_changed, is_passed_on, called_positions}
use Rattle.upd_compile.proofs.Common.{position_named, AreCallers, AreReached, follows, is_in, is_flagged, common_named, text_cards}
use Rattle.upd_compile.specs.Positions.{called_position}
use Rattle.upd_compile.proofs.ChainLemmas.{settled-at_length, spreads, has_chain_within-spreads}
use Rattle.upd_compile.proofs.ListLemmas.{list_any-same}
use Rattle.upd_compile.proofs.PositionLemmas.{common_named-position}

-- a test of the deck at a position
abbrev pub at_position : (ActiveDeckView → Bool) → List ActiveDeckView → ℕ → Bool
at_position p decks k = option_map_or p (slice_get decks k) false

-- where it holds there is a deck
placed : (p : ActiveDeckView → Bool) (decks : List ActiveDeckView) (k : ℕ) → at_position p decks k ≡ true
    → (x : ActiveDeckView) × (slice_get decks k ≡ Some x) × (p x ≡ true)
placed p decks k e = from (slice_get decks k) refl e
  where
    from : (o : Option ActiveDeckView) → slice_get decks k ≡ o → option_map_or p o false ≡ true
        → (x : ActiveDeckView) × (slice_get decks k ≡ Some x) × (p x ≡ true)
    from None is e = absurd (false≢true e)
    from (Some x) is e = (x, is, e)

-- what is taken by its position
list_any-placed : {A : Type 0} (decks : List ActiveDeckView) (f : A → Option ActiveDeckView) (g : A → Option ℕ)
    → ((x : A) → f x ≡ option_and_then (slice_get decks) (g x))
    → (p : ActiveDeckView → Bool) (xs : List A) → list_any p (filter_map f xs) ≡ list_any (at_position p decks) (filter_map g xs)
list_any-placed decks f g same p [] = refl
list_any-placed decks f g same p (x ∷ xs) = taken (f x) (g x) (same x) (list_any-placed decks f g same p xs)
  where
    found : (o : Option ActiveDeckView) → list_any p (filter_map f xs) ≡ list_any (at_position p decks) (filter_map g xs)
        → list_any p (cons_option o (filter_map f xs)) ≡ (option_map_or p o false || list_any (at_position p decks) (filter_map g xs))
    found None later = later
    found (Some d) later = ap (λ b. p d || b) later

    taken : (o : Option ActiveDeckView) (k : Option ℕ) → o ≡ option_and_then (slice_get decks) k
        → list_any p (filter_map f xs) ≡ list_any (at_position p decks) (filter_map g xs)
        → list_any p (cons_option o (filter_map f xs)) ≡ list_any (at_position p decks) (cons_option k (filter_map g xs))
    taken o None e later = rw e later
    taken o (Some k) e later = rw e (found (slice_get decks k) later)

-- the called decks are those at the called positions
pub list_any-called : (p : ActiveDeckView → Bool) (a : ActivesView) (d : ActiveDeckView)
    → list_any p (called_decks a d) ≡ list_any (at_position p a.decks) (called_positions a d)
list_any-called p a d = list_any-placed a.decks _ (called_position a) (λ c. by_position (called c.text) (is_call c.text)) p (text_cards d)
  where
    by_position : (name : List ℕ) (b : Bool)
        → (if b then common_named name a else None) ≡ option_and_then (slice_get a.decks) (if b then position_named name a else None)
    by_position name true = common_named-position name a
    by_position name false = refl

pub is_flagged-map : (p : ActiveDeckView → Bool) (decks : List ActiveDeckView) (k : ℕ) → is_flagged (map p decks) k ≡ at_position p decks k
is_flagged-map p decks k = rw (slice_get-map p decks k) (at (slice_get decks k))
  where
    at : (o : Option ActiveDeckView) → option_map_or (λ b. b) (option_map p o) false ≡ option_map_or p o false
    at None = refl
    at (Some x) = refl

follows-map : (f : ActiveDeckView → List ℕ) (decks : List ActiveDeckView) (c d : ℕ) → follows (map f decks) c d ≡ at_position (λ x. is_in (f x) d) decks c
follows-map f decks c d = rw (slice_get-map f decks c) (at (slice_get decks c))
  where
    at : (o : Option ActiveDeckView) → option_map_or (λ list. is_in list d) (option_map f o) false ≡ option_map_or (λ x. is_in (f x) d) o false
    at None = refl
    at (Some x) = refl

-- a deck at a position has what all decks have
all-at : (Q : ActiveDeckView → Type 0) (decks : List ActiveDeckView) (k : ℕ) (x : ActiveDeckView) → AllByRecursion Q decks → slice_get decks k ≡ Some x → Q x
all-at Q [] k x all e = cc
all-at Q (d ∷ ds) zero x all e = subst Q (let same : d ≡ x = cc in same) all.0
all-at Q (d ∷ ds) (suc k) x all e = all-at Q ds k x all.1 e

-- The flags that are reached: the seeds, and the lists along which.
pub record AreSpread (before a : ActivesView) (calls callers : List (List ℕ)) (passed seeds flags : List Bool) : Type 0 where
  pub calls_are : calls ≡ map (called_positions a) a.decks
  pub passed_are : passed ≡ map (is_passed_on a) a.decks
  pub seeds_are : (k : ℕ) → is_flagged seeds k ≡ (is_flagged passed k && at_position (is_changed before) a.decks k)
  pub seeds_length : length seeds ≡ length a.decks
  pub callers_are : AreCallers calls passed callers
  pub reached : AreReached callers seeds flags

at_position-Some : (p : ActiveDeckView → Bool) (decks : List ActiveDeckView) (k : ℕ) (x : ActiveDeckView) → slice_get decks k ≡ Some x
    → at_position p decks k ≡ p x
at_position-Some p decks k x is = rw is refl

passed-at : (a : ActivesView) (passed : List Bool) (k : ℕ) (x : ActiveDeckView) → passed ≡ map (is_passed_on a) a.decks → slice_get a.decks k ≡ Some x
    → is_flagged passed k ≡ is_passed_on a x
passed-at a passed k x are is = ap (λ m. is_flagged m k) are ∙ is_flagged-map (is_passed_on a) a.decks k ∙ at_position-Some (is_passed_on a) a.decks k x is

calls-at : (a : ActivesView) (calls : List (List ℕ)) (d c : ℕ) (x : ActiveDeckView) → calls ≡ map (called_positions a) a.decks
    → slice_get a.decks d ≡ Some x → follows calls d c ≡ is_in (called_positions a x) c
calls-at a calls d c x are is =
    ap (λ l. follows l d c) are ∙ follows-map (called_positions a) a.decks d c ∙ at_position-Some (λ y. is_in (called_positions a y) c) a.decks d x is

-- a deck spreads within as many calls as there are decks, if it does so within one more
spreads-here : (before a : ActivesView) (k : ℕ) (x : ActiveDeckView) → slice_get a.decks k ≡ Some x → is_passed_on a x ≡ true
    → (is_changed before x || list_any (spreads before a (length a.decks)) (called_decks a x)) ≡ true
    → at_position (spreads before a (length a.decks)) a.decks k ≡ true
spreads-here before a k x is passes e =
    let n : ℕ = length a.decks in
    at_position-Some (spreads before a n) a.decks k x is
    ∙ all-at (λ c. spreads before a n c ≡ spreads before a (suc n) c) a.decks k x (settled-at_length before a) is
    ∙ and_from (is_passed_on a x) _ passes e

-- what is flagged spreads
pub visited-spreads : (before a : ActivesView) (calls callers : List (List ℕ)) (passed seeds flags : List Bool)
    → AreSpread before a calls callers passed seeds flags
    → (k : ℕ) → is_flagged flags k ≡ true → at_position (spreads before a (length a.decks)) a.decks k ≡ true
visited-spreads before a calls callers passed seeds flags s k e = s.reached.is_least (at_position (spreads before a (length a.decks)) a.decks) closed seeded k e
  where
    seeded : (k : ℕ) → is_flagged seeds k ≡ true → at_position (spreads before a (length a.decks)) a.decks k ≡ true
    seeded k e =
        let parts = and_parts (is_flagged passed k) (at_position (is_changed before) a.decks k) (sym (s.seeds_are k) ∙ e) in
        let deck = placed (is_changed before) a.decks k parts.1 in
        spreads-here before a k deck.0 deck.1 (sym (passed-at a passed k deck.0 s.passed_are deck.1) ∙ parts.0) (or_left (is_changed before deck.0) _ deck.2)

    at_call : (c : ℕ) (x : ActiveDeckView) → at_position (spreads before a (length a.decks)) a.decks c ≡ true → is_in (called_positions a x) c ≡ true
        → list_any (spreads before a (length a.decks)) (called_decks a x) ≡ true
    at_call c x spread called =
        let found = Any-from_list_any (λ p. p == c) (called_positions a x) called in
        let same : found.1 ≡ c = eqb-true found.1 c found.4 in
        list_any-called (spreads before a (length a.decks)) a x
        ∙ list_any-from_Any (at_position (spreads before a (length a.decks)) a.decks) (called_positions a x)
        (found.0, found.1, found.2, found.3, ap (at_position (spreads before a (length a.decks)) a.decks) same ∙ spread)

    closed : (c d : ℕ) → at_position (spreads before a (length a.decks)) a.decks c ≡ true → follows callers c d ≡ true
        → at_position (spreads before a (length a.decks)) a.decks d ≡ true
    closed c d spread f =
        let parts = and_parts (is_flagged passed d && follows calls d c) (nat_lt c (length calls)) (sym (s.callers_are c d) ∙ f) in
        let here = and_parts (is_flagged passed d) (follows calls d c) parts.0 in
        let deck = placed (is_passed_on a) a.decks d (sym (ap (λ m. is_flagged m d) s.passed_are ∙ is_flagged-map (is_passed_on a) a.decks d) ∙ here.0) in
        let called : is_in (called_positions a deck.0) c ≡ true = sym (calls-at a calls d c deck.0 s.calls_are deck.1) ∙ here.1 in
        spreads-here before a d deck.0 deck.1 deck.2 (or_right (is_changed before deck.0) _ (at_call c deck.0 spread called))

-- what spreads is flagged
pub spreads-visited : (before a : ActivesView) (calls callers : List (List ℕ)) (passed seeds flags : List Bool)
    → AreSpread before a calls callers passed seeds flags
    → (j k : ℕ) → at_position (spreads before a j) a.decks k ≡ true → is_flagged flags k ≡ true
spreads-visited before a calls callers passed seeds flags s zero k e = absurd (false≢true ((placed (spreads before a zero) a.decks k e).2))
spreads-visited before a calls callers passed seeds flags s (suc j) k e =
    let deck = placed (spreads before a (suc j)) a.decks k e in
    let x : ActiveDeckView = deck.0 in
    let parts = and_parts (is_passed_on a x) (is_changed before x || list_any (spreads before a j) (called_decks a x)) deck.2 in
    let passes : is_flagged passed k ≡ true = passed-at a passed k x s.passed_are deck.1 ∙ parts.0 in
    ⊎_elim (λ changed. s.reached.has_seeds k
    (s.seeds_are k ∙ and_from (is_flagged passed k) _ passes (at_position-Some (is_changed before) a.decks k x deck.1 ∙ changed)))
    (λ later.
    let found = Any-from_list_any (at_position (spreads before a j) a.decks) (called_positions a x) (sym (list_any-called (spreads before a j) a x) ∙ later) in
    let p : ℕ = found.1 in
    let visited = spreads-visited before a calls callers passed seeds flags s j p found.4 in
    let called : is_in (called_positions a x) p ≡ true =
    list_any-from_Any (λ q. q == p) (called_positions a x) (found.0, p, found.2, found.3, eq-eqb p p refl) in
    let other = placed (spreads before a j) a.decks p found.4 in
    let as_many : length calls ≡ length a.decks = ap length s.calls_are ∙ length-map a.decks (called_positions a) in
    let within : p < length calls = omega (arith, slice_get_within a.decks p other.0 other.1) in
    let follow : follows callers p k ≡ true = s.callers_are p k
    ∙ and_from _ _ (and_from (is_flagged passed k) _ passes (calls-at a calls k p x s.calls_are deck.1 ∙ called)) (lt-ltb p (length calls) within) in
    s.reached.is_closed p k visited follow (omega (arith, slice_get_within a.decks k x deck.1, s.reached.same_length, s.seeds_length)))
    (or_cases (is_changed before x) _ parts.1)

same-answers : (b c : Bool) → (b ≡ true → c ≡ true) → (c ≡ true → b ≡ true) → b ≡ c
same-answers true c to from = sym (to refl)
same-answers false true to from = from refl
same-answers false false to from = refl

map-map : {A B C : Type 0} (f : B → C) (g : A → B) (h : A → C) → ((x : A) → f (g x) ≡ h x) → (xs : List A) → map f (map g xs) ≡ map h xs
map-map f g h same [] = refl
map-map f g h same (x ∷ xs) = rw (same x, map-map f g h same xs) refl

-- a deck has a chain where it calls a flagged one
pub chains-visited : (before a : ActivesView) (calls callers : List (List ℕ)) (passed seeds flags : List Bool)
    → AreSpread before a calls callers passed seeds flags
    → map (λ positions. list_any (is_flagged flags) positions) calls ≡ map (has_chain before a) a.decks
chains-visited before a calls callers passed seeds flags s =
    ap (map (λ positions. list_any (is_flagged flags) positions)) s.calls_are
    ∙ map-map (λ positions. list_any (is_flagged flags) positions) (called_positions a) (has_chain before a) has_chain-visited a.decks
  where
    has_chain-visited : (d : ActiveDeckView) → list_any (is_flagged flags) (called_positions a d) ≡ has_chain before a d
    has_chain-visited d =
        list_any-same (is_flagged flags) (at_position (spreads before a (length a.decks)) a.decks)
        (λ k. same-answers _ _ (visited-spreads before a calls callers passed seeds flags s k)
        (spreads-visited before a calls callers passed seeds flags s (length a.decks) k)) (called_positions a d)
        ∙ sym (list_any-called (spreads before a (length a.decks)) a d) ∙ sym (has_chain_within-spreads before a (length a.decks) d)

-- the conjunction of two lists of flags
pub is_flagged-both : (xs ys : List Bool) (k : ℕ) → is_flagged (map (λ p. p.0 && p.1) (zip xs ys)) k ≡ (is_flagged xs k && is_flagged ys k)
is_flagged-both [] ys k = refl
is_flagged-both (x ∷ xs) [] k = sym (and_right (is_flagged (x ∷ xs) k) false refl)
is_flagged-both (x ∷ xs) (y ∷ ys) zero = refl
is_flagged-both (x ∷ xs) (y ∷ ys) (suc k) = is_flagged-both xs ys k

pub length-both : (xs ys : List Bool) → length xs ≡ length ys → length (map (λ p. p.0 && p.1) (zip xs ys)) ≡ length xs
length-both [] ys e = refl
length-both (x ∷ xs) [] e = absurd (omega arith)
length-both (x ∷ xs) (y ∷ ys) e = ap suc (length-both xs ys (omega arith))
