-- The cards of one ident moved after those of another: at the end all have moved that are listed, each once.
use Rattle.upd_sql.proofs.Common.{◌≡◌, ℕ, ◌+◌, ◌<◌, ◌^◌, ◌==◌, nat_le, pos, Bool, true, false, ◌&&◌, if◌then◌else◌, IsTrue, List, [], ◌∷◌, map, Result, Ok}
use Rattle.upd_sql.proofs.Common.{Some, bytes_eq, refl, sym, ap, ◌∙◌, BTreeMap, slice_cmp, AllByRecursion, IsStrictlySortedBy, keys_of, option_map_or}
use Rattle.upd_sql.proofs.Common.{nat_cmp, and_parts, all_weaker, Error, State, CardRef, CardsMoved, moved_row, Fits, CardRow, Rows, MovesListed, Makes}
use Rattle.upd_sql.proofs.Common.{HoldsTables, CanMoveOf, covers, with_moved, with_others_moved}
use Rattle.std.proofs.Common.{◌||◌}
use Rattle.std.specs.BTreeMap.{is_at}
use Rattle.std.specs.List.{list_any}
use Rattle.std.specs.Map.{lookup}
use Rattle.std.specs.Ordering.{is_eq}
use Rattle.std.specs.declared.cmp.Ordering.TheVariants.{Less}
use Rattle.std.proofs.lemmas.Map.Keys.{sorted_head}
use Rattle.std.proofs.lemmas.Map.Text.{is_eq-slice_cmp}
use Rattle.sqlite_keyed.proofs.ListLemmas.{all_map}
use Rattle.upd_row_store.specs.Movable.{is_listed}
use Rattle.upd_row_store.proofs.TableLemmas.{same_bytes}
use Rattle.upd_sql.proofs.Conditions.{bytes_flip}
use Rattle.upd_sql.proofs.Typed.{makes_more, makes_none}

-- where an ident is in a list with a number that a card has or is after, an entry of the list covers the card
covered : (es : List (List ℕ × ℕ)) (card : CardRef)
    → option_map_or (λ least. nat_le least card.number) (lookup (is_at (slice_cmp nat_cmp card.name)) es) false ≡ true
    → list_any (λ e. covers e card) es ≡ true
covered [] card is = is
covered (e ∷ es) card is = go (is_eq (slice_cmp nat_cmp card.name e.0)) refl is (covered es card)
  where
    later : {b : Bool} (a : Bool) → b ≡ true → (a || b) ≡ true
    later true is = refl
    later false is = is

    go : (b : Bool) → is_eq (slice_cmp nat_cmp card.name e.0) ≡ b
        → option_map_or (λ least. nat_le least card.number) (if b then Some e.1 else lookup (is_at (slice_cmp nat_cmp card.name)) es) false ≡ true
        → (option_map_or (λ least. nat_le least card.number) (lookup (is_at (slice_cmp nat_cmp card.name)) es) false ≡ true
        → list_any (λ e. covers e card) es ≡ true)
        → list_any (λ e. covers e card) (e ∷ es) ≡ true
    go true here is rest = ap (λ b. (b && nat_le e.1 card.number) || list_any (λ f. covers f card) es)
        (bytes_flip e.0 card.name ∙ sym (is_eq-slice_cmp card.name e.0) ∙ here) ∙ ap (λ b. b || list_any (λ f. covers f card) es) is
    go false there is rest = later (covers e card) (rest is)

-- no ident is there twice
covered_once : (e : List ℕ × ℕ) (es : List (List ℕ × ℕ)) (card : CardRef) → AllByRecursion (λ n. slice_cmp nat_cmp e.0 n ≡ Less) (keys_of es)
    → covers e card ≡ true → list_any (λ f. covers f card) es ≡ false
covered_once e [] card less here = refl
covered_once e (f ∷ es) card less here = go (bytes_eq f.0 card.name) refl (covered_once e es card less.1 here)
  where
    go : (b : Bool) → bytes_eq f.0 card.name ≡ b → list_any (λ f. covers f card) es ≡ false → list_any (λ f. covers f card) (f ∷ es) ≡ false
    go true is rest = absurd (
        let same : bytes_eq e.0 f.0 ≡ true = ap (bytes_eq e.0) (same_bytes f.0 card.name is) ∙ (and_parts _ _ here).0 in
        let apart : is_eq (slice_cmp nat_cmp e.0 f.0) ≡ false = ap is_eq less.0 in
        let clash : true ≡ false = sym same ∙ sym (is_eq-slice_cmp e.0 f.0) ∙ apart in cc)
    go false is rest = ap (λ b. (b && nat_le f.1 card.number) || list_any (λ f. covers f card) es) is ∙ rest

module _ (deck from n : ℕ) where
  abbrev pub moved : CardRow → CardRow
  moved = moved_row deck from (pos n)

  -- the row of a card where all have moved but those that these cover
  abbrev pub but_of : List (List ℕ × ℕ) → CardRow → CardRow
  but_of es r = if list_any (λ e. covers e r.card) es then r else moved r

  same_card : (r : CardRow) → (moved r).card ≡ r.card
  same_card r = go ((r.deck == deck) && nat_le from r.pos)
    where
      go : (b : Bool) → (if b then record r { pos = r.pos + n } else r).card ≡ r.card
      go true = refl
      go false = refl

  module _ (movable : BTreeMap (List ℕ) ℕ) where
    abbrev pub Can : Rows → Type 0
    Can it = Fits (CardsMoved deck from (pos n)) it × MovesListed movable (CardsMoved deck from (pos n)) it

    -- at first none that is listed has moved, and no other can
    at_first : (rs : List CardRow) → AllByRecursion (λ r. IsTrue ((r.deck == deck) && nat_le from r.pos) → IsTrue (is_listed movable r.card)) rs
        → map (but_of movable.entries) rs ≡ rs
    at_first [] listed = refl
    at_first (r ∷ rs) listed =
        ap (λ x. x ∷ map (but_of movable.entries) rs)
        (go (list_any (λ e. covers e r.card) movable.entries) refl ((r.deck == deck) && nat_le from r.pos) listed.0)
        ∙ ap (λ xs. r ∷ xs) (at_first rs listed.1)
      where
        go : (b : Bool) → list_any (λ e. covers e r.card) movable.entries ≡ b → (c : Bool) → (IsTrue c → IsTrue (is_listed movable r.card))
            → (if b then r else if c then record r { pos = r.pos + n } else r) ≡ r
        go true is c h = refl
        go false is false h = refl
        go false is true h = absurd (let clash : true ≡ false = sym (covered movable.entries r.card (h refl)) ∙ is in cc)

    pub none_moved : {X : Type 0} (s : State) (x : X) → Makes {X = X} HoldsTables Can (with_others_moved movable.entries deck from n) s s (Ok x)
    none_moved s x = makes_none s x (λ it can. ap (λ cards. record it { cards = cards }) (sym (at_first it.cards can.1)))

  module _ (e : List ℕ × ℕ) (es : List (List ℕ × ℕ)) (up : IsStrictlySortedBy (slice_cmp nat_cmp) (keys_of (e ∷ es))) where
    once : (card : CardRef) → covers e card ≡ true → list_any (λ f. covers f card) es ≡ false
    once card = covered_once e es card (sorted_head (slice_cmp nat_cmp) e.0 (keys_of es) up)

    one_row : (r : CardRow) → (if covers e (but_of (e ∷ es) r).card then moved (but_of (e ∷ es) r) else but_of (e ∷ es) r) ≡ but_of es r
    one_row r = go (covers e r.card) (list_any (λ f. covers f r.card) es) refl refl
      where
        go : (a b : Bool) → covers e r.card ≡ a → list_any (λ f. covers f r.card) es ≡ b
            → (if covers e (if a || b then r else moved r).card then moved (if a || b then r else moved r) else if a || b then r else moved r)
            ≡ (if b then r else moved r)
        go true true here there = absurd (let clash : true ≡ false = sym there ∙ once r.card here in cc)
        go true false here there = ap (λ c. if c then moved r else r) here
        go false true here there = ap (λ c. if c then moved r else r) here
        go false false here there = ap (λ c. if c then moved (moved r) else moved r) (ap (covers e) (same_card r) ∙ here)

    rows_next : (rs : List CardRow) → map (λ r. if covers e r.card then moved r else r) (map (but_of (e ∷ es)) rs) ≡ map (but_of es) rs
    rows_next [] = refl
    rows_next (r ∷ rs) = ap (λ x. x ∷ map (λ r. if covers e r.card then moved r else r) (map (but_of (e ∷ es)) rs)) (one_row r)
        ∙ ap (λ xs. but_of es r ∷ xs) (rows_next rs)

    -- those that are to be moved now have not moved yet
    can_next : (rs : List CardRow) → AllByRecursion (λ r. IsTrue ((r.deck == deck) && nat_le from r.pos) → r.pos + n < 2 ^ 32) rs
        → AllByRecursion (λ r. IsTrue (covers e r.card) → IsTrue ((r.deck == deck) && nat_le from r.pos) → r.pos + n < 2 ^ 32) (map (but_of (e ∷ es)) rs)
    can_next rs fits = all_map _ (but_of (e ∷ es)) rs (all_weaker _ _ each rs fits)
      where
        Fit : CardRow → Type 0
        Fit r = IsTrue ((r.deck == deck) && nat_le from r.pos) → r.pos + n < 2 ^ 32

        each : (r : CardRow) → Fit r → IsTrue (covers e (but_of (e ∷ es) r).card) → Fit (but_of (e ∷ es) r)
        each r fit = go (covers e r.card) (list_any (λ f. covers f r.card) es) refl
          where
            go : (a b : Bool) → covers e r.card ≡ a → IsTrue (covers e (if a || b then r else moved r).card) → Fit (if a || b then r else moved r)
            go true b is now = fit
            go false true is now = fit
            go false false is now = absurd (let clash : true ≡ false = sym now ∙ ap (covers e) (same_card r) ∙ is in cc)

    pub one_moved : {X Y : Type 0} (movable : BTreeMap (List ℕ) ℕ) {a b c : State} {x : X} {r : Result Y Error}
        → Makes HoldsTables (Can movable) (with_others_moved (e ∷ es) deck from n) a b (Ok x)
        → Makes HoldsTables (CanMoveOf e deck from n) (with_moved e deck from n) b c r
        → Makes HoldsTables (Can movable) (with_others_moved es deck from n) a c r
    one_moved movable p q = makes_more (λ it can. (can, can_next it.cards can.0)) (λ it. ap (λ cards. record it { cards = cards }) (rows_next it.cards)) p q
