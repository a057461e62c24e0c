-- Rows of cards that go: one card after another, and the same cards in another order or as ranges.
use Rattle.std.proofs.Common.{◌≡◌, ℕ, ◌+◌, ◌<◌, Bool, true, false, not, ◌||◌, List, [], ◌∷◌, ◌++◌, length, map, take, get_or, refl, sym, ap, ◌∙◌}
use Rattle.std.proofs.Common.{filter, IfSome, None, Option, Some}
use Rattle.std.proofs.lemmas.List.{map-append, take_more}
use Rattle.std.specs.Prelude.{if◌then◌else◌}
use Rattle.upd_records.proofs.EffectLemmas.{any_append}
use Rattle.upd_records.specs.Rows.{Rows, same_ref}
use Rattle.upd_text.specs.declared.card_ref.CardRef.{CardRef}
use Rattle.upd_core.specs.declared.change.Change.{Change}
use Rattle.upd_records.specs.Changes.{change_view, done, done_all}
use Rattle.upd_row_store.specs.Ranges.{is_among, without_cards, without_rows}
use Rattle.upd_row_store.proofs.MoveLemmas.{done_parts}
use Rattle.upd_row_store.specs.declared.ranges.GoneCards.{GoneCards}
use Rattle.upd_row_store.specs.declared.ranges.CardRows.{CardRows}
use Rattle.upd_row_store.specs.declared.ranges.CardRows.TheVariants.{Card, Entries, Targets}

-- what is in one of two parts goes with the one or with the other
pub filter_both : {A : Type 0} (p q both : A → Bool) (xs : List A) → ((x : A) → both x ≡ (p x || q x))
    → filter (λ x. not (both x)) xs ≡ filter (λ x. not (q x)) (filter (λ x. not (p x)) xs)
filter_both p q both [] is = refl
filter_both p q both (x ∷ xs) is =
    ap (λ b. if not b then x ∷ filter (λ y. not (both y)) xs else filter (λ y. not (both y)) xs) (is x)
    ∙ go (p x) (q x) refl (filter_both p q both xs is)
  where
    go : (a b : Bool) → q x ≡ b → filter (λ y. not (both y)) xs ≡ filter (λ y. not (q y)) (filter (λ y. not (p y)) xs)
        → (if not (a || b) then x ∷ filter (λ y. not (both y)) xs else filter (λ y. not (both y)) xs)
        ≡ filter (λ y. not (q y)) (if not a then x ∷ filter (λ y. not (p y)) xs else filter (λ y. not (p y)) xs)
    go true b e h = h
    go false true e h = h
        ∙ ap (λ c. if not c then x ∷ filter (λ y. not (q y)) (filter (λ y. not (p y)) xs) else filter (λ y. not (q y)) (filter (λ y. not (p y)) xs)) (sym e)
    go false false e h = ap (λ ys. x ∷ ys) h
        ∙ ap (λ c. if not c then x ∷ filter (λ y. not (q y)) (filter (λ y. not (p y)) xs) else filter (λ y. not (q y)) (filter (λ y. not (p y)) xs)) (sym e)

pub filter_none : {A : Type 0} (xs : List A) → filter (λ x. true) xs ≡ xs
filter_none [] = refl
filter_none (x ∷ xs) = ap (λ ys. x ∷ ys) (filter_none xs)

pub filter_alike : {A : Type 0} (p q : A → Bool) (xs : List A) → ((x : A) → p x ≡ q x) → filter (λ x. not (p x)) xs ≡ filter (λ x. not (q x)) xs
filter_alike p q [] is = refl
filter_alike p q (x ∷ xs) is =
    ap (λ b. if not b then x ∷ filter (λ y. not (p y)) xs else filter (λ y. not (p y)) xs) (is x)
    ∙ ap (λ ys. if not (q x) then x ∷ ys else ys) (filter_alike p q xs is)

-- rows go of the cards of two parts
pub rows_both : (which : CardRows) (p q both : CardRef → Bool) (rows : Rows) → ((card : CardRef) → both card ≡ (p card || q card))
    → without_rows which both rows ≡ without_rows which q (without_rows which p rows)
rows_both Entries p q both rows is =
    ap (λ xs. record rows { entries = xs }) (filter_both (λ r. p r.card) (λ r. q r.card) (λ r. both r.card) rows.entries (λ r. is r.card))
rows_both Targets p q both rows is =
    ap (λ xs. record rows { targets = xs }) (filter_both (λ r. p r.card) (λ r. q r.card) (λ r. both r.card) rows.targets (λ r. is r.card))
rows_both Card p q both rows is =
    ap (λ xs. record rows { cards = xs; states = filter (λ r. not (both r.card)) rows.states })
    (filter_both (λ r. p r.card) (λ r. q r.card) (λ r. both r.card) rows.cards (λ r. is r.card))
    ∙ ap (λ xs. record rows { cards = filter (λ r. not (q r.card)) (filter (λ r. not (p r.card)) rows.cards); states = xs })
    (filter_both (λ r. p r.card) (λ r. q r.card) (λ r. both r.card) rows.states (λ r. is r.card))

-- the same cards, in other words
pub rows_alike : (which : CardRows) (p q : CardRef → Bool) (rows : Rows) → ((card : CardRef) → p card ≡ q card) → without_rows which p rows
    ≡ without_rows which q rows
rows_alike Entries p q rows is = ap (λ xs. record rows { entries = xs }) (filter_alike (λ r. p r.card) (λ r. q r.card) rows.entries (λ r. is r.card))
rows_alike Targets p q rows is = ap (λ xs. record rows { targets = xs }) (filter_alike (λ r. p r.card) (λ r. q r.card) rows.targets (λ r. is r.card))
rows_alike Card p q rows is =
    ap (λ xs. record rows { cards = xs; states = filter (λ r. not (p r.card)) rows.states })
    (filter_alike (λ r. p r.card) (λ r. q r.card) rows.cards (λ r. is r.card))
    ∙ ap (λ xs. record rows { cards = filter (λ r. not (q r.card)) rows.cards; states = xs })
    (filter_alike (λ r. p r.card) (λ r. q r.card) rows.states (λ r. is r.card))

pub one_or : (a b : Bool) → (a || (b || false)) ≡ (a || b)
one_or true b = refl
one_or false true = refl
one_or false false = refl

pub among_more : (cards more : List CardRef) (last : CardRef) → more ≡ cards ++ last ∷ [] → (card : CardRef) → is_among more card
    ≡ (is_among cards card || same_ref last card)
among_more cards more last is card =
    ap (λ cs. is_among cs card) is ∙ any_append (λ c. same_ref c card) cards (last ∷ []) ∙ one_or (is_among cards card) (same_ref last card)

-- where no card goes, all rows stay
pub rows_stay : (which : CardRows) (rows : Rows) → without_rows which (λ card. false) rows ≡ rows
rows_stay Entries rows = ap (λ xs. record rows { entries = xs }) (filter_none rows.entries)
rows_stay Targets rows = ap (λ xs. record rows { targets = xs }) (filter_none rows.targets)
rows_stay Card rows =
    ap (λ xs. record rows { cards = xs; states = filter (λ r. true) rows.states }) (filter_none rows.cards)
    ∙ ap (λ xs. record rows { states = xs }) (filter_none rows.states)

-- at first none goes
pub none_goes : (gone : GoneCards) → gone.entries.items ≡ [] → gone.targets.items ≡ [] → gone.cards.items ≡ [] → (rows : Rows) → without_cards gone rows ≡ rows
none_goes gone entries targets cards rows =
    ap (λ cs. without_rows Card (is_among cs) (without_rows Targets (is_among gone.targets.items)
    (without_rows Entries (is_among gone.entries.items) rows))) cards
    ∙ rows_stay Card (without_rows Targets (is_among gone.targets.items) (without_rows Entries (is_among gone.entries.items) rows))
    ∙ ap (λ cs. without_rows Targets (is_among cs) (without_rows Entries (is_among gone.entries.items) rows)) targets
    ∙ rows_stay Targets (without_rows Entries (is_among gone.entries.items) rows)
    ∙ ap (λ cs. without_rows Entries (is_among cs) rows) entries
    ∙ rows_stay Entries rows

-- one change more
pub change_more : (changes : List Change) (i : ℕ) (change : Change) (rows : Rows) → i < length changes → change ≡ get_or changes i change
    → done (change_view change) (done_all (map change_view (take i changes)) rows) ≡ done_all (map change_view (take (i + 1) changes)) rows
change_more changes i change rows within is =
    done_parts (map change_view (take i changes)) (change_view change ∷ []) rows
    ∙ ap (λ cs. done_all cs rows) (sym (ap (map change_view) (take_more changes i change within ∙ ap (λ c. take i changes ++ c ∷ []) (sym is))
    ∙ map-append change_view (take i changes) (change ∷ [])))

-- the ranges so far, and the last one with one card more
pub last_more : (before last more first among card : Bool) → more ≡ (last || card) → (before || last) ≡ (first || among) → (before || more)
    ≡ (first || (among || card))
last_more before last more first among card is rest = ap (λ b. before || b) is ∙ turn before last card ∙ ap (λ b. b || card) rest ∙ sym (turn first among card)
  where
    turn : (a b c : Bool) → (a || (b || c)) ≡ ((a || b) || c)
    turn true b c = refl
    turn false b c = refl

-- the ranges so far with the last one, and a new one
pub next_range : (before all last next first among card : Bool) → all ≡ (before || (last || false)) → next ≡ card → (before || last) ≡ (first || among)
    → (all || next) ≡ (first || (among || card))
next_range before all last next first among card is new rest =
    ap (λ b. b || next) is ∙ turn before last next ∙ last_more before last (last || next) first among card (ap (λ b. last || b) new) rest
  where
    turn : (a b c : Bool) → ((a || (b || false)) || c) ≡ (a || (b || c))
    turn true b c = refl
    turn false true c = refl
    turn false false c = refl

-- what an answer ensures, by other words
pub on_some : {A : Type 0} {P Q : A → Type 0} (o : Option A) → IfSome o P → ((x : A) → P x → Q x) → IfSome o Q
on_some None h f = tt
on_some (Some x) h f = f x h
