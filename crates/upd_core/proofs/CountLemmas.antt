-- How the counts of a library grow with its edits.
use Rattle.upd_core.proofs.Common.{◌≡◌, ℕ, ◌+◌, ◌-◌, ◌≤◌, Bool, true, false, if◌then◌else◌, List, [], ◌∷◌, ◌++◌, length, map, take, drop, insert, sum_by}
use Rattle.upd_core.proofs.Common.{Option, Some, None, is_some, refl, ap, ◌∙◌, sym, arith, option_map_or, length-map, length-drop, sum_by-take-drop, Entry}
use Rattle.upd_core.proofs.Common.{capped, entered, entered_range, at_first, CardView, DeckView, LibraryView, is_deck, entered_count, entered_in, inserted_in}
use Rattle.std.proofs.Common.{◌*◌, find, length-append, add-zero}
use Rattle.std.proofs.lemmas.List.{take-take, length-take}
use Rattle.std.proofs.lemmas.List.Edits.{length-insert}
use Rattle.std.proofs.lemmas.List.Sums.{sum_by-cons, sum_by-append, sum_by-insert}
use Rattle.upd_core.specs.declared.counts.Counts.{Counts}
use Rattle.upd_core.specs.Counts.{AreOf}

-- where the first element that passes is changed, a sum gains what that element gains
pub sum_by-at_first : {A : Type 0} (test : A → Bool) (change : A → A) (f gain : A → ℕ) (xs : List A) → ((x : A) → f (change x) ≡ f x + gain x) →
    sum_by f (at_first test change xs) ≡ sum_by f xs + option_map_or gain (find test xs) 0
sum_by-at_first test change f gain [] gains = refl
sum_by-at_first test change f gain (x ∷ xs) gains = by_test (test x) (sum_by-at_first test change f gain xs gains)
  where
    by_test : (b : Bool) → sum_by f (at_first test change xs) ≡ sum_by f xs + option_map_or gain (find test xs) 0 →
        sum_by f (if b then change x ∷ xs else x ∷ at_first test change xs) ≡ sum_by f (x ∷ xs) + option_map_or gain (if b then Some x else find test xs) 0
    by_test true later = omega (arith, sum_by-cons f (change x) xs, sum_by-cons f x xs, gains x)
    by_test false later = omega (arith, sum_by-cons f x (at_first test change xs), sum_by-cons f x xs)

-- where each of these cards gains a number
sum_by-entered : (e : Entry) (f : CardView → ℕ) (gain : ℕ) (cards : List CardView) → ((c : CardView) → f (entered e c) ≡ f c + gain) →
    sum_by f (map (entered e) cards) ≡ sum_by f cards + length cards * gain
sum_by-entered e f gain [] gains = omega arith
sum_by-entered e f gain (c ∷ cs) gains =
    omega (arith, gains c, sum_by-cons f (entered e c) (map (entered e) cs), sum_by-cons f c cs, sum_by-entered e f gain cs gains)

-- and where those of a range do
sum_by-entered_range : (from to : ℕ) (e : Entry) (f : CardView → ℕ) (gain : ℕ) (cards : List CardView) → from ≤ to →
    ((c : CardView) → f (entered e c) ≡ f c + gain) → sum_by f (entered_range from to e cards) ≡ sum_by f cards + entered_count from to cards * gain
sum_by-entered_range from to e f gain cards order gains =
    let front = take from cards in
    let middle = drop from (take (to + 1) cards) in
    let back = drop (to + 1) cards in
    let same : sum_by f (take from (take (to + 1) cards)) ≡ sum_by f front = ap (sum_by f) (take-take from (to + 1) cards (omega arith)) in
    omega (
      arith,
      same,
      sum_by-append f (front ++ map (entered e) middle) back,
      sum_by-append f front (map (entered e) middle),
      sum_by-entered e f gain middle gains,
      sum_by-take-drop f (take (to + 1) cards) from,
      sum_by-take-drop f cards (to + 1),
    )

entries-entered_range : (from to : ℕ) (e : Entry) (cards : List CardView) → from ≤ to →
    sum_by (λ c. length c.history) (entered_range from to e cards) ≡ sum_by (λ c. length c.history) cards + entered_count from to cards
entries-entered_range from to e cards order =
    omega (arith, sum_by-entered_range from to e (λ c. length c.history) 1 cards order (λ c. length-append c.history (e ∷ [])))

targets-entered_range : (from to : ℕ) (e : Entry) (cards : List CardView) → from ≤ to →
    sum_by (λ c. length c.targets) (entered_range from to e cards) ≡ sum_by (λ c. length c.targets) cards
targets-entered_range from to e cards order =
    omega (arith, sum_by-entered_range from to e (λ c. length c.targets) 0 cards order (λ c. omega arith))

length-entered_range : (from to : ℕ) (e : Entry) (cards : List CardView) → from ≤ to → length (entered_range from to e cards) ≡ length cards
length-entered_range from to e cards order =
    let front = take from cards in
    let middle = drop from (take (to + 1) cards) in
    let back = drop (to + 1) cards in
    omega (
      arith,
      length-append (front ++ map (entered e) middle) back,
      length-append front (map (entered e) middle),
      length-map middle (entered e),
      length-take from cards,
      length-drop from (take (to + 1) cards),
      length-take (to + 1) cards,
      length-drop (to + 1) cards,
    )

gain_is : {A : Type 0} (n : ℕ) (o : Option A) (found : Bool) → found ≡ is_some o → option_map_or (λ _. n) o 0 ≡ (if found then n else 0)
gain_is n (Some x) true found = refl
gain_is n (Some x) false found = cc
gain_is n None true found = cc
gain_is n None false found = refl

no_gain : {A : Type 0} (o : Option A) → option_map_or {U = ℕ} (λ _. 0) o 0 ≡ 0
no_gain (Some x) = refl
no_gain None = refl

-- decks with this number of cards and entries more
AreOf-decks : (l : LibraryView) (decks : List DeckView) (counts : Counts) (cards entries : ℕ) → AreOf l counts →
    sum_by (λ d. length d.cards) decks ≡ sum_by (λ d. length d.cards) l.decks + cards →
    sum_by (λ d. sum_by (λ c. length c.history) d.cards) decks ≡ sum_by (λ d. sum_by (λ c. length c.history) d.cards) l.decks + entries →
    AreOf (record l { decks = decks }) (record counts { cards = capped (counts.cards + cards); entries = capped (counts.entries + entries) })
AreOf-decks l decks counts cards entries known more_cards more_entries =
    let size : DeckView → ℕ = λ d. length d.cards in
    let weight : DeckView → ℕ = λ d. sum_by (λ c. length c.history) d.cards in
    let yanks : DeckView = record { ident = 0; cards = l.yanks } in
    record {
      held = known.held;
      cards = omega (arith, known.cards, more_cards, sum_by-cons size yanks decks, sum_by-cons size yanks l.decks);
      entries = omega (arith, known.entries, more_entries, sum_by-cons weight yanks decks, sum_by-cons weight yanks l.decks);
      targets = known.targets;
    }

-- a card in the deck with a serial, if there is one
AreOf-inserted : (l : LibraryView) (counts : Counts) (age behind : ℕ) (card : CardView) (found : Bool) → AreOf l counts →
    found ≡ is_some (find (is_deck age) l.decks) → AreOf (record l { decks = inserted_in age behind card l.decks })
    (record counts { cards = capped (counts.cards + (if found then 1 else 0)); entries = capped (counts.entries + (if found then length card.history else 0)) })
AreOf-inserted l counts age behind card found known is_found =
    let change : DeckView → DeckView = λ d. record d { cards = insert d.cards (length d.cards - behind) card } in
    let size : CardView → ℕ = λ c. length c.history in
    let one_more : (d : DeckView) → length (change d).cards ≡ length d.cards + 1 = λ d. length-insert d.cards (length d.cards - behind) card (omega arith) in
    let entries_more : (d : DeckView) → sum_by size (change d).cards ≡ sum_by size d.cards + length card.history =
    λ d. sum_by-insert size d.cards (length d.cards - behind) card in
    let gain : (n : ℕ) → option_map_or (λ _. n) (find (is_deck age) l.decks) 0 ≡ (if found then n else 0) =
    λ n. gain_is n (find (is_deck age) l.decks) found is_found in
    AreOf-decks l (at_first (is_deck age) change l.decks) counts _ _ known
    (sum_by-at_first (is_deck age) change (λ d. length d.cards) (λ _. 1) l.decks one_more ∙ ap (λ n. sum_by (λ d. length d.cards) l.decks + n) (gain 1))
    (sum_by-at_first (is_deck age) change (λ d. sum_by size d.cards) (λ _. length card.history) l.decks entries_more
    ∙ ap (λ n. sum_by (λ d. sum_by size d.cards) l.decks + n) (gain (length card.history)))

pub AreOf-inserted_there : (l : LibraryView) (counts : Counts) (age behind : ℕ) (card : CardView) → AreOf l counts →
    true ≡ is_some (find (is_deck age) l.decks) → AreOf (record l { decks = inserted_in age behind card l.decks })
    (record counts { cards = capped (counts.cards + 1); entries = capped (counts.entries + length card.history); targets = capped (counts.targets + 0) })
AreOf-inserted_there l counts age behind card known found =
    let grown = AreOf-inserted l counts age behind card true known found in
    record { held = grown.held; cards = grown.cards; entries = grown.entries; targets = omega (arith, known.targets) }

pub AreOf-inserted_nowhere : (l : LibraryView) (counts : Counts) (age behind : ℕ) (card : CardView) → AreOf l counts →
    false ≡ is_some (find (is_deck age) l.decks) → AreOf (record l { decks = inserted_in age behind card l.decks }) counts
AreOf-inserted_nowhere l counts age behind card known missed =
    let same = AreOf-inserted l counts age behind card false known missed in
    record { held = same.held; cards = omega (arith, same.cards, known.cards); entries = omega (arith, same.entries, known.entries); targets = same.targets }

-- an entry on a range of yank cards
pub AreOf-entered_yanks : (l : LibraryView) (counts : Counts) (from to : ℕ) (e : Entry) → AreOf l counts → from ≤ to →
    AreOf (record l { yanks = entered_range from to e l.yanks }) (record counts { entries = capped (counts.entries + entered_count from to l.yanks) })
AreOf-entered_yanks l counts from to e known order =
    let size : DeckView → ℕ = λ d. length d.cards in
    let weight : DeckView → ℕ = λ d. sum_by (λ c. length c.history) d.cards in
    let yanks : DeckView = record { ident = 0; cards = l.yanks } in
    let entered_yanks : DeckView = record { ident = 0; cards = entered_range from to e l.yanks } in
    record {
      held = known.held;
      cards = omega (arith, known.cards, length-entered_range from to e l.yanks order, sum_by-cons size yanks l.decks, sum_by-cons size entered_yanks l.decks);
      entries = omega (
        arith,
        known.entries,
        entries-entered_range from to e l.yanks order,
        sum_by-cons weight yanks l.decks,
        sum_by-cons weight entered_yanks l.decks,
      );
      targets = omega (arith, known.targets, targets-entered_range from to e l.yanks order);
    }

-- an entry on a range of a deck's cards
pub AreOf-entered_in : (l : LibraryView) (counts : Counts) (age from to : ℕ) (e : Entry) → AreOf l counts → from ≤ to →
    AreOf (record l { decks = entered_in age from to e l.decks }) (record counts {
      entries =
          capped (counts.entries + option_map_or (λ d. entered_count from to d.cards) (find (is_deck age) l.decks) 0);
    })
AreOf-entered_in l counts age from to e known order =
    let change : DeckView → DeckView = λ d. record d { cards = entered_range from to e d.cards } in
    let size : CardView → ℕ = λ c. length c.history in
    let gain : DeckView → ℕ = λ d. entered_count from to d.cards in
    let same_length : (d : DeckView) → length (change d).cards ≡ length d.cards + 0 =
    λ d. length-entered_range from to e d.cards order ∙ sym (add-zero (length d.cards)) in
    let grown = AreOf-decks l (at_first (is_deck age) change l.decks) counts 0 _ known
    (sum_by-at_first (is_deck age) change (λ d. length d.cards) (λ _. 0) l.decks same_length
    ∙ ap (λ n. sum_by (λ d. length d.cards) l.decks + n) (no_gain (find (is_deck age) l.decks)))
    (sum_by-at_first (is_deck age) change (λ d. sum_by size d.cards) gain l.decks (λ d. entries-entered_range from to e d.cards order)) in
    record { held = grown.held; cards = omega (arith, grown.cards, known.cards); entries = grown.entries; targets = grown.targets }
