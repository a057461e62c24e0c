-- Card diffs of the decks of a part, and between them those of the decks that are left out: these stay, and have no changes.
use Rattle.upd_partial.proofs.Common.{◌≡◌, ℕ, ◌+◌, ◌<◌, ◌≤◌, Bool, true, false, cond, List, [], ◌∷◌, ◌++◌, map, length, take, inr, refl, sym, ap, ◌∙◌, subst}
use Rattle.upd_partial.proofs.Common.{arith, sum_by-cons, ◌==◌, sum_by, flat_map, AllByRecursion, Entry, Ident, same_entry, CardView, DeckView, CardDiffView}
use Rattle.upd_partial.proofs.Common.{DeckDiffView, Kept, Paired, card_before, begins, brought, gone_of, ident_changes, moves, ref_of, both, is_same_number}
use Rattle.std.proofs.Common.{◌^◌, drop, inl}
use Rattle.std.proofs.lemmas.List.{drop_all}
use Rattle.upd_diff.specs.CardDiffs.{AreOfDeck, IsKept, card_after}
use Rattle.upd_diff.specs.RowChanges.{entries_new, grown, row_changes}
use Rattle.upd_partial.proofs.PartLemmas.{kept_of, left_of}

-- ---- a deck that stays has no changes

abbrev stays : List CardView → List CardDiffView
stays cards = map (λ c. Kept c c) cards

-- the card diffs of a deck that stays
abbrev pub stay : DeckView → DeckDiffView
stay d = record { deck = d.ident; card_diffs = stays d.cards }

pub same_entry_own : (e : Entry) → same_entry e e ≡ true
same_entry_own e = both (e.ident == e.ident) _ (is_same_number e.ident e.ident refl) (go e.active)
  where
    go : (b : Bool) → same_entry (record { ident = 0; active = b }) (record { ident = 0; active = b }) ≡ true
    go true = refl
    go false = refl

begins_own : (es : List Entry) → begins es es ≡ true
begins_own [] = refl
begins_own (e ∷ es) = both (same_entry e e) (begins es es) (same_entry_own e) (begins_own es)

none_gone : (idents : List Ident) (cards : List CardView) → flat_map (gone_of idents) (stays cards) ≡ []
none_gone idents [] = refl
none_gone idents (c ∷ cards) = rw (begins_own c.history) (none_gone idents cards)

none_moved : (d p : ℕ) (cards : List CardView) → moves d p p (stays cards) ≡ []
none_moved d p [] = refl
none_moved d p (c ∷ cards) = rw (is_same_number p p refl) (none_moved d (p + 1) cards)

none_grown : (idents : List Ident) (c : CardView) → grown idents c c ≡ []
none_grown idents c =
    rw (begins_own c.history) (ap (entries_new (ref_of idents c) (length c.history)) (drop_all (length c.history) c.history (omega arith)))

none_brought : (idents : List Ident) (d p : ℕ) (cards : List CardView) → brought idents d p (stays cards) ≡ []
none_brought idents d p [] = refl
none_brought idents d p (c ∷ cards) = let here = none_grown idents c in let later = none_brought idents d (p + 1) cards in λ i. here i ++ later i

were : (cards : List CardView) → flat_map card_before (stays cards) ≡ cards
were [] = refl
were (c ∷ cards) = ap (λ cs. c ∷ cs) (were cards)

are : (cards : List CardView) → flat_map card_after (stays cards) ≡ cards
are [] = refl
are (c ∷ cards) = ap (λ cs. c ∷ cs) (are cards)

all_kept : (cards : List CardView) → AllByRecursion IsKept (stays cards)
all_kept [] = tt
all_kept (c ∷ cards) = (refl, all_kept cards)

as_many : (cards : List CardView) → length (stays cards) ≡ length cards
as_many [] = refl
as_many (c ∷ cards) = let later = as_many cards in omega (arith, later)

-- few enough cards that their positions are numbers of 32 bits
abbrev pub AreFew : DeckView → Type 0
AreFew d = length d.cards < 2 ^ 32

stay_of : (d : DeckView) → AreFew d → AreOfDeck d.ident d.cards d.cards (stay d)
stay_of d few = record {
  deck = refl;
  card_diffs = record { olds = were d.cards; news = are d.cards; kept = all_kept d.cards };
  short = rw (as_many d.cards) few;
}

-- decks of fewer cards than there are in all
pub each_few : (n : ℕ) (ds : List DeckView) → sum_by (λ d. length d.cards) ds ≤ n → n < 2 ^ 32 → AllByRecursion AreFew ds
each_few n [] less few = tt
each_few n (d ∷ ds) less few =
    let sum = sum_by-cons (λ (e : DeckView). length e.cards) d ds in (omega (arith, sum), each_few n ds (omega (arith, sum)) few)

-- ---- card diffs of a part, with the decks that stay between them

-- decks are at the front, in order
abbrev pub StandFirst : List DeckView → List DeckView → Type 0
StandFirst [] later = Unit {0}
StandFirst (d ∷ ds) [] = ⊥
StandFirst (d ∷ ds) (e ∷ later) = (e.ident ≡ d.ident) × StandFirst ds later

module _ (out : ℕ → Bool) where
  abbrev pub weave : List DeckView → List DeckDiffView → List DeckDiffView
  weave [] ks = ks
  weave (d ∷ ds) ks = cond (out d.ident) (stay d ∷ weave ds ks) (take 1 ks ++ weave ds (drop 1 ks))

  -- what stays adds no row changes
  flat_weave : {A : Type 0} (f : DeckDiffView → List A) → ((d : DeckView) → f (stay d) ≡ []) → (ds : List DeckView) (ks : List DeckDiffView)
      → flat_map f (weave ds ks) ≡ flat_map f ks
  flat_weave f none [] ks = refl
  flat_weave f none (d ∷ ds) ks = go (out d.ident) ks (flat_weave f none ds)
    where
      go : (b : Bool) (ks : List DeckDiffView) → ((js : List DeckDiffView) → flat_map f (weave ds js) ≡ flat_map f js)
          → flat_map f (cond b (stay d ∷ weave ds ks) (take 1 ks ++ weave ds (drop 1 ks))) ≡ flat_map f ks
      go true ks later = ap (λ t. t ++ flat_map f (weave ds ks)) (none d) ∙ later ks
      go false [] later = later []
      go false (k ∷ ks) later = ap (λ t. f k ++ t) (later ks)

  pub row_changes_woven : (old new : List Ident) (ds : List DeckView) (ks : List DeckDiffView) → row_changes old new (weave ds ks) ≡ row_changes old new ks
  row_changes_woven old new ds ks =
      let gone = flat_weave (λ k. flat_map (gone_of new) k.card_diffs) (λ d. none_gone new d.cards) ds ks in
      let moved = flat_weave (λ k. moves k.deck 0 0 k.card_diffs) (λ d. none_moved d.ident 0 d.cards) ds ks in
      let come = flat_weave (λ k. brought new k.deck 0 k.card_diffs) (λ d. none_brought new d.ident 0 d.cards) ds ks in
      λ i. ident_changes old new ++ (gone i ++ (moved i ++ come i))

  pub none_left : (ds : List DeckView) → left_of out ds ≡ [] → kept_of out ds ≡ ds
  none_left [] none = refl
  none_left (d ∷ ds) none = go (out d.ident) refl (none_left ds)
    where
      go : (b : Bool) → out d.ident ≡ b → (left_of out ds ≡ [] → kept_of out ds ≡ ds) → kept_of out (d ∷ ds) ≡ d ∷ ds
      go true o later = absurd (let bad = rw o at none in cc)
      go false o later = rw o (ap (λ xs. d ∷ xs) (later (rw o at none)))

  -- card diffs of the part, woven with decks that stay, are those of the whole
  pub woven : (ds es : List DeckView) (ks : List DeckDiffView) → StandFirst ds es → left_of out es ≡ left_of out ds → AllByRecursion AreFew ds
      → Paired (kept_of out ds) (kept_of out es) ks → Paired ds es (weave ds ks)
  woven [] es ks first same few p = subst (λ xs. Paired [] xs ks) (none_left es same) p
  woven (d ∷ ds) [] ks first same few p = absurd first
  woven (d ∷ ds) (e ∷ es) ks first same few p =
      go (out d.ident) refl (ap out first.0) ks same p (λ js left paired. woven ds es js first.1 left few.1 paired)
    where
      go : (b : Bool) → out d.ident ≡ b → out e.ident ≡ out d.ident → (ks : List DeckDiffView) → left_of out (e ∷ es) ≡ left_of out (d ∷ ds)
          → Paired (kept_of out (d ∷ ds)) (kept_of out (e ∷ es)) ks
          → ((js : List DeckDiffView) → left_of out es ≡ left_of out ds → Paired (kept_of out ds) (kept_of out es) js → Paired ds es (weave ds js))
          → Paired (d ∷ ds) (e ∷ es) (weave (d ∷ ds) ks)
      go true o q ks left p later =
          let all : e ∷ left_of out es ≡ d ∷ left_of out ds = rw (q, o) at left in
          let here : e ≡ d = cc in
          let rest : left_of out es ≡ left_of out ds = cc in
          let cards : AreOfDeck d.ident d.cards e.cards (stay d) =
          subst (λ (x : DeckView). AreOfDeck d.ident d.cards x.cards (stay d)) (sym here) (stay_of d few.0) in
          rw o (inl (first.0, cards, later ks rest (rw (q, o) at p)))
      go false o q ks left p later = kept o ks (rw (q, o) at left) (rw (q, o) at p) later
        where
          kept : out d.ident ≡ false → (ks : List DeckDiffView) → left_of out es ≡ left_of out ds
              → Paired (d ∷ kept_of out ds) (e ∷ kept_of out es) ks
              → ((js : List DeckDiffView) → left_of out es ≡ left_of out ds → Paired (kept_of out ds) (kept_of out es) js → Paired ds es (weave ds js))
              → Paired (d ∷ ds) (e ∷ es) (weave (d ∷ ds) ks)
          kept o [] left p later = absurd p
          kept o (k ∷ ks) left (inl p) later = rw o (inl (first.0, p.1, later ks left p.2))
          kept o (k ∷ ks) left (inr p) later = absurd (p.0 first.0)
