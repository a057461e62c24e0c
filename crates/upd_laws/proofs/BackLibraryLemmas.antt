-- A library that has only grown, by idents from a serial on: what each edit leaves, and two steps in one.
use Rattle.upd_laws.proofs.Common.{◌≡◌, ℕ, ◌+◌, ◌-◌, ◌≤◌, Bool, true, false, cond, List, [], ◌∷◌, ◌++◌, length, refl, sym, ap, ◌∙◌, arith, append_assoc}
use Rattle.upd_laws.proofs.Common.{append-nil, length-append, ◌==◌, insert, Entry, Ident, Kind, Target, introduced, next_age, new_card, with_deck, with_card}
use Rattle.upd_laws.proofs.Common.{with_yank, with_entries, entered_range, at_first, CardView, DeckView, LibraryView, with_cards, is_deck, AreAgedFrom}
use Rattle.upd_laws.proofs.Common.{AreAmong, DecksGoOn, IsNewDeck, Ended, Come}
use Rattle.upd_apply.proofs.DirectoryLemmas.{idents_with}
use Rattle.upd_laws.proofs.BackGrowthLemmas.{aged_append, among, among_append, among_twice, among_insert, among_range, decks, decks_on, decks_at_first}
use Rattle.upd_laws.proofs.BackGrowthLemmas.{decks_twice}

abbrev pub Within : ℕ → ℕ → ℕ → Type 0
Within x n z = (x ≤ z) × (z ≤ n)

-- a library has only grown, by idents from x on
pub record Grows (x : ℕ) (l m : LibraryView) : Type 0 where
  pub brought : List Ident
  pub idents : m.idents ≡ l.idents ++ brought
  pub ages : AreAgedFrom (next_age l) brought
  pub decks : DecksGoOn (Within x (length m.idents)) l.decks m.decks
  pub yanks : AreAmong (Within x (length m.idents)) l.yanks m.yanks
  pub rest : m.rest ≡ l.rest

-- decks and yank cards that are extended, with no new ident
grows_by : (x : ℕ) (l : LibraryView) (ds : List DeckView) (ys : List CardView) → DecksGoOn (Within x (length l.idents)) l.decks ds
    → AreAmong (Within x (length l.idents)) l.yanks ys → Grows x l (record l { decks = ds; yanks = ys })
grows_by x l ds ys d y = record { brought = []; idents = sym (append-nil l.idents); ages = tt; decks = d; yanks = y; rest = refl }

pub grows : (x : ℕ) (l : LibraryView) → Grows x l l
grows x l = grows_by x l l.decks l.yanks (decks _ l.decks) (among _ l.yanks)

pub no_fewer : (x : ℕ) (l m : LibraryView) → Grows x l m → length l.idents ≤ length m.idents
no_fewer x l m g = omega (arith, ap length g.idents, length-append l.idents g.brought)

pub grows_twice : (x : ℕ) (l m n : LibraryView) → Grows x l m → Grows x m n → Grows x l n
grows_twice x l m n g h =
    let more : length m.idents ≡ length l.idents + length g.brought = ap length g.idents ∙ length-append l.idents g.brought in
    let few : length m.idents ≤ length n.idents = no_fewer x m n h in
    let wider : (z : ℕ) → Within x (length m.idents) z → Within x (length n.idents) z = λ z w. (w.0, omega arith) in
    let first : next_age m ≡ next_age l + length g.brought = omega arith in
    record {
      brought = g.brought ++ h.brought;
      idents = h.idents ∙ ap (λ i. i ++ h.brought) g.idents ∙ append_assoc l.idents g.brought h.brought;
      ages = aged_append (next_age l) g.brought h.brought g.ages (rw first at h.ages);
      decks = decks_twice _ _ wider l.decks m.decks n.decks g.decks h.decks;
      yanks = among_twice _ _ wider g.yanks h.yanks;
      rest = h.rest ∙ g.rest;
    }

-- the cards of one deck changed
grows_cards : (x : ℕ) (l : LibraryView) (d : ℕ) (change : List CardView → List CardView)
    → ((cs : List CardView) → AreAmong (Within x (length l.idents)) cs (change cs)) → Grows x l (with_cards d change l)
grows_cards x l d change r = in_deck (d == 0)
  where
    in_deck : (b : Bool) → Grows x l (cond b (record l { yanks = change l.yanks })
        (record l { decks = at_first (is_deck d) (λ e. record e { cards = change e.cards }) l.decks }))
    in_deck true = grows_by x l l.decks _ (decks _ l.decks) (r l.yanks)
    in_deck false = grows_by x l _ l.yanks (decks_at_first _ change r d l.decks) (among _ l.yanks)

pub grows_card : (x : ℕ) (l : LibraryView) (d after : ℕ) (z number : ℕ) (text : List ℕ) (targets : List Target)
    → Within x (length l.idents) z → Grows x l (with_card d after (new_card z number text targets) l)
grows_card x l d after z number text targets w =
    grows_cards x l d _ (λ cs. among_insert _ (new_card z number text targets) w (w, tt) cs (length cs - after))

pub idents-with_card : (d after : ℕ) (c : CardView) (l : LibraryView) → (with_card d after c l).idents ≡ l.idents
idents-with_card d after c l = idents_with d (λ cards. insert cards (length cards - after) c) l

pub idents-with_entries : (d from to : ℕ) (e : Entry) (l : LibraryView) → (with_entries d from to e l).idents ≡ l.idents
idents-with_entries d from to e l =
    idents_with d (entered_range from to e) l

-- an entry on a range of cards
pub grows_entries : (x : ℕ) (l : LibraryView) (d from to : ℕ) (e : Entry) → from ≤ to → Within x (length l.idents) e.ident
    → Grows x l (with_entries d from to e l)
grows_entries x l d from to e le w = grows_cards x l d _ (λ cs. among_range _ e w cs from to le)

-- a yank
pub grows_yank : (x : ℕ) (l : LibraryView) (z number : ℕ) (text : List ℕ) (targets : List Target) → Within x (length l.idents) z
    → Grows x l (with_yank (new_card z number text targets) l)
grows_yank x l z number text targets w =
    let come = among_append (Within x (length l.idents)) (among _ l.yanks) (Come {d = new_card z number text targets} w (w, tt) Ended) in
    grows_by x l l.decks _ (decks _ l.decks) (rw append-nil at come)

pub length-introduced : (l : LibraryView) (name : List ℕ) (sort : Kind) (noprop : Bool) → length (introduced name sort noprop l).idents ≡ next_age l
length-introduced l name sort noprop = length-append l.idents _

-- an ident
pub grows_ident : (x : ℕ) (l : LibraryView) (name : List ℕ) (sort : Kind) (noprop : Bool) → Grows x l (introduced name sort noprop l)
grows_ident x l name sort noprop = record {
  brought = record { name = name; age = next_age l; kind = sort; noprop = noprop; held = true } ∷ [];
  idents = refl;
  ages = (refl, tt);
  decks = decks _ l.decks;
  yanks = among _ l.yanks;
  rest = refl;
}

-- a deck
pub grows_deck : (x : ℕ) (l : LibraryView) (d : DeckView) → IsNewDeck (Within x (length l.idents)) d → Grows x l (with_deck d l)
grows_deck x l d w = grows_by x l _ l.yanks (decks_on _ l.decks (d ∷ []) (w, tt)) (among _ l.yanks)
