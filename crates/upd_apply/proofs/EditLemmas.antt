-- What is known of an edit that a line was judged to be; a law of each such edit is one of each line.
use Rattle.upd_apply.proofs.Common.{◌≡◌, ℕ, Bool, true, false, not, ◌&&◌, List, [], ◌∷◌, refl, subst, ◌==◌, Result, IfOk, FaultKind, at_line, Target}
use Rattle.upd_apply.proofs.Common.{LibraryView, is_deck_kind, ItemView, LineView, State, stepped, Edit, NewSet, NewDeck, AddsAtEnd, AddsInside, Switches}
use Rattle.upd_apply.proofs.Common.{AddsYank, Purges, PurgesIn, carried, purged_in_all, decks_purged, idents_purged, pairs_purged, step, sets_yanked}
use Rattle.upd_apply.proofs.Common.{pairs_yanked, decks_yanked}
use Rattle.std.specs.Prelude.{◌||◌, nat_lt, Some, Ok, Err}
use Rattle.upd_text.specs.declared.card_ref.CardRef.{CardRef}
use Rattle.upd_text.specs.declared.fault.FaultKind.TheVariants as fault
use Rattle.upd_text.proofs.OutcomeLemmas.{after_need, after_refusal}
use Rattle.upd_core.specs.declared.ident.Kind.{Kind}
use Rattle.upd_core.specs.declared.ident.Kind.TheVariants as kind
use Rattle.upd_core.specs.declared.library.Place.{Place}
use Rattle.upd_core.specs.Edits.{purged_in}
use Rattle.upd_core.specs.Library.{place_of}
use Rattle.upd_core.specs.Limits.{is_within_limits}
use Rattle.upd_deck.specs.declared.item.IdentIn.{IdentIn}
use Rattle.upd_deck.specs.declared.item.NameRange.{NameRange}
use Rattle.upd_deck.specs.Items.{Text, Call, Ident, Deck, CommonDeck, Insert, Before, Delete, Restore, Yank, SelYank, YankDeck}
use Rattle.upd_deck.specs.Items.{Purge, PurgeFrom, SelPurge, PurDeck, Compile}
use Rattle.upd_apply.specs.declared.state.CurrentSet.{CurrentSet}
use Rattle.upd_apply.specs.declared.state.InsertPoint.{InsertPoint}
use Rattle.upd_apply.specs.declared.state.InsertPoint.TheVariants.{Nowhere, End, Inside}
use Rattle.upd_apply.specs.Directives.{cards_of_item, is_purge, is_yank, new_name_of}
use Rattle.upd_apply.specs.LineEdits.{Stays, MovesAfter, MovesBefore, adds}
use Rattle.upd_apply.specs.Names.{known_ident}
use Rattle.upd_apply.specs.Purges.{AgesIn}
use Rattle.upd_apply.specs.Step.{carried_out, is_deck_card, judged, new_name, switch_judged, text_judged, yank_judged, deck_judged}
use Rattle.upd_apply.proofs.BindLemmas.{bind_all, bind_ok, holds_of, line_is}

-- ---- what is known of an edit

-- the name that the line introduces may be that of a new ident
pub record IsNewName (item : ItemView) (name : List ℕ) (l : LibraryView) : Type 0 where
  pub named : new_name_of item ≡ Some name
  pub result : Bool
  pub free : new_name name l ≡ Ok result

-- the place of the card that the line names, outside `YANK$$$`
pub record IsMove (item : ItemView) (s : State) (p : Place) : Type 0 where
  pub current_set : CurrentSet
  pub held : s.current_set ≡ Some current_set
  pub card : CardRef
  pub named : cards_of_item item ≡ card ∷ []
  pub at : place_of card s.library ≡ Some p
  pub outside : (p.deck == 0) ≡ false

-- the places of the two cards that the line names, in order in one deck
pub record IsSwitch (item : ItemView) (s : State) (c : CurrentSet) (p q : Place) : Type 0 where
  pub held : s.current_set ≡ Some c
  pub first : CardRef
  pub last : CardRef
  pub named : cards_of_item item ≡ first ∷ last ∷ []
  pub from : place_of first s.library ≡ Some p
  pub to : place_of last s.library ≡ Some q
  pub ordered : (not (p.deck == q.deck) || nat_lt q.index p.index) ≡ false

-- targets that the fields of a yank name
pub data AreNamed (z : ℕ) (l : LibraryView) (found : List Target) : Type 0 where
  BySets : (ranges : List NameRange) → sets_yanked ranges z l ≡ Ok found → AreNamed z l found
  ByPairs : (pairs : List IdentIn) → pairs_yanked pairs z l ≡ Ok found → AreNamed z l found
  ByDecks : (names : List (List ℕ)) → decks_yanked names z l ≡ Ok found → AreNamed z l found

-- the targets that the line names are on a card of the current set, with the text of the line
pub record IsYankBy (item : ItemView) (text : List ℕ) (s : State) (c : CurrentSet) (added : List ℕ) (found : List Target) : Type 0 where
  pub yanks : is_yank item ≡ true
  pub held : s.current_set ≡ Some c
  pub same_text : added ≡ text
  pub targets : AreNamed c.ident s.library found

-- the text of the line goes to the insertion point, outside `YANK$$$`, as a card of the current set
pub record IsTextInside (text : List ℕ) (s : State) (d after : ℕ) (c : CurrentSet) (added : List ℕ) : Type 0 where
  pub point : s.insert_point ≡ Inside d after
  pub held : s.current_set ≡ Some c
  pub outside : (d == 0) ≡ false
  pub same_text : added ≡ text

-- an edit is one that the line can be judged to be in this state
abbrev pub Fits : ItemView → List ℕ → State → Edit → Type 0
Fits item text s Stays = Unit {0}
Fits item text s (MovesAfter p) = IsMove item s p
Fits item text s (MovesBefore p) = IsMove item s p × (is_deck_card p ≡ false)
Fits item text s (NewSet name) = IsNewName item name s.library
Fits item text s (NewDeck name sort noprop first) = IsNewName item name s.library × (is_deck_kind sort ≡ true) × (first ≡ text)
Fits item text s (AddsAtEnd d next added) = (s.insert_point ≡ End d next) × (added ≡ text)
Fits item text s (AddsInside d after c added) = IsTextInside text s d after c added
Fits item text s (Switches active c p q) = IsSwitch item s c p q
Fits item text s (AddsYank c added found) = IsYankBy item text s c added found
Fits item text s (Purges gone) = is_purge item ≡ true
Fits item text s (PurgesIn ages) = (is_purge item ≡ true) × (pairs : List IdentIn) × (pairs_purged pairs s.library ≡ Ok ages)

-- ---- what a line was judged to be fits it

deck_fits : (item : ItemView) (name : List ℕ) (sort : Kind) (noprop : Bool) (text : List ℕ) (s : State) → new_name_of item ≡ Some name
    → is_deck_kind sort ≡ true → IfOk (deck_judged name sort noprop text s) (Fits item text s)
deck_fits item name sort noprop text s named deck =
    bind_all _ (new_name name s.library) _ (λ b free. (record { named = named; result = b; free = free }, deck, refl))

switch_fits : (item : ItemView) (active : Bool) (first last : CardRef) (text : List ℕ) (s : State) → cards_of_item item ≡ first ∷ last ∷ []
    → IfOk (switch_judged active first last s) (Fits item text s)
switch_fits item active first last text s named =
    after_need _ fault.NoIdent s.current_set _ (λ c held. after_need _ fault.CardUnknown (place_of first s.library) _ (λ p from.
    after_need _ fault.CardUnknown (place_of last s.library) _ (λ q to.
    after_refusal _ (not (p.deck == q.deck) || nat_lt q.index p.index) fault.RangeOrder _ (λ ordered.
    after_refusal _ (is_deck_card p) fault.DeckCard _ (λ _.
    record { held = held; first = first; last = last; named = named; from = from; to = to; ordered = ordered })))))

text_fits : (item : ItemView) (text : List ℕ) (point : InsertPoint) (s : State) → s.insert_point ≡ point
    → IfOk (text_judged text point s.current_set) (Fits item text s)
text_fits item text Nowhere s is = tt
text_fits item text (End d next) s is = (is, refl)
text_fits item text (Inside d after) s is =
    after_need _ fault.TextNowhere s.current_set _ (λ c held. after_refusal _ (d == 0) fault.YankText _ (λ outside.
    record { point = is; held = held; outside = outside; same_text = refl }))

yank_fits : (item : ItemView) (text : List ℕ) (targets : ℕ → LibraryView → Result (List Target) FaultKind) (s : State) → is_yank item ≡ true
    → ((z : ℕ) (found : List Target) → targets z s.library ≡ Ok found → AreNamed z s.library found) → IfOk (yank_judged text targets s) (Fits item text s)
yank_fits item text targets s yanks named =
    after_need _ fault.NoIdent s.current_set _ (λ c held. bind_all _ (targets c.ident s.library) _ (λ found e.
    record { yanks = yanks; held = held; same_text = refl; targets = named c.ident found e }))

pub judged_fits : (item : ItemView) (text : List ℕ) (s : State) → IfOk (judged item text s) (Fits item text s)
judged_fits Text text s = text_fits Text text s.insert_point s refl
judged_fits (Call name) text s = text_fits (Call name) text s.insert_point s refl
judged_fits (Ident name) text s = bind_all _ (new_name name s.library) _ (λ b free. record { named = refl; result = b; free = free })
judged_fits (Deck name) text s = deck_fits (Deck name) name kind.Deck false text s refl refl
judged_fits (CommonDeck name noprop) text s = deck_fits (CommonDeck name noprop) name kind.Common noprop text s refl refl
judged_fits (Insert card) text s =
    after_need _ fault.NoIdent s.current_set _ (λ c held. after_need _ fault.CardUnknown (place_of card s.library) _ (λ p at.
    after_refusal _ (p.deck == 0) fault.YankText _ (λ outside.
    record { current_set = c; held = held; card = card; named = refl; at = at; outside = outside })))
judged_fits (Before card) text s =
    after_need _ fault.NoIdent s.current_set _ (λ c held. after_need _ fault.CardUnknown (place_of card s.library) _ (λ p at.
    after_refusal _ (p.deck == 0) fault.YankText _ (λ outside. after_refusal _ (is_deck_card p) fault.DeckCard _ (λ later.
    (record { current_set = c; held = held; card = card; named = refl; at = at; outside = outside }, later)))))
judged_fits (Delete first last) text s = switch_fits (Delete first last) false first last text s refl
judged_fits (Restore first last) text s = switch_fits (Restore first last) true first last text s refl
judged_fits (Yank ranges) text s = yank_fits (Yank ranges) text (sets_yanked ranges) s refl (λ z found e. BySets ranges e)
judged_fits (SelYank pairs) text s = yank_fits (SelYank pairs) text (pairs_yanked pairs) s refl (λ z found e. ByPairs pairs e)
judged_fits (YankDeck names) text s = yank_fits (YankDeck names) text (decks_yanked names) s refl (λ z found e. ByDecks names e)
judged_fits (Purge ranges) text s = bind_all _ (idents_purged ranges s.library) _ (λ _ _. refl)
judged_fits (PurgeFrom name) text s = bind_all _ (known_ident name s.library) _ (λ _ _. refl)
judged_fits (SelPurge pairs) text s = bind_all _ (pairs_purged pairs s.library) _ (λ ages e. (refl, pairs, e))
judged_fits (PurDeck ranges) text s = bind_all _ (decks_purged ranges s.library) _ (λ _ _. refl)
judged_fits (Compile ranges) text s = tt

-- ---- a law of each edit is one of each line

-- what each purge keeps is kept by all
pub purges_keep : (Q : LibraryView → Type 0) (ages : List AgesIn) (l : LibraryView) → ((a : AgesIn) (m : LibraryView) → Q m → Q (purged_in a.deck a.ident m))
    → Q l → Q (purged_in_all ages l)
purges_keep Q [] l each q = q
purges_keep Q (a ∷ ages) l each q = purges_keep Q ages (purged_in a.deck a.ident l) each (each a l q)

-- the library after an edit is within the limits, if the edit adds to it
abbrev pub IsWithin : State → Edit → Type 0
IsWithin s e = adds e ≡ true → is_within_limits (carried e s).library ≡ true

pub of_each : (Q : State → Type 0) (item : ItemView) (text : List ℕ) (s : State)
    → ((e : Edit) → Fits item text s e → IsWithin s e → Q (carried e s)) → IfOk (carried_out (judged item text s) s) Q
of_each Q item text s all = go (judged item text s) (judged_fits item text s)
  where
    if_adds : (a b : Bool) → (a && not b) ≡ false → a ≡ true → b ≡ true
    if_adds true true e f = refl
    if_adds true false e f = absurd (cc)
    if_adds false b e f = absurd (cc)

    go : (r : Result Edit FaultKind) → IfOk r (Fits item text s) → IfOk (carried_out r s) Q
    go (Ok e) fits =
        let within = is_within_limits (carried e s).library in
        after_refusal Q (adds e && not within) fault.Full _ (λ room. all e fits (if_adds (adds e) within room))
    go (Err f) fits = tt

-- the same of an accepted line
pub of_step : (Q : State → Type 0) (line : LineView) (s t : State) → step line s ≡ Ok t
    → ((e : Edit) → Fits line.item line.text s e → IsWithin s e → Q (carried e s)) → Q t
of_step Q line s t h all = subst (λ (r : Result State FaultKind). IfOk r Q) h (of_each Q line.item line.text s all)

-- what each accepted line keeps is kept by an accepted run
pub steps_keep : (Q : State → Type 0) (lines : List LineView) (s t : State)
    → ((line : LineView) (x y : State) → Q x → step line x ≡ Ok y → Q y) → Q s → stepped lines s ≡ Ok t → Q t
steps_keep Q [] s t each q h = holds_of Q s t h q
steps_keep Q (line ∷ lines) s t each q h =
    bind_ok (at_line line.number (step line s)) (stepped lines) t (Q t) h (λ x e.
    steps_keep Q lines x t each (each line s x q (line_is line.number (step line s) x e)))
