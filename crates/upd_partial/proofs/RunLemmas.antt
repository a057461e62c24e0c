-- Plain runs on a part of a library: what they leave in the part is what they leave in the whole, and what is left out stays.
use Rattle.upd_partial.proofs.Common.{◌≡◌, ℕ, ◌-◌, ◌<◌, ◌≤◌, Bool, true, false, cond, ◌&&◌, List, [], ◌∷◌, ◌++◌, length, Option, Some, None, Result, Ok, Err}
use Rattle.upd_partial.proofs.Common.{refl, sym, ap, ◌∙◌, subst, arith, IsTrue, insert, AllByRecursion, option_map, IfOk, bytes_eq, CardRef, Fault, FaultKind}
use Rattle.upd_partial.proofs.Common.{◌>>=◌, at_line, Entry, entered_range, introduced, next_age, new_card, DeckView, LibraryView, place_in, LineView, State}
use Rattle.upd_partial.proofs.Common.{stepped, Edit, Stays, MovesAfter, MovesBefore, NewSet, NewDeck, AddsAtEnd, AddsInside, Switches, carried, step}
use Rattle.upd_partial.proofs.Common.{all_weaker, is_plain, cards_of_item, is_plain_item, left_out}
use Rattle.std.proofs.lemmas.Bool.{and_parts}
use Rattle.std.proofs.lemmas.List.Folds.{find-append}
use Rattle.std.specs.Option.{option_or}
use Rattle.upd_core.specs.declared.ident.Ident.{Ident as OneIdent}
use Rattle.upd_core.specs.declared.ident.Kind.{Kind}
use Rattle.upd_core.specs.declared.ident.Kind.TheVariants as kind
use Rattle.upd_core.specs.Library.{held_named}
use Rattle.upd_apply.proofs.EditLemmas.{of_each}
use Rattle.upd_laws.proofs.BackLibraryLemmas.{idents-with_card, idents-with_entries, length-introduced}
use Rattle.upd_partial.proofs.PartLemmas.{AreNotIn, IsNotIn, with_cards_left, with_deck_left}
use Rattle.upd_partial.proofs.StepLemmas.{Leaves, Misses, SpotStays, in_part, misses, parted, step_same}

-- ---- new names

-- no card of these decks is of an ident that a library doesn't list
abbrev pub AreOfListed : List DeckView → LibraryView → Type 0
AreOfListed gone l = (z n : ℕ) → length l.idents < z → place_in gone z n ≡ None

named_more : (gone : List DeckView) (l : LibraryView) (name : List ℕ) (sort : Kind) (noprop : Bool) (card : CardRef) → AreOfListed gone l
    → IsNotIn gone l card → IsNotIn gone (introduced name sort noprop l) card
named_more gone l name sort noprop card old lacks z is = go (held_named card.name l.idents) refl
  where
    new : OneIdent
    new = record { name = name; age = next_age l; kind = sort; noprop = noprop; held = true }

    split : held_named card.name (l.idents ++ new ∷ []) ≡ option_or (held_named card.name l.idents) (held_named card.name (new ∷ []))
    split = find-append (λ (i : OneIdent). i.held && bytes_eq i.name card.name) l.idents (new ∷ [])

    last : (b : Bool) → option_map (λ (i : OneIdent). i.age) (cond b (Some new) None) ≡ Some z → place_in gone z card.number ≡ None
    last true e = let same : next_age l ≡ z = cc in old z card.number (omega (arith, same))
    last false e = absurd (cc)

    found : (o : Option OneIdent) → held_named card.name l.idents ≡ o
        → option_map (λ (j : OneIdent). j.age) (option_or o (held_named card.name (new ∷ []))) ≡ Some z
    found o e = ap (option_map (λ (j : OneIdent). j.age)) (sym (split ∙ ap (λ o. option_or o (held_named card.name (new ∷ []))) e)) ∙ is

    go : (o : Option OneIdent) → held_named card.name l.idents ≡ o → place_in gone z card.number ≡ None
    go (Some i) e = lacks z (ap (option_map (λ (j : OneIdent). j.age)) e ∙ found (Some i) e)
    go None e = last (bytes_eq name card.name) (found None e)

-- ---- what a line leaves of what is left out

pub record Keeps (out : ℕ → Bool) (s t : State) : Type 0 where
  pub left : left_out out t.library ≡ left_out out s.library
  pub more : length s.library.idents ≤ length t.library.idents
  pub insert_point : SpotStays out t.insert_point
  pub named : (card : CardRef) → IsNotIn (left_out out s.library) s.library card → IsNotIn (left_out out s.library) t.library card

-- a line that leaves the directory as it is
same_names : (out : ℕ → Bool) (s t : State) → left_out out t.library ≡ left_out out s.library → t.library.idents ≡ s.library.idents
    → SpotStays out t.insert_point
    → Keeps out s t
same_names out s t left same insert_point = record {
  left = left;
  more = rw same (omega arith);
  insert_point = insert_point;
  named = λ card lacks z is. lacks z (ap (λ is. option_map (λ (i : OneIdent). i.age) (held_named card.name is)) (sym same) ∙ is);
}

edit_keeps : (out : ℕ → Bool) (s : State) (e : Edit) → Misses out s e → Leaves out s → AreOfListed (left_out out s.library) s.library
    → Keeps out s (carried e s)
edit_keeps out s (NewSet name) stays leaves old =
    let more : length (introduced name kind.Set false s.library).idents ≡ next_age s.library = length-introduced s.library name kind.Set false in
    record {
      left = refl;
      more = omega (arith, more);
      insert_point = tt;
      named = λ card. named_more (left_out out s.library) s.library name kind.Set false card old;
    }
edit_keeps out s (NewDeck name sort noprop text) stays leaves old =
    let z = next_age s.library in
    let d : DeckView = record { ident = z; cards = new_card z 1 text [] ∷ [] } in
    let l = introduced name sort noprop s.library in
    let more : length l.idents ≡ z = length-introduced s.library name sort noprop in
    record {
      left = with_deck_left out d l stays;
      more = omega (arith, more);
      insert_point = stays;
      named = λ card. named_more (left_out out s.library) s.library name sort noprop card old;
    }
edit_keeps out s (AddsAtEnd d next text) stays leaves old =
    same_names out s _ (with_cards_left out d (λ cards. insert cards (length cards - 0) (new_card d next text [])) s.library stays)
    (idents-with_card d 0 _ s.library) stays
edit_keeps out s (AddsInside d after c text) stays leaves old =
    same_names out s _ (with_cards_left out d (λ cards. insert cards (length cards - after) (new_card c.ident c.next text [])) s.library stays)
    (idents-with_card d after _ s.library) leaves.insert_point
edit_keeps out s (Switches active c p q) stays leaves old =
    let e : Entry = record { ident = c.ident; active = active } in
    same_names out s _ (with_cards_left out p.deck (entered_range p.index q.index e) s.library stays.0)
    (idents-with_entries p.deck p.index q.index e s.library) stays.1
edit_keeps out s Stays stays leaves old = same_names out s s refl refl leaves.insert_point
edit_keeps out s (MovesAfter p) stays leaves old = same_names out s _ refl refl stays
edit_keeps out s (MovesBefore p) stays leaves old = same_names out s _ refl refl stays
edit_keeps out s _ stays leaves old = absurd stays

step_keeps : (out : ℕ → Bool) (line : LineView) (s : State) → Leaves out s → AreOfListed (left_out out s.library) s.library
    → is_plain_item line.item ≡ true → AllByRecursion (IsNotIn (left_out out s.library) s.library) (cards_of_item line.item)
    → IfOk (step line s) (Keeps out s)
step_keeps out line s leaves old plain lacks = of_each (Keeps out s) line.item line.text s (λ e fits within.
    edit_keeps out s e (misses out line.item line.text s e fits leaves plain lacks) leaves old)

-- ---- lines one after the other

leaves_more : (out : ℕ → Bool) (s t : State) → Leaves out s → Keeps out s t → Leaves out t
leaves_more out s t leaves k = record {
  fresh = λ z later. leaves.fresh z (omega (arith, later, k.more));
  insert_point = k.insert_point;
}

listed_more : (out : ℕ → Bool) (s t : State) → AreOfListed (left_out out s.library) s.library → Keeps out s t → AreOfListed (left_out out t.library) t.library
listed_more out s t old k z n later = ap (λ ds. place_in ds z n) k.left ∙ old z n (omega (arith, later, k.more))

lines_more : (out : ℕ → Bool) (s t : State) (lines : List LineView) → Keeps out s t → AreNotIn (left_out out s.library) s.library lines
    → AreNotIn (left_out out t.library) t.library lines
lines_more out s t lines k lacks =
    subst (λ gone. AreNotIn gone t.library lines) (sym k.left)
    (all_weaker _ _ lines (λ line all. all_weaker _ _ (cards_of_item line.item) k.named all) lacks)

-- what a run does to a part, and what it leaves of what is left out
pub record Runs (out : ℕ → Bool) (lines : List LineView) (s : State) : Type 0 where
  pub same : out 0 ≡ false → stepped lines (parted out s) ≡ in_part out (stepped lines s)
  pub left : IfOk (stepped lines s) (λ t. left_out out t.library ≡ left_out out s.library)

pub runs : (out : ℕ → Bool) (lines : List LineView) (s : State) → Leaves out s → AreOfListed (left_out out s.library) s.library → IsTrue (is_plain lines)
    → AreNotIn (left_out out s.library) s.library lines → Runs out lines s
runs out [] s leaves old plain lacks = record { same = λ yanks. refl; left = refl }
runs out (line ∷ lines) s leaves old plain lacks =
    let both = and_parts (is_plain_item line.item) (is_plain lines) plain in
    go (step line s) refl (λ yanks. step_same out line s yanks leaves both.0 lacks.0)
    (step_keeps out line s leaves old both.0 lacks.0)
    (λ t k. runs out lines t (leaves_more out s t leaves k) (listed_more out s t old k) both.1 (lines_more out s t lines k lacks.1))
  where
    on : Result State FaultKind → Result State Fault
    on r = at_line line.number r >>= stepped lines

    left_on : (t : State) → left_out out t.library ≡ left_out out s.library → (r : Result State Fault)
        → IfOk r (λ u. left_out out u.library ≡ left_out out t.library)
        → IfOk r (λ u. left_out out u.library ≡ left_out out s.library)
    left_on t e (Ok u) h = h ∙ e
    left_on t e (Err f) h = tt

    start : (r : Result State FaultKind) → step line s ≡ r → (out 0 ≡ false → step line (parted out s) ≡ in_part out (step line s)) → out 0 ≡ false
        → step line (parted out s) ≡ in_part out r
    start r e same yanks = same yanks ∙ ap (in_part out) e

    go : (r : Result State FaultKind) → step line s ≡ r → (out 0 ≡ false → step line (parted out s) ≡ in_part out (step line s))
        → IfOk (step line s) (Keeps out s)
        → ((t : State) → Keeps out s t → Runs out lines t) → Runs out (line ∷ lines) s
    go (Ok t) e same keeps later =
        let k : Keeps out s t = rw e at keeps in
        let next = later t k in
        record {
          same = λ yanks. ap on (start (Ok t) e same yanks) ∙ next.same yanks ∙ ap (λ r. in_part out (on r)) (sym e);
          left = subst (λ r. IfOk (on r) (λ u. left_out out u.library ≡ left_out out s.library)) (sym e) (left_on t k.left (stepped lines t) next.left);
        }
    go (Err f) e same keeps later = record {
      same = λ yanks. ap on (start (Err f) e same yanks) ∙ ap (λ r. in_part out (on r)) (sym e);
      left = subst (λ r. IfOk (on r) (λ u. left_out out u.library ≡ left_out out s.library)) (sym e) tt;
    }
