-- One line that purges nothing: the library only grows, by idents from x on, and the current set is one of these.
use Rattle.upd_laws.proofs.Common.{◌≡◌, ℕ, ◌≤◌, Bool, true, false, not, List, [], ◌∷◌, length, refl, sym, ◌∙◌, arith, ◌==◌, IsTrue, list_all, and_parts}
use Rattle.upd_laws.proofs.Common.{Entry, Fault, Kind, introduced, next_age, new_card, with_deck, DeckView, LibraryView, ◌>>=◌, at_line, ItemView, LineView}
use Rattle.upd_laws.proofs.Common.{InsertPoint, Nowhere, End, Inside, State, Reached, started, stepped, applied, named_decks, Edit, Stays, NewSet, NewDeck}
use Rattle.upd_laws.proofs.Common.{AddsAtEnd, AddsInside, Switches, AddsYank, Purges, PurgesIn, carried, step, line_is, Fits, of_step}
use Rattle.std.proofs.Common.{Option, Some, None, Result, Ok, Err, ltb-false}
use Rattle.std.specs.Result.{IfOk}
use Rattle.std.proofs.lemmas.Bool.{or_parts, not-true}
use Rattle.std.proofs.lemmas.Result.{IfOk-weaker}
use Rattle.upd_core.specs.declared.ident.Kind.TheVariants as kind
use Rattle.upd_apply.specs.declared.state.CurrentSet.{CurrentSet}
use Rattle.upd_apply.specs.Directives.{is_purge}
use Rattle.upd_apply.proofs.BindLemmas.{bind_all}
use Rattle.upd_laws.specs.PurgingBack.{purges_nothing, all_applied}
use Rattle.upd_laws.proofs.BackLibraryLemmas.{Within, Grows, grows, grows_twice, no_fewer, grows_card, grows_entries, grows_yank, grows_ident, grows_deck}
use Rattle.upd_laws.proofs.BackLibraryLemmas.{length-introduced, idents-with_card, idents-with_entries}

-- ---- states

abbrev HandIn : ℕ → ℕ → Option CurrentSet → Type 0
HandIn x n None = Unit {0}
HandIn x n (Some current_set) = Within x n current_set.ident

abbrev SpotIn : ℕ → ℕ → InsertPoint → Type 0
SpotIn x n Nowhere = Unit {0}
SpotIn x n (End d next) = Within x n d
SpotIn x n (Inside d after) = Unit {0}

hand_later : (x n m : ℕ) → n ≤ m → (current_set : Option CurrentSet) → HandIn x n current_set → HandIn x m current_set
hand_later x n m le None w = tt
hand_later x n m le (Some current_set) w = (w.0, omega (arith, w))

-- the current set and the insertion point are of an ident from x on
pub record Ready (x : ℕ) (s : State) : Type 0 where
  pub from : x ≤ next_age s.library
  pub current_set : HandIn x (length s.library.idents) s.current_set
  pub insert_point : SpotIn x (length s.library.idents) s.insert_point

-- what a line leaves
pub record Next (x : ℕ) (s t : State) : Type 0 where
  pub library : Grows x s.library t.library
  pub ready : Ready x t

-- a library that was extended with the same directory
same_idents : (x : ℕ) (s t : State) → Ready x s → t.library.idents ≡ s.library.idents → Grows x s.library t.library
    → HandIn x (length s.library.idents) t.current_set → SpotIn x (length s.library.idents) t.insert_point → Next x s t
same_idents x s t r e g current_set insert_point =
    record { library = g; ready = record { from = rw e r.from; current_set = rw e current_set; insert_point = rw e insert_point } }

-- ---- lines

deck_next : (x : ℕ) (name : List ℕ) (sort : Kind) (noprop : Bool) (text : List ℕ) (s : State) → Ready x s
    → Next x s (carried (NewDeck name sort noprop text) s)
deck_next x name sort noprop text s r =
    let z = next_age s.library in
    let l = introduced name sort noprop s.library in
    let d : DeckView = record { ident = z; cards = new_card z 1 text [] ∷ [] } in
    let more : length l.idents ≡ z = length-introduced s.library name sort noprop in
    let new : Within x (length l.idents) z = (r.from, omega arith) in
    record {
      library = grows_twice x s.library l (with_deck d l) (grows_ident x s.library name sort noprop) (grows_deck x l d (new, (new, tt)));
      ready = record { from = omega (arith, r.from); current_set = hand_later x _ _ (omega arith) s.current_set r.current_set; insert_point = new };
    }

-- the current set is of an ident from x on
hand_within : (x : ℕ) (s : State) (c : CurrentSet) → Ready x s → s.current_set ≡ Some c → Within x (length s.library.idents) c.ident
hand_within x s c r held = rw held at r.current_set

-- whether an edit purges
abbrev pub removes : Edit → Bool
removes (Purges gone) = true
removes (PurgesIn ages) = true
removes _ = false

removes_none : (item : ItemView) (text : List ℕ) (s : State) (e : Edit) → Fits item text s e → is_purge item ≡ false → removes e ≡ false
removes_none item text s (Purges gone) fits plain = sym fits ∙ plain
removes_none item text s (PurgesIn ages) fits plain = sym fits.0 ∙ plain
removes_none item text s _ fits plain = refl

pub edit_next : (x : ℕ) (item : ItemView) (text : List ℕ) (s : State) (e : Edit) → Fits item text s e → Ready x s → removes e ≡ false
    → Next x s (carried e s)
edit_next x item text s (NewSet name) fits r plain =
    let more : length (introduced name kind.Set false s.library).idents ≡ next_age s.library = length-introduced s.library name kind.Set false in
    record {
      library = grows_ident x s.library name kind.Set false;
      ready = record { from = omega (arith, r.from); current_set = (r.from, omega arith); insert_point = tt };
    }
edit_next x item text s (NewDeck name sort noprop first) fits r plain = deck_next x name sort noprop first s r
edit_next x item text s (AddsAtEnd d next added) fits r plain =
    let within : Within x (length s.library.idents) d = rw fits.0 at r.insert_point in
    same_idents x s _ r (idents-with_card d 0 _ s.library) (grows_card x s.library d 0 d next added [] within) r.current_set within
edit_next x item text s (AddsInside d after c added) fits r plain =
    let within = hand_within x s c r fits.held in
    same_idents x s _ r (idents-with_card d after _ s.library) (grows_card x s.library d after c.ident c.next added [] within) within r.insert_point
edit_next x item text s (Switches active c p q) fits r plain =
    let e : Entry = record { ident = c.ident; active = active } in
    let ordered : p.index ≤ q.index = ltb-false q.index p.index (or_parts (not (p.deck == q.deck)) _ fits.ordered).1 in
    same_idents x s _ r (idents-with_entries p.deck p.index q.index e s.library)
    (grows_entries x s.library p.deck p.index q.index e ordered (hand_within x s c r fits.held)) r.current_set tt
edit_next x item text s (AddsYank c added found) fits r plain =
    let within = hand_within x s c r fits.held in
    same_idents x s _ r refl (grows_yank x s.library c.ident c.next added found within) within tt
edit_next x item text s (Purges gone) fits r plain = absurd (cc)
edit_next x item text s (PurgesIn ages) fits r plain = absurd (cc)
edit_next x item text s Stays fits r plain = same_idents x s s r refl (grows x s.library) r.current_set r.insert_point
edit_next x item text s _ fits r plain = same_idents x s _ r refl (grows x s.library) r.current_set tt

-- ---- runs

after_ok : {A B : Type 0} (P : A → Type 0) (Q : B → Type 0) (r : Result A Fault) (f : A → Result B Fault)
    → IfOk r P → ((a : A) → P a → IfOk (f a) Q) → IfOk (r >>= f) Q
after_ok P Q (Ok a) f p h = h a p
after_ok P Q (Err e) f p h = tt

next_twice : (x : ℕ) (s t u : State) → Next x s t → Next x t u → Next x s u
next_twice x s t u n m = record { library = grows_twice x s.library t.library u.library n.library m.library; ready = m.ready }

stepped_next : (x : ℕ) (lines : List LineView) (s : State) → Ready x s → IsTrue (purges_nothing lines) → IfOk (stepped lines s) (Next x s)
stepped_next x [] s r p = record { library = grows x s.library; ready = r }
stepped_next x (line ∷ lines) s r p =
    let both = and_parts (not (is_purge line.item)) (purges_nothing lines) p in
    bind_all (Next x s) (at_line line.number (step line s)) (stepped lines) (λ t e.
    let n = of_step (Next x s) line s t (line_is line.number (step line s) t e) (λ e fits within.
    edit_next x line.item line.text s e fits r (removes_none line.item line.text s e fits (not-true (is_purge line.item) both.0))) in
    IfOk-weaker (stepped lines t) (Next x t) (Next x s) (λ u. next_twice x s t u n) (stepped_next x lines t n.ready both.1))

applied_grows : (x : ℕ) (lines : List LineView) (l : LibraryView) → x ≤ next_age l → IsTrue (purges_nothing lines)
    → IfOk (applied lines l) (λ reached. Grows x l reached.library)
applied_grows x lines l le p =
    let ready : Ready x (started l) = record { from = le; current_set = tt; insert_point = tt } in
    after_ok (Next x (started l)) _ (stepped lines (started l)) _ (stepped_next x lines (started l) ready p) (λ s n.
    bind_all _ (named_decks lines s.library) _ (λ _ _. n.library))

-- runs that purge nothing only let a library grow
pub all_applied_grows : (x : ℕ) (runs : List (List LineView)) (l : LibraryView) → x ≤ next_age l → IsTrue (list_all purges_nothing runs)
    → IfOk (all_applied runs l) (Grows x l)
all_applied_grows x [] l le p = grows x l
all_applied_grows x (run ∷ runs) l le p =
    let both = and_parts (purges_nothing run) (list_all purges_nothing runs) p in
    after_ok (λ (reached : Reached). Grows x l reached.library) (Grows x l) (applied run l) _ (applied_grows x run l le both.0) (λ reached g.
    let later : x ≤ next_age reached.library = omega (arith, no_fewer x l reached.library g) in
    IfOk-weaker (all_applied runs reached.library) (Grows x reached.library) (Grows x l) (λ m. grows_twice x l reached.library m g)
    (all_applied_grows x runs reached.library later both.1))
