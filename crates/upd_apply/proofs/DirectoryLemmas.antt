-- Each line extends the directory.
use Rattle.upd_apply.proofs.Common.{◌≡◌, ℕ, Bool, true, false, not, List, [], ◌∷◌, ◌++◌, map, length, refl, sym, subst, ◌∙◌, ◌==◌, LibraryView, LineView}
use Rattle.upd_apply.proofs.Common.{State, stepped, Edit, NewSet, NewDeck, AddsAtEnd, AddsInside, Switches, Purges, PurgesIn, carried, step}
use Rattle.std.proofs.Common.{◌-◌, inl, inr}
use Rattle.std.specs.Prelude.{◌&&◌, ◌⊎◌, insert, cond, Ok}
use Rattle.upd_core.specs.declared.ident.Ident.{Ident as Listed}
use Rattle.upd_core.specs.Edits.{new_card, unheld, without_idents, entered_range}
use Rattle.upd_core.specs.First.{at_first}
use Rattle.upd_core.specs.Library.{CardView, is_deck, with_cards}
use Rattle.upd_core.specs.Sound.{Continues}
use Rattle.upd_apply.proofs.EditLemmas.{of_step, purges_keep, steps_keep}

-- ---- directories

pub continues_same : (idents : List Listed) → Continues idents idents
continues_same [] = tt
continues_same (i ∷ idents) = (inl refl, continues_same idents)

pub continues_more : (idents more : List Listed) → Continues idents (idents ++ more)
continues_more [] more = tt
continues_more (i ∷ idents) more = (inl refl, continues_more idents more)

pub continues_unheld : (gone : ℕ → Bool) (idents : List Listed) → Continues idents (map (unheld gone) idents)
continues_unheld gone [] = tt
continues_unheld gone (i ∷ idents) = (go i.held refl (not (gone i.age)), continues_unheld gone idents)
  where
    go : (h : Bool) → i.held ≡ h → (b : Bool) → (record i { held = h && b } ≡ i) ⊎ (record i { held = h && b } ≡ record i { held = false })
    go true e true = inl (λ t. record i { held = sym e t })
    go true e false = inr refl
    go false e b = inr refl

both : (i j k : Listed) → (j ≡ i) ⊎ (j ≡ record i { held = false }) → (k ≡ j) ⊎ (k ≡ record j { held = false }) → (k ≡ i) ⊎ (k ≡ record i { held = false })
both i j k (inl e) (inl f) = inl (f ∙ e)
both i j k (inl e) (inr f) = inr (f ∙ (λ t. record (e t) { held = false }))
both i j k (inr e) (inl f) = inr (f ∙ e)
both i j k (inr e) (inr f) = inr (f ∙ (λ t. record (e t) { held = false }))

pub continues_on : (a b c : List Listed) → Continues a b → Continues b c → Continues a c
continues_on [] b c p q = tt
continues_on (i ∷ a) [] c p q = absurd p
continues_on (i ∷ a) (j ∷ b) [] p q = absurd q
continues_on (i ∷ a) (j ∷ b) (k ∷ c) p q = (both i j k p.0 q.0, continues_on a b c p.1 q.1)

pub idents_with : (age : ℕ) (change : List CardView → List CardView) (l : LibraryView) → (with_cards age change l).idents ≡ l.idents
idents_with age change l = go (age == 0)
  where
    go : (b : Bool) → (cond b (record l { yanks = change l.yanks }) (record l {
      decks = at_first (is_deck age)
          (λ d. record d { cards = change d.cards }) l.decks;
    })).idents ≡ l.idents
    go true = refl
    go false = refl

-- ---- lines

-- the directory of a state is extended by another
abbrev pub GoesOn : State → State → Type 0
GoesOn s t = Continues s.library.idents t.library.idents

pub cards_go : (age : ℕ) (change : List CardView → List CardView) (l : LibraryView) → Continues l.idents (with_cards age change l).idents
cards_go age change l = subst (Continues l.idents) (sym (idents_with age change l)) (continues_same l.idents)

edit_goes : (s : State) (e : Edit) → GoesOn s (carried e s)
edit_goes s (NewSet name) = continues_more s.library.idents _
edit_goes s (NewDeck name sort noprop text) = continues_more s.library.idents _
edit_goes s (AddsAtEnd d next text) = cards_go d (λ cards. insert cards (length cards - 0) (new_card d next text [])) s.library
edit_goes s (AddsInside d after c text) = cards_go d (λ cards. insert cards (length cards - after) (new_card c.ident c.next text [])) s.library
edit_goes s (Switches active c p q) = cards_go p.deck (entered_range p.index q.index (record { ident = c.ident; active = active })) s.library
edit_goes s (Purges gone) = continues_unheld gone s.library.idents
edit_goes s (PurgesIn ages) =
    purges_keep (λ m. Continues s.library.idents m.idents) ages s.library
    (λ a m goes. continues_on s.library.idents m.idents _ goes (cards_go a.deck (without_idents (λ x. x == a.ident)) m)) (continues_same s.library.idents)
edit_goes s _ = continues_same s.library.idents

pub step_goes : (line : LineView) (s t : State) → step line s ≡ Ok t → GoesOn s t
step_goes line s t h = of_step (GoesOn s) line s t h (λ e fits within. edit_goes s e)

-- ---- runs

-- a run that is accepted
pub steps_go_on : (lines : List LineView) (s t : State) → stepped lines s ≡ Ok t → GoesOn s t
steps_go_on lines s t h =
    steps_keep (GoesOn s) lines s t (λ line x y goes e. continues_on s.library.idents x.library.idents y.library.idents goes (step_goes line x y e))
    (continues_same s.library.idents) h

-- from the directory that the steps began with
pub goes_on_from : (l : LibraryView) (lines : List LineView) (s t : State) → s.library.idents ≡ l.idents → stepped lines s ≡ Ok t
    → Continues l.idents t.library.idents
goes_on_from l lines s t same e = subst (λ i. Continues i t.library.idents) same (steps_go_on lines s t e)
