-- Moves of a deck's cards in order, on a row and on the tables; and changes part by part.
use Rattle.std.proofs.Common.{◌≡◌, ℕ, ◌==◌, nat_le, Bool, true, false, ◌&&◌, if◌then◌else◌, List, [], ◌∷◌, ◌++◌, map}
use Rattle.std.proofs.Common.{refl, sym, ap, ◌∙◌}
use Rattle.upd_records.specs.Changes.{ChangeView, done, done_all, moved_row, shifted}
use Rattle.upd_records.specs.Fits.{AllFit}
use Rattle.upd_records.specs.Rows.{CardRow, Rows}
use Rattle.upd_row_store.specs.declared.moves.Move.{Move}
use Rattle.upd_row_store.specs.Shifts.{as_change, moved_all}

mapped_id : {A : Type 0} (xs : List A) → map (λ x. x) xs ≡ xs
mapped_id [] = refl
mapped_id (x ∷ xs) = ap (λ l. x ∷ l) (mapped_id xs)

mapped_twice : {A : Type 0} (f g : A → A) (xs : List A) → map f (map g xs) ≡ map (λ x. f (g x)) xs
mapped_twice f g [] = refl
mapped_twice f g (x ∷ xs) = ap (λ l. f (g x) ∷ l) (mapped_twice f g xs)

module _ (deck : ℕ) where
  pub all_moved : (ms : List Move) (it : Rows) → done_all (map (as_change deck) ms) it ≡ record it { cards = map (moved_all deck ms) it.cards }
  all_moved [] it = ap (λ cards. record it { cards = cards }) (sym (mapped_id it.cards))
  all_moved (m ∷ ms) it =
      all_moved ms (done (as_change deck m) it)
      ∙ ap (λ cards. record it { cards = cards }) (mapped_twice (moved_all deck ms) (moved_row deck m.from m.by) it.cards)

  -- ---- what moves leave of a row

  pub deck_stays : (ms : List Move) (r : CardRow) → (moved_all deck ms r).deck ≡ r.deck
  deck_stays [] r = refl
  deck_stays (m ∷ ms) r = deck_stays ms (moved_row deck m.from m.by r) ∙ go ((r.deck == deck) && nat_le m.from r.pos)
    where
      go : (b : Bool) → (if b then record r { pos = shifted m.by r.pos } else r).deck ≡ r.deck
      go true = refl
      go false = refl

  pub card_stays : (ms : List Move) (r : CardRow) → (moved_all deck ms r).card ≡ r.card
  card_stays [] r = refl
  card_stays (m ∷ ms) r = card_stays ms (moved_row deck m.from m.by r) ∙ go ((r.deck == deck) && nat_le m.from r.pos)
    where
      go : (b : Bool) → (if b then record r { pos = shifted m.by r.pos } else r).card ≡ r.card
      go true = refl
      go false = refl

  pub other_stays : (ms : List Move) (r : CardRow) → (r.deck == deck) ≡ false → moved_all deck ms r ≡ r
  other_stays [] r other = refl
  other_stays (m ∷ ms) r other =
      ap (λ a. moved_all deck ms (if a && nat_le m.from r.pos then record r { pos = shifted m.by r.pos } else r)) other ∙ other_stays ms r other

-- ---- changes part by part

pub fits_parts : (cs ds : List ChangeView) (it : Rows) → AllFit (cs ++ ds) it → AllFit cs it × AllFit ds (done_all cs it)
fits_parts [] ds it h = (tt, h)
fits_parts (c ∷ cs) ds it h = let more = fits_parts cs ds (done c it) h.1 in ((h.0, more.0), more.1)

pub done_parts : (cs ds : List ChangeView) (it : Rows) → done_all ds (done_all cs it) ≡ done_all (cs ++ ds) it
done_parts [] ds it = refl
done_parts (c ∷ cs) ds it = done_parts cs ds (done c it)
