-- What tests of rows decide together.
use Rattle.upd_examine.proofs.Common.{◌≡◌, Bool, ◌&&◌, List, sym, ◌∙◌, subst, ◌↔◌, IsTrue, and_parts, and_from, LibraryView, is_within_limits, IsSound}
use Rattle.upd_examine.proofs.Common.{IsWhole, IsSame, Rows, rows_of, LibraryRows, AreRowsOf, AreLibraryRows, has_line_texts}
use Rattle.upd_examine.proofs.TextLemmas.{texts_decided}

-- a test of two lists is one of those that they are
pub of_lists : {A : Type 0} (b : Bool) (xs ys us vs : List A) → xs ≡ us → ys ≡ vs → (IsTrue b ↔ IsSame xs ys) → IsTrue b ↔ IsSame us vs
of_lists b xs ys us vs left right decided =
    subst (λ ws. IsTrue b ↔ IsSame us ws) right (subst (λ ws. IsTrue b ↔ IsSame ws ys) left decided)

pub rows_decided : (tables : Rows) (rows : LibraryRows) (a b c d : Bool) → (IsTrue a ↔ IsSame rows.idents.items tables.idents)
    → (IsTrue b ↔ IsSame rows.cards.items tables.cards) → (IsTrue c ↔ IsSame rows.entries.items tables.entries)
    → (IsTrue d ↔ IsSame rows.targets.items tables.targets) → IsTrue (a && (b && (c && d))) ↔ AreRowsOf tables rows
rows_decided tables rows a b c d idents cards entries targets = (
  (λ t.
      let p = and_parts a (b && (c && d)) t in
      let q = and_parts b (c && d) p.1 in
      let r = and_parts c d q.1 in
      record { idents = idents.0 p.0; cards = cards.0 q.0; entries = entries.0 r.0; targets = targets.0 r.1 }),
  (λ are.
      and_from a (b && (c && d)) (idents.1 are.idents)
      (and_from b (c && d) (cards.1 are.cards) (and_from c d (entries.1 are.entries) (targets.1 are.targets)))),
)

pub library_decided : (rows : LibraryRows) (l : LibraryView) (a b c d : Bool) → (IsTrue a ↔ (IsSound l × IsWhole l)) → b ≡ is_within_limits l
    → c ≡ has_line_texts l → (IsTrue d ↔ AreRowsOf (rows_of l) rows) → IsTrue (a && (b && (c && d))) ↔ AreLibraryRows rows l
library_decided rows l a b c d sound within texts own =
    let lines = texts_decided l in (
      (λ t.
          let p = and_parts a (b && (c && d)) t in
          let q = and_parts b (c && d) p.1 in
          let r = and_parts c d q.1 in
          let is = sound.0 p.0 in
          record { sound = is.0; whole = is.1; limits = sym within ∙ q.0; texts = lines.0 (sym texts ∙ r.0); own = own.0 r.1 }),
      (λ are.
          and_from a (b && (c && d)) (sound.1 (are.sound, are.whole))
          (and_from b (c && d) (within ∙ are.limits) (and_from c d (texts ∙ lines.1 are.texts) (own.1 are.own)))),
    )
