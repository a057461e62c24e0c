-- References and entries that are the same.
use Rattle.std.proofs.Common.{◌≡◌, Bool, true, false, refl, sym, ◌∙◌}
use Rattle.std.specs.Prelude.{◌==◌, ◌&&◌}
use Rattle.std.specs.Str.{bytes_eq}
use Rattle.std.proofs.lemmas.Bool.{and_parts}
use Rattle.std.proofs.lemmas.Bool.Decides.{Decides-eqb}
use Rattle.std.proofs.lemmas.Slice.Eq.{bytes_eq-Decides}
use Rattle.upd_text.specs.declared.card_ref.CardRef.{CardRef}
use Rattle.upd_core.specs.declared.card.Entry.{Entry}
use Rattle.upd_core.specs.Entries.{same_entry}
use Rattle.upd_records.specs.Rows.{same_ref}

-- ---- references

same_parts : (a b : CardRef) (x y : Bool) → (x ≡ true → a.name ≡ b.name) → (y ≡ true → a.number ≡ b.number) → (x && y) ≡ true → a ≡ b
same_parts a b true y n m e = let p = n refl in let q = m e in λ i. record { name = p i; number = q i }
same_parts a b false y n m e = absurd (cc)

pub same_ref_is : (a b : CardRef) → same_ref a b ≡ true → a ≡ b
same_ref_is a b e = same_parts a b (bytes_eq a.name b.name) (a.number == b.number) (bytes_eq-Decides a.name b.name).0 (Decides-eqb a.number b.number).0 e

pub same_ref_own : (a : CardRef) → same_ref a a ≡ true
same_ref_own a = rw ((bytes_eq-Decides a.name a.name).1 refl, (Decides-eqb a.number a.number).1 refl) refl

pub other_ref : (a b : CardRef) → (a ≡ b → ⊥) → same_ref a b ≡ false
other_ref a b differ = go (same_ref a b) refl
  where
    go : (x : Bool) → same_ref a b ≡ x → x ≡ false
    go true e = absurd (differ (same_ref_is a b e))
    go false e = refl

-- ---- entries

pub same_entry_is : (e f : Entry) → same_entry e f ≡ true → e ≡ f
same_entry_is e f same = go e.active refl f.active refl
  where
    both : e.active ≡ f.active → e ≡ f
    both p = let q = (Decides-eqb e.ident f.ident).0 (and_parts _ _ same).0 in λ i. record { ident = q i; active = p i }

    go : (a : Bool) → e.active ≡ a → (b : Bool) → f.active ≡ b → e ≡ f
    go true p true q = both (p ∙ sym q)
    go false p false q = both (p ∙ sym q)
    go true p false q = let t = (and_parts (e.ident == f.ident) _ same).1 in absurd (differ (rw (p, q) at t))
      where
        differ : false ≡ true → ⊥
        differ e = cc
    go false p true q = let t = (and_parts (e.ident == f.ident) _ same).1 in absurd (differ (rw (p, q) at t))
      where
        differ : false ≡ true → ⊥
        differ e = cc
