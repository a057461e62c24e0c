-- References are equal by their order exactly where they are the same.
use Rattle.std.proofs.Common.{◌≡◌, ◌&&◌, ◌↔◌, refl, sym, ◌∙◌, subst}
use Rattle.std.proofs.lemmas.Map.Lookups.{exact_bytes, exact_unsigned}
use Rattle.std.proofs.lemmas.Map.Text.{is_eq-slice_cmp}
use Rattle.std.proofs.lemmas.Cmp.{nat_cmp_total, nat_list_cmp_total}
use Rattle.std.specs.Cmp.{unsigned_tied, tied_itself}
use Rattle.std.specs.Cmp.Lexicographic.{slice_cmp}
use Rattle.std.specs.Ordering.{is_eq, nat_cmp, ordering_then}
use Rattle.std.specs.declared.cmp.Ordering.{Ordering}
use Rattle.std.specs.declared.cmp.Ordering.TheVariants.{Less, Equal, Greater}
use Rattle.upd_text.specs.declared.card_ref.CardRef.{CardRef}
use Rattle.upd_text.specs.Order.{by_name, is_same_reference}

is_eq-then : (first second : Ordering) → is_eq (ordering_then first second) ≡ (is_eq first && is_eq second)
is_eq-then Less second = refl
is_eq-then Equal second = refl
is_eq-then Greater second = refl

pub is_same-is_eq : (a b : CardRef) → is_same_reference a b ≡ is_eq (by_name a b)
is_same-is_eq a b =
    sym (is_eq-then (slice_cmp nat_cmp a.name b.name) (nat_cmp a.number b.number) ∙ rw (is_eq-slice_cmp a.name b.name, unsigned_tied a.number b.number) refl)

both_equal : (first second : Ordering) → ordering_then first second ≡ Equal → (first ≡ Equal) × (second ≡ Equal)
both_equal Less second e = cc
both_equal Equal second e = (refl, e)
both_equal Greater second e = cc

same_parts : (a b : CardRef) → a.name ≡ b.name → a.number ≡ b.number → a ≡ b
same_parts a b name number i = record { name = name i; number = number i }

pub by_name-exact : (a b : CardRef) → (by_name a b ≡ Equal) ↔ (a ≡ b)
by_name-exact a b = (
  λ e. let parts = both_equal (slice_cmp nat_cmp a.name b.name) (nat_cmp a.number b.number) e in
      same_parts a b (exact_bytes a.name b.name parts.0) (exact_unsigned a.number b.number parts.1),
  λ e. subst (λ c. by_name a c ≡ Equal) e (rw (tied_itself nat_list_cmp_total a.name, tied_itself nat_cmp_total a.number) refl),
)
