-- Runs that are handed in one after the other at a desk, and the first table that is another.
use Rattle.upd_keep.proofs.Common.{◌≡◌, false, ℕ, Bool, List, [], ◌∷◌, ◌++◌, length, Option, Some, None, Result, Ok, Err, IsTrue, inl, inr, refl}
use Rattle.upd_keep.proofs.Common.{sym, ap, subst, ◌∙◌, arith, rules, count_by}
use Rattle.upd_keep.proofs.Common.{IsOkUnless, Fault, NoMemory, Store, fault_at, IsSame, Rows, count_cons, IsLost, OfMemory, OfStore, no_rows}
use Rattle.upd_keep.proofs.Common.{ArrivalView, Came, arrival_of, journal_with}
use Rattle.std.proofs.Common.{◌↔◌, cond, map, IfErr}
use Rattle.upd_core.specs.declared.states.States.{States}
use Rattle.upd_records.specs.Rows.{RunView}
use Rattle.upd_records.specs.declared.rows.LibraryRows.{LibraryRows}
use Rattle.upd_records.proofs.CountLemmas.{same_map, same_trans}
use Rattle.upd_row_store.specs.declared.meaning.Meaning.{Ghosts}
use Rattle.upd_row_store.specs.Assembling.{AreRowsOf}
use Rattle.upd_row_store.specs.Keeping.{IsLater, IsShown, LeavesRead}
use Rattle.upd_row_store.specs.Tables.{AreRead, count_pair, state_pair}
use Rattle.upd_desk.specs.Holding.{EachHeld, Holds, IsHeld, IsOwed}
use Rattle.upd_desk.specs.Journal.{Journal, answer}
use Rattle.upd_keep.specs.Replaying.{DiffersFirst, HasReply, HaveReplies, IsFirst, IsFirstOther}

-- ---- runs, one after the other

pub with_last : (j : Journal) (runs : List RunView) (run : RunView) → journal_with j (runs ++ run ∷ []) ≡ Came (arrival_of run) ∷ journal_with j runs
with_last j [] run = refl
with_last j (r ∷ runs) run = with_last (Came (arrival_of r) ∷ j) runs run

pub replies_last : (j : Journal) (runs : List RunView) (run : RunView) → HaveReplies j runs → HasReply (journal_with j runs) run
    → HaveReplies j (runs ++ run ∷ [])
replies_last j [] run all one = (one, tt)
replies_last j (r ∷ runs) run all one = (all.0, replies_last (Came (arrival_of r) ∷ j) runs run all.1 one)

module _ {S : Type 0} (meaning : Ghosts S) where
  -- the runs got the stored replies, and the store holds the journal with them
  abbrev pub HandsIn : List RunView → S → S → Type 0
  HandsIn runs old new = EachHeld meaning old new (λ j. HaveReplies j runs × IsHeld meaning (journal_with j runs) new)

  pub hands_more : (runs : List RunView) (run : RunView) (old mid new : S) → HandsIn runs old mid → IsLater meaning mid new
      → EachHeld meaning mid new (λ j. HasReply j run) → EachHeld meaning mid new (λ j. IsHeld meaning (Came (arrival_of run) ∷ j) new)
      → HandsIn (runs ++ run ∷ []) old new
  hands_more runs run old mid new before later right held honest j start =
      let was = before (later.honest honest) j start in (
        replies_last j runs run was.0 (right honest (journal_with j runs) was.1),
        subst (λ k. IsHeld meaning k new) (sym (with_last j runs run)) (held honest (journal_with j runs) was.1),
      )

-- ---- one run

-- a fault that isn't lost is no reply
pub fault_decided : (j : Journal) (run : RunView) (a : ArrivalView) (fault : Fault) → a ≡ arrival_of run → (fault.kind ≡ NoMemory → ⊥)
    → (fault.kind ≡ Store → ⊥) → IsOwed (answer j a) (Err fault) → IsTrue false ↔ HasReply j run
fault_decided j run a fault is memory store (inl (OfMemory f kind at)) = absurd (memory kind)
fault_decided j run a fault is memory store (inl (OfStore f kind at)) = absurd (store kind)
fault_decided j run a fault is memory store (inr answers) = (λ no. absurd (cc), λ has. absurd (let e = sym answers ∙ ap (answer j) is ∙ has in cc))

-- out of memory is lost
pub memory_lost : {A : Type 0} (r : Result A Fault) → IsOkUnless r (fault_at NoMemory 0) → IfErr r IsLost
memory_lost (Ok x) is = tt
memory_lost (Err f) is = OfMemory f (ap (λ (g : Fault). g.kind) is) (ap (λ (g : Fault). g.at) is)

pub no_items : {A : Type 0} (xs : List A) → length xs ≡ 0 → xs ≡ []
no_items [] none = refl
no_items (x ∷ xs) none = absurd (omega (arith, none))

-- tables without rows hold the empty journal
pub empty_holds : Holds [] no_rows
empty_holds = search rules

-- ---- tables that are compared

same_back : {A : Type 0} {xs ys : List A} → IsSame xs ys → IsSame ys xs
same_back same = record { passes = λ test. sym (same.passes test) }

-- what lists have the same images by a function that has an inverse
unmapped : {A B : Type 0} (f : A → B) (back : B → A) → ((x : A) → back (f x) ≡ x) → (xs ys : List A) → IsSame (map f xs) (map f ys) → IsSame xs ys
unmapped {A} f back is xs ys same = record { passes = λ test. sym (counted test xs) ∙ same.passes (λ p. test (back p)) ∙ counted test ys }
  where
    counted : (test : A → Bool) (zs : List A) → count_by (λ p. test (back p)) (map f zs) ≡ count_by test zs
    counted test [] = refl
    counted test (z ∷ zs) =
        let rest = counted test zs in
        let first = ap {B = ℕ} (λ x. cond (test x) 1 0) (is z) in
        omega (arith, rest, first, count_cons (λ p. test (back p)) (f z) (map f zs), count_cons test z zs)

-- lists that were read are the same where those are of which they were read
carried : {A : Type 0} {vs ws xs ys : List A} → IsSame vs xs → IsSame ws ys → IsSame vs ws ↔ IsSame xs ys
carried p q = (λ same. same_trans (same_back p) (same_trans same q), λ same. same_trans p (same_trans same (same_back q)))

carried_pairs : {A B : Type 0} (f : A → B) (back : B → A) → ((x : A) → back (f x) ≡ x) → {vs ws : List B} (xs ys : List A)
    → IsSame vs (map f xs) → IsSame ws (map f ys) → IsSame vs ws ↔ IsSame xs ys
carried_pairs f back is xs ys p q = (λ same. unmapped f back is xs ys ((carried p q).0 same), λ same. (carried p q).1 (same_map f same))

first_carried : {A B L M : Type 0} {table : List ℕ} {found : Option (List ℕ)} → A ↔ B → (L → M) → IsFirst A table found L → IsFirst B table found M
first_carried both later (inl (other, is)) = inl (λ same. other (both.1 same), is)
first_carried both later (inr (same, rest)) = inr (both.0 same, later rest)

-- the first table that is another is so of the tables that were read
pub differs : (rows made : Rows) (some others : LibraryRows) (own made_own : States) (found : Option (List ℕ)) → AreRowsOf rows some → AreRead rows own
    → AreRowsOf made others → AreRead made made_own
    → IsFirstOther (IsSame some.idents.items others.idents.items) (IsSame some.cards.items others.cards.items)
    (IsSame some.entries.items others.entries.items) (IsSame some.targets.items others.targets.items)
    (IsSame own.states.items made_own.states.items) (IsSame own.counts.items made_own.counts.items) found → DiffersFirst rows made found
differs rows made some others own made_own found p s q t =
    first_carried (carried p.idents q.idents) (first_carried (carried p.cards q.cards) (first_carried (carried p.entries q.entries)
    (first_carried (carried p.targets q.targets)
    (first_carried (carried_pairs state_pair (λ r. record { card = r.0; active = r.1 }) (λ r. refl) rows.states made.states s.states t.states)
    (first_carried (carried_pairs count_pair (λ r. record { target = r.0; n = r.1 }) (λ r. refl) rows.counts made.counts s.counts t.counts) (λ none. none))))))

none_first : {A L : Type 0} {table : List ℕ} → IsFirst A table None L → A × L
none_first (inl (other, is)) = absurd (cc)
none_first (inr rest) = rest

-- where no table is another, what was read is so of the same tables
pub same_read : (rows : Rows) (some others : LibraryRows) (own other_own : States)
    → IsFirstOther (IsSame some.idents.items others.idents.items) (IsSame some.cards.items others.cards.items)
    (IsSame some.entries.items others.entries.items) (IsSame some.targets.items others.targets.items)
    (IsSame own.states.items other_own.states.items) (IsSame own.counts.items other_own.counts.items) None
    → AreRowsOf rows others → AreRead rows other_own → AreRowsOf rows some × AreRead rows own
same_read rows some others own other_own none p s =
    let (idents, more) = none_first none in
    let (cards, more2) = none_first more in
    let (entries, more3) = none_first more2 in
    let (targets, more4) = none_first more3 in
    let (states, more5) = none_first more4 in
    let (counts, _) = none_first more5 in (
      record {
        idents = same_trans idents p.idents;
        cards = same_trans cards p.cards;
        entries = same_trans entries p.entries;
        targets = same_trans targets p.targets;
      },
      record { states = same_trans states s.states; counts = same_trans counts s.counts },
    )

-- what a store showed before an answer it shows after it
pub still_shown : {S A : Type 0} {meaning : Ghosts S} {x : A} {old new : S} → LeavesRead meaning (Ok x) old new → meaning.is_honest new → (rows : Rows)
    → IsShown meaning rows old → IsShown meaning rows new
still_shown {meaning = meaning} leaves honest rows shown =
    subst (λ image. meaning.shows image rows) (sym (leaves.same.same honest (leaves.opens honest))) shown
