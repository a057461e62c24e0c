-- Reads of a store of trees, one after another.
use Rattle.upd_store.proofs.Common.{◌≡◌, inl, inr, Bool, false, true, Result, Ok, Err, IsErrAnd, IsTrue, refl, sym, ap, subst, ◌∙◌, arith, StoreError, Ghosts}
use Rattle.upd_store.proofs.Common.{Trees, View, IsClean, IsQuiet, KeepsSchema, OnlyReads, Rows, ShowsIn, Finds}
use Rattle.sqlite_trees.specs.View.{IsFailure, IsRolledBack}
use Rattle.upd_store.specs.TreeReads.{Answers, IsWhole}

pub read_fails : (old new : View) (e : StoreError) → OnlyReads old new → IsFailure old new e
read_fails old new e reads = rw reads (record {
  kept = record {
    shape = refl;
    reals = refl;
    committed_shape = refl;
    committed_reals = refl;
    numbered = refl;
    was_open = λ h. h;
    committed = λ _. refl;
    marks = λ _. refl;
  };
  unchanged = λ _. refl;
  refused = λ _ _. refl;
})

is_open_if : (is_open broken : Bool) → (is_open ≡ false → IsTrue broken) → broken ≡ false → IsTrue is_open
is_open_if true broken law sound = refl
is_open_if false broken law sound = absurd (let no = sym (law refl) ∙ sound in cc)

module _ {S : Type 0} (store : Ghosts S) where
  abbrev Quiet : S → S → Type 0
  Quiet = IsQuiet store.view store.faults store.recovers store.is_shielded

  pub quiet_then : {a b c : S} → Quiet a b → Quiet b c → Quiet a c
  quiet_then p q = record {
    shield = λ h. q.shield (p.shield h);
    clean = omega (arith, p.clean, q.clean);
    counts = omega (arith, p.counts, q.counts);
    closes = λ clean was. elim (p.closes (omega (arith, q.clean, clean)) was) [
      | inl still ↦ elim (q.closes clean still) [ inl open' ↦ inl open' | inr more ↦ inr (omega (arith, more, p.counts)) ]
      | inr more ↦ inr (omega (arith, more, q.counts))
    ];
    outcomes = λ db h. p.outcomes db (q.outcomes db h);
  }

  pub schema_then : {a b c : View} → KeepsSchema a b → KeepsSchema b c → KeepsSchema a c
  schema_then p q = record {
    shape = q.shape ∙ p.shape;
    reals = q.reals ∙ p.reals;
    committed_shape = q.committed_shape ∙ p.committed_shape;
    committed_reals = q.committed_reals ∙ p.committed_reals;
    numbered = q.numbered ∙ p.numbered;
  }

  -- ---- a walk outside of a transaction, and the rollback of one that failed
  module _ {A : Type 0} (R : Rows → A → Type 0) (a : S) (whole : IsWhole (store.view a)) where
    pub answered : (b : S) (x : A) → ((store.view a).is_open ≡ false → IsTrue (store.view a).is_broken) → Finds store a b R (Ok x)
        → Answers store a b {E = StoreError} R (Ok x)
    answered b x law h =
        let early : IsClean (store.view b) → IsClean (store.view a) = λ clean. omega (arith, clean, h.quiet.clean) in
        let is_open : IsClean (store.view b) → IsTrue (store.view a).is_open = λ clean. is_open_if _ _ law (h.sound clean) in
        record {
          whole = λ clean up. rw (h.same clean) (whole (early clean) (is_open clean));
          was_open = λ clean _. is_open clean;
          opens = λ clean. (is_open clean, rw (h.same clean) (is_open clean));
          kept = λ clean _. rw (h.same clean) refl;
          quiet = h.quiet;
          found = λ clean it shown. h.found clean it (subst (λ (t : Trees). ShowsIn t it) (sym (whole (early clean) (is_open clean)).1) shown);
        }

    pub undone : (b c : S) (e : StoreError) → Finds store a b R (Err e) → IsRolledBack (store.view b) (store.view c) → Quiet b c → Answers store a c R (Err e)
    undone b c e h back quiet =
        let early : IsClean (store.view c) → IsClean (store.view b) = λ clean. omega (arith, clean, quiet.clean) in
        let open_then : IsClean (store.view c) → IsTrue (store.view c).is_open → IsTrue (store.view b).is_open = λ clean up. (back.kept clean).was_open up in
        record {
          whole = λ clean up. ((back.undone up).1, (back.undone up).0 ∙ sym ((back.kept clean).committed up));
          was_open = λ clean up. (h.err (early clean)).kept.was_open (open_then clean up);
          opens = λ _. tt;
          kept = λ clean up. (back.kept clean).committed up ∙ (h.err (early clean)).kept.committed (open_then clean up);
          quiet = quiet_then h.quiet quiet;
          found = λ _. tt;
        }

  module _ {A B : Type 0} (R : Rows → A → Type 0) (Q : Rows → B → Type 0) where
    -- one read after another
    pub after : (a b c : S) (x : A) (r : Result B StoreError) → Answers store a b {E = StoreError} R (Ok x) → Answers store b c Q r
        → Answers store a c (λ it y. R it x × Q it y) r
    after a b c x (Ok y) p q =
        let early : IsClean (store.view c) → IsClean (store.view b) = λ clean. omega (arith, clean, q.quiet.clean) in
        let kept = λ (clean : IsClean (store.view c)). p.kept (early clean) (p.opens (early clean)).1 in
        record {
          whole = q.whole;
          was_open = λ clean up. (p.opens (early clean)).0;
          opens = λ clean. ((p.opens (early clean)).0, (q.opens clean).1);
          kept = λ clean up. q.kept clean up ∙ kept clean;
          quiet = quiet_then p.quiet q.quiet;
          found = λ clean it shown.
              (p.found (early clean) it shown, q.found clean it (subst (λ (t : Trees). ShowsIn t it) (sym (kept clean)) shown));
        }
    after a b c x (Err e) p q =
        let early : IsClean (store.view c) → IsClean (store.view b) = λ clean. omega (arith, clean, q.quiet.clean) in
        record {
          whole = q.whole;
          was_open = λ clean up. (p.opens (early clean)).0;
          opens = λ _. tt;
          kept = λ clean up. q.kept clean up ∙ p.kept (early clean) (p.opens (early clean)).1;
          quiet = quiet_then p.quiet q.quiet;
          found = λ _. tt;
        }

    -- what is made of what was found
    pub found_as : (a b : S) (x : A) (y : B) → Answers store a b {E = StoreError} R (Ok x) → ((it : Rows) → R it x → Q it y)
        → Answers store a b {E = StoreError} Q (Ok y)
    found_as a b x y h means = record {
      whole = h.whole;
      was_open = h.was_open;
      opens = h.opens;
      kept = h.kept;
      quiet = h.quiet;
      found = λ clean it shown. means it (h.found clean it shown);
    }

    -- a failure that is passed on
    pub fails_as : (a b : S) (e : StoreError) (r : Result B StoreError) → Answers store a b R (Err e) → IsErrAnd r (λ y. y ≡ e) → Answers store a b Q r
    fails_as a b e (Ok y) h is = absurd is
    fails_as a b e (Err f) h is = record { whole = h.whole; was_open = h.was_open; opens = λ _. tt; kept = h.kept; quiet = h.quiet; found = λ _. tt }
