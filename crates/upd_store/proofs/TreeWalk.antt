-- A walk over a tree, with the records of the rows so far.
use Rattle.upd_store.proofs.Common.{◌≡◌, inl, ℕ, Bool, true, false, List, [], ◌∷◌, ◌++◌, drop, map, Result, Ok, Err, IsErrAnd, refl, sym, ap, subst, ◌∙◌}
use Rattle.upd_store.proofs.Common.{arith, Row, StoreError, Ghosts, View, IsClean, IsQuiet, KeepsSchema, OnlyReads, Rows, ShowsIn, Finds}
use Rattle.std.proofs.Common.{Vec, IsSome, append_assoc, append-nil}
use Rattle.std.specs.declared.alloc.Global.{Global}
use Rattle.sqlite_value.specs.declared.keys.Order.{Order}
use Rattle.sqlite_trees.specs.Tree.{from_key}
use Rattle.sqlite_trees.specs.View.{Advances, StayLive, with_cursor}
use Rattle.sqlite_exec.specs.Loops.{left_of}
use Rattle.sqlite_exec.proofs.CheckLemmas.{ended, from_no_key, placed, stepped}
use Rattle.sqlite_exec.proofs.MarkLemmas.{only_reads_then}
use Rattle.upd_store.proofs.TreeChains.{quiet_then, read_fails, schema_then}

module _ {S : Type 0} (store : Ghosts S) (old now : S) (tree : ℕ) {X : Type 0} (row_of : X → Row) (found : List X) where
  -- what is left are the rows of the records that are to come
  pub record Walks : Type 0 where
    pub live : IsSome ((store.view now).cursors 0)
    pub same : IsClean (store.view now) → OnlyReads (store.view old) (store.view now)
    pub sound : IsClean (store.view now) → (store.view old).is_broken ≡ false
    pub schema : KeepsSchema (store.view old) (store.view now)
    pub quiet : IsQuiet store.view store.faults store.recovers store.is_shielded old now
    pub rows : IsClean (store.view now) → (kept : List X) → map (drop 1) ((store.view old).trees tree) ≡ map row_of kept
        → (rest : List X) × (kept ≡ found ++ rest) × (map (drop 1) (left_of (store.view now) 0) ≡ map row_of rest)

-- the next row is that of the next record
next_of : {X : Type 0} (row_of : X → Row) (row : Row) (left : List Row) (rest : List X) → map (drop 1) (row ∷ left) ≡ map row_of rest
    → (x : X) × (more : List X) × (rest ≡ x ∷ more) × (drop 1 row ≡ row_of x) × (map (drop 1) left ≡ map row_of more)
next_of row_of row left [] are = absurd (let no = are in cc)
next_of row_of row left (x ∷ more) are =
    let first : drop 1 row ≡ row_of x = cc in
    let others : map (drop 1) left ≡ map row_of more = cc in
    (x, more, refl, first, others)

none_left : {X : Type 0} (row_of : X → Row) (rest : List X) → [] ≡ map row_of rest → rest ≡ []
none_left row_of [] are = refl
none_left row_of (x ∷ rest) are = absurd (let no = are in cc)

module _ {S : Type 0} (store : Ghosts S) (a b : S) (tree : ℕ) {X : Type 0} (row_of : X → Row) where
  pub begun : (o : Order) → IsSome ((store.view b).cursors 0)
      → (IsClean (store.view b) → store.view b ≡ with_cursor (store.view a) 0 (from_key o [] ((store.view a).trees tree)))
      → (IsClean (store.view b) → (store.view a).is_broken ≡ false) → KeepsSchema (store.view a) (store.view b)
      → IsQuiet store.view store.faults store.recovers store.is_shielded a b → Walks store a b tree row_of []
  begun o live is sound schema quiet = record {
    live = live;
    same = λ clean. rw (is clean) refl;
    sound = sound;
    schema = schema;
    quiet = quiet;
    rows = λ clean kept are. (
      kept,
      refl,
      ap (λ (v : View). map (drop 1) (left_of v 0)) (is clean) ∙ ap (map (drop 1)) (placed (store.view a) 0 _ ∙ from_no_key o _) ∙ are,
    );
  }

  module _ (found : List X) (h : Walks store a b tree row_of found) (c : S) (row : Row)
      (quiet : IsQuiet store.view store.faults store.recovers store.is_shielded b c) (schema : KeepsSchema (store.view b) (store.view c))
      (moves : IsClean (store.view c) → OnlyReads (store.view b) (store.view c))
    where
      early : IsClean (store.view c) → IsClean (store.view b)
      early clean = omega (arith, clean, quiet.clean)

      both : IsClean (store.view c) → OnlyReads (store.view a) (store.view c)
      both clean = only_reads_then (store.view a) (store.view b) (store.view c) (h.same (early clean)) (moves clean)

      abbrev Next : List X → Type 0
      Next kept =
          (x : X) × (more : List X) × (kept ≡ found ++ x ∷ more) × (drop 1 row ≡ row_of x) × (map (drop 1) (left_of (store.view c) 0) ≡ map row_of more)

      next_kept : (IsClean (store.view c) → Advances (store.view b) (store.view c) 0 row true) → IsClean (store.view c) → (kept : List X)
          → map (drop 1) ((store.view a).trees tree) ≡ map row_of kept → Next kept
      next_kept gives clean kept are =
          let was = h.rows (early clean) kept are in
          let next = next_of row_of row (left_of (store.view c) 0) was.0
          (sym (ap (map (drop 1)) (stepped (store.view b) (store.view c) 0 row (gives clean))) ∙ was.2) in
          (next.0, next.1, was.1 ∙ ap (λ l. found ++ l) next.2, next.3, next.4)

      pub walked : StayLive (store.view b) (store.view c) → (IsClean (store.view c) → Advances (store.view b) (store.view c) 0 row true)
          → (x : X) (next : List X)
          → ((kept : X) → drop 1 row ≡ row_of kept → x ≡ kept) → next ≡ found ++ x ∷ [] → Walks store a c tree row_of next
      walked stay gives x next reads pushed = record {
        live = stay 0 h.live;
        same = both;
        sound = λ clean. h.sound (early clean);
        schema = schema_then store h.schema schema;
        quiet = quiet_then store h.quiet quiet;
        rows = λ clean kept are.
            let one = next_kept gives clean kept are in (
              one.1,
              one.2 ∙ sym (append_assoc found (one.0 ∷ []) one.1) ∙ ap (λ y. (found ++ y ∷ []) ++ one.1) (sym (reads one.0 one.3))
                  ∙ ap (λ l. l ++ one.1) (sym pushed),
              one.4,
            );
      }

      module _ (listed : Rows → List X)
          (shows : (it : Rows) → ShowsIn (store.view a).trees it → map (drop 1) ((store.view a).trees tree) ≡ map row_of (listed it)) where
        abbrev Listed : Rows → Vec X Global → Type 0
        Listed it all = all.items ≡ listed it

        pub at_end : (IsClean (store.view c) → Advances (store.view b) (store.view c) 0 row false) → (all : Vec X Global) → all.items ≡ found
            → Finds store a c Listed (Ok all)
        at_end gives all is = record {
          same = both;
          sound = λ clean. h.sound (early clean);
          err = λ _. tt;
          schema = schema_then store h.schema schema;
          quiet = quiet_then store h.quiet quiet;
          found = λ clean it shown.
              let was = h.rows (early clean) (listed it) (shows it shown) in
              let none = none_left row_of was.0 (sym (ap (map (drop 1)) (ended (store.view b) (store.view c) 0 row (gives clean))) ∙ was.2) in
              is ∙ sym (append-nil found) ∙ ap (λ l. found ++ l) (sym none) ∙ sym was.1;
        }

        pub illegible : (e : StoreError) (r : Result (Vec X Global) StoreError) → IsErrAnd r (λ y. y ≡ e) → Finds store a c Listed r
        illegible e (Ok all) is = absurd is
        illegible e (Err f) is = record {
          same = λ _. tt;
          sound = λ _. tt;
          err = λ clean. read_fails (store.view a) (store.view c) f (both clean);
          schema = schema_then store h.schema schema;
          quiet = quiet_then store h.quiet quiet;
          found = λ _. tt;
        }

module _ {S : Type 0} (store : Ghosts S) (a b : S) where
  -- a walk that keeps nothing has begun
  pub record Looks : Type 0 where
    pub live : IsSome ((store.view b).cursors 0)
    pub same : IsClean (store.view b) → OnlyReads (store.view a) (store.view b)
    pub sound : IsClean (store.view b) → (store.view a).is_broken ≡ false
    pub schema : KeepsSchema (store.view a) (store.view b)
    pub quiet : IsQuiet store.view store.faults store.recovers store.is_shielded a b

  module _ (h : Looks) (c : S) (quiet : IsQuiet store.view store.faults store.recovers store.is_shielded b c)
      (schema : KeepsSchema (store.view b) (store.view c)) (moves : IsClean (store.view c) → OnlyReads (store.view b) (store.view c))
    where
      first : IsClean (store.view c) → IsClean (store.view b)
      first clean = omega (arith, clean, quiet.clean)

      all : IsClean (store.view c) → OnlyReads (store.view a) (store.view c)
      all clean = only_reads_then (store.view a) (store.view b) (store.view c) (h.same (first clean)) (moves clean)

      pub ends_look : (r : Result (Unit {0}) StoreError) → Finds store a c (λ it x. Unit {0}) r
      ends_look (Ok x) = record {
        same = all;
        sound = λ clean. h.sound (first clean);
        err = λ _. tt;
        schema = schema_then store h.schema schema;
        quiet = quiet_then store h.quiet quiet;
        found = λ _ _ _. tt;
      }
      ends_look (Err e) = record {
        same = λ _. tt;
        sound = λ _. tt;
        err = λ clean. read_fails (store.view a) (store.view c) e (all clean);
        schema = schema_then store h.schema schema;
        quiet = quiet_then store h.quiet quiet;
        found = λ _. tt;
      }

module _ {S : Type 0} (store : Ghosts S) (a b c : S) where
  pub looks_on : Looks store a b → IsQuiet store.view store.faults store.recovers store.is_shielded b c
      → KeepsSchema (store.view b) (store.view c) → (IsClean (store.view c) → OnlyReads (store.view b) (store.view c))
      → StayLive (store.view b) (store.view c) → Looks store a c
  looks_on h quiet schema moves stay =
      let early : IsClean (store.view c) → IsClean (store.view b) = λ clean. omega (arith, clean, quiet.clean) in
      record {
        live = stay 0 h.live;
        same = λ clean. only_reads_then (store.view a) (store.view b) (store.view c) (h.same (early clean)) (moves clean);
        sound = λ clean. h.sound (early clean);
        schema = schema_then store h.schema schema;
        quiet = quiet_then store h.quiet quiet;
      }
