-- What an open below SQL finds: the trees of the database that the files hold, once they list the library's schema.
use Rattle.upd_store.proofs.Common.{◌≡◌, ◌≢◌, ◌≤◌, ℕ, ◌%◌, List, Some, inl, inr, length, map, refl, sym, ap, subst, ◌∙◌, arith, eq-eqb, length-map, Image}
use Rattle.upd_store.proofs.Common.{Row, Table, catalog_tree, Trees, View, IsClean, in_use, Recovers, recovers_once, Lists, rows_at, view, joined, file_trees}
use Rattle.upd_store.proofs.Common.{image, state_of, HoldsDatabase, unrooted, library_schema, FindsTrees}
use Rattle.std.specs.Prelude.{Bool, true, false}
use Rattle.std.proofs.Math.Logic.{∥∥₁_elim}
use Rattle.std.proofs.lemmas.Bool.{cases_eq}
use Rattle.sqlite_disk.specs.declared.Disk.{Ghosts}
use Rattle.sqlite_wal.specs.Format.{be32}
use Rattle.sqlite_wal.specs.PageSize.{bytes_of}
use Rattle.sqlite_wal.specs.declared.page_size.PageSize.{PageSize}
use Rattle.sqlite_wal.specs.Recovery as raw
use Rattle.sqlite_wal.proofs.RecoveryLemmas as stored
use Rattle.sqlite_trees.specs.declared.store.Store as store
use Rattle.sqlite_trees.specs.Objects.{with_version}
use Rattle.sqlite_pages.specs.PageMap.{PageMap}
use Rattle.sqlite_pool.specs.File.{version_in}
use Rattle.sqlite_pool.specs.Stored.{reserved, stored_size, used_size, trimmed, Adopts}
use Rattle.sqlite_pool.proofs.ProbeLemmas.{reserved_word}
use Rattle.sqlite_pool.proofs.ResealLemmas.{adopts_of}
use Rattle.sqlite_store.specs.declared.store.FileStore.{FileStore}
use Rattle.sqlite_store.specs.declared.store.open.Unopened.{Unopened}
use Rattle.sqlite_store.specs.FileStore.{state}
use Rattle.sqlite_store.specs.Listed.{catalog_rows}
use Rattle.sqlite_store.specs.Listing.{listed_from}
use Rattle.sqlite_store.proofs.AlikeLemmas.{same_file}
use Rattle.sqlite.specs.Opening.{HoldsAt, HoldsIn, layout_of}
use Rattle.sqlite.proofs.OpenLemmas.{meets}
use Rattle.upd_store.specs.TreeOpening.{IsAttached}
use Rattle.upd_store.proofs.OneLayout.{one_layout}

pub large_used : (size : PageSize) (has_sums : Bool) → 504 ≤ used_size (bytes_of size) has_sums
large_used size true = omega (arith, size.smallest)
large_used size false = omega (arith, size.smallest)

module _ {D : Type 0} {g : Ghosts D} (old : Unopened D g) (opened : FileStore D g) (it : IsAttached old opened)
    (lists : Lists ((view opened).trees catalog_tree) library_schema) where
  abbrev size : ℕ
  size = (state_of old).page_size

  abbrev pages : PageMap
  pages = (state opened).committed

  abbrev rows_of : PageMap → List Row
  rows_of found = rows_at size (in_use size found) Table 1

  holds_at : (db : Trees) → HoldsAt size (image old) db → (view opened).trees ≡ db
  holds_at db held =
      let m = meets held in
      let same = recovers_once size (image old) held.pages pages held.found it.found in
      let theirs = map (layout_of m.shown) (map unrooted (rows_of pages)) in
      let each : length theirs ≡ length (rows_of pages) = length-map (map unrooted (rows_of pages)) (layout_of m.shown) ∙ length-map (rows_of pages) unrooted in
      let listed : listed_from 0 held.wanted ≡ joined (map unrooted (rows_of pages)) theirs =
      sym (subst (λ p. joined (map unrooted (rows_of p)) (map (layout_of m.shown) (map unrooted (rows_of p))) ≡ listed_from 0 held.wanted) same m.whole) in
      let ours = subst (λ rows. Lists rows library_schema) (ap (λ d. d catalog_tree) it.reads ∙ catalog_rows size it.wanted _ ∙ it.lists) lists in
      let other = subst (λ rows. Lists rows held.schema) (ap (λ d. d catalog_tree) held.reads ∙ catalog_rows size held.wanted _ ∙ listed) held.sound.lists in
      let one = it.lists ∙ one_layout (rows_of pages) it.layouts theirs held.schema it.each each ours other ∙ sym listed in
      let both = same_file size held.wanted it.wanted held.pages one held.ours in
      it.reads ∙ ap (file_trees size it.wanted) (sym same) ∙ ap (λ x. with_version x (version_in held.pages)) both.1 ∙ sym held.reads

  same_pages : (found : PageMap) → Adopts size (image old) found → found ≡ pages
  same_pages found adopted =
      let own = adopts_of size (image old) pages it.found in
      sym adopted.shows ∙ ap (trimmed size) (stored.recovers_once (stored_size size) (image old) adopted.stored own.stored adopted.found own.found) ∙ own.shows

  -- the log has no page that lacks its sum, since the pages were found with their sums
  holds_in : (db : Trees) → HoldsIn size (image old) db → (view opened).trees ≡ db
  holds_in db held = holds_at db (record {
    pages = held.pages;
    wanted = held.wanted;
    schema = held.schema;
    found = subst (Recovers size (image old)) (sym (same_pages held.pages held.found)) it.found;
    ours = held.ours;
    reads = held.reads;
    sound = held.sound;
  })

  module _ (large : 504 ≤ size) where
    -- the header says whether the pages end in sums
    same_size : (n : ℕ) (db : Trees) → 504 ≤ n → stored_size n ≡ stored_size size → HoldsIn n (image old) db → n ≡ size
    same_size n db fits is held = elim (cases_eq n size) [
      | inl same ↦ same
      | inr other ↦ absurd (
          let theirs = reserved_word n (image old) held.pages held.found fits held.ours.file.sound in
          let own = adopts_of size (image old) pages it.found in
          ∥∥₁_elim it.ours (λ p q. absurd p) (λ mine.
          let ours = reserved_word size (image old) pages own large mine.file.sound in
          let same = stored.recovers_once (stored_size size) (image old) held.found.stored own.stored
          (subst (λ k. raw.Recovers k (image old) held.found.stored) is held.found.found) own.found in
          let some : Some theirs.0 ≡ Some ours.0 = sym theirs.1 ∙ ap (λ (p : PageMap). p 1) same ∙ ours.1 in
          let first : theirs.0 ≡ ours.0 = cc in
          other (omega (arith, is, theirs.3, ap (λ b. be32 b 20) first, ours.3)))
          )
    ]

    found_at : ((db : Trees) (h : HoldsDatabase (image old) db) → stored_size h.0 ≡ stored_size size) → FindsTrees (image old) (view opened).trees
    found_at sized = record {
      holds = λ db h.
          let few : reserved h.0 ≤ 8 = grind arith in
          let same = same_size h.0 db (omega (arith, h.1.0, few)) (sized db h) h.2 in
          holds_in db (subst (λ n. HoldsIn n (image old) db) same h.2);
      reads = inl (size, pages, it.wanted, adopts_of size (image old) pages it.found, it.ours, it.reads);
    }

    pub finds_trees : (held : Image) → image old ≡ held → ((db : Trees) (h : HoldsDatabase held db) → stored_size h.0 ≡ stored_size size)
        → FindsTrees held (view opened).trees
    finds_trees held seen = subst (λ i. ((db : Trees) (h : HoldsDatabase i db) → stored_size h.0 ≡ stored_size size)
        → FindsTrees i (view opened).trees) seen found_at
