-- The stores of the kit keep their tables in order.
use Rattle.std.proofs.Common.{zero, suc, ◌==◌, true, false, if◌then◌else◌, List, [], ◌∷◌, map, IsTrue, refl}
use Rattle.std.proofs.Math.Logic.{∥∥₁_elim}
use Rattle.sqlite_disk.specs.declared.Disk.{Ghosts}
use Rattle.sqlite_wal.proofs.StateLemmas.{clean_of}
use Rattle.sqlite_trees.specs.declared.store.Shape.TheVariants.{Table}
use Rattle.sqlite_trees.specs.declared.memory.tree.Tree.{Tree}
use Rattle.sqlite_trees.specs.declared.memory.MemStore.{MemStore}
use Rattle.sqlite_trees.specs.View.{IsShaped, IsOrdered}
use Rattle.sqlite_trees.specs.Props.{IsShaped-prop, IsOrdered-prop}
use Rattle.sqlite_trees.specs.Objects.{catalog_tree, version_tree, version_rows}
use Rattle.sqlite_trees.specs.Listing.{objects_are_ordered, objects_are_listed}
use Rattle.sqlite_trees.specs.Memory.{memory_view, forest, rows_of, shape_of, objects_of, shapes, heading}
use Rattle.sqlite_store.specs.declared.store.FileStore.{FileStore}
use Rattle.sqlite_store.specs.FileStore.{state, view}
use Rattle.sqlite_store.specs.Listed.{catalog_rows, is_listed}
use Rattle.sqlite_store.proofs.ListingLemmas.{all_ordered}
use Rattle.upd_sqlite.specs.Rising.{Rises}

-- by what the store keeps of the committed pages
pub file_rises : {D : Type 0} {g : Ghosts D} (it : FileStore D g) → IsTrue (view it).is_open → Rises (view it)
file_rises it is_open = record {
  ordered = rw (clean_of (state it) is_open) (∥∥₁_elim (it.stored is_open) (IsOrdered-prop _ _) (λ stored. all_ordered stored.ours.file.db _));
  listed = rw (clean_of (state it) is_open, catalog_rows (state it).page_size _ _) (is_listed _);
}

-- each tree in memory keeps its own order
trees_rise : (trees : List Tree) → IsOrdered (shape_of trees) (rows_of trees)
trees_rise [] t = refl
trees_rise (x ∷ trees) zero = ∥∥₁_elim x.ordered (IsShaped-prop x.shape x.rows.items) (λ h. h)
trees_rise (x ∷ trees) (suc t) = trees_rise trees t

-- by the order of each tree, of the list of objects and of the version
memory_ordered : (s : MemStore) → IsOrdered (memory_view s).committed_shape (memory_view s).committed
memory_ordered s t =
    let base = s.base.items in
    let below : IsShaped (shapes base t) (forest base t) =
    elim (t == catalog_tree) as (λ b. IsShaped (if b then Table else shape_of base t) (if b then objects_of base else rows_of base t))
    [ true ↦ objects_are_ordered (map heading base) 0 | false ↦ trees_rise base t ] in
    elim (t == version_tree) as (λ b. IsShaped (if b then Table else shapes base t) (if b then version_rows s.base_version else forest base t))
    [ true ↦ ((tt, tt), (refl, tt)) | false ↦ below ]

pub memory_rises : (s : MemStore) → Rises (memory_view s)
memory_rises s = record { ordered = memory_ordered s; listed = objects_are_listed (map heading s.base.items) }
