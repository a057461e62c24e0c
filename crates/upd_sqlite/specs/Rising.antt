-- When the tables of a database are in order.
use Rattle.std.specs.List.{AllByRecursion}
use Rattle.sqlite_trees.specs.declared.store.Shape.TheVariants.{Table}
use Rattle.sqlite_trees.specs.View.{View, IsShaped, IsOrdered}
use Rattle.sqlite_trees.specs.Objects.{catalog_tree, IsListed}
use Rattle.sqlite.specs.Effect.{Database}

-- each tree of the last commit has its shape and order, and the list of objects names the shapes
pub record Rises (v : View) : Type 0 where
  pub ordered : IsOrdered v.committed_shape v.committed
  pub listed : IsListed (v.committed catalog_tree) v.committed_shape v.committed_reals

-- each table's rows are in rising order of their rowids, which are integers
abbrev pub TablesRise : Database → Type 0
TablesRise db = AllByRecursion (λ t. IsShaped Table (db.trees t.tree)) db.schema.tables
