-- From the shapes of the trees to the tables of a schema.
use Rattle.std.proofs.Common.{◌≡◌, ℕ, subst}
use Rattle.sqlite_trees.specs.declared.store.Shape.{Shape}
use Rattle.sqlite_trees.specs.declared.store.Shape.TheVariants.{Table}
use Rattle.sqlite_trees.specs.Tree.{Trees}
use Rattle.sqlite_trees.specs.View.{IsShaped, IsOrdered}
use Rattle.sqlite_trees.specs.Objects.{catalog_tree, IsListed}
use Rattle.sqlite_schema.specs.declared.schema.Schema.{Schema}
use Rattle.sqlite_catalog.specs.Listing.{AreListed}
use Rattle.sqlite_catalog.proofs.LayoutLemmas.{laid_out}
use Rattle.sqlite_keyed.proofs.ListLemmas.{all_weaker}
use Rattle.upd_sqlite.specs.Rising.{TablesRise}

pub tables_rise : (trees : Trees) (shapes : ℕ → Shape) (reals : ℕ → ℕ) (schema : Schema) → IsListed (trees catalog_tree) shapes reals → IsOrdered shapes trees
    → AreListed (trees catalog_tree) schema → TablesRise (record { schema = schema; trees = trees })
tables_rise trees shapes reals schema listed ordered are =
    let laid = laid_out listed (subst (λ s. IsShaped s (trees catalog_tree)) listed.itself.0 (ordered catalog_tree)) are in
    all_weaker (λ t. shapes t.tree ≡ Table) (λ t. IsShaped Table (trees t.tree)) (λ t shape. subst (λ s. IsShaped s (trees t.tree)) shape (ordered t.tree))
    schema.tables laid.tables
