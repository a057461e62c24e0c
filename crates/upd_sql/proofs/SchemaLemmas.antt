-- The library's schema, part by part.
use Rattle.upd_sql.proofs.Common.{◌≡◌, ℕ, List, [], take, refl, ap, ◌∙◌, library_schema, no_schema, key_indexes}
use Rattle.sqlite_tied.specs.Compute.{everything}
use Rattle.sqlite_schema.specs.declared.schema.Table.{Table}
use Rattle.sqlite_schema.specs.declared.schema.Index.{Index}
use Rattle.sqlite_schema.specs.declared.schema.View.{View}
use Rattle.sqlite_schema.specs.declared.schema.Schema.{Schema}
use Rattle.upd_sql.specs.Wanted.{first_tables}

abbrev schema_of : List Table → List Index → List View → Schema
schema_of tables indexes views = record { tables = tables; indexes = indexes; views = views }

joined : (s : Schema) (tables : List Table) (indexes : List Index) (views : List View) → s.tables ≡ tables → s.indexes ≡ indexes → s.views ≡ views
    → s ≡ schema_of tables indexes views
joined s tables indexes views t i v =
    ap (λ x. schema_of x s.indexes s.views) t ∙ ap (λ x. schema_of tables x s.views) i ∙ ap (schema_of tables indexes) v

pub first_are : (s : Schema) (n : ℕ) → s.views ≡ [] → s.tables ≡ take n library_schema.tables → s.indexes ≡ take n key_indexes → s ≡ first_tables n
first_are s n views tables indexes = joined s (take n library_schema.tables) (take n key_indexes) [] tables indexes views

-- all nine are the library's
pub all_are : first_tables 9 ≡ library_schema
unfolding everything
all_are = refl

pub no_schema_is : (s : Schema) → s.tables ≡ [] → s.indexes ≡ [] → s.views ≡ [] → s ≡ no_schema
no_schema_is s tables indexes views = joined s [] [] [] tables indexes views
