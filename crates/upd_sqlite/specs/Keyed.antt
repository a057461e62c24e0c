-- Tables whose key is a PRIMARY KEY beside the rowid, and the plain queries over one table.
use Rattle.std.specs.Prelude.{ℕ, ◌-◌, ◌^◌, true, false, pos, negsuc, List, [], ◌∷◌, None}
use Rattle.sqlite_value.specs.declared.keys.Collation.TheVariants.{Binary}
use Rattle.sqlite_value.specs.declared.keys.Key.{Key}
use Rattle.sqlite_value.specs.declared.value.Value.TheVariants.{Null, Int}
use Rattle.sqlite_value.specs.Keys.{ascending, plain}
use Rattle.sqlite_sql.specs.Term.{Term, col, lit}
use Rattle.sqlite_sql.specs.Query.{Query, inner, end}
use Rattle.sqlite_schema.specs.declared.schema.Kind.{Kind}
use Rattle.sqlite_schema.specs.declared.schema.Column.{Column}
use Rattle.sqlite_schema.specs.declared.schema.Table.{Table}

-- a column of one kind that is never NULL
abbrev pub needed : List ℕ → Kind → Column
needed name kind = record { name = name; kind = kind; is_strict = true; not_null = true; default = Null; collation = Binary }

-- a table of such columns with a key, whose places count from 1; its rowid is not a column
abbrev pub keyed : ℕ → List ℕ → List Column → List ℕ → Table
keyed tree name columns key = record {
  name = name;
  tree = tree;
  columns = columns;
  key = None;
  primary = key;
  uniques = key ∷ [];
  orders = plain ∷ [];
  checks = [];
  references = [];
  computed = [];
  stamps = record { places = []; terms = []; formats = [] };
  is_counted = false;
}

-- what is shown of the rows of one tree that pass all tests, in an order
abbrev pub plain_query : ℕ → List Term → List Term → List (Term × Key) → Query
plain_query tree tests project order = record {
  from = inner tree end;
  filter = tests;
  group = None;
  project = project;
  distinct = false;
  collations = [];
  order = order;
  limit = lit (Int (negsuc 0));
  offset = lit (Int (pos 0));
}

-- in the order in which the rows came
abbrev pub row_order : List (Term × Key)
row_order = (col 1 0, ascending Binary) ∷ []
