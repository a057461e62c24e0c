-- The schema of each version, part by part.
use Rattle.upd_migrate.proofs.Common.{◌≡◌, length, refl, sym, ap, ◌∙◌, arith, first_tables, Version, First, Second, Third, schema_of}
use Rattle.sqlite_tied.specs.Compute.{everything}
use Rattle.sqlite_schema.specs.declared.schema.Schema.{Schema}
use Rattle.upd_migrate.specs.Older.{tables_of}

pub first_is : (version : Version) → first_tables (tables_of version) ≡ schema_of version
unfolding everything
first_is First = refl
first_is Second = refl
first_is Third = refl

-- how many tables the schema of a version has
counted : (version : Version) → length (schema_of version).tables ≡ tables_of version
unfolding everything
counted First = refl
counted Second = refl
counted Third = refl

by_count : (v w : Version) → tables_of v ≡ tables_of w → v ≡ w
by_count First First e = refl
by_count Second Second e = refl
by_count Third Third e = refl
by_count First Second e = absurd (omega (arith, e))
by_count First Third e = absurd (omega (arith, e))
by_count Second First e = absurd (omega (arith, e))
by_count Second Third e = absurd (omega (arith, e))
by_count Third First e = absurd (omega (arith, e))
by_count Third Second e = absurd (omega (arith, e))

-- a schema is that of one version
pub one_version : (v w : Version) → schema_of v ≡ schema_of w → v ≡ w
one_version v w e = by_count v w (sym (counted v) ∙ ap (λ (s : Schema). length s.tables) e ∙ counted w)
