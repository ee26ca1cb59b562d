-- The table that a statement names.
use Rattle.std.proofs.Common.{◌≡◌, ◌∙◌, ◌+◌, ◌-◌, ℕ, List, Option, None, Some, Ok, Err, option_map, slice_get, refl, sym, ap, arith}
use Rattle.chv_ast.specs.declared.refusal.Refusal.TheVariants.{UnknownTable}
use Rattle.chv_ast.specs.declared.statement.Select.{Select}
use Rattle.chv_catalog.specs.Schemas.{Catalog, table_names}
use Rattle.chv_catalog.specs.declared.table_def.TableDef.{TableDef}
use Rattle.chv_types.specs.Names.{place_of}
use Rattle.chv_query.specs.Queries.{asked, asked_of}
use Rattle.chv_query.specs.Tables.{table_of}

numbered : (catalog : Catalog) (name : List ℕ) (place : Option ℕ) (number : ℕ) (def : TableDef) → place_of name (table_names catalog.tables) ≡ place
    → Some number ≡ option_map (λ place. place + 1) place → slice_get catalog.tables (number - 1) ≡ Some def → table_of catalog name ≡ Ok (number, def)
numbered catalog name None number def found is stands = cc
numbered catalog name (Some place) number def found is stands =
    let next : number ≡ place + 1 = cc in
    let before : number - 1 ≡ place = omega arith in
    let there : slice_get catalog.tables place ≡ Some def = ap (slice_get catalog.tables) (sym before) ∙ stands in
    rw (found, there, next) refl

-- a name stands for the table of its number
pub table_of-found : (catalog : Catalog) (name : List ℕ) (number : ℕ) (def : TableDef)
    → Some number ≡ option_map (λ place. place + 1) (place_of name (table_names catalog.tables)) → slice_get catalog.tables (number - 1) ≡ Some def → table_of catalog name ≡ Ok (number, def)
table_of-found catalog name number def is stands = numbered catalog name (place_of name (table_names catalog.tables)) number def refl is stands

absent : (place : Option ℕ) → None ≡ option_map (λ place. place + 1) place → place ≡ None
absent None is = refl
absent (Some place) is = cc

-- a name of no table is refused
pub table_of-absent : (catalog : Catalog) (name : List ℕ) → None ≡ option_map (λ place. place + 1) (place_of name (table_names catalog.tables)) → table_of catalog name ≡ Err UnknownTable
table_of-absent catalog name is = rw (absent (place_of name (table_names catalog.tables)) is) refl

-- what is asked of the table that is found
pub asked-found : (catalog : Catalog) (select : Select) (number : ℕ) (def : TableDef) → table_of catalog select.table ≡ Ok (number, def)
    → asked catalog select ≡ asked_of number def select
unfolding asked
asked-found catalog select number def found = rw found refl

pub asked-absent : (catalog : Catalog) (select : Select) → table_of catalog select.table ≡ Err UnknownTable → asked catalog select ≡ Err UnknownTable
unfolding asked
asked-absent catalog select absent = rw absent refl
