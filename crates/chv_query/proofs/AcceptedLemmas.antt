-- What holds of statements that are accepted, of the tables that they define, and of a schema with a statement more.
use Rattle.std.proofs.Common.{◌≡◌, ◌<◌, ◌≤◌, ◌+◌, true, List, [], ◌∷◌, ◌++◌, length, None, Ok, Result, refl, sym, ap, ap₂, subst, ◌∙◌, arith, append_assoc}
use Rattle.std.specs.List.{All}
use Rattle.std.proofs.lemmas.Grind.{flat_map-append}
use Rattle.std.proofs.lemmas.List.{append-nil, length-append, length-map}
use Rattle.std.proofs.lemmas.List.Elements.{All-append, All-cons, All-nil}
use Rattle.chv_ast.specs.Formed.{WellFormed}
use Rattle.chv_ast.specs.declared.refusal.Refusal.{Refusal}
use Rattle.chv_ast.specs.declared.statement.CreateTable.{CreateTable}
use Rattle.chv_ast.specs.declared.statement.KindWord.TheVariants as kind
use Rattle.chv_ast.specs.declared.statement.Statement.{Statement}
use Rattle.chv_ast.specs.declared.statement.Statement.TheVariants as statement
use Rattle.chv_ast.specs.declared.statement.CreateView.{CreateView}
use Rattle.chv_catalog.specs.Schemas.{Catalog, definition_name, definitions_in, kinds_of, names_of, no_definitions, with_definition}
use Rattle.chv_catalog.specs.declared.definition.Definition.{Definition}
use Rattle.chv_catalog.specs.declared.definition.Definition.TheVariants.{Table, View}
use Rattle.chv_catalog.specs.declared.table_def.TableDef.{TableDef}
use Rattle.chv_catalog.specs.declared.view_def.ViewDef.{ViewDef}
use Rattle.chv_print.specs.StatementTexts.{statement_text, table_text, view_text}
use Rattle.chv_types.specs.Names.{place_of}
use Rattle.chv_types.specs.declared.table.Column.{Column}
use Rattle.chv_query.specs.Accepted.{Accepted, AreAccepted, Defines, IsAccepted, IsCatalog, IsSchema, catalog_of, tables_in, tables_of, views_in, views_of}
use Rattle.chv_query.specs.Definitions.{defined}
use Rattle.chv_query.specs.Views.{defined_view}
use Rattle.chv_query.proofs.DefinitionLemmas.{passed}
use Rattle.chv_query.proofs.ViewLemmas.{passed_view}

-- what a statement defines, it defines as a CREATE TABLE
pub record IsTable (catalog : Catalog) (s : Statement) (def : TableDef) : Type 0 where
  pub made : CreateTable
  pub is : s ≡ statement.CreateTable made
  pub defines : defined catalog made ≡ Ok def

pub defines_table : (catalog : Catalog) (s : Statement) (def : TableDef) → Defines catalog s (Table def) → IsTable catalog s def
defines_table catalog (statement.CreateTable made) def defines = record { made = made; is = refl; defines = defines }
defines_table catalog (statement.CreateView made) def defines = absurd defines
defines_table catalog (statement.Insert brought) def defines = absurd defines
defines_table catalog (statement.Query asked) def defines = absurd defines
defines_table catalog (statement.ShowParts asked) def defines = absurd defines
defines_table catalog (statement.Optimize asked) def defines = absurd defines
defines_table catalog statement.FlushQueue def defines = absurd defines

-- what a statement defines as a view, it defines as a CREATE MATERIALIZED VIEW
pub record IsView (catalog : Catalog) (s : Statement) (def : ViewDef) : Type 0 where
  pub made : CreateView
  pub is : s ≡ statement.CreateView made
  pub defines : defined_view catalog made ≡ Ok def

pub defines_view : (catalog : Catalog) (s : Statement) (def : ViewDef) → Defines catalog s (View def) → IsView catalog s def
defines_view catalog (statement.CreateTable made) def defines = absurd defines
defines_view catalog (statement.CreateView made) def defines = record { made = made; is = refl; defines = defines }
defines_view catalog (statement.Insert brought) def defines = absurd defines
defines_view catalog (statement.Query asked) def defines = absurd defines
defines_view catalog (statement.ShowParts asked) def defines = absurd defines
defines_view catalog (statement.Optimize asked) def defines = absurd defines
defines_view catalog statement.FlushQueue def defines = absurd defines

same_of : {A : Type 0} (a b : A) (r : Result A Refusal) → r ≡ Ok a → r ≡ Ok b → a ≡ b
same_of {A} a b r x y = cc

-- a statement defines one thing
pub Defines-unique : (catalog : Catalog) (s : Statement) (a b : Definition) → Defines catalog s a → Defines catalog s b → a ≡ b
Defines-unique catalog s (Table a) (Table b) one other =
    let table = defines_table catalog s a one in
    ap Table (same_of a b (defined catalog table.made) table.defines (subst (λ (t : Statement). Defines catalog t (Table b)) table.is other))
Defines-unique catalog s (View a) (View b) one other =
    let view = defines_view catalog s a one in
    ap View (same_of a b (defined_view catalog view.made) view.defines (subst (λ (t : Statement). Defines catalog t (View b)) view.is other))
Defines-unique catalog s (Table a) (View b) one other =
    let table = defines_table catalog s a one in
    absurd (subst (λ (t : Statement). Defines catalog t (View b)) table.is other)
Defines-unique catalog s (View a) (Table b) one other =
    let view = defines_view catalog s a one in
    absurd (subst (λ (t : Statement). Defines catalog t (Table b)) view.is other)

some_text : (made : CreateTable) → 1 ≤ length (statement_text (statement.CreateTable made))
unfolding statement_text table_text
some_text made = omega arith

some_view_text : (made : CreateView) → 1 ≤ length (statement_text (statement.CreateView made))
unfolding statement_text view_text
some_view_text made = omega arith

-- what is asked of the columns of each table of a schema
pub record IsMade (def : TableDef) : Type 0 where
  pub some : 1 ≤ length (kinds_of def)
  pub most : length (kinds_of def) ≤ 64

-- what a statement makes that passes the checks beside others
pub record IsBuilt (catalog : Catalog) (s : Statement) (definition : Definition) : Type 0 where
  pub free : place_of (definition_name definition) (names_of catalog) ≡ None
  pub few : definitions_in catalog < 256
  pub short : length (statement_text s) ≤ 1048576
  pub some : 1 ≤ length (statement_text s)
  pub columns : WellFormed s → All IsMade (tables_in definition)

built_table : (catalog : Catalog) (made : CreateTable) (def : TableDef) → defined catalog made ≡ Ok def → IsBuilt catalog (statement.CreateTable made) (Table def)
built_table catalog made def defines =
    let checks = passed catalog made def defines in
    let many = length-map def.columns (λ (column : Column). column.kind) in
    record {
      free = checks.free;
      few = checks.room;
      short = checks.short;
      some = some_text made;
      columns = λ formed. All-cons IsMade def [] (record { some = omega (arith, many, checks.some formed); most = omega (arith, many, checks.few) }) (All-nil IsMade);
    }

built_view : (catalog : Catalog) (made : CreateView) (def : ViewDef) → defined_view catalog made ≡ Ok def → IsBuilt catalog (statement.CreateView made) (View def)
built_view catalog made def defines =
    let checks = passed_view catalog made def defines in
    record {
      free = checks.free;
      few = checks.room;
      short = checks.short;
      some = some_view_text made;
      columns = λ formed. All-nil IsMade;
    }

is_built : (catalog : Catalog) (s : Statement) (definition : Definition) → Defines catalog s definition → IsBuilt catalog s definition
is_built catalog s (Table def) defines =
    let table = defines_table catalog s def defines in
    subst (λ (t : Statement). IsBuilt catalog t (Table def)) (sym table.is) (built_table catalog table.made def table.defines)
is_built catalog s (View def) defines =
    let view = defines_view catalog s def defines in
    subst (λ (t : Statement). IsBuilt catalog t (View def)) (sym view.is) (built_view catalog view.made def view.defines)

module _ (catalog : Catalog) (s : Statement) (definition : Definition) (defines : Defines catalog s definition) where
  pub made_free : place_of (definition_name definition) (names_of catalog) ≡ None
  made_free = (is_built catalog s definition defines).free

  pub made_few : definitions_in catalog < 256
  made_few = (is_built catalog s definition defines).few

  pub made_short : length (statement_text s) ≤ 1048576
  made_short = (is_built catalog s definition defines).short

  pub made_some : 1 ≤ length (statement_text s)
  made_some = (is_built catalog s definition defines).some

  pub made_columns : WellFormed s → All IsMade (tables_in definition)
  made_columns = (is_built catalog s definition defines).columns

-- each table of a schema has from 1 to 64 columns
pub all_made : (catalog : Catalog) (schema : List Accepted) → AreAccepted catalog schema → All IsMade (tables_of schema)
all_made catalog [] are = All-nil IsMade
all_made catalog (accepted ∷ schema) are =
    All-append IsMade (tables_in accepted.definition) (tables_of schema)
    (made_columns catalog accepted.statement accepted.definition are.0.defines are.0.formed)
    (all_made (with_definition accepted.definition catalog) schema are.1)

-- and so has each table of a catalog
pub catalog_made : (catalog : Catalog) → IsCatalog catalog → All IsMade catalog.tables
catalog_made catalog is = subst (λ (c : Catalog). All IsMade c.tables) is.2 (all_made no_definitions is.0 is.1)

-- a catalog with the definitions of a schema, behind the others
abbrev pub with_schema : Catalog → List Accepted → Catalog
with_schema catalog schema = record { tables = catalog.tables ++ tables_of schema; views = catalog.views ++ views_of schema }

-- of none it is the same
pub with_schema-nil : (catalog : Catalog) → with_schema catalog [] ≡ catalog
with_schema-nil catalog = ap₂ (λ (t : List TableDef) (v : List ViewDef). record { tables = t; views = v }) (append-nil catalog.tables) (append-nil catalog.views)

-- one definition after the other
pub with_schema-cons : (catalog : Catalog) (definition : Definition) (schema : List Accepted)
    → with_schema (with_definition definition catalog) schema
    ≡ record { tables = catalog.tables ++ (tables_in definition ++ tables_of schema); views = catalog.views ++ (views_in definition ++ views_of schema) }
with_schema-cons catalog (Table def) schema = ap (λ (t : List TableDef). record { tables = t; views = catalog.views ++ views_of schema }) (append_assoc catalog.tables (def ∷ []) (tables_of schema))
with_schema-cons catalog (View def) schema = ap (λ (v : List ViewDef). record { tables = catalog.tables ++ tables_of schema; views = v }) (append_assoc catalog.views (def ∷ []) (views_of schema))

-- a statement is accepted beside all those before it
pub AreAccepted-push : (catalog : Catalog) (schema : List Accepted) (accepted : Accepted) → AreAccepted catalog schema → IsAccepted (with_schema catalog schema) accepted
    → AreAccepted catalog (schema ++ accepted ∷ [])
AreAccepted-push catalog [] accepted are is =
    (subst (λ (c : Catalog). IsAccepted c accepted) (with_schema-nil catalog) is, tt)
AreAccepted-push catalog (first ∷ schema) accepted are is = (
  are.0,
  AreAccepted-push (with_definition first.definition catalog) schema accepted are.1
      (subst (λ (c : Catalog). IsAccepted c accepted) (sym (with_schema-cons catalog first.definition schema)) is),
)

-- so is it behind a schema
pub IsSchema-push : (schema : List Accepted) (accepted : Accepted) → IsSchema schema → IsAccepted (catalog_of schema) accepted → IsSchema (schema ++ accepted ∷ [])
IsSchema-push schema accepted = AreAccepted-push no_definitions schema accepted

-- its table, where it is one, is the last
pub tables_of-push : (schema : List Accepted) (accepted : Accepted) → tables_of (schema ++ accepted ∷ []) ≡ tables_of schema ++ tables_in accepted.definition
tables_of-push schema accepted =
    flat_map-append (λ (a : Accepted). tables_in a.definition) schema (accepted ∷ [])
    ∙ ap (λ (defs : List TableDef). tables_of schema ++ defs) (append-nil (tables_in accepted.definition))

-- its view, where it is one, is the last
pub views_of-push : (schema : List Accepted) (accepted : Accepted) → views_of (schema ++ accepted ∷ []) ≡ views_of schema ++ views_in accepted.definition
views_of-push schema accepted =
    flat_map-append (λ (a : Accepted). views_in a.definition) schema (accepted ∷ [])
    ∙ ap (λ (defs : List ViewDef). views_of schema ++ defs) (append-nil (views_in accepted.definition))

with_parts : (catalog : Catalog) (definition : Definition)
    → record { tables = catalog.tables ++ tables_in definition; views = catalog.views ++ views_in definition } ≡ with_definition definition catalog
with_parts catalog (Table def) = ap (λ (v : List ViewDef). record { tables = catalog.tables ++ def ∷ []; views = v }) (append-nil catalog.views)
with_parts catalog (View def) = ap (λ (t : List TableDef). record { tables = t; views = catalog.views ++ def ∷ [] }) (append-nil catalog.tables)

-- what it defines is defined behind the others
pub catalog_of-push : (schema : List Accepted) (accepted : Accepted) → catalog_of (schema ++ accepted ∷ []) ≡ with_definition accepted.definition (catalog_of schema)
catalog_of-push schema accepted =
    ap₂ (λ (t : List TableDef) (v : List ViewDef). record { tables = t; views = v }) (tables_of-push schema accepted) (views_of-push schema accepted)
    ∙ with_parts (catalog_of schema) accepted.definition

-- a definition is of a table or of a view
one_definition : (definition : Definition) → length (tables_in definition) + length (views_in definition) ≡ 1
one_definition (Table def) = refl
one_definition (View def) = refl

-- a schema has as many statements as it has tables and views
pub length-schema : (schema : List Accepted) → length (tables_of schema) + length (views_of schema) ≡ length schema
length-schema [] = refl
length-schema (accepted ∷ schema) =
    omega (arith, length-schema schema, length-append (tables_in accepted.definition) (tables_of schema), length-append (views_in accepted.definition) (views_of schema), one_definition accepted.definition)
