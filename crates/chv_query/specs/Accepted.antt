-- What a catalog has: accepted CREATE statements, and what they define.
use Rattle.std.specs.Prelude.{ℕ, ◌≡◌, List, [], ◌∷◌, map, Ok}
use Rattle.std.specs.List.{flat_map}
use Rattle.chv_ast.specs.Formed.{WellFormed}
use Rattle.chv_ast.specs.declared.statement.CreateTable.{CreateTable}
use Rattle.chv_ast.specs.declared.statement.Statement.{Statement}
use Rattle.chv_ast.specs.declared.statement.Statement.TheVariants as statement
use Rattle.chv_catalog.specs.Schemas.{Catalog, no_definitions, with_definition}
use Rattle.chv_catalog.specs.declared.definition.Definition.{Definition}
use Rattle.chv_catalog.specs.declared.definition.Definition.TheVariants.{Table, View}
use Rattle.chv_catalog.specs.declared.table_def.TableDef.{TableDef}
use Rattle.chv_catalog.specs.declared.view_def.ViewDef.{ViewDef}
use Rattle.chv_query.specs.Definitions.{defined}
use Rattle.chv_query.specs.Views.{defined_view}
use Rattle.chv_print.specs.StatementTexts.{statement_text}

-- an accepted CREATE statement, and what it defines
pub record Accepted : Type 0 where
  pub statement : Statement
  pub definition : Definition

-- the table of a definition, where it is one
abbrev pub tables_in : Definition → List TableDef
tables_in (Table def) = def ∷ []
tables_in (View def) = []

-- the view of a definition, where it is one
abbrev pub views_in : Definition → List ViewDef
views_in (Table def) = []
views_in (View def) = def ∷ []

-- the tables of a schema, in the order of creation
abbrev pub tables_of : List Accepted → List TableDef
tables_of schema = flat_map (λ (accepted : Accepted). tables_in accepted.definition) schema

-- the views of a schema, in the order of creation
abbrev pub views_of : List Accepted → List ViewDef
views_of schema = flat_map (λ (accepted : Accepted). views_in accepted.definition) schema

-- what a schema defines
abbrev pub catalog_of : List Accepted → Catalog
catalog_of schema = record { tables = tables_of schema; views = views_of schema }

-- no check refuses a statement beside what is defined, and this is what it defines
abbrev pub Defines : Catalog → Statement → Definition → Type 0
Defines catalog (statement.CreateTable made) (Table def) = defined catalog made ≡ Ok def
Defines catalog (statement.CreateView made) (View def) = defined_view catalog made ≡ Ok def
Defines catalog other definition = ⊥

-- a statement is accepted beside what is defined
pub record IsAccepted (catalog : Catalog) (accepted : Accepted) : Type 0 where
  pub formed : WellFormed accepted.statement
  pub defines : Defines catalog accepted.statement accepted.definition

-- statements are accepted one after the other, beside what is defined
abbrev pub AreAccepted : Catalog → List Accepted → Type 0
AreAccepted catalog [] = Unit {0}
AreAccepted catalog (accepted ∷ schema) = IsAccepted catalog accepted × AreAccepted (with_definition accepted.definition catalog) schema

-- a schema: each of its statements is accepted over those before it
abbrev pub IsSchema : List Accepted → Type 0
IsSchema schema = AreAccepted no_definitions schema

-- a catalog is what a schema defines
abbrev pub IsCatalog : Catalog → Type 0
IsCatalog catalog = (schema : List Accepted) × IsSchema schema × (catalog_of schema ≡ catalog)

-- a catalog's payload is the canonical text of an accepted statement
abbrev pub catalog_payload : Accepted → List ℕ
catalog_payload accepted = statement_text accepted.statement

-- the payloads of a catalog's log that is right: the texts of a schema
pub record AreTexts (payloads : List (List ℕ)) : Type 0 where
  pub schema : List Accepted
  pub are : payloads ≡ map catalog_payload schema
  pub lawful : IsSchema schema
