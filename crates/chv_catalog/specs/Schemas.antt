-- The tables and the views of a store.
use Rattle.std.specs.Prelude.{ℕ, ◌+◌, ◌<◌, ◌≤◌, List, [], ◌∷◌, ◌++◌, length, map, Option, None, Some}
use Rattle.std.specs.List.{Contains}
use Rattle.std.specs.declared.alloc.Global.{Global}
use Rattle.std.specs.declared.vec.Vec.{Vec}
use Rattle.std.specs.Vec.{vec_len, vec_capacity}
use Rattle.chv_types.specs.declared.kind.Kind.{Kind}
pub use Rattle.chv_types.specs.Names.{place_of}
use Rattle.chv_catalog.specs.Names.{Named}
use Rattle.chv_catalog.specs.declared.definition.Definition.{Definition}
use Rattle.chv_catalog.specs.declared.definition.Definition.TheVariants.{Table, View}
use Rattle.chv_catalog.specs.declared.table_def.TableDef.{TableDef}
use Rattle.chv_catalog.specs.declared.view_def.ViewDef.{ViewDef}

-- what is defined: the tables and the views, each in order of creation
pub record Catalog : Type 0 where
  pub tables : List TableDef
  pub views : List ViewDef

-- nothing is defined
abbrev pub no_definitions : Catalog
no_definitions = record { tables = []; views = [] }

-- the name of what is defined
abbrev pub definition_name : Definition → List ℕ
definition_name (Table def) = def.name
definition_name (View def) = def.name

-- a table is defined behind the other tables, a view behind the other views
abbrev pub with_definition : Definition → Catalog → Catalog
with_definition (Table def) catalog = record catalog { tables = catalog.tables ++ def ∷ [] }
with_definition (View def) catalog = record catalog { views = catalog.views ++ def ∷ [] }

-- the names of tables, in order
abbrev pub table_names : List TableDef → List (List ℕ)
table_names defs = map (λ def. def.name) defs

-- the names of views, in order
abbrev pub view_names : List ViewDef → List (List ℕ)
view_names defs = map (λ def. def.name) defs

-- the names that are taken: those of the tables, then those of the views
abbrev pub names_of : Catalog → List (List ℕ)
names_of catalog = table_names catalog.tables ++ view_names catalog.views

-- how many tables and views are defined
abbrev pub definitions_in : Catalog → ℕ
definitions_in catalog = length catalog.tables + length catalog.views

-- the kinds of a table's columns
abbrev pub kinds_of : TableDef → List Kind
kinds_of def = map (λ column. column.kind) def.columns

-- the names of a table's columns
abbrev pub columns_of : TableDef → List (List ℕ)
columns_of def = map (λ column. column.name) def.columns

-- each name stands once in a list
abbrev pub AreDistinct : List (List ℕ) → Type 0
AreDistinct [] = Unit {0}
AreDistinct (name ∷ names) = (Contains names name → ⊥) × AreDistinct names

-- the most tables and views that stand
abbrev pub MAX_DEFINITIONS : ℕ
MAX_DEFINITIONS = 256

-- what is held: what is defined, and the name for which there is room, if for any
pub record Seen : Type 0 where
  pub catalog : Catalog
  pub room : Option (List ℕ)

-- there is room in memory for one more
abbrev pub HasSpare : {A : Type 0} → Vec A Global → Named → Type 0
HasSpare defs named = (vec_len defs < vec_capacity defs) × (1 ≤ named.room)

-- where there is a name for it, there is room in memory for a table more and for a view more, and for their names
abbrev pub HasRoom : Vec TableDef Global → Named → Vec ViewDef Global → Named → Option (Vec ℕ Global) → Type 0
HasRoom tables by_name views named None = Unit {0}
HasRoom tables by_name views named (Some name) = HasSpare tables by_name × HasSpare views named
