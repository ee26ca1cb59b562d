-- The checks of a definition, in groups.
use Rattle.std.specs.Prelude.{ℕ, not, ◌&&◌, nat_lt, List, [], ◌∷◌, ◌++◌, length, is_some, Result, Ok}
use Rattle.std.specs.List.{list_any}
use Rattle.chv_ast.specs.declared.refusal.Refusal.{Refusal}
use Rattle.chv_ast.specs.declared.refusal.Refusal.TheVariants.{UnknownColumn, NameTaken, TypeMismatch, ViewCycle, TooManyPaths, ColumnNotMergeable, LimitPassed}
use Rattle.chv_ast.specs.declared.statement.ColumnDef.{ColumnDef}
use Rattle.chv_ast.specs.declared.statement.CreateView.{CreateView}
use Rattle.chv_ast.specs.declared.statement.EngineWord.{EngineWord}
use Rattle.chv_ast.specs.declared.statement.Select.{Select}
use Rattle.chv_ast.specs.declared.statement.Statement.{Statement}
use Rattle.chv_catalog.specs.Checks.{has_repeat, is_unknown}
use Rattle.chv_catalog.specs.Paths.{links_of, reaches, passes_limits}
use Rattle.chv_catalog.specs.Schemas.{Catalog, definitions_in, names_of}
use Rattle.chv_catalog.specs.declared.link.Link.{Link}
use Rattle.chv_query.specs.Definitions.{column_names, has_loose, has_state, is_aggregating}
use Rattle.chv_query.specs.Queries.{asked}
use Rattle.chv_query.specs.Tables.{table_of}
use Rattle.chv_query.specs.Views.{fills, names_in}
use Rattle.chv_print.specs.StatementTexts.{statement_text}
use Rattle.chv_types.specs.Names.{place_of}
use Rattle.chv_types.specs.Steps.{and_then, refuse_if}
use Rattle.chv_types.specs.declared.table.Column.{Column}

-- the checks of the name, and of the room for one more
unfoldable pub checked_free : Catalog → List ℕ → Result (Unit {0}) Refusal
checked_free catalog name =
    refuse_if (is_some (place_of name (names_of catalog))) NameTaken
    (refuse_if (not (nat_lt (definitions_in catalog) 256)) LimitPassed (Ok tt))

-- the checks of a table in front of the columns' kinds
unfoldable pub checked_names : Catalog → List ℕ → List ColumnDef → Result (Unit {0}) Refusal
checked_names catalog name columns =
    and_then (checked_free catalog name) (λ free.
    refuse_if (nat_lt 64 (length columns)) LimitPassed
    (refuse_if (has_repeat (column_names columns)) NameTaken (Ok tt)))

-- the checks of the key and the engine, where the columns are made
unfoldable pub checked_key : List ColumnDef → List Column → EngineWord → List (List ℕ) → Result (Unit {0}) Refusal
checked_key columns made engine key =
    refuse_if (list_any (is_unknown (column_names columns)) key) UnknownColumn
    (refuse_if (has_repeat key) NameTaken
    (refuse_if (has_state key made) TypeMismatch
    (refuse_if (is_aggregating engine && has_loose key made) ColumnNotMergeable (Ok tt))))

-- the check of the canonical text
unfoldable pub checked_text : Statement → Result (Unit {0}) Refusal
checked_text made = refuse_if (nat_lt 1048576 (length (statement_text made))) LimitPassed (Ok tt)

-- the number of the table of a name
unfoldable pub number_in : Catalog → List ℕ → Result ℕ Refusal
number_in catalog name = and_then (table_of catalog name) (λ found. Ok found.0)

-- the tables that a view links, the source being looked up first
unfoldable pub linked : Catalog → CreateView → Result Link Refusal
linked catalog made =
    and_then (number_in catalog made.select.table) (λ source.
    and_then (number_in catalog made.target) (λ target. Ok (record { source = source; target = target })))

-- output columns fill a table: their names differ, each is that of a column, and this may hold its values
unfoldable pub checked_outputs : List Column → List Column → Result (Unit {0}) Refusal
checked_outputs target outputs =
    refuse_if (has_repeat (names_in outputs)) NameTaken
    (refuse_if (list_any (is_unknown (names_in target)) (names_in outputs)) UnknownColumn
    (refuse_if (list_any (λ column. not (fills target column)) outputs) TypeMismatch (Ok tt)))

-- the checks of a view's select, and of what it puts into the view's target
unfoldable pub checked_select : Catalog → Select → List Column → Result (Unit {0}) Refusal
checked_select catalog select target = and_then (asked catalog select) (λ query. checked_outputs target query.columns)

-- the checks of the paths that a view makes
unfoldable pub checked_paths : Catalog → Link → Result (Unit {0}) Refusal
checked_paths catalog link =
    refuse_if (reaches (links_of catalog.views) link.target link.source) ViewCycle
    (refuse_if (passes_limits (length catalog.tables) (links_of catalog.views ++ link ∷ [])) TooManyPaths (Ok tt))
