-- What a CREATE MATERIALIZED VIEW statement defines: docs/SQL.md, "CREATE MATERIALIZED VIEW".
use Rattle.std.specs.Prelude.{ℕ, ℤ, Bool, false, not, ◌&&◌, ◌||◌, nat_lt, int_le, List, [], ◌∷◌, ◌++◌, length, map, Option, None, Some, is_some, Result, Ok, slice_get}
use Rattle.std.specs.List.{list_any}
use Rattle.std.specs.Str.{bytes_eq}
use Rattle.chv_ast.specs.declared.refusal.Refusal.{Refusal}
use Rattle.chv_ast.specs.declared.refusal.Refusal.TheVariants.{UnknownColumn, NameTaken, TypeMismatch, ViewCycle, TooManyPaths, LimitPassed}
use Rattle.chv_ast.specs.declared.statement.CreateView.{CreateView}
use Rattle.chv_ast.specs.declared.statement.Statement.TheVariants as statement
use Rattle.chv_block.specs.Spellings.{kind_code}
use Rattle.chv_catalog.specs.Checks.{has_repeat, is_unknown}
use Rattle.chv_catalog.specs.Paths.{links_of, reaches, passes_limits}
use Rattle.chv_catalog.specs.Schemas.{Catalog, definitions_in, names_of}
use Rattle.chv_catalog.specs.declared.view_def.ViewDef.{ViewDef}
use Rattle.chv_print.specs.StatementTexts.{statement_text}
use Rattle.chv_types.specs.Kinds.{range_of}
use Rattle.chv_types.specs.Names.{place_of}
use Rattle.chv_types.specs.Steps.{and_then, refuse_if}
use Rattle.chv_types.specs.declared.kind.Kind.{Kind}
use Rattle.chv_types.specs.declared.kind.Kind.TheVariants as kind
use Rattle.chv_types.specs.declared.table.Column.{Column}
use Rattle.chv_query.specs.Queries.{asked_of}
use Rattle.chv_query.specs.Tables.{table_of}

-- two kinds are the same
abbrev pub kind_eq : Kind → Kind → Bool
kind_eq a b = bytes_eq (kind_code a) (kind_code b)

-- a range lies within another
abbrev pub lies_within : Option (ℤ × ℤ) → Option (ℤ × ℤ) → Bool
lies_within None outer = false
lies_within (Some inner) None = false
lies_within (Some inner) (Some outer) = int_le outer.0 inner.0 && int_le inner.1 outer.1

-- both are integer kinds, and each number of the first is one of the second
abbrev pub is_wider : Kind → Kind → Bool
is_wider (kind.Plain from) (kind.Plain to) = lies_within (range_of from) (range_of to)
is_wider (kind.Plain from) (kind.State agg arg) = false
is_wider (kind.State agg arg) to = false

-- each value of the first kind may stand in a column of the second
unfoldable pub widens_to : Kind → Kind → Bool
widens_to from to = kind_eq from to || is_wider from to

-- the names of columns
abbrev pub names_in : List Column → List (List ℕ)
names_in columns = map (λ (column : Column). column.name) columns

-- a column's values may stand in the column of a place
abbrev pub fills_place : List Column → Column → Option ℕ → Bool
fills_place target column None = false
fills_place target column (Some place) = fills_column column (slice_get target place)
  where
    fills_column : Column → Option Column → Bool
    fills_column column None = false
    fills_column column (Some to) = widens_to column.kind to.kind

-- a column's values may stand in the column of its name
abbrev pub fills : List Column → Column → Bool
fills target column = fills_place target column (place_of column.name (names_in target))

-- the view from a source to a target that a statement makes
abbrev pub view_with : CreateView → ℕ → ℕ → ViewDef
view_with made source target = record { name = made.name; source = source; target = target; select = made.select }

-- the view that a statement defines beside what is defined, or the first check that refuses it
unfoldable pub defined_view : Catalog → CreateView → Result ViewDef Refusal
defined_view catalog made =
    refuse_if (is_some (place_of made.name (names_of catalog))) NameTaken
    (refuse_if (not (nat_lt (definitions_in catalog) 256)) LimitPassed
    (and_then (table_of catalog made.select.table) (λ source.
    and_then (table_of catalog made.target) (λ target.
    and_then (asked_of source.0 source.1 made.select) (λ query.
    refuse_if (has_repeat (names_in query.columns)) NameTaken
    (refuse_if (list_any (is_unknown (names_in target.1.columns)) (names_in query.columns)) UnknownColumn
    (refuse_if (list_any (λ column. not (fills target.1.columns column)) query.columns) TypeMismatch
    (refuse_if (reaches (links_of catalog.views) target.0 source.0) ViewCycle
    (refuse_if (passes_limits (length catalog.tables) (links_of catalog.views ++ record { source = source.0; target = target.0 } ∷ [])) TooManyPaths
    (refuse_if (nat_lt 1048576 (length (statement_text (statement.CreateView made)))) LimitPassed
    (Ok (view_with made source.0 target.0))))))))))))
