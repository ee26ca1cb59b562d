-- What an INSERT brings: docs/SQL.md, "INSERT".
use Rattle.std.specs.Prelude.{ℕ, Bool, false, ◌+◌, ◌-◌, ◌≤◌, not, nat_eq, nat_lt, List, [], ◌∷◌, ◌++◌, length, map, if◌then◌else◌, Option, None, Some, Result, Ok, Err, slice_get}
use Rattle.std.specs.List.{filter, filter_map, list_any}
use Rattle.chv_ast.specs.declared.expr.Literal.{Literal}
use Rattle.chv_ast.specs.declared.refusal.Refusal.{Refusal}
use Rattle.chv_ast.specs.declared.refusal.Refusal.TheVariants.{UnknownColumn, NameTaken, TypeMismatch, WrongWidth, DivisionByZero, LimitPassed}
use Rattle.chv_ast.specs.declared.statement.Insert.{Insert}
use Rattle.chv_ast.specs.declared.statement.Settings.{Settings}
use Rattle.chv_catalog.specs.Checks.{has_repeat, is_unknown, is_state, number_within, places_of}
use Rattle.chv_catalog.specs.Paths.{links_of, paths_from}
use Rattle.chv_catalog.specs.Schemas.{Catalog, columns_of, kinds_of}
use Rattle.chv_catalog.specs.declared.table_def.TableDef.{TableDef}
use Rattle.chv_block.specs.Blocks.{Sized, blocks_of}
use Rattle.chv_block.specs.Spellings.{AllAreOf, row_spelling, block_spelling}
use Rattle.chv_block.specs.declared.squasher.Sizes.{Sizes}
use Rattle.chv_part.specs.Books.{MAX_ROWS}
use Rattle.chv_group.specs.Groups.{is_empty}
use Rattle.chv_sip.specs.BlockIds.{SourceKey, Content, Token}
use Rattle.chv_types.specs.Steps.{refuse_if, and_then}
use Rattle.chv_types.specs.Values.{default_of}
use Rattle.chv_types.specs.declared.kind.Kind.{Kind}
use Rattle.chv_types.specs.declared.kind.Kind.TheVariants as kind
use Rattle.chv_types.specs.declared.value.Value.{Value}
use Rattle.chv_query.specs.Arrivals.{Arrival, arrival_in, end_at}
use Rattle.chv_query.specs.Derived.{derived, divides_along}
use Rattle.chv_query.specs.Literals.{literal_value}
use Rattle.chv_query.specs.Tables.{table_of}

-- one block to one table
pub record Delivery : Type 0 where
  pub table : ℕ
  pub entry : Arrival

-- a number of a setting, from the least to the most that it may be, or its default
abbrev pub setting_in : ℕ → ℕ → ℕ → Option (List ℕ) → Result ℕ Refusal
setting_in least most otherwise None = Ok otherwise
setting_in least most otherwise (Some digits) = number_within least most digits

-- how large the blocks of an insert are to be
abbrev pub sizes_for : Settings → Result Sizes Refusal
sizes_for settings =
    and_then (setting_in 1 1048576 65536 settings.max_rows) (λ max_rows.
    and_then (setting_in 0 1048576 65536 settings.min_rows) (λ min_rows.
    and_then (setting_in 0 1073741824 16777216 settings.min_bytes) (λ min_bytes.
    Ok (record { max_rows = max_rows; min_rows = min_rows; min_bytes = min_bytes }))))

-- a token has 255 bytes at most
abbrev pub is_long : Option (List ℕ) → Bool
is_long None = false
is_long (Some token) = nat_lt 255 (length token)

-- what a block of this number in its insert goes by: the insert's token, of which the empty one is none, or its content
abbrev pub source_of : List Kind → Option (List ℕ) → ℕ → List (List Value) → SourceKey
source_of kinds None number block = Content (block_spelling kinds block)
source_of kinds (Some []) number block = Content (block_spelling kinds block)
source_of kinds (Some (byte ∷ token)) number block = Token (byte ∷ token) number

-- a block as a delivery along a path from the table into which it is inserted
abbrev pub delivery_along : Catalog → ℕ → SourceKey → List (List Value) → List ℕ → Delivery
delivery_along catalog table source block path = record {
  table = end_at catalog table path;
  entry = arrival_in catalog (record { origin = table; source = source; path = path }) block;
}

-- the paths from a table along which rows are derived from a block, in preorder, behind the empty one
abbrev pub paths_for : Catalog → ℕ → List (List Value) → List (List ℕ)
paths_for catalog table block = [] ∷ filter (λ path. not (is_empty (derived catalog block path))) (paths_from (links_of catalog.views) table)

-- a block as deliveries: to the table into which it is inserted, and then along each path from there
abbrev pub block_deliveries : Catalog → ℕ → SourceKey → List (List Value) → List Delivery
block_deliveries catalog table source block = map (delivery_along catalog table source block) (paths_for catalog table block)

-- blocks as deliveries, numbered from this number on
abbrev pub deliveries_of : Catalog → ℕ → List Kind → Option (List ℕ) → ℕ → List (List (List Value)) → List Delivery
deliveries_of catalog table kinds token number [] = []
deliveries_of catalog table kinds token number (block ∷ blocks) =
    block_deliveries catalog table (source_of kinds token number block) block ++ deliveries_of catalog table kinds token (number + 1) blocks

-- on a path from the table into which a block is inserted a view divides by zero
abbrev pub divides_below : Catalog → ℕ → List (List Value) → Bool
divides_below catalog table block = list_any (divides_along catalog block) (paths_from (links_of catalog.views) table)

-- rows, each with the number of its bytes
abbrev pub sized_rows : List Kind → List (List Value) → List Sized
sized_rows kinds = map (λ row. record { row = row; bytes = length (row_spelling kinds row) })

-- blocks of one row or more, of these kinds, with no more rows together than this
abbrev pub AreBlocks : List Kind → ℕ → List (List (List Value)) → Type 0
AreBlocks kinds most [] = Unit {0}
AreBlocks kinds most (block ∷ blocks) =
    AllAreOf kinds block × (1 ≤ length block) × (length block ≤ most) × AreBlocks kinds (most - length block) blocks

-- the names of the columns that are filled: those that are listed, or all
abbrev pub filled_names : List (List ℕ) → Option (List (List ℕ)) → List (List ℕ)
filled_names columns None = columns
filled_names columns (Some listed) = listed

-- the kinds of the columns at places
abbrev pub kinds_at : List Kind → List ℕ → List Kind
kinds_at kinds places = filter_map (slice_get kinds) places

-- the value that a literal writes in a column, which is no state
abbrev pub value_for : Kind → Literal → Result Value Refusal
value_for (kind.Plain plain) literal = literal_value plain literal
value_for (kind.State agg plain) literal = Err TypeMismatch

-- the values that literals write, each in a column of its kind, or the first refusal
abbrev pub values_for : List Kind → List Literal → Result (List Value) Refusal
values_for [] literals = Ok []
values_for (kind ∷ kinds) [] = Ok []
values_for (kind ∷ kinds) (literal ∷ literals) =
    and_then (value_for kind literal) (λ value. and_then (values_for kinds literals) (λ values. Ok (value ∷ values)))

-- the value of the column at a place: the one that is written for it, or its default
abbrev pub value_at : ℕ → Kind → List ℕ → List Value → Value
value_at place kind [] values = default_of kind
value_at place kind (filled ∷ places) [] = default_of kind
value_at place kind (filled ∷ places) (value ∷ values) = if nat_eq filled place then value else value_at place kind places values

-- the values of the columns from a place on, in the table's order, where these are written for these places
abbrev pub arranged : ℕ → List Kind → List ℕ → List Value → List Value
arranged place [] places values = []
arranged place (kind ∷ kinds) places values = value_at place kind places values ∷ arranged (place + 1) kinds places values

-- a row: a literal for each column that is filled, and the other columns' defaults
abbrev pub row_for : List Kind → List ℕ → List Literal → Result (List Value) Refusal
row_for kinds places literals =
    refuse_if (not (nat_eq (length literals) (length places))) WrongWidth
    (and_then (values_for (kinds_at kinds places) literals) (λ values. Ok (arranged 0 kinds places values)))

-- rows one after the other, or the first refusal
abbrev pub rows_for : List Kind → List ℕ → List (List Literal) → Result (List (List Value)) Refusal
rows_for kinds places [] = Ok []
rows_for kinds places (literals ∷ rows) =
    and_then (row_for kinds places literals) (λ row. and_then (rows_for kinds places rows) (λ rest. Ok (row ∷ rest)))

-- blocks as deliveries, where no view divides by zero
abbrev pub deliveries_for : Catalog → ℕ → TableDef → Option (List ℕ) → List (List (List Value)) → Result (List Delivery) Refusal
deliveries_for catalog table def token blocks =
    refuse_if (list_any (divides_below catalog table) blocks) DivisionByZero (Ok (deliveries_of catalog table (kinds_of def) token 0 blocks))

-- what an INSERT brings to the table of a number and this definition, and to those below views, or the first check that refuses it
abbrev pub planned_for : Catalog → ℕ → TableDef → Insert → Result (List Delivery) Refusal
planned_for catalog table def insert =
    let names = filled_names (columns_of def) insert.columns in
    let places = places_of (columns_of def) names in
    refuse_if (list_any (is_unknown (columns_of def)) names) UnknownColumn
    (refuse_if (has_repeat names) NameTaken
    (refuse_if (list_any is_state (kinds_at (kinds_of def) places)) TypeMismatch
    (and_then (sizes_for insert.settings) (λ sizes.
    refuse_if (is_long insert.settings.token) LimitPassed
    (refuse_if (nat_lt MAX_ROWS (length insert.rows)) LimitPassed
    (and_then (rows_for (kinds_of def) places insert.rows) (λ written.
    deliveries_for catalog table def insert.settings.token (blocks_of sizes (sized_rows (kinds_of def) written)))))))))

-- what an INSERT brings, in order, or the first check that refuses it
unfoldable pub planned : Catalog → Insert → Result (List Delivery) Refusal
planned catalog insert = and_then (table_of catalog insert.table) (λ found. planned_for catalog found.0 found.1 insert)
