-- The canonical text of statements: docs/SQL.md, "Canonical text".
use Rattle.std.specs.Prelude.{ℕ, Bool, true, false, not, if◌then◌else◌, List, [], ◌∷◌, codes, Option, Some, None, option_map}
use Rattle.std.specs.List.{filter_map}
use Rattle.chv_ast.specs.GrammarStatements.{Setting, Token, Later, Waits, MaxRows, MinRows, MinBytes, Views}
use Rattle.chv_ast.specs.declared.expr.Literal.{Literal}
use Rattle.chv_ast.specs.declared.statement.ColumnDef.{ColumnDef}
use Rattle.chv_ast.specs.declared.statement.CreateTable.{CreateTable}
use Rattle.chv_ast.specs.declared.statement.CreateView.{CreateView}
use Rattle.chv_ast.specs.declared.statement.EngineWord.{EngineWord}
use Rattle.chv_ast.specs.declared.statement.EngineWord.TheVariants as engine
use Rattle.chv_ast.specs.declared.statement.Insert.{Insert}
use Rattle.chv_ast.specs.declared.statement.Item.{Item}
use Rattle.chv_ast.specs.declared.statement.Item.TheVariants as shown
use Rattle.chv_ast.specs.declared.statement.KindWord.{KindWord}
use Rattle.chv_ast.specs.declared.statement.KindWord.TheVariants as kind
use Rattle.chv_ast.specs.declared.statement.Order.{Order}
use Rattle.chv_ast.specs.declared.statement.Select.{Select}
use Rattle.chv_ast.specs.declared.statement.Settings.{Settings}
use Rattle.chv_ast.specs.declared.statement.Statement.{Statement}
use Rattle.chv_ast.specs.declared.statement.Statement.TheVariants as statement
use Rattle.chv_print.specs.Texts.{◌<>◌, name_text, quoted_text, literal_text, listed, enclosed, optional_text, list_text}
use Rattle.chv_print.specs.ExprTexts.{expr_text}

-- names in parentheses
abbrev pub names_text : List (List ℕ) → List ℕ
names_text names = enclosed (listed name_text names)

-- the name of a kind, or the state of an aggregate
abbrev pub kind_text : KindWord → List ℕ
kind_text (kind.Plain name) = name_text name
kind_text (kind.Agg function arg) =
    codes "AggregateFunction" <> enclosed (name_text function <> optional_text (codes ", ") name_text arg)

-- a column of a table
abbrev pub column_text : ColumnDef → List ℕ
column_text column = name_text column.name <> codes " " <> kind_text column.kind

-- an engine
abbrev pub engine_text : EngineWord → List ℕ
engine_text engine.MergeTree = codes "MergeTree"
engine_text engine.AggregatingMergeTree = codes "AggregatingMergeTree"

-- a sorting key
abbrev pub key_text : List (List ℕ) → List ℕ
key_text [] = codes "tuple()"
key_text (name ∷ names) = names_text (name ∷ names)

-- digits behind their words, where there are some
abbrev pub digits_text : List ℕ → Option (List ℕ) → List ℕ
digits_text words digits = optional_text words (λ written. written) digits

-- an item of a select
abbrev pub item_text : Item → List ℕ
item_text shown.All = codes "*"
item_text (shown.One e alias) = expr_text e <> optional_text (codes " AS ") name_text alias

-- a name that an answer is sorted by
abbrev pub order_text : Order → List ℕ
order_text order = name_text order.name <> (if order.down then codes " DESC" else [])

-- a query
unfoldable pub select_text : Select → List ℕ
select_text query =
    codes "SELECT " <> listed item_text query.items <> codes " FROM " <> name_text query.table
    <> (if query.merged then codes " FINAL" else []) <> optional_text (codes " WHERE ") expr_text query.filter
    <> list_text (codes " GROUP BY ") expr_text query.keys <> list_text (codes " ORDER BY ") order_text query.order
    <> digits_text (codes " LIMIT ") query.limit

-- a row of an insert
abbrev pub row_text : List Literal → List ℕ
row_text row = enclosed (listed literal_text row)

-- the digit of a setting that is on or off
abbrev pub switch_text : Bool → List ℕ
switch_text true = codes "1"
switch_text false = codes "0"

-- a setting of an insert
abbrev pub setting_text : Setting → List ℕ
setting_text (Token text) = codes "insert_deduplication_token = " <> quoted_text text
setting_text (Later on) = codes "async_insert = " <> switch_text on
setting_text (Waits on) = codes "wait_for_async_insert = " <> switch_text on
setting_text (MaxRows digits) = codes "max_insert_block_size = " <> digits
setting_text (MinRows digits) = codes "min_insert_block_size_rows = " <> digits
setting_text (MinBytes digits) = codes "min_insert_block_size_bytes = " <> digits
setting_text Views = codes "deduplicate_blocks_in_dependent_materialized_views = 1"

-- a setting where it is wanted
abbrev pub wanted : Bool → Setting → Option Setting
wanted true setting = Some setting
wanted false setting = None

-- the settings that are printed, in order: what was given as digits or a token, and what is not as without settings
abbrev pub printed : Settings → List Setting
printed settings =
    filter_map (λ setting. setting) (option_map Token settings.token ∷ wanted settings.later (Later true)
    ∷ wanted (not settings.waits) (Waits false) ∷ option_map MaxRows settings.max_rows ∷ option_map MinRows settings.min_rows
    ∷ option_map MinBytes settings.min_bytes ∷ [])

-- the settings of an insert
unfoldable pub settings_text : Settings → List ℕ
settings_text settings = list_text (codes " SETTINGS ") setting_text (printed settings)

-- what stands in front of a setting, where others stand in front of it or none does
abbrev pub setting_mark : (others : Bool) → List ℕ
setting_mark others = if others then codes ", " else codes " SETTINGS "

-- what stands behind the columns of a table: its engine, its sorting key and its window
unfoldable pub table_rest : EngineWord → List (List ℕ) → Option (List ℕ) → List ℕ
table_rest engine key window =
    codes " ENGINE = " <> engine_text engine <> codes " ORDER BY " <> key_text key
    <> digits_text (codes " SETTINGS non_replicated_deduplication_window = ") window

-- a statement that makes a table
unfoldable pub table_text : CreateTable → List ℕ
table_text made =
    codes "CREATE TABLE " <> name_text made.name <> codes " " <> enclosed (listed column_text made.columns)
    <> table_rest made.engine made.key made.window

-- a statement that makes a view
unfoldable pub view_text : CreateView → List ℕ
view_text made =
    codes "CREATE MATERIALIZED VIEW " <> name_text made.name <> codes " TO " <> name_text made.target <> codes " AS " <> select_text made.select

-- a statement that brings rows
unfoldable pub insert_text : Insert → List ℕ
insert_text brought =
    codes "INSERT INTO " <> name_text brought.table <> optional_text (codes " ") names_text brought.columns
    <> settings_text brought.settings <> codes " VALUES " <> listed row_text brought.rows

-- a statement
unfoldable pub statement_text : Statement → List ℕ
statement_text (statement.CreateTable made) = table_text made
statement_text (statement.CreateView made) = view_text made
statement_text (statement.Insert brought) = insert_text brought
statement_text (statement.Query asked) = select_text asked
statement_text (statement.ShowParts asked) = codes "SHOW PARTS " <> name_text asked.table
statement_text (statement.Optimize asked) = codes "OPTIMIZE TABLE " <> name_text asked.table <> codes " FINAL"
statement_text statement.FlushQueue = codes "SYSTEM FLUSH ASYNC INSERT QUEUE"
