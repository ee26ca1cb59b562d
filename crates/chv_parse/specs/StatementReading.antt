-- How statements are read, the same parts in the same order: docs/SQL.md, "Statements".
use Rattle.std.specs.Prelude.{ℕ, zero, suc, ◌+◌, List, [], ◌∷◌, ◌++◌, Bool, true, false, ◌&&◌, if◌then◌else◌, drop, length, Option, Some, None, codes, fold, not, is_none, ◌==◌, ⊤, ◌≡◌, Result, Ok, Err}
use Rattle.chv_ast.specs.Lexemes.{Lexeme, is_word, name_of, digits_of, text_of}
use Rattle.chv_ast.specs.GrammarStatements.{Setting, default_settings, with_setting, is_digits}
use Rattle.chv_ast.specs.declared.expr.Expr.{Expr}
use Rattle.chv_ast.specs.declared.expr.Literal.{Literal}
use Rattle.chv_ast.specs.declared.expr.Literal.TheVariants as literal
use Rattle.chv_ast.specs.declared.statement.ColumnDef.{ColumnDef}
use Rattle.chv_ast.specs.declared.statement.CreateTable.{CreateTable}
use Rattle.chv_ast.specs.declared.statement.CreateView.{CreateView}
use Rattle.chv_ast.specs.declared.statement.EngineWord.{EngineWord}
use Rattle.chv_ast.specs.declared.statement.EngineWord.TheVariants as engine
use Rattle.chv_ast.specs.declared.statement.Insert.{Insert}
use Rattle.chv_ast.specs.declared.statement.Item.{Item}
use Rattle.chv_ast.specs.declared.statement.Item.TheVariants as shown
use Rattle.chv_ast.specs.declared.statement.KindWord.{KindWord}
use Rattle.chv_ast.specs.declared.statement.KindWord.TheVariants as kind
use Rattle.chv_ast.specs.declared.statement.Optimize.{Optimize}
use Rattle.chv_ast.specs.declared.statement.Order.{Order}
use Rattle.chv_ast.specs.declared.statement.Select.{Select}
use Rattle.chv_ast.specs.declared.statement.Settings.{Settings}
use Rattle.chv_ast.specs.declared.statement.ShowParts.{ShowParts}
use Rattle.chv_ast.specs.declared.statement.Statement.{Statement}
use Rattle.chv_ast.specs.declared.statement.Statement.TheVariants as statement
use Rattle.chv_parse.specs.ExprReading.{sign_next, read_sign, keyword_next, read_keyword, read_expr, read_literal}
use Rattle.chv_parse.specs.declared.fault.ParseFault.{ParseFault}
use Rattle.chv_parse.specs.declared.fault.ParseFault.TheVariants as fault
use Rattle.chv_parse.specs.Reading.{Reader, ◌>>=◌, ◌>>◌, given, meant, marked, next_is, is_name}

-- a word, letter by letter
abbrev pub read_word : List ℕ → Reader (Unit {0})
read_word letters = marked (is_word letters)

-- whether a word comes next, letter by letter
abbrev pub word_next : List ℕ → List Lexeme → Bool
word_next letters = next_is (is_word letters)

-- a name
abbrev pub read_name : Reader (List ℕ)
read_name = meant name_of

-- digits
abbrev pub read_whole : Reader (List ℕ)
read_whole = meant digits_of

-- a text in quotes
abbrev pub read_quoted : Reader (List ℕ)
read_quoted = meant text_of

-- the first reader where the test says so, else the second
abbrev pub either_at : {A : Type 0} → (List Lexeme → Bool) → Reader A → Reader A → Reader A
either_at first r s tokens = if first tokens then r tokens else s tokens

-- what may be absent, and is there where the test says so
abbrev pub optional_at : {A : Type 0} → (List Lexeme → Bool) → Reader A → Reader (Option A)
optional_at there r = either_at there (r >>= λ a. given (Some a)) (given None)

-- a list that may be absent, and is there where the test says so
abbrev pub list_at : {A : Type 0} → (List Lexeme → Bool) → Reader (List A) → Reader (List A)
list_at there r = either_at there r (given [])

-- a value in parentheses
abbrev pub read_enclosed : {A : Type 0} → Reader A → Reader A
read_enclosed r = do
  read_sign (codes "(")
  value ← r
  read_sign (codes ")")
  given value

-- the values behind one, each behind a comma; `count` is above the number of tokens
unfoldable pub read_behind : {A : Type 0} → Reader A → (count : ℕ) → Reader (List A)
read_behind r zero = λ tokens. None
read_behind r (suc count) =
    list_at (sign_next (codes ",")) (do
      read_sign (codes ",")
      value ← r
      values ← read_behind r count
      given (value ∷ values))

-- some values, and what is read behind them
abbrev pub read_behind_some : {A : Type 0} → List A → Reader A → (count : ℕ) → Reader (List A)
read_behind_some front r count = read_behind r count >>= λ values. given (front ++ values)

-- one value or more, with a comma between two of them
unfoldable pub read_listed : {A : Type 0} → Reader A → Reader (List A)
read_listed r tokens = (r >>= λ value. read_behind r (length tokens + 1) >>= λ values. given (value ∷ values)) tokens

-- names in parentheses
unfoldable pub read_names : Reader (List (List ℕ))
read_names = read_enclosed (read_listed read_name)

-- the second argument of an aggregate's state, if it is written
unfoldable pub read_state_arg : Reader (Option (List ℕ))
read_state_arg = optional_at (sign_next (codes ",")) (read_sign (codes ",") >> read_name)

-- AggregateFunction (function) or AggregateFunction (function, arg)
unfoldable pub read_aggregate : Reader KindWord
read_aggregate = do
  read_word (codes "AggregateFunction")
  read_sign (codes "(")
  function ← read_name
  arg ← read_state_arg
  read_sign (codes ")")
  given (kind.Agg function arg)

-- whether a word comes next, and an opening parenthesis behind it
abbrev pub opens : List ℕ → List Lexeme → Bool
opens letters tokens = word_next letters tokens && sign_next (codes "(") (drop 1 tokens)

-- the name of a kind, or an aggregate's state
unfoldable pub read_kind : Reader KindWord
read_kind = either_at (opens (codes "AggregateFunction")) read_aggregate (read_name >>= λ plain. given (kind.Plain plain))

-- name kind
unfoldable pub read_column : Reader ColumnDef
read_column = do
  called ← read_name
  kind ← read_kind
  given (record { name = called; kind = kind })

-- the columns of a table, in parentheses
unfoldable pub read_table_columns : Reader (List ColumnDef)
read_table_columns = read_enclosed (read_listed read_column)

-- the word of an engine
unfoldable pub read_engine : Reader EngineWord
read_engine =
    either_at (word_next (codes "MergeTree"))
    (read_word (codes "MergeTree") >> given engine.MergeTree)
    (read_word (codes "AggregatingMergeTree") >> given engine.AggregatingMergeTree)

-- an opening and a closing parenthesis with nothing between them
abbrev pub read_empty_parentheses : Reader (Unit {0})
read_empty_parentheses = read_sign (codes "(") >> read_sign (codes ")")

-- tuple ()
unfoldable pub read_empty_key : Reader (List (List ℕ))
read_empty_key = do
  read_word (codes "tuple")
  read_empty_parentheses
  given []

-- the key of one name
unfoldable pub read_single_key : Reader (List (List ℕ))
read_single_key = read_name >>= λ one. given (one ∷ [])

-- the names of a sorting key
unfoldable pub read_key : Reader (List (List ℕ))
read_key =
    either_at (sign_next (codes "(")) read_names
    (either_at (opens (codes "tuple")) read_empty_key read_single_key)

-- SETTINGS non_replicated_deduplication_window = whole
abbrev pub read_window_setting : Reader (List ℕ)
read_window_setting = do
  read_keyword (codes "SETTINGS")
  read_word (codes "non_replicated_deduplication_window")
  read_sign (codes "=")
  read_whole

-- an equals sign, if it is written
unfoldable pub read_equals_mark : Reader (Option (Unit {0}))
read_equals_mark = optional_at (sign_next (codes "=")) (read_sign (codes "="))

-- the parentheses behind an engine, if they are written
unfoldable pub read_engine_parentheses : Reader (Option (Unit {0}))
read_engine_parentheses = optional_at (sign_next (codes "(")) read_empty_parentheses

-- the window of a table, if it is written
unfoldable pub read_window : Reader (Option (List ℕ))
read_window = optional_at (keyword_next (codes "SETTINGS")) read_window_setting

-- CREATE TABLE name (columns) ENGINE [=] engine [()] ORDER BY key [SETTINGS ..]
unfoldable pub read_create_table : Reader CreateTable
read_create_table = do
  read_keyword (codes "CREATE")
  read_keyword (codes "TABLE")
  called ← read_name
  columns ← read_table_columns
  read_keyword (codes "ENGINE")
  read_equals_mark
  engine ← read_engine
  read_engine_parentheses
  read_keyword (codes "ORDER")
  read_keyword (codes "BY")
  sorted ← read_key
  window ← read_window
  given (record { name = called; columns = columns; engine = engine; key = sorted; window = window })

-- the alias of an item, if it is written
unfoldable pub read_alias : Reader (Option (List ℕ))
read_alias = optional_at (keyword_next (codes "AS")) (read_keyword (codes "AS") >> read_name)

-- an expression, and perhaps its alias
unfoldable pub read_item_of_expr : Reader Item
read_item_of_expr = do
  e ← read_expr
  called ← read_alias
  given (shown.One e called)

-- `*`, or an expression, and perhaps its alias
unfoldable pub read_item : Reader Item
read_item = either_at (sign_next (codes "*")) (read_sign (codes "*") >> given shown.All) read_item_of_expr

-- whether FINAL is written
unfoldable pub read_is_final : Reader Bool
read_is_final = either_at (keyword_next (codes "FINAL")) (read_keyword (codes "FINAL") >> given true) (given false)

-- the condition of a select, if it is written
unfoldable pub read_filter : Reader (Option Expr)
read_filter = optional_at (keyword_next (codes "WHERE")) (read_keyword (codes "WHERE") >> read_expr)

-- the limit of a select, if it is written
unfoldable pub read_limit : Reader (Option (List ℕ))
read_limit = optional_at (keyword_next (codes "LIMIT")) (read_keyword (codes "LIMIT") >> read_whole)

-- ASC, DESC or nothing, which is as ASC; true for DESC
unfoldable pub read_direction : Reader Bool
read_direction =
    either_at (keyword_next (codes "DESC")) (read_keyword (codes "DESC") >> given true)
    (either_at (keyword_next (codes "ASC")) (read_keyword (codes "ASC") >> given false) (given false))

-- name [ASC | DESC]
unfoldable pub read_order : Reader Order
read_order = do
  called ← read_name
  down ← read_direction
  given (record { name = called; down = down })

-- values behind GROUP BY, or behind ORDER BY
unfoldable pub read_list_by : {A : Type 0} → List ℕ → Reader A → Reader (List A)
read_list_by first r = list_at (keyword_next first) (read_keyword first >> read_keyword (codes "BY") >> read_listed r)

-- SELECT items FROM name [FINAL] [WHERE expr] [GROUP BY ..] [ORDER BY ..] [LIMIT whole]
unfoldable pub read_select : Reader Select
read_select = do
  read_keyword (codes "SELECT")
  items ← read_listed read_item
  read_keyword (codes "FROM")
  table ← read_name
  merged ← read_is_final
  filter ← read_filter
  keys ← read_list_by (codes "GROUP") read_expr
  sorted ← read_list_by (codes "ORDER") read_order
  limit ← read_limit
  given (record { items = items; table = table; merged = merged; filter = filter; keys = keys; order = sorted; limit = limit })

-- a select has no FINAL, ORDER BY or LIMIT
abbrev pub is_plain : Select → Bool
is_plain query = not query.merged && ((length query.order == 0) && is_none query.limit)

-- a plain select
unfoldable pub read_plain_select : Reader Select
read_plain_select = read_select >>= λ query tokens. if is_plain query then Some (query, tokens) else None

-- CREATE MATERIALIZED VIEW name TO name AS select
unfoldable pub read_create_view : Reader CreateView
read_create_view = do
  read_keyword (codes "CREATE")
  read_keyword (codes "MATERIALIZED")
  read_keyword (codes "VIEW")
  called ← read_name
  read_keyword (codes "TO")
  target ← read_name
  read_keyword (codes "AS")
  query ← read_plain_select
  given (record { name = called; target = target; select = query })

-- the one digit 0 or 1
unfoldable pub read_switch : Reader Bool
read_switch =
    either_at (next_is (is_digits (codes "1")))
    (marked (is_digits (codes "1")) >> given true)
    (marked (is_digits (codes "0")) >> given false)

-- name =, the name letter by letter
unfoldable pub read_called : List ℕ → Reader (Unit {0})
read_called name = read_word name >> read_sign (codes "=")

-- name = value
abbrev pub read_set_to : {A : Type 0} → List ℕ → Reader A → Reader A
read_set_to name value = read_called name >> value

-- a setting of one kind, if its name comes next
abbrev pub setting_at : {A : Type 0} → List ℕ → Reader A → (A → Setting) → Reader Setting → Reader Setting
setting_at called value one other = either_at (word_next called) (read_set_to called value >>= λ a. given (one a)) other

-- deduplicate_blocks_in_dependent_materialized_views = 1
unfoldable pub read_views : Reader Setting
read_views = read_set_to (codes "deduplicate_blocks_in_dependent_materialized_views") (marked (is_digits (codes "1"))) >> given Setting.Views

-- one of the three settings that have a number, or the last one
unfoldable pub read_number_setting : Reader Setting
read_number_setting =
    setting_at (codes "max_insert_block_size") read_whole Setting.MaxRows
    (setting_at (codes "min_insert_block_size_rows") read_whole Setting.MinRows
    (setting_at (codes "min_insert_block_size_bytes") read_whole Setting.MinBytes read_views))

-- the token that stands for an insert
unfoldable pub read_token : Reader Setting
read_token = read_set_to (codes "insert_deduplication_token") read_quoted >>= λ text. given (Setting.Token text)

-- whether an insert is held back
unfoldable pub read_later : Reader Setting
read_later = read_set_to (codes "async_insert") read_switch >>= λ on. given (Setting.Later on)

-- whether an insert that is held back is waited for
unfoldable pub read_waits : Reader Setting
read_waits = read_set_to (codes "wait_for_async_insert") read_switch >>= λ on. given (Setting.Waits on)

-- a setting and its value
unfoldable pub read_setting : Reader Setting
read_setting =
    either_at (word_next (codes "insert_deduplication_token")) read_token
    (either_at (word_next (codes "async_insert")) read_later
    (either_at (word_next (codes "wait_for_async_insert")) read_waits read_number_setting))

-- settings with one more that is read
abbrev pub read_with : Reader Setting → Settings → Reader Settings
read_with r settings = r >>= λ one. given (with_setting settings one)

-- settings with those that are read behind them
abbrev pub read_settings_behind : Settings → (count : ℕ) → Reader Settings
read_settings_behind settings count = read_behind read_setting count >>= λ written. given (fold with_setting settings written)

-- settings one behind the other
unfoldable pub read_some_settings : Reader Settings
read_some_settings = read_listed read_setting >>= λ written. given (fold with_setting default_settings written)

-- [SETTINGS setting [, setting]*]
unfoldable pub read_settings : Reader Settings
read_settings =
    either_at (keyword_next (codes "SETTINGS")) (read_keyword (codes "SETTINGS") >> read_some_settings) (given default_settings)

-- a minus and digits
abbrev pub read_negative : Reader Literal
read_negative = do
  read_sign (codes "-")
  digits ← read_whole
  given (literal.Whole true digits)

-- [-] whole, a text in quotes, TRUE or FALSE
unfoldable pub read_row_literal : Reader Literal
read_row_literal = either_at (sign_next (codes "-")) read_negative read_literal

-- the literals of a row, in parentheses
unfoldable pub read_row : Reader (List Literal)
read_row = read_enclosed (read_listed read_row_literal)

-- TABLE, where a name stands behind it
abbrev pub table_mark_next : List Lexeme → Bool
table_mark_next tokens = keyword_next (codes "TABLE") tokens && next_is is_name (drop 1 tokens)

-- TABLE in front of a name, if it is written
unfoldable pub read_table_mark : Reader (Option (Unit {0}))
read_table_mark = optional_at table_mark_next (read_keyword (codes "TABLE"))

-- the columns of an insert, if they are written
unfoldable pub read_columns : Reader (Option (List (List ℕ)))
read_columns = optional_at (sign_next (codes "(")) read_names

-- INSERT INTO [TABLE] name [(names)] [SETTINGS ..] VALUES row [, row]*
unfoldable pub read_insert : Reader Insert
read_insert = do
  read_keyword (codes "INSERT")
  read_keyword (codes "INTO")
  read_table_mark
  table ← read_name
  columns ← read_columns
  set ← read_settings
  read_keyword (codes "VALUES")
  rows ← read_listed read_row
  given (record { table = table; columns = columns; settings = set; rows = rows })

-- SHOW PARTS name
unfoldable pub read_show_parts : Reader ShowParts
read_show_parts = do
  read_keyword (codes "SHOW")
  read_keyword (codes "PARTS")
  table ← read_name
  given (record { table = table })

-- OPTIMIZE TABLE name FINAL
unfoldable pub read_optimize : Reader Optimize
read_optimize = do
  read_keyword (codes "OPTIMIZE")
  read_keyword (codes "TABLE")
  table ← read_name
  read_keyword (codes "FINAL")
  given (record { table = table })

-- SYSTEM FLUSH ASYNC INSERT QUEUE
unfoldable pub read_flush_queue : Reader (Unit {0})
read_flush_queue = do
  read_keyword (codes "SYSTEM")
  read_keyword (codes "FLUSH")
  read_keyword (codes "ASYNC")
  read_keyword (codes "INSERT")
  read_keyword (codes "QUEUE")

-- a statement, by what is read
abbrev pub as_statement : {A : Type 0} → (A → Statement) → Reader A → Reader Statement
as_statement form r = r >>= λ read. given (form read)

-- a statement that makes a table or a view
unfoldable pub read_create : Reader Statement
read_create =
    either_at (λ tokens. keyword_next (codes "TABLE") (drop 1 tokens)) (as_statement statement.CreateTable read_create_table)
    (as_statement statement.CreateView read_create_view)

-- a statement that begins with none of CREATE, INSERT and SELECT
unfoldable pub read_upkeep : Reader Statement
read_upkeep =
    either_at (keyword_next (codes "SHOW")) (as_statement statement.ShowParts read_show_parts)
    (either_at (keyword_next (codes "OPTIMIZE")) (as_statement statement.Optimize read_optimize)
    (as_statement (λ _. statement.FlushQueue) read_flush_queue))

-- a statement, by its first word
unfoldable pub read_statement : Reader Statement
read_statement =
    either_at (keyword_next (codes "CREATE")) read_create
    (either_at (keyword_next (codes "INSERT")) (as_statement statement.Insert read_insert)
    (either_at (keyword_next (codes "SELECT")) (as_statement statement.Query read_select) read_upkeep))

-- all tokens are read as the value, or none are; nothing is said where memory runs out
abbrev pub ReadsAll : {A : Type 0} → Reader A → List Lexeme → Result A ParseFault → Type 0
ReadsAll r tokens (Ok a) = r tokens ≡ Some (a, [])
ReadsAll {A} r tokens (Err fault.Syntax) = (a : A) → r tokens ≡ Some (a, []) → ⊥
ReadsAll r tokens (Err fault.NoMemory) = ⊤

-- what was read is the value, unless memory ran out
abbrev pub Gives : {A : Type 0} → Result A ParseFault → A → Type 0
Gives (Ok a) b = a ≡ b
Gives (Err fault.Syntax) b = ⊥
Gives (Err fault.NoMemory) b = ⊤
