-- How statements are written: docs/SQL.md, "Statements".
use Rattle.std.specs.Prelude.{ℕ, ◌≡◌, ◌⊎◌, List, [], ◌∷◌, ◌&&◌, Bool, true, false, Some, None, codes, fold}
use Rattle.std.specs.Str.{bytes_eq}
use Rattle.chv_ast.specs.Grammar.{IsExpr, IsLiteral}
use Rattle.chv_ast.specs.Lexemes.{Lexeme, is_whole_kind}
use Rattle.chv_ast.specs.Spellings.{Spelling, ◌>>=◌, ◌>>◌, give, Marked, keyword, word, sign, name, whole, quoted, optional, Listed, enclosed}
use Rattle.chv_ast.specs.declared.expr.Literal.{Literal}
use Rattle.chv_ast.specs.declared.expr.Literal.TheVariants as literal
use Rattle.chv_ast.specs.declared.statement.ColumnDef.{ColumnDef}
use Rattle.chv_ast.specs.declared.statement.CreateTable.{CreateTable}
use Rattle.chv_ast.specs.declared.statement.CreateView.{CreateView}
use Rattle.chv_ast.specs.declared.statement.EngineWord.{EngineWord}
use Rattle.chv_ast.specs.declared.statement.EngineWord.TheVariants as engine
use Rattle.chv_ast.specs.declared.statement.Insert.{Insert}
use Rattle.chv_ast.specs.declared.statement.Item.{Item}
use Rattle.chv_ast.specs.declared.statement.Item.TheVariants as shown
use Rattle.chv_ast.specs.declared.statement.KindWord.{KindWord}
use Rattle.chv_ast.specs.declared.statement.KindWord.TheVariants as kind
use Rattle.chv_ast.specs.declared.statement.Optimize.{Optimize}
use Rattle.chv_ast.specs.declared.statement.Order.{Order}
use Rattle.chv_ast.specs.declared.statement.Select.{Select}
use Rattle.chv_ast.specs.declared.statement.Settings.{Settings}
use Rattle.chv_ast.specs.declared.statement.ShowParts.{ShowParts}
use Rattle.chv_ast.specs.declared.statement.Statement.{Statement}
use Rattle.chv_ast.specs.declared.statement.Statement.TheVariants as statement

-- names in parentheses
abbrev pub names : Spelling (List (List ℕ))
names = enclosed (Listed name)

-- AggregateFunction (function) or AggregateFunction (function, arg)
abbrev pub aggregate : Spelling KindWord
aggregate = do
  word (codes "AggregateFunction")
  sign (codes "(")
  function ← name
  arg ← optional (sign (codes ",") >> name)
  sign (codes ")")
  give (kind.Agg function arg)

-- the name of a kind, or an aggregate's state
abbrev pub column_kind : Spelling KindWord
column_kind written tokens = (name >>= λ plain. give (kind.Plain plain)) written tokens ⊎ aggregate written tokens

-- name kind
abbrev pub column : Spelling ColumnDef
column = do
  called ← name
  kind ← column_kind
  give (record { name = called; kind = kind })

-- the word of an engine
abbrev pub engine_word : Spelling EngineWord
engine_word engine.MergeTree = word (codes "MergeTree") tt
engine_word engine.AggregatingMergeTree = word (codes "AggregatingMergeTree") tt

-- an opening and a closing parenthesis with nothing between them
abbrev pub empty_parentheses : Spelling (Unit {0})
empty_parentheses = sign (codes "(") >> sign (codes ")")

-- tuple ()
abbrev pub empty_key : Spelling (List (List ℕ))
empty_key = do
  word (codes "tuple")
  empty_parentheses
  give []

-- the names of a sorting key: one name, names in parentheses, or none as tuple ()
abbrev pub key : Spelling (List (List ℕ))
key written tokens = (name >>= λ one. give (one ∷ [])) written tokens ⊎ (names written tokens ⊎ empty_key written tokens)

-- SETTINGS non_replicated_deduplication_window = whole
abbrev pub window_setting : Spelling (List ℕ)
window_setting = do
  keyword (codes "SETTINGS")
  word (codes "non_replicated_deduplication_window")
  sign (codes "=")
  whole

-- CREATE TABLE name (columns) ENGINE [=] engine [()] ORDER BY key [SETTINGS ..]
unfoldable pub create_table : Spelling CreateTable
create_table = do
  keyword (codes "CREATE")
  keyword (codes "TABLE")
  called ← name
  columns ← enclosed (Listed column)
  keyword (codes "ENGINE")
  optional (sign (codes "="))
  engine ← engine_word
  optional empty_parentheses
  keyword (codes "ORDER")
  keyword (codes "BY")
  sorted ← key
  window ← optional window_setting
  give (record { name = called; columns = columns; engine = engine; key = sorted; window = window })

-- AS name
abbrev pub alias : Spelling (List ℕ)
alias = keyword (codes "AS") >> name

-- an expression, and perhaps its alias
abbrev pub item_of_expr : Spelling Item
item_of_expr = do
  e ← IsExpr
  called ← optional alias
  give (shown.One e called)

-- `*`, or an expression, and perhaps its alias
abbrev pub item : Spelling Item
item written tokens = (sign (codes "*") >> give shown.All) written tokens ⊎ item_of_expr written tokens

-- whether a mark is written
abbrev pub flag : Spelling (Unit {0}) → Spelling Bool
flag mark true tokens = mark tt tokens
flag mark false tokens = tokens ≡ []

-- ASC, DESC or nothing, which is as ASC; true for DESC
abbrev pub direction : Spelling Bool
direction true tokens = keyword (codes "DESC") tt tokens
direction false tokens = keyword (codes "ASC") tt tokens ⊎ (tokens ≡ [])

-- name [ASC | DESC]
abbrev pub order : Spelling Order
order = do
  called ← name
  down ← direction
  give (record { name = called; down = down })

-- what may be absent, and is the empty list then
abbrev pub list_behind : {A : Type 0} → Spelling (Unit {0}) → Spelling A → Spelling (List A)
list_behind mark p [] tokens = tokens ≡ []
list_behind mark p (first ∷ rest) tokens = (mark >> Listed p) (first ∷ rest) tokens

-- GROUP BY, or ORDER BY
abbrev pub keyword_by : List ℕ → Spelling (Unit {0})
keyword_by first = keyword first >> keyword (codes "BY")

-- SELECT items FROM name [FINAL] [WHERE expr] [GROUP BY ..] [ORDER BY ..] [LIMIT whole]
unfoldable pub select : Spelling Select
select = do
  keyword (codes "SELECT")
  items ← Listed item
  keyword (codes "FROM")
  table ← name
  merged ← flag (keyword (codes "FINAL"))
  filter ← optional (keyword (codes "WHERE") >> IsExpr)
  keys ← list_behind (keyword_by (codes "GROUP")) IsExpr
  sorted ← list_behind (keyword_by (codes "ORDER")) order
  limit ← optional (keyword (codes "LIMIT") >> whole)
  give (record { items = items; table = table; merged = merged; filter = filter; keys = keys; order = sorted; limit = limit })

-- a select of a view has no FINAL, ORDER BY or LIMIT
pub record IsPlain (query : Select) : Type 0 where
  pub unmerged : query.merged ≡ false
  pub unsorted : query.order ≡ []
  pub unlimited : query.limit ≡ None

-- a plain select
abbrev pub plain_select : Spelling Select
plain_select query tokens = select query tokens × IsPlain query

-- CREATE MATERIALIZED VIEW name TO name AS select
unfoldable pub create_view : Spelling CreateView
create_view = do
  keyword (codes "CREATE")
  keyword (codes "MATERIALIZED")
  keyword (codes "VIEW")
  called ← name
  keyword (codes "TO")
  target ← name
  keyword (codes "AS")
  query ← plain_select
  give (record { name = called; target = target; select = query })

-- a setting of an insert; the last one changes nothing
pub data Setting : Type 0 where
  Token : List ℕ → Setting
  Later : Bool → Setting
  Waits : Bool → Setting
  MaxRows : List ℕ → Setting
  MinRows : List ℕ → Setting
  MinBytes : List ℕ → Setting
  Views : Setting

-- the digits of a whole token are just these
unfoldable pub is_digits : List ℕ → Lexeme → Bool
is_digits digits token = is_whole_kind token.kind && bytes_eq token.text digits

-- the one digit 0 or 1
abbrev pub switch : Spelling Bool
switch true = Marked (is_digits (codes "1")) tt
switch false = Marked (is_digits (codes "0")) tt

-- name = value, the name letter by letter
abbrev pub set_to : {A : Type 0} → List ℕ → Spelling A → Spelling A
set_to called value = word called >> sign (codes "=") >> value

-- a setting and its value
unfoldable pub setting : Spelling Setting
setting (Token text) = set_to (codes "insert_deduplication_token") quoted text
setting (Later on) = set_to (codes "async_insert") switch on
setting (Waits on) = set_to (codes "wait_for_async_insert") switch on
setting (MaxRows digits) = set_to (codes "max_insert_block_size") whole digits
setting (MinRows digits) = set_to (codes "min_insert_block_size_rows") whole digits
setting (MinBytes digits) = set_to (codes "min_insert_block_size_bytes") whole digits
setting Views = set_to (codes "deduplicate_blocks_in_dependent_materialized_views") switch true

-- the settings where none is written
abbrev pub default_settings : Settings
default_settings = record { token = None; later = false; waits = true; max_rows = None; min_rows = None; min_bytes = None }

-- settings with one more behind them, which replaces what they say of it
abbrev pub with_setting : Settings → Setting → Settings
with_setting settings (Token text) = record settings { token = Some text }
with_setting settings (Later on) = record settings { later = on }
with_setting settings (Waits on) = record settings { waits = on }
with_setting settings (MaxRows digits) = record settings { max_rows = Some digits }
with_setting settings (MinRows digits) = record settings { min_rows = Some digits }
with_setting settings (MinBytes digits) = record settings { min_bytes = Some digits }
with_setting settings Views = settings

-- [SETTINGS setting [, setting]*]
abbrev pub settings : Spelling Settings
settings = do
  written ← list_behind (keyword (codes "SETTINGS")) setting
  give (fold with_setting default_settings written)

-- one token that is a literal
pub record IsOneLiteral (value : Literal) (tokens : List Lexeme) : Type 0 where
  pub token : Lexeme
  pub alone : tokens ≡ token ∷ []
  pub meant : IsLiteral value token

-- a minus and digits
abbrev pub negative : Spelling Literal
negative = do
  sign (codes "-")
  digits ← whole
  give (literal.Whole true digits)

-- [-] whole, a text in quotes, TRUE or FALSE
abbrev pub row_literal : Spelling Literal
row_literal value tokens = IsOneLiteral value tokens ⊎ negative value tokens

-- INSERT INTO [TABLE] name [(names)] [SETTINGS ..] VALUES row [, row]*
unfoldable pub insert : Spelling Insert
insert = do
  keyword (codes "INSERT")
  keyword (codes "INTO")
  optional (keyword (codes "TABLE"))
  table ← name
  columns ← optional names
  set ← settings
  keyword (codes "VALUES")
  rows ← Listed (enclosed (Listed row_literal))
  give (record { table = table; columns = columns; settings = set; rows = rows })

-- SHOW PARTS name
unfoldable pub show_parts : Spelling ShowParts
show_parts = do
  keyword (codes "SHOW")
  keyword (codes "PARTS")
  table ← name
  give (record { table = table })

-- OPTIMIZE TABLE name FINAL
unfoldable pub optimize : Spelling Optimize
optimize = do
  keyword (codes "OPTIMIZE")
  keyword (codes "TABLE")
  table ← name
  keyword (codes "FINAL")
  give (record { table = table })

-- SYSTEM FLUSH ASYNC INSERT QUEUE
unfoldable pub flush_queue : Spelling (Unit {0})
flush_queue = do
  keyword (codes "SYSTEM")
  keyword (codes "FLUSH")
  keyword (codes "ASYNC")
  keyword (codes "INSERT")
  keyword (codes "QUEUE")

-- how a statement is written; a select stands by itself
abbrev pub IsStatement : Spelling Statement
IsStatement (statement.CreateTable made) = create_table made
IsStatement (statement.CreateView made) = create_view made
IsStatement (statement.Insert brought) = insert brought
IsStatement (statement.Query asked) = select asked
IsStatement (statement.ShowParts asked) = show_parts asked
IsStatement (statement.Optimize asked) = optimize asked
IsStatement statement.FlushQueue = flush_queue tt
