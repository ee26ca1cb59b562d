-- Trees that are well formed: what a statement can be.
use Rattle.std.specs.Prelude.{ℕ, suc, ◌≡◌, List, [], ◌∷◌, false, Option, Some, None}
use Rattle.chv_ast.specs.GrammarStatements.{IsPlain}
use Rattle.chv_ast.specs.Words.{IsName, IsDigits}
use Rattle.chv_ast.specs.declared.expr.UnaryOp.{UnaryOp}
use Rattle.chv_ast.specs.declared.expr.BinaryOp.{BinaryOp}
use Rattle.chv_ast.specs.declared.expr.Literal.{Literal}
use Rattle.chv_ast.specs.declared.expr.Literal.TheVariants as literal
use Rattle.chv_ast.specs.declared.expr.Expr.{Expr}
use Rattle.chv_ast.specs.declared.expr.Expr.TheVariants as expr
use Rattle.chv_ast.specs.declared.expr.Args.{Args}
use Rattle.chv_ast.specs.declared.expr.Args.TheVariants as args
use Rattle.chv_ast.specs.declared.statement.ColumnDef.{ColumnDef}
use Rattle.chv_ast.specs.declared.statement.CreateTable.{CreateTable}
use Rattle.chv_ast.specs.declared.statement.CreateView.{CreateView}
use Rattle.chv_ast.specs.declared.statement.Insert.{Insert}
use Rattle.chv_ast.specs.declared.statement.Item.{Item}
use Rattle.chv_ast.specs.declared.statement.Item.TheVariants as shown
use Rattle.chv_ast.specs.declared.statement.KindWord.{KindWord}
use Rattle.chv_ast.specs.declared.statement.KindWord.TheVariants as kind
use Rattle.chv_ast.specs.declared.statement.Order.{Order}
use Rattle.chv_ast.specs.declared.statement.Select.{Select}
use Rattle.chv_ast.specs.declared.statement.Settings.{Settings}
use Rattle.chv_ast.specs.declared.statement.Statement.{Statement}
use Rattle.chv_ast.specs.declared.statement.Statement.TheVariants as statement

-- each item of a list
abbrev pub Each : {A : Type 0} → (A → Type 0) → List A → Type 0
Each P [] = Unit {0}
Each P (item ∷ items) = P item × Each P items

-- one item at least, and each of them
abbrev pub EachOfSome : {A : Type 0} → (A → Type 0) → List A → Type 0
EachOfSome P [] = ⊥
EachOfSome P (item ∷ items) = P item × Each P items

-- what is there, if it is
abbrev pub IfThere : {A : Type 0} → (A → Type 0) → Option A → Type 0
IfThere P None = Unit {0}
IfThere P (Some item) = P item

-- a literal of a row
abbrev pub FormedLiteral : Literal → Type 0
FormedLiteral (literal.Whole minus digits) = IsDigits digits
FormedLiteral (literal.Quoted text) = Unit {0}
FormedLiteral (literal.Truth truth) = Unit {0}

-- a literal of an expression has no minus
abbrev pub FormedConstant : Literal → Type 0
FormedConstant (literal.Whole minus digits) = (minus ≡ false) × IsDigits digits
FormedConstant (literal.Quoted text) = Unit {0}
FormedConstant (literal.Truth truth) = Unit {0}

mutual
  -- an expression at most `room` deep, a leaf being 1 deep
  pub data FormedIn : (room : ℕ) → Expr → Type 0 where
    Column : (room : ℕ) (name : List ℕ) → IsName name → FormedIn (suc room) (expr.Column name)
    Constant : (room : ℕ) (value : Literal) → FormedConstant value → FormedIn (suc room) (expr.Literal value)
    Unary : (room : ℕ) (op : UnaryOp) (arg : Expr) → FormedIn room arg → FormedIn (suc room) (expr.Unary op arg)
    Binary : (room : ℕ) (op : BinaryOp) (left right : Expr) → FormedIn room left → FormedIn room right
        → FormedIn (suc room) (expr.Binary op left right)
    Call : (room : ℕ) (function : List ℕ) (list : Args) → IsName function → FormedArgs 8 room list
        → FormedIn (suc room) (expr.Call function list)

  -- at most `count` arguments
  pub data FormedArgs : (count room : ℕ) → Args → Type 0 where
    End : (count room : ℕ) → FormedArgs count room args.End
    More : (count room : ℕ) (first : Expr) (list : Args) → FormedIn room first → FormedArgs count room list
        → FormedArgs (suc count) room (args.More first list)

-- an expression within the bound on its depth
abbrev pub FormedExpr : Expr → Type 0
FormedExpr = FormedIn 128

-- the name of a kind
abbrev pub FormedKind : KindWord → Type 0
FormedKind (kind.Plain name) = IsName name
FormedKind (kind.Agg function arg) = IsName function × IfThere IsName arg

-- a column
abbrev pub FormedColumn : ColumnDef → Type 0
FormedColumn column = IsName column.name × FormedKind column.kind

-- an item of a select
abbrev pub FormedItem : Item → Type 0
FormedItem shown.All = Unit {0}
FormedItem (shown.One e alias) = FormedExpr e × IfThere IsName alias

-- a name that an answer is sorted by
abbrev pub FormedOrder : Order → Type 0
FormedOrder order = IsName order.name

-- a query
pub record FormedSelect (query : Select) : Type 0 where
  pub items : EachOfSome FormedItem query.items
  pub table : IsName query.table
  pub filter : IfThere FormedExpr query.filter
  pub keys : Each FormedExpr query.keys
  pub order : Each FormedOrder query.order
  pub limit : IfThere IsDigits query.limit

-- the settings of an insert
pub record FormedSettings (settings : Settings) : Type 0 where
  pub max_rows : IfThere IsDigits settings.max_rows
  pub min_rows : IfThere IsDigits settings.min_rows
  pub min_bytes : IfThere IsDigits settings.min_bytes

-- a statement that makes a table
abbrev pub FormedTable : CreateTable → Type 0
FormedTable made = IsName made.name × EachOfSome FormedColumn made.columns × Each IsName made.key × IfThere IsDigits made.window

-- a statement that makes a view
abbrev pub FormedView : CreateView → Type 0
FormedView made = IsName made.name × IsName made.target × FormedSelect made.select × IsPlain made.select

-- a statement that brings rows
abbrev pub FormedInsert : Insert → Type 0
FormedInsert brought =
    IsName brought.table × IfThere (EachOfSome IsName) brought.columns × FormedSettings brought.settings
    × EachOfSome (EachOfSome FormedLiteral) brought.rows

-- a statement
abbrev pub WellFormed : Statement → Type 0
WellFormed (statement.CreateTable made) = FormedTable made
WellFormed (statement.CreateView made) = FormedView made
WellFormed (statement.Insert brought) = FormedInsert brought
WellFormed (statement.Query asked) = FormedSelect asked
WellFormed (statement.ShowParts asked) = IsName asked.table
WellFormed (statement.Optimize asked) = IsName asked.table
WellFormed statement.FlushQueue = Unit {0}
