-- Queries that do not see merges: docs/SQL.md, "FINAL".
use Rattle.std.specs.Prelude.{ℕ, Bool, true, false, ◌&&◌, List, map, nat_eq, Option, None, Some}
use Rattle.std.specs.List.{list_all, list_any}
use Rattle.std.specs.Option.{option_map, unwrap_or}
use Rattle.chv_ast.specs.declared.expr.Args.{Args}
use Rattle.chv_ast.specs.declared.expr.Args.TheFolds.{fold-Expr, fold-Args}
use Rattle.chv_ast.specs.declared.expr.Args.TheOpen.{Expr-F, Args-F}
use Rattle.chv_ast.specs.declared.expr.Expr.{Expr}
use Rattle.chv_ast.specs.declared.statement.Item.{Item}
use Rattle.chv_ast.specs.declared.statement.Select.{Select}
use Rattle.chv_catalog.specs.declared.table_def.TableDef.{TableDef}
use Rattle.chv_group.specs.Groups.{takes_states}
use Rattle.chv_group.specs.declared.call.AggCall.{AggCall}
use Rattle.chv_query.specs.Keys.{key_tree}
use Rattle.chv_query.specs.declared.groups.Groups.{Groups}
use Rattle.chv_types.specs.Names.{place_of}
use Rattle.chv_types.specs.declared.table.Column.{Column}

-- a place is one of some
abbrev pub is_among : List ℕ → ℕ → Bool
is_among places place = list_any (λ other. nat_eq other place) places

-- a name is that of a column of the sorting key
abbrev pub is_key : TableDef → List ℕ → Bool
is_key def name = unwrap_or (option_map (is_among def.key) (place_of name (map (λ (column : Column). column.name) def.columns))) false

-- an expression uses only columns of the sorting key, where this is known of its parts
abbrev pub expr_uses : TableDef → Expr-F Bool Bool → Bool
expr_uses def (Expr-F.Column name) = is_key def name
expr_uses def (Expr-F.Literal value) = true
expr_uses def (Expr-F.Unary op arg) = arg
expr_uses def (Expr-F.Binary op left right) = left && right
expr_uses def (Expr-F.Call name args) = args

-- and so do arguments
abbrev pub args_use : Args-F Bool Bool → Bool
args_use Args-F.End = true
args_use (Args-F.More first rest) = first && rest

-- an expression uses only columns of the sorting key
unfoldable pub uses_key : TableDef → Expr → Bool
uses_key def = fold-Expr Bool Bool args_use (expr_uses def)

-- arguments use only columns of the sorting key
unfoldable pub use_key : TableDef → Args → Bool
use_key def = fold-Args Bool Bool args_use (expr_uses def)

-- there is no condition, or it uses only columns of the sorting key
abbrev pub filter_uses : TableDef → Option Expr → Bool
filter_uses def filter = unwrap_or (option_map (uses_key def) filter) true

-- what a key of GROUP BY stands for uses only columns of the sorting key
abbrev pub group_uses : TableDef → List Item → Expr → Bool
group_uses def items key = unwrap_or (option_map (uses_key def) (key_tree def.columns items key)) false

-- each call takes states
abbrev pub all_take_states : List AggCall → Bool
all_take_states calls = list_all (λ (call : AggCall). takes_states call.form) calls

-- a query does not see which rows of its table merges have made one: it groups, WHERE and GROUP BY use only columns of the sorting
-- key, and each call takes states
unfoldable pub is_blind : TableDef → Select → Option Groups → Bool
is_blind def select None = false
is_blind def select (Some groups) =
    filter_uses def select.filter && (list_all (group_uses def select.items) select.keys && all_take_states groups.calls)
