-- The keys of a grouping query: docs/SQL.md, "GROUP BY".
use Rattle.std.specs.Prelude.{ℕ, if◌then◌else◌, List, [], ◌∷◌, map, Option, None, Some, is_some, Result, Ok}
use Rattle.std.specs.Str.{bytes_eq}
use Rattle.chv_ast.specs.declared.expr.Expr.{Expr}
use Rattle.chv_ast.specs.declared.refusal.Refusal.{Refusal}
use Rattle.chv_ast.specs.declared.refusal.Refusal.TheVariants.{UnknownColumn, TypeMismatch}
use Rattle.chv_ast.specs.declared.statement.Item.{Item}
use Rattle.chv_ast.specs.declared.statement.Item.TheVariants as shown
use Rattle.chv_catalog.specs.Checks.{is_state}
use Rattle.chv_expr.specs.Terms.{Term, term_of}
use Rattle.chv_print.specs.ExprTexts.{expr_text}
use Rattle.chv_query.specs.Outputs.{column_name}
use Rattle.chv_types.specs.Names.{place_of}
use Rattle.chv_types.specs.Steps.{and_then, or_refuse, refuse_if}
use Rattle.chv_types.specs.declared.table.Column.{Column}

-- a key: the expression that it stands for, and what that means
pub record Key : Type 0 where
  pub tree : Expr
  pub term : Term

-- the expression of an item, where it has this alias
abbrev pub aliased_item : List ℕ → Item → Option Expr
aliased_item name shown.All = None
aliased_item name (shown.One e None) = None
aliased_item name (shown.One e (Some alias)) = if bytes_eq alias name then Some e else None

-- the first of two that is there
abbrev pub first_of : {A : Type 0} → Option A → Option A → Option A
first_of None other = other
first_of (Some a) other = Some a

-- the expression of the first item with an alias
abbrev pub aliased : List ℕ → List Item → Option Expr
aliased name [] = None
aliased name (item ∷ items) = first_of (aliased_item name item) (aliased name items)

-- what a name stands for: a column of the name, which hides an alias
abbrev pub named_tree : List Column → List Item → Expr → Option (List ℕ) → Option Expr
named_tree columns items key None = Some key
named_tree columns items key (Some name) =
    if is_some (place_of name (map (λ column. column.name) columns)) then Some key else aliased name items

-- the expression that a key stands for: of a larger one itself
abbrev pub key_tree : List Column → List Item → Expr → Option Expr
key_tree columns items key = named_tree columns items key (column_name key)

-- what a key means, which is no state
abbrev pub key_term : List Column → Expr → Result Term Refusal
key_term columns tree = and_then (term_of columns tree) (λ term. refuse_if (is_state term.kind) TypeMismatch (Ok term))

-- a key
abbrev pub key_of : List Column → List Item → Expr → Result Key Refusal
key_of columns items key =
    and_then (or_refuse UnknownColumn (key_tree columns items key)) (λ tree.
    and_then (key_term columns tree) (λ term. Ok (record { tree = tree; term = term })))

-- the keys of a query
abbrev pub keys_of : List Column → List Item → List Expr → Result (List Key) Refusal
keys_of columns items [] = Ok []
keys_of columns items (key ∷ keys) = and_then (key_of columns items key) (λ first. and_then (keys_of columns items keys) (λ rest. Ok (first ∷ rest)))

-- the place of the first key that stands for an expression: for the same tree, which is one with the same canonical text
abbrev pub place_of_key : List Key → Expr → Option ℕ
place_of_key keys e = place_of (expr_text e) (map (λ (key : Key). expr_text key.tree) keys)
