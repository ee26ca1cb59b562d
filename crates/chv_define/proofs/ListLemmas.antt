-- Lists of columns.
use Rattle.std.proofs.Common.{◌≡◌, ◌&&◌, ℕ, not, List, [], ◌∷◌, ◌++◌, Result, Ok, Err, is_some, is_none, refl, append_assoc}
use Rattle.std.specs.List.{list_any}
use Rattle.chv_ast.specs.declared.refusal.Refusal.{Refusal}
use Rattle.chv_ast.specs.declared.statement.ColumnDef.{ColumnDef}
use Rattle.chv_catalog.specs.Checks.{is_state}
use Rattle.chv_query.specs.Definitions.{columns_of, has_loose, has_state, kind_of}
use Rattle.chv_types.specs.Names.{place_of}
use Rattle.chv_types.specs.Steps.{and_then}
use Rattle.chv_types.specs.declared.kind.Kind.{Kind}
use Rattle.chv_types.specs.declared.table.Column.{Column}

pub has_state-any : (key : List (List ℕ)) (columns : List Column)
    → list_any (λ (column : Column). is_some (place_of column.name key) && is_state column.kind) columns ≡ has_state key columns
has_state-any key [] = refl
has_state-any key (column ∷ columns) = rw (has_state-any key columns) refl

pub has_loose-any : (key : List (List ℕ)) (columns : List Column)
    → list_any (λ (column : Column). is_none (place_of column.name key) && not (is_state column.kind)) columns ≡ has_loose key columns
has_loose-any key [] = refl
has_loose-any key (column ∷ columns) = rw (has_loose-any key columns) refl

-- columns, and those that are written behind them
abbrev pub behind : List Column → Result (List Column) Refusal → Result (List Column) Refusal
behind columns more = and_then more (λ others. Ok (columns ++ others))

-- one column more is made
pub behind-more : (columns : List Column) (def : ColumnDef) (defs : List ColumnDef) (kind : Kind) → kind_of def.kind ≡ Ok kind
    → behind columns (columns_of (def ∷ defs)) ≡ behind (columns ++ record { name = def.name; kind = kind } ∷ []) (columns_of defs)
behind-more columns def defs kind e = rw e (by (columns_of defs))
  where
    by : (r : Result (List Column) Refusal) → behind columns (and_then r (λ others. Ok (record { name = def.name; kind = kind } ∷ others)))
        ≡ behind (columns ++ record { name = def.name; kind = kind } ∷ []) r
    by (Ok others) = rw append_assoc refl
    by (Err refusal) = refl
