-- Keys, one behind the other.
use Rattle.std.proofs.Common.{◌≡◌, ◌++◌, suc, List, [], ◌∷◌, length, map, Result, Ok, refl, ap}
use Rattle.std.proofs.lemmas.List.{map-append}
use Rattle.chv_ast.specs.declared.expr.Expr.{Expr}
use Rattle.chv_ast.specs.declared.refusal.Refusal.{Refusal}
use Rattle.chv_ast.specs.declared.statement.Item.{Item}
use Rattle.chv_expr.specs.Bindings.{Means}
use Rattle.chv_expr.specs.declared.bound.Bound.{Bound}
use Rattle.chv_print.specs.ExprTexts.{expr_text}
use Rattle.chv_query.specs.Bound.{AreKeys}
use Rattle.chv_query.specs.Keys.{Key, keys_of}
use Rattle.chv_query.specs.declared.keys.Keys.{Keys}
use Rattle.chv_query.proofs.OutputLemmas.{AllMean-append}
use Rattle.chv_types.specs.Steps.{and_then}
use Rattle.chv_types.specs.declared.table.Column.{Column}

-- keys, and those behind them
abbrev behind : List Key → Result (List Key) Refusal → Result (List Key) Refusal
behind keys more = and_then more (λ others. Ok (keys ++ others))

-- the keys so far are bound; those that are left go behind them
pub record AreSoFar (columns : List Column) (items : List Item) (keys left : List Expr) (bound : Keys) : Type 0 where
  pub known : List Key
  pub follow : keys_of columns items keys ≡ behind known (keys_of columns items left)
  pub are : AreKeys columns bound known

-- one key more
pub AreKeys-push : (columns : List Column) (bound : Keys) (keys : List Key) (value : Bound) (key : Key) → AreKeys columns bound keys → Means columns value key.term
    → AreKeys columns (record { bounds = bound.bounds ++ value ∷ []; texts = bound.texts ++ expr_text key.tree ∷ [] }) (keys ++ key ∷ [])
AreKeys-push columns bound keys value key are means = record {
  mean = rw (map-append (λ (key : Key). key.term) keys (key ∷ []))
      (AllMean-append columns bound.bounds (value ∷ []) (map (λ (key : Key). key.term) keys) (key.term ∷ []) are.mean (means, tt));
  texts = rw (map-append (λ (key : Key). expr_text key.tree) keys (key ∷ []), are.texts) refl;
}

pub length-terms : (keys : List Key) → length (map (λ (key : Key). key.term) keys) ≡ length keys
length-terms [] = refl
length-terms (key ∷ keys) = ap suc (length-terms keys)
