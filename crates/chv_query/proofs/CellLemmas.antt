-- Output columns of a query that groups, one behind the other.
use Rattle.std.proofs.Common.{◌≡◌, ◌∙◌, ◌+◌, ◌++◌, ℕ, zero, suc, List, [], ◌∷◌, length, map, ◌==◌, ◌<◌, arith, drop, get_or, slice_get, None, Some, Ok, Err, refl, ap, subst}
use Rattle.std.proofs.Math.Dec.{eqb-suc-zero}
use Rattle.chv_ast.specs.declared.expr.Expr.{Expr}
use Rattle.chv_ast.specs.declared.refusal.Refusal.{Refusal}
use Rattle.chv_ast.specs.declared.refusal.Refusal.TheVariants.{TypeMismatch}
use Rattle.chv_ast.specs.declared.statement.Item.{Item}
use Rattle.chv_expr.specs.declared.bound.Bound.{Bound}
use Rattle.chv_expr.specs.Terms.{Term, term_of}
use Rattle.chv_group.specs.Groups.{is_empty}
use Rattle.chv_print.specs.ExprTexts.{expr_text}
use Rattle.chv_query.specs.Bound.{AllMean, AreCells, AreKeys, IsCall, IsKeyShown, IsShape}
use Rattle.chv_query.specs.Calls.{Called, Wanted, call_kind, call_of, wanted}
use Rattle.chv_query.specs.Keys.{Key}
use Rattle.chv_query.specs.Shapes.{Cells, key_shown, no_cells, put_item, put_items, put_key, put_wanted, shape_of_cells, with_call, with_key}
use Rattle.chv_query.specs.declared.calls.BoundCall.{BoundCall}
use Rattle.chv_query.specs.declared.cells.BoundCells.{BoundCells}
use Rattle.chv_query.specs.declared.keys.Keys.{Keys}
use Rattle.chv_query.proofs.KeyLemmas.{length-terms}
use Rattle.chv_query.proofs.OutputLemmas.{AllMean-append}
use Rattle.chv_types.specs.Names.{place_of}
use Rattle.chv_types.specs.declared.kind.Kind.{Kind}
use Rattle.chv_types.specs.declared.table.Column.{Column}

-- the cells so far are bound; those of the items that are left go behind them
pub record AreSoFar (columns : List Column) (keys : List Key) (items left : List Item) (bound : BoundCells) : Type 0 where
  pub cells : Cells
  pub follow : put_items columns keys no_cells items ≡ put_items columns keys cells left
  pub are : AreCells columns bound cells

AllMean-length : (source : List Column) (bounds : List Bound) (terms : List Term) → AllMean source bounds terms → length bounds ≡ length terms
AllMean-length source [] [] mean = refl
AllMean-length source [] (term ∷ terms) mean = absurd mean
AllMean-length source (bound ∷ bounds) [] mean = absurd mean
AllMean-length source (bound ∷ bounds) (term ∷ terms) mean = ap suc (AllMean-length source bounds terms mean.1)

-- there are as many bound keys as keys
length-keys : (source : List Column) (bound : Keys) (keys : List Key) → AreKeys source bound keys → length bound.bounds ≡ length keys
length-keys source bound keys are =
    AllMean-length source bound.bounds (map (λ (key : Key). key.term) keys) are.mean ∙ length-terms keys

is_empty-length : {A : Type 0} (items : List A) → (length items == 0) ≡ is_empty items
is_empty-length [] = refl
is_empty-length (item ∷ items) = eqb-suc-zero (length items)

-- keys and cells make a shape
pub IsShape-cells : (source : List Column) (keys : Keys) (bound : BoundCells) (known : List Key) (cells : Cells) → AreKeys source keys known → AreCells source bound cells
    → IsShape source (record {
      terms = keys.bounds ++ bound.args;
      grouping = Some (record { keys = length keys.bounds; calls = bound.calls; cells = bound.places; always = length keys.bounds == 0 });
      columns = bound.columns;
    }) (shape_of_cells known cells)
IsShape-cells source keys bound known cells are put = record {
  mean = AllMean-append source keys.bounds bound.args (map (λ (key : Key). key.term) known) cells.args are.mean put.mean;
  grouping = rw (length-keys source keys known are, put.calls, put.places, is_empty-length known) refl;
  columns = put.columns;
}

-- the bound key at a place
bound_key : (source : List Column) (bounds : List Bound) (keys : List Key) (place : ℕ) (bound : Bound) → AllMean source bounds (map (λ (key : Key). key.term) keys)
    → slice_get bounds place ≡ Some bound → (key : Key) × (slice_get keys place ≡ Some key) × (bound.kind ≡ key.term.kind)
bound_key source [] keys place bound mean at = absurd (cc at)
bound_key source (first ∷ bounds) [] place bound mean at = absurd mean
bound_key source (first ∷ bounds) (key ∷ keys) zero bound mean at = let same : first ≡ bound = cc at in (key, refl, subst (λ (b : Bound). b.kind ≡ key.term.kind) same mean.0.kind)
bound_key source (first ∷ bounds) (key ∷ keys) (suc place) bound mean at = bound_key source bounds keys place bound mean.1 at

no_key : (source : List Column) (bounds : List Bound) (keys : List Key) (place : ℕ) → AllMean source bounds (map (λ (key : Key). key.term) keys)
    → slice_get bounds place ≡ None → slice_get keys place ≡ None
no_key source [] [] place mean at = refl
no_key source [] (key ∷ keys) place mean at = absurd mean
no_key source (first ∷ bounds) [] place mean at = absurd mean
no_key source (first ∷ bounds) (key ∷ keys) zero mean at = absurd (cc at)
no_key source (first ∷ bounds) (key ∷ keys) (suc place) mean at = no_key source bounds keys place mean.1 at

-- the key that an expression shows is the bound one of that place
pub key_shown-bound : (source : List Column) (keys : Keys) (known : List Key) (e : Expr) (term : Term) (place : ℕ) (bound : Bound) → AreKeys source keys known
    → term_of source e ≡ Ok term → place_of (expr_text e) keys.texts ≡ Some place → slice_get keys.bounds place ≡ Some bound
    → (shown : ℕ × Key) × (key_shown source known e ≡ Ok shown) × IsKeyShown (place, bound.kind) shown
key_shown-bound source keys known e term place bound are means found at =
    let key = bound_key source keys.bounds known place bound are.mean at in
    ((place, key.0), rw (means, ← are.texts, found, key.1) refl, (refl, key.2))

pub key_shown-none : (source : List Column) (keys : Keys) (known : List Key) (e : Expr) (term : Term) (place : ℕ) → AreKeys source keys known
    → term_of source e ≡ Ok term → place_of (expr_text e) keys.texts ≡ Some place → slice_get keys.bounds place ≡ None → key_shown source known e ≡ Err TypeMismatch
key_shown-none source keys known e term place are means found at =
    rw (means, ← are.texts, found, no_key source keys.bounds known place are.mean at) refl

-- an expression that is a call
pub put_wanted-call : (source : List Column) (keys : Keys) (known : List Key) (bound : BoundCells) (cells : Cells) (name : List ℕ) (e : Expr) (w : Wanted) (called : Called)
    → AreKeys source keys known → wanted e ≡ Some w → call_of source w ≡ Ok called → AreCells source bound (with_call name (length keys.bounds) cells called)
    → (after : Cells) × (put_wanted source known cells name e (wanted e) ≡ Ok after) × AreCells source bound after
put_wanted-call source keys known bound cells name e w called are is calls put = (
  with_call name (length known) cells called,
  rw (is, calls) refl,
  subst (λ (n : ℕ). AreCells source bound (with_call name n cells called)) (length-keys source keys known are) put,
)

-- an expression that shows a key
pub put_key-shown : (source : List Column) (known : List Key) (bound : BoundCells) (cells : Cells) (name : List ℕ) (e : Expr) (found : ℕ × Kind) (shown : ℕ × Key)
    → AreCells source bound cells → key_shown source known e ≡ Ok shown → IsKeyShown found shown
    → (after : Cells) × (put_key source known cells name e ≡ Ok after)
    × AreCells source (record {
      calls = bound.calls;
      args = bound.args;
      columns = bound.columns ++ record { name = name; kind = found.1 } ∷ [];
      places = bound.places ++ found.0 ∷ [];
    }) after
put_key-shown source known bound cells name e found shown are is same = (
  with_key name cells shown.0 shown.1,
  rw is refl,
  record { calls = are.calls; mean = are.mean; columns = rw (are.columns, same.1) refl; places = rw (are.places, same.0) refl },
)

-- no cells yet
pub AreCells-none : (source : List Column) → AreCells source (record { calls = []; args = []; columns = []; places = [] }) no_cells
AreCells-none source = record { calls = refl; mean = tt; columns = refl; places = refl }

-- one call more
pub AreCells-call : (source : List Column) (bound : BoundCells) (cells : Cells) (name : List ℕ) (keys : ℕ) (call : BoundCall) (called : Called)
    → AreCells source bound cells → IsCall source call called
    → AreCells source (record {
      calls = bound.calls ++ call.call ∷ [];
      args = bound.args ++ call.arg ∷ [];
      columns = bound.columns ++ record { name = name; kind = call_kind call.call } ∷ [];
      places = bound.places ++ (keys + length bound.calls) ∷ [];
    }) (with_call name keys cells called)
AreCells-call source bound cells name keys call called are is = record {
  calls = rw (are.calls, is.call) refl;
  mean = AllMean-append source bound.args (call.arg ∷ []) cells.args (called.arg ∷ []) are.mean (is.means, tt);
  columns = rw (are.columns, is.call) refl;
  places = rw (are.places, are.calls) refl;
}

-- items are refused where one is behind those that are not
pub put_items-refused : (columns : List Column) (keys : List Key) (cells : Cells) (items : List Item) (place : ℕ) (item : Item) (refusal : Refusal) → place < length items
    → item ≡ get_or items place item → put_item columns keys cells item ≡ Err refusal → put_items columns keys cells (drop place items) ≡ Err refusal
put_items-refused columns keys cells [] place item refusal within is refused = absurd (omega arith)
put_items-refused columns keys cells (first ∷ items) zero item refusal within is refused = rw (← is, refused) refl
put_items-refused columns keys cells (first ∷ items) (suc place) item refusal within is refused =
    put_items-refused columns keys cells items place item refusal (omega arith) is refused
