-- The shape of output columns.
use Rattle.std.proofs.Common.{◌≡◌, if◌then◌else◌, Bool, true, false, List, [], ◌∷◌, map, None, Ok, ap, refl, subst}
use Rattle.chv_catalog.proofs.StepLemmas.{and_then-Ok}
use Rattle.chv_expr.specs.Terms.{Term}
use Rattle.chv_query.proofs.TakesLemmas.{ok_same}
use Rattle.chv_query.specs.Keys.{keys_of}
use Rattle.chv_types.specs.Steps.{and_then}
use Rattle.chv_types.specs.declared.kind.Kind.{Kind}
use Rattle.chv_ast.specs.declared.statement.Select.{Select}
use Rattle.chv_query.specs.Bound.{AreOutputs, IsShape}
use Rattle.chv_query.specs.Outputs.{Output, columns_of, outputs_of}
use Rattle.chv_query.specs.Shapes.{Shape, is_grouping, no_cells, put_items, shape_of, shape_of_groups, shape_of_outputs}
use Rattle.chv_query.specs.declared.output.Outputs.{Outputs}
use Rattle.chv_types.specs.declared.table.Column.{Column}

-- the shape of a select that does not group
pub IsShape-outputs : (columns : List Column) (select : Select) (bound : Outputs) (outputs : List Output) → is_grouping select ≡ false
    → outputs_of columns select.items ≡ Ok outputs → AreOutputs columns bound outputs
    → (shape : Shape) × (shape_of columns select ≡ Ok shape) × IsShape columns (record { terms = bound.bounds; grouping = None; columns = bound.columns }) shape
unfolding shape_of
IsShape-outputs columns select bound outputs single put are =
    (shape_of_outputs outputs, rw (single, put) refl, record { mean = are.mean; grouping = refl; columns = are.named })

pub kinds-columns_of : (outputs : List Output)
    → map (λ (column : Column). column.kind) (columns_of outputs) ≡ map (λ (term : Term). term.kind) (map (λ (output : Output). output.term) outputs)
kinds-columns_of [] = refl
kinds-columns_of (output ∷ outputs) = ap (λ (kinds : List Kind). output.term.kind ∷ kinds) (kinds-columns_of outputs)

-- where a shape does not group, its columns have the terms' kinds
abbrev IsSingle : Shape → Type 0
IsSingle shape = shape.grouping ≡ None → map (λ (column : Column). column.kind) shape.columns ≡ map (λ (term : Term). term.kind) shape.terms

either_single : (groups : Bool) (columns : List Column) (select : Select) (shape : Shape)
    → (if groups then shape_of_groups columns select.keys select.items else and_then (outputs_of columns select.items) (λ outputs. Ok (shape_of_outputs outputs))) ≡ Ok shape
    → IsSingle shape
either_single true columns select shape is =
    let found = and_then-Ok (keys_of columns select.items select.keys) _ shape is in
    let cells = and_then-Ok (put_items columns found.0 no_cells select.items) _ shape found.2 in
    subst IsSingle (ok_same cells.2) (λ none. absurd (cc none))
either_single false columns select shape is =
    let found = and_then-Ok (outputs_of columns select.items) _ shape is in
    subst IsSingle (ok_same found.2) (λ none. kinds-columns_of found.0)

pub shape_of-single : (columns : List Column) (select : Select) (shape : Shape) → shape_of columns select ≡ Ok shape → shape.grouping ≡ None
    → map (λ (column : Column). column.kind) shape.columns ≡ map (λ (term : Term). term.kind) shape.terms
unfolding shape_of
shape_of-single columns select shape is = either_single (is_grouping select) columns select shape is
