-- A bound query makes of each row what is asked.
use Rattle.std.proofs.Common.{◌≡◌, ℕ, Bool, true, false, if◌then◌else◌, List, [], ◌∷◌, map, Option, None, Some, Ok, refl, ap, ◌∙◌}
use Rattle.std.proofs.lemmas.List.Elements.{All-nil, All-cons}
use Rattle.std.specs.List.{All}
use Rattle.std.specs.Option.{IfSome, option_and_then, option_map}
use Rattle.chv_ast.specs.declared.refusal.Refusal.TheVariants.{NeedsFinal}
use Rattle.chv_ast.specs.declared.statement.Select.{Select}
use Rattle.chv_catalog.proofs.StepLemmas.{and_then-Ok, refuse_if-Ok}
use Rattle.chv_catalog.specs.Schemas.{Catalog}
use Rattle.chv_catalog.specs.declared.table_def.TableDef.{TableDef}
use Rattle.chv_types.specs.Fits.{Fits, FitAll}
use Rattle.chv_types.specs.declared.kind.Kind.{Kind}
use Rattle.chv_types.specs.declared.table.Column.{Column}
use Rattle.chv_types.specs.declared.value.Value.{Value}
use Rattle.chv_expr.specs.Bindings.{kinds_of}
use Rattle.chv_expr.specs.Terms.{Term}
use Rattle.chv_expr.specs.declared.bound.Bound.{Bound}
use Rattle.chv_query.specs.Bound.{AllMean, IsFilter, IsQuery, IsShape, term_in}
use Rattle.chv_query.specs.MergeBlind.{is_blind}
use Rattle.chv_query.specs.Outputs.{filter_of}
use Rattle.chv_query.specs.Queries.{Asked, asked, asked_of, asked_select, limit_of, needs_final, sorts_of}
use Rattle.chv_query.specs.Results.{outcome, output_row, passes}
use Rattle.chv_query.specs.Shapes.{Shape, shape_of}
use Rattle.chv_query.specs.declared.query.Sort.{Sort}
use Rattle.chv_query.specs.declared.shape.BoundShape.{BoundShape}
use Rattle.chv_query.proofs.ShapeLemmas.{shape_of-single}
use Rattle.chv_query.proofs.TakesLemmas.{made_takes, shape_of-feeds}

passes-same : (columns : List Column) (bound : Option Bound) (filter : Option Term) (row : List Value) → IsFilter columns bound filter
    → passes (option_map term_in bound) row ≡ passes filter row
passes-same columns None None row is = refl
passes-same columns None (Some term) row is = absurd is
passes-same columns (Some bound) None row is = absurd is
passes-same columns (Some bound) (Some term) row is = rw (is.same row) refl

output_row-same : (columns : List Column) (bounds : List Bound) (terms : List Term) (row : List Value) → AllMean columns bounds terms
    → output_row (map term_in bounds) row ≡ output_row terms row
output_row-same columns [] [] row mean = refl
output_row-same columns [] (term ∷ terms) row mean = absurd mean
output_row-same columns (bound ∷ bounds) [] row mean = absurd mean
output_row-same columns (bound ∷ bounds) (term ∷ terms) row mean = rw (mean.0.same row, output_row-same columns bounds terms row mean.1) refl

outcome-same : (columns : List Column) (bound : Option Bound) (filter : Option Term) (bounds : List Bound) (terms : List Term) (row : List Value)
    → IsFilter columns bound filter → AllMean columns bounds terms → outcome (option_map term_in bound) (map term_in bounds) row ≡ outcome filter terms row
unfolding outcome
outcome-same columns bound filter bounds terms row is mean =
    rw (passes-same columns bound filter row is, output_row-same columns bounds terms row mean) refl

first_Fits : (kind : Kind) (kinds : List Kind) (first : Option Value) (rest : Option (List Value)) → IfSome first (Fits kind) → IfSome rest (FitAll kinds)
    → IfSome (option_and_then (λ value. option_map (λ values. value ∷ values) rest) first) (FitAll (kind ∷ kinds))
first_Fits kind kinds None rest h k = tt
first_Fits kind kinds (Some value) None h k = tt
first_Fits kind kinds (Some value) (Some values) h k = (h, k)

output_row-Fits : (columns : List Column) (bounds : List Bound) (terms : List Term) (row : List Value) → AllMean columns bounds terms
    → FitAll (kinds_of columns) row → IfSome (output_row terms row) (FitAll (map (λ (term : Term). term.kind) terms))
output_row-Fits columns [] [] row mean fit = tt
output_row-Fits columns [] (term ∷ terms) row mean fit = absurd mean
output_row-Fits columns (bound ∷ bounds) [] row mean fit = absurd mean
output_row-Fits columns (bound ∷ bounds) (term ∷ terms) row mean fit =
    first_Fits term.kind (map (λ (term : Term). term.kind) terms) (term.value row) (output_row terms row) (mean.0.fits row fit)
    (output_row-Fits columns bounds terms row mean.1 fit)

made_Fits : (kinds : List Kind) (passed : Option Bool) (made : Option (List Value)) → IfSome made (FitAll kinds)
    → IfSome (option_and_then (λ passed. if passed then option_map (λ values. values ∷ []) made else Some []) passed) (All (FitAll kinds))
made_Fits kinds None made h = tt
made_Fits kinds (Some false) made h = All-nil (FitAll kinds)
made_Fits kinds (Some true) None h = tt
made_Fits kinds (Some true) (Some values) h = All-cons (FitAll kinds) values [] h (All-nil (FitAll kinds))

outcome-Fits : (columns : List Column) (filter : Option Term) (bounds : List Bound) (terms : List Term) (row : List Value) → AllMean columns bounds terms
    → FitAll (kinds_of columns) row → IfSome (outcome filter terms row) (All (FitAll (map (λ (term : Term). term.kind) terms)))
unfolding outcome
outcome-Fits columns filter bounds terms row mean fit =
    made_Fits (map (λ (term : Term). term.kind) terms) (passes filter row) (output_row terms row) (output_row-Fits columns bounds terms row mean fit)

-- what a SELECT asks is what is asked
pub asked_select-asked : (catalog : Catalog) (select : Select) (query : Asked) → asked_select catalog select ≡ Ok query → asked catalog select ≡ Ok query
unfolding asked_select
asked_select-asked catalog select query asks =
    let found = and_then-Ok (asked catalog select) _ query asks in
    let needed = refuse_if-Ok (needs_final select found.0) NeedsFinal (Ok found.0) query found.2 in
    found.1 ∙ needed.1

-- a bound query is what is asked, where its parts are
pub asked_of-IsQuery : (table : ℕ) (def : TableDef) (select : Select) (bound : Option Bound) (found : BoundShape) (filter : Option Term) (shape : Shape) (order : List Sort) (limit : Option ℕ) (blind : Bool)
    → filter_of def.columns select.filter ≡ Ok filter → IsFilter def.columns bound filter
    → shape_of def.columns select ≡ Ok shape → IsShape def.columns found shape
    → sorts_of found.columns select.order ≡ Ok order → limit_of select.limit ≡ Ok limit → blind ≡ is_blind def select found.grouping
    → (query : Asked) × (asked_of table def select ≡ Ok query)
    × IsQuery (record {
      table = table;
      engine = def.engine;
      columns = found.columns;
      filter = bound;
      terms = found.terms;
      grouping = found.grouping;
      order = order;
      limit = limit;
      blind = blind;
    }) query
asked_of-IsQuery table def select bound found filter shape order limit blind filtered is put are sorted limited seen =
    let same : (row : List Value) → outcome (option_map term_in bound) (map term_in found.terms) row ≡ outcome filter shape.terms row =
    λ row. outcome-same def.columns bound filter found.terms shape.terms row is are.mean in
    let fits : (row : List Value) → FitAll (kinds_of def.columns) row → IfSome (outcome filter shape.terms row) (All (FitAll (map (λ (term : Term). term.kind) shape.terms))) =
    λ row fit. outcome-Fits def.columns filter found.terms shape.terms row are.mean fit in (
      record {
        table = table;
        def = def;
        filter = filter;
        terms = shape.terms;
        grouping = shape.grouping;
        columns = shape.columns;
        order = order;
        limit = limit;
        blind = is_blind def select shape.grouping;
      },
      rw (filtered, put, ← are.columns, sorted, limited) refl,
      record {
        table = refl;
        engine = refl;
        columns = are.columns;
        grouping = are.grouping;
        order = refl;
        limit = refl;
        blind = seen ∙ ap (is_blind def select) are.grouping;
        same = same;
        fits = fits;
        takes = λ row fit. rw (same row, are.grouping)
            (made_takes shape.grouping shape.terms (outcome filter shape.terms row) (shape_of-feeds def.columns select shape put) (fits row fit));
        single = λ none. rw are.columns (shape_of-single def.columns select shape put none);
      },
    )
