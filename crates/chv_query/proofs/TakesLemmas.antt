-- Calls take what their arguments give.
use Rattle.std.proofs.Common.{◌≡◌, ℕ, zero, suc, Bool, true, false, List, [], ◌∷◌, ◌++◌, map, drop, Option, None, Some, Result, Ok, refl, option_map, if◌then◌else◌, subst}
use Rattle.std.proofs.Math.Seq.{drop-append_seam}
use Rattle.std.proofs.lemmas.List.Elements.{All-weaker}
use Rattle.std.proofs.lemmas.Option.{IfSome_then}
use Rattle.std.specs.List.{All}
use Rattle.std.specs.Option.{IfSome}
use Rattle.chv_ast.specs.declared.expr.Expr.{Expr}
use Rattle.chv_ast.specs.declared.refusal.Refusal.{Refusal}
use Rattle.chv_ast.specs.declared.refusal.Refusal.TheVariants.{TypeMismatch}
use Rattle.chv_ast.specs.declared.statement.Item.{Item}
use Rattle.chv_ast.specs.declared.statement.Item.TheVariants as shown
use Rattle.chv_ast.specs.declared.statement.Select.{Select}
use Rattle.chv_catalog.proofs.StepLemmas.{and_then-Ok}
use Rattle.chv_expr.specs.Terms.{Term, terms_of}
use Rattle.chv_group.specs.Groups.{TakesArgument, TakesArguments, TakesValue}
use Rattle.chv_group.specs.declared.call.AggCall.{AggCall}
use Rattle.chv_query.proofs.KeyLemmas.{length-terms}
use Rattle.chv_query.specs.Bound.{TakesValues}
use Rattle.chv_query.specs.Calls.{Called, Wanted, call_of, called_alone, called_with, over_of, values_of, wanted}
use Rattle.chv_query.specs.Keys.{Key, keys_of}
use Rattle.chv_query.specs.Outputs.{output_name, outputs_of}
use Rattle.chv_query.specs.Shapes.{Cells, Shape, is_grouping, key_shown, no_cells, put_item, put_items, put_wanted, shape_of, shape_of_cells, shape_of_groups, shape_of_outputs}
use Rattle.chv_query.specs.declared.groups.Groups.{Groups}
use Rattle.chv_types.specs.Aggregates.{result_of}
use Rattle.chv_types.specs.Fits.{Fits, FitAll, IsOfScalar}
use Rattle.chv_types.specs.Steps.{and_then, or_refuse}
use Rattle.chv_types.specs.declared.aggregate.AggForm.{AggForm}
use Rattle.chv_types.specs.declared.aggregate.AggForm.TheVariants as form
use Rattle.chv_types.specs.declared.aggregate.AggName.{AggName}
use Rattle.chv_types.specs.declared.aggregate.AggName.TheVariants as agg
use Rattle.chv_types.specs.declared.kind.Kind.{Kind}
use Rattle.chv_types.specs.declared.kind.Kind.TheVariants as kind
use Rattle.chv_types.specs.declared.kind.Scalar.{Scalar}
use Rattle.chv_types.specs.declared.table.Column.{Column}
use Rattle.chv_types.specs.declared.value.Value.{Value}

-- a call takes each value of the kind of a term
abbrev pub IsFed : AggCall → Term → Type 0
IsFed call term = (value : Value) → Fits term.kind value → TakesArgument call value

-- calls take what these terms give, one each
abbrev pub AreFed : List AggCall → List Term → Type 0
AreFed [] [] = Unit {0}
AreFed [] (term ∷ terms) = ⊥
AreFed (call ∷ calls) [] = ⊥
AreFed (call ∷ calls) (term ∷ terms) = IsFed call term × AreFed calls terms

-- two answers that are the same have the same value
pub ok_same : {A : Type 0} {a b : A} → ◌≡◌ {A = Result A Refusal} (Ok a) (Ok b) → a ≡ b
ok_same is = cc is

pub some_same : {A : Type 0} {a b : A} → Some a ≡ Some b → a ≡ b
some_same is = cc is

AreFed-push : (calls : List AggCall) (terms : List Term) (call : AggCall) (term : Term) → AreFed calls terms → IsFed call term
    → AreFed (calls ++ call ∷ []) (terms ++ term ∷ [])
AreFed-push [] [] call term fed is = (is, tt)
AreFed-push [] (other ∷ terms) call term fed is = absurd fed
AreFed-push (other ∷ calls) [] call term fed is = absurd fed
AreFed-push (other ∷ calls) (first ∷ terms) call term fed is = (fed.0, AreFed-push calls terms call term fed.1 is)

same_kind : (plain : Scalar) (o : Option Scalar) (found : Scalar) → option_map (λ _. plain) o ≡ Some found → plain ≡ found
same_kind plain None found is = cc
same_kind plain (Some other) found is = cc

values_of-takes : (name : AggName) (plain found : Scalar) (value : Value) → values_of name plain ≡ Some found → IsOfScalar plain value → TakesValue name found value
values_of-takes agg.Count plain found value is fits = tt
values_of-takes agg.Sum plain found value is fits = subst (λ (k : Scalar). IsOfScalar k value) (same_kind plain (result_of agg.Sum plain) found is) fits
values_of-takes agg.Min plain found value is fits = subst (λ (k : Scalar). IsOfScalar k value) (some_same is) fits
values_of-takes agg.Max plain found value is fits = subst (λ (k : Scalar). IsOfScalar k value) (some_same is) fits
values_of-takes agg.UniqExact plain found value is fits = subst (λ (k : Scalar). IsOfScalar k value) (some_same is) fits

over_of-takes : (name : AggName) (form : AggForm) (kind : Kind) (found : Scalar) (value : Value) → over_of name form kind ≡ Some found → Fits kind value
    → TakesArgument (record { agg = name; arg = found; form = form }) value
over_of-takes name form.Plain (kind.Plain plain) found value is fits = λ h. values_of-takes name plain found value is fits
over_of-takes name form.State (kind.Plain plain) found value is fits = λ h. values_of-takes name plain found value is fits
over_of-takes name form.Plain (kind.State other plain) found value is fits = absurd (cc is)
over_of-takes name form.State (kind.State other plain) found value is fits = absurd (cc is)
over_of-takes name form.Merge kind found value is fits = λ h. absurd (cc h)
over_of-takes name form.MergeState kind found value is fits = λ h. absurd (cc h)

on_fed : (name : AggName) (form : AggForm) (term : Term) (over : Option Scalar) (called : Called) → over_of name form term.kind ≡ over
    → option_map (λ plain. record { call = record { agg = name; arg = plain; form = form }; arg = term }) over ≡ Some called → IsFed called.call called.arg
on_fed name form term None called over is = absurd (cc is)
on_fed name form term (Some found) called over is =
    let same : record { call = record { agg = name; arg = found; form = form }; arg = term } ≡ called = cc is in
    rw (← same) (λ value fits. over_of-takes name form term.kind found value over fits)

alone_fed : (name : AggName) (form : AggForm) (called : Called) → called_alone name form ≡ Some called → IsFed called.call called.arg
alone_fed agg.Count form.Plain called is =
    rw (← some_same is) (λ value fits h. tt)
alone_fed agg.Count form.State called is = rw (← some_same is) (λ value fits h. tt)
alone_fed agg.Count form.Merge called is = absurd (cc is)
alone_fed agg.Count form.MergeState called is = absurd (cc is)
alone_fed agg.Sum form called is = absurd (cc is)
alone_fed agg.Min form called is = absurd (cc is)
alone_fed agg.Max form called is = absurd (cc is)
alone_fed agg.UniqExact form called is = absurd (cc is)

with_fed : (name : AggName) (form : AggForm) (terms : List Term) (called : Called) → called_with name form terms ≡ Some called → IsFed called.call called.arg
with_fed name form [] called is = alone_fed name form called is
with_fed name form (term ∷ []) called is = on_fed name form term (over_of name form term.kind) called refl is
with_fed name form (term ∷ (next ∷ terms)) called is = absurd (cc is)

there : {A : Type 0} (o : Option A) (a : A) → or_refuse TypeMismatch o ≡ Ok a → o ≡ Some a
there None a is = absurd (cc is)
there (Some b) a is = cc is

call_fed : (columns : List Column) (w : Wanted) (called : Called) → call_of columns w ≡ Ok called → IsFed called.call called.arg
call_fed columns w called is =
    let step = and_then-Ok (terms_of columns w.args) (λ terms. or_refuse TypeMismatch (called_with w.agg w.form terms)) called is in
    with_fed w.agg w.form step.0 called (there (called_with w.agg w.form step.0) called step.2)

-- what is put behind calls that take what their arguments give is such a call, or none
abbrev Feeds : Cells → Type 0
Feeds cells = AreFed cells.calls cells.args

wanted_fed : (columns : List Column) (keys : List Key) (cells : Cells) (name : List ℕ) (e : Expr) (w : Option Wanted) (after : Cells) → Feeds cells
    → put_wanted columns keys cells name e w ≡ Ok after → Feeds after
wanted_fed columns keys cells name e None after fed is =
    let step = and_then-Ok (key_shown columns keys e) _ after is in subst Feeds (ok_same step.2) fed
wanted_fed columns keys cells name e (Some w) after fed is =
    let step = and_then-Ok (call_of columns w) _ after is in
    subst Feeds (ok_same step.2) (AreFed-push cells.calls cells.args step.0.call step.0.arg fed (call_fed columns w step.0 step.1))

item_fed : (columns : List Column) (keys : List Key) (cells : Cells) (item : Item) (after : Cells) → Feeds cells → put_item columns keys cells item ≡ Ok after → Feeds after
item_fed columns keys cells shown.All after fed is = absurd (cc is)
item_fed columns keys cells (shown.One e alias) after fed is = wanted_fed columns keys cells (output_name alias e) e (wanted e) after fed is

items_fed : (columns : List Column) (keys : List Key) (cells : Cells) (items : List Item) (after : Cells) → Feeds cells → put_items columns keys cells items ≡ Ok after → Feeds after
items_fed columns keys cells [] after fed is = subst Feeds (ok_same is) fed
items_fed columns keys cells (item ∷ items) after fed is =
    let step = and_then-Ok (put_item columns keys cells item) (λ more. put_items columns keys more items) after is in
    items_fed columns keys step.0 items after (item_fed columns keys cells item step.0 fed step.1) step.2

-- the calls of a shape take what their arguments give
abbrev pub FeedsShape : Option Groups → List Term → Type 0
FeedsShape None terms = Unit {0}
FeedsShape (Some groups) terms = AreFed groups.calls (drop groups.keys terms)

cells_feed : (keys : List Key) (cells : Cells) → Feeds cells → FeedsShape (shape_of_cells keys cells).grouping (shape_of_cells keys cells).terms
cells_feed keys cells fed =
    let terms : List Term = map (λ (key : Key). key.term) keys in
    subst (λ (n : ℕ). AreFed cells.calls (drop n (terms ++ cells.args))) (length-terms keys) (rw (drop-append_seam terms cells.args) fed)

groups_feed : (columns : List Column) (keys : List Expr) (items : List Item) (shape : Shape) → shape_of_groups columns keys items ≡ Ok shape
    → FeedsShape shape.grouping shape.terms
groups_feed columns keys items shape is =
    let found = and_then-Ok (keys_of columns items keys) _ shape is in
    let cells = and_then-Ok (put_items columns found.0 no_cells items) _ shape found.2 in
    subst (λ (s : Shape). FeedsShape s.grouping s.terms) (ok_same cells.2)
    (cells_feed found.0 cells.0 (items_fed columns found.0 no_cells items cells.0 tt cells.1))

outputs_feed : (columns : List Column) (items : List Item) (shape : Shape) → and_then (outputs_of columns items) (λ outputs. Ok (shape_of_outputs outputs)) ≡ Ok shape
    → FeedsShape shape.grouping shape.terms
outputs_feed columns items shape is =
    let found = and_then-Ok (outputs_of columns items) _ shape is in
    subst (λ (s : Shape). FeedsShape s.grouping s.terms) (ok_same found.2) tt

either_feeds : (groups : Bool) (columns : List Column) (select : Select) (shape : Shape)
    → (if groups then shape_of_groups columns select.keys select.items else and_then (outputs_of columns select.items) (λ outputs. Ok (shape_of_outputs outputs))) ≡ Ok shape
    → FeedsShape shape.grouping shape.terms
either_feeds true columns select shape is = groups_feed columns select.keys select.items shape is
either_feeds false columns select shape is = outputs_feed columns select.items shape is

pub shape_of-feeds : (columns : List Column) (select : Select) (shape : Shape) → shape_of columns select ≡ Ok shape → FeedsShape shape.grouping shape.terms
unfolding shape_of
shape_of-feeds columns select shape is = either_feeds (is_grouping select) columns select shape is

-- values of the terms' kinds are taken
AreFed-takes : (calls : List AggCall) (terms : List Term) (values : List Value) → AreFed calls terms → FitAll (map (λ (term : Term). term.kind) terms) values
    → TakesArguments calls values
AreFed-takes [] [] [] fed fit = tt
AreFed-takes [] [] (value ∷ values) fed fit = absurd fit
AreFed-takes [] (term ∷ terms) values fed fit = absurd fed
AreFed-takes (call ∷ calls) [] values fed fit = absurd fed
AreFed-takes (call ∷ calls) (term ∷ terms) [] fed fit = absurd fit
AreFed-takes (call ∷ calls) (term ∷ terms) (value ∷ values) fed fit = (fed.0 value fit.0, AreFed-takes calls terms values fed.1 fit.1)

FitAll-drop : (n : ℕ) (terms : List Term) (values : List Value) → FitAll (map (λ (term : Term). term.kind) terms) values
    → FitAll (map (λ (term : Term). term.kind) (drop n terms)) (drop n values)
FitAll-drop zero terms values fit = fit
FitAll-drop (suc n) [] [] fit = tt
FitAll-drop (suc n) [] (value ∷ values) fit = absurd fit
FitAll-drop (suc n) (term ∷ terms) [] fit = absurd fit
FitAll-drop (suc n) (term ∷ terms) (value ∷ values) fit = FitAll-drop n terms values fit.1

pub FeedsShape-takes : (grouping : Option Groups) (terms : List Term) (values : List Value) → FeedsShape grouping terms
    → FitAll (map (λ (term : Term). term.kind) terms) values → TakesValues grouping values
FeedsShape-takes None terms values fed fit = tt
FeedsShape-takes (Some groups) terms values fed fit =
    AreFed-takes groups.calls (drop groups.keys terms) (drop groups.keys values) fed (FitAll-drop groups.keys terms values fit)

-- the same of what is made of a row
pub made_takes : (grouping : Option Groups) (terms : List Term) (made : Option (List (List Value))) → FeedsShape grouping terms
    → IfSome made (All (FitAll (map (λ (term : Term). term.kind) terms))) → IfSome made (All (TakesValues grouping))
made_takes grouping terms made fed fit =
    IfSome_then made fit (λ rows all. All-weaker (FitAll (map (λ (term : Term). term.kind) terms)) (TakesValues grouping)
    (λ values fits. FeedsShape-takes grouping terms values fed fits) rows all)
