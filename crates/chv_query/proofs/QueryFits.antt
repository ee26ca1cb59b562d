-- What a query makes of rows of its table's kinds is of its columns' kinds, and there are no more of them.
use Rattle.std.proofs.Common.{◌≡◌, ◌∙◌, ◌+◌, ◌<◌, ◌≤◌, ◌^◌, ◌↔◌, inl, inr, ℕ, suc, pos, max, Bool, true, false, List, [], ◌∷◌, ◌++◌, length, map, take, drop, Option, None, Some, is_some, Result, Ok, Err, slice_get, option_map, refl, sym, ap, subst, arith}
use Rattle.std.proofs.Math.Seq.{drop-append_seam}
use Rattle.std.proofs.lemmas.List.Elements.{All-drop, All-map, All-weaker}
use Rattle.std.proofs.lemmas.Option.{slice_get-map}
use Rattle.std.specs.List.{All}
use Rattle.std.specs.Option.{IfSome}
use Rattle.std.specs.Prelude.{IfOk}
use Rattle.chv_agg.specs.Sets.{SetsWithin, set_in, total_of}
use Rattle.chv_ast.specs.declared.expr.Expr.{Expr}
use Rattle.chv_ast.specs.declared.statement.Select.{Select}
use Rattle.chv_block.proofs.FitLemmas.{value_fits}
use Rattle.chv_block.specs.Spellings.{AllAreOf, IsOf}
use Rattle.chv_catalog.proofs.StepLemmas.{and_then-Ok}
use Rattle.chv_catalog.specs.Schemas.{kinds_of}
use Rattle.chv_catalog.specs.declared.table_def.TableDef.{TableDef}
use Rattle.chv_expr.proofs.FitLemmas.{fits-small}
use Rattle.chv_expr.proofs.TermFits.{AllOf, IsForm, IsTyped, column_at-form, term_of-form, term_of-typed, value_at-of}
use Rattle.chv_expr.specs.Terms.{Term, column_at, constant, term_of, value_at}
use Rattle.chv_group.specs.Groups.{TakesArgument, argument_at, grouped, takes_states}
use Rattle.chv_group.specs.declared.call.AggCall.{AggCall}
use Rattle.chv_group.specs.declared.call.Keyed.{Keyed}
use Rattle.chv_query.proofs.GroupFits.{AllAreOf-from, AllAreOf-to, AllFedAt, AllGive, AllGive-drop, AllGive-typed, AllOf-take, IsApt, IsFedAt, IsWell, arranged-well, column_kinds, grouped-length, grouped-well, made, made-all, made-length, plain_apt, size_at, slice_get-mapped, state-total, value_at-gives}
use Rattle.chv_query.proofs.GrowthLemmas.{All-at}
use Rattle.chv_query.proofs.SetSums.{input_size, input_size-state, input_size-value, length-mapped, total_of-length, total_of-map, total_of-same}
use Rattle.chv_query.proofs.ShapeTerms.{AllOn, IsLaid, IsLaidOut, IsOn, shape_of-laid, term_kinds}
use Rattle.chv_query.proofs.TakesLemmas.{AreFed, FeedsShape, IsFed, ok_same, shape_of-feeds}
use Rattle.chv_query.specs.Outputs.{filter_of}
use Rattle.chv_query.specs.Queries.{Asked, asked_of, limit_of, result_of, sorts_of}
use Rattle.chv_query.specs.Results.{arranged, keyed, shaped}
use Rattle.chv_query.specs.Shapes.{shape_of}
use Rattle.chv_query.specs.declared.groups.Groups.{Groups}
use Rattle.chv_types.specs.Aggregates.{result_of as kind_over}
use Rattle.chv_types.specs.Fits.{IsOfScalar}
use Rattle.chv_types.specs.declared.kind.Kind.{Kind}
use Rattle.chv_types.specs.declared.kind.Kind.TheVariants as kind
use Rattle.chv_types.specs.declared.kind.Scalar.{Scalar}
use Rattle.chv_types.specs.declared.kind.Scalar.TheVariants as scalar
use Rattle.chv_types.specs.declared.table.Column.{Column}
use Rattle.chv_types.specs.declared.value.Value.{Value}
use Rattle.chv_types.specs.declared.value.Value.TheVariants.{Whole}

-- a term of the kinds of a table has a value of its kind, and is of plain values, or a column
abbrev IsSoundTerm : List Kind → Term → Type 0
IsSoundTerm kinds term = IsTyped IsOf kinds term × IsForm kinds term

both_ok : {A E : Type 0} (P R : A → Type 0) (r : Result A E) → IfOk r P → IfOk r R → IfOk r (λ a. P a × R a)
both_ok P R (Ok a) p q = (p, q)
both_ok P R (Err e) p q = tt

-- a term's kind is that of states only where a column's is
term_apt : (kinds : List Kind) (term : Term) → All IsApt kinds → IsForm kinds term → IsApt term.kind
term_apt kinds term apt (inl plain) = plain_apt term.kind plain
term_apt kinds term apt (inr column) = All-at IsApt kinds column.0 term.kind apt column.1

module _ (kinds : List Kind) (apt : All IsApt kinds) (most : ℕ) (few : most < 2 ^ 64) (condition : Option Term) (terms : List Term) (sound : All (IsSoundTerm kinds) terms)
    (rows : List (List Value)) (are : All (AllOf IsOf kinds) rows) (short : length rows ≤ most) (within : SetsWithin most kinds rows) where
  typed : All (IsTyped IsOf kinds) terms
  typed = All-weaker (IsSoundTerm kinds) (IsTyped IsOf kinds) (λ term is. is.0) terms sound

  formed : All (IsForm kinds) terms
  formed = All-weaker (IsSoundTerm kinds) (IsForm kinds) (λ term is. is.1) terms sound

  made-are : All (AllOf IsOf (term_kinds terms)) (made condition terms rows)
  made-are = made-all condition terms (AllOf IsOf kinds) (AllOf IsOf (term_kinds terms)) (λ row values of gives. AllGive-typed kinds row terms values typed of gives) rows are

  single-well : IsWell most few (term_kinds terms) (made condition terms rows)
  single-well = (
    made-are,
    (λ place of at.
        let found = slice_get-mapped (λ (term : Term). term.kind) terms place of at in
        subst (λ (k : Kind). total_of (λ values. set_in k (value_at place values)) (made condition terms rows) ≤ most) found.2
        (state-total condition terms kinds 0 place found.0 most found.1 (All-at (IsForm kinds) terms place found.0 formed found.1) rows within)),
  )

  module _ (groups : Groups) (columns : List Column) (laid : IsLaid groups terms columns) (feeds : AreFed groups.calls (drop groups.keys terms)) where
    abbrev args : List Term
    args = drop groups.keys terms

    abbrev inputs : List Keyed
    inputs = map (keyed groups.keys) (made condition terms rows)

    args_are : args ≡ laid.args
    args_are =
        ap (drop groups.keys) laid.are ∙ ap (λ (n : ℕ). drop n (laid.keys ++ laid.args)) laid.count ∙ drop-append_seam laid.keys laid.args

    -- an argument has the kind of its term
    arg_takes : (call : AggCall) (term : Term) (place : ℕ) → slice_get args place ≡ Some term → IsFed call term
        → All (λ (input : Keyed). TakesArgument call (argument_at place input)) inputs
    arg_takes call term place at fed =
        All-map (λ (input : Keyed). TakesArgument call (argument_at place input)) (keyed groups.keys) (made condition terms rows)
        (made-all condition terms (AllOf IsOf kinds) (λ values. TakesArgument call (value_at place (drop groups.keys values))) each rows are)
      where
        each : (row values : List Value) → AllOf IsOf kinds row → AllGive row terms values → TakesArgument call (value_at place (drop groups.keys values))
        each row values of gives =
            let given = value_at-gives row args (drop groups.keys values) place term (AllGive-drop groups.keys row terms values gives) at in
            let term_typed : IsTyped IsOf kinds term = All-at (IsTyped IsOf kinds) args place term (All-drop (IsTyped IsOf kinds) groups.keys terms typed) at in
            fed (value_at place (drop groups.keys values))
            (value_fits term.kind (value_at place (drop groups.keys values)) (subst (λ (o : Option Value). IfSome o (IsOf term.kind)) given (term_typed row of)))

    abbrev arg_form : (term : Term) (place : ℕ) → slice_get args place ≡ Some term → IsForm kinds term
    arg_form term place at = All-at (IsForm kinds) args place term (All-drop (IsForm kinds) groups.keys terms formed) at

    size-values : (call : AggCall) (place : ℕ) → takes_states call.form ≡ false → total_of (size_at most few call place) inputs ≤ most
    size-values call place values =
        omega (
          arith,
          total_of-length (size_at most few call place) (λ input. input_size-value call (argument_at place input) values) inputs,
          length-mapped (keyed groups.keys) (made condition terms rows),
          made-length condition terms rows,
          short,
        )

    size-states : (call : AggCall) (term : Term) (place : ℕ) → slice_get args place ≡ Some term → takes_states call.form ≡ true → term.kind ≡ kind.State call.agg call.arg
        → total_of (size_at most few call place) inputs ≤ most
    size-states call term place at states is =
        omega (
          arith,
          total_of-map (size_at most few call place) (keyed groups.keys) (made condition terms rows),
          total_of-same (λ values. input_size call (value_at place (drop groups.keys values))) (λ values. set_in (kind.State call.agg call.arg) (value_at place (drop groups.keys values)))
              (λ values. input_size-state call (value_at place (drop groups.keys values)) states) (made condition terms rows),
          subst (λ (k : Kind). total_of (λ values. set_in k (value_at place (drop groups.keys values))) (made condition terms rows) ≤ most) is
              (state-total condition terms kinds groups.keys place term most at (arg_form term place at) rows within),
        )

    call_fed : (call : AggCall) (term : Term) (place : ℕ) → slice_get args place ≡ Some term → IsOn call term → IsFed call term → IsFedAt most few call place inputs
    call_fed call term place at on fed = record { takes = arg_takes call term place at fed; size = size (takes_states call.form) refl; some = some (takes_states call.form) refl }
      where
        size : (states : Bool) → takes_states call.form ≡ states → total_of (size_at most few call place) inputs ≤ most
        size true e = size-states call term place at e (on.0 e)
        size false e = size-values call place e

        some : (states : Bool) → takes_states call.form ≡ states → is_some (kind_over call.agg call.arg) ≡ true
        some true e = subst IsApt (on.0 e) (term_apt kinds term apt (arg_form term place at))
        some false e = on.1 e

    all_fed : (place : ℕ) (calls : List AggCall) (rest : List Term) → ((i : ℕ) (term : Term) → slice_get rest i ≡ Some term → slice_get args (place + i) ≡ Some term)
        → AllOn calls rest → AreFed calls rest → AllFedAt most few place calls inputs
    all_fed place [] rest at on fed = tt
    all_fed place (call ∷ calls) [] at on fed = absurd on
    all_fed place (call ∷ calls) (term ∷ rest) at on fed =
        let here : place + 0 ≡ place = omega arith in (
          call_fed call term place (subst (λ (n : ℕ). slice_get args n ≡ Some term) here (at 0 term refl)) on.0 fed.0,
          all_fed (place + 1) calls rest
              (λ i other e.
              let next : place + suc i ≡ place + 1 + i = omega arith in
              subst (λ (n : ℕ). slice_get args n ≡ Some other) next (at (suc i) other e)) on.1 fed.1,
        )

    calls_fed : AllFedAt most few 0 groups.calls inputs
    calls_fed =
        all_fed 0 groups.calls args (λ i term e. let here : i ≡ 0 + i = omega arith in subst (λ (n : ℕ). slice_get args n ≡ Some term) here e)
        (subst (AllOn groups.calls) (sym args_are) laid.on) feeds

    -- a key has the kinds of its terms
    keys-are : All (AllOf IsOf (term_kinds laid.keys)) (map (λ (input : Keyed). input.key) inputs)
    keys-are =
        let Of = AllOf IsOf (term_kinds laid.keys) in
        All-map Of (λ (input : Keyed). input.key) inputs
        (All-map (λ (input : Keyed). Of input.key) (keyed groups.keys) (made condition terms rows)
        (All-weaker (AllOf IsOf (term_kinds terms)) (λ values. Of (take groups.keys values))
        (λ values of.
        subst (λ (n : ℕ). Of (take n values)) (sym laid.count)
        (AllOf-take laid.keys laid.args values (subst (λ (ts : List Term). AllOf IsOf (term_kinds ts) values) laid.are of))) (made condition terms rows) made-are))

    groups-well : IsWell most few (column_kinds columns) (map (arranged groups.cells) (grouped groups.calls inputs groups.always))
    groups-well =
        arranged-well most few _ groups.cells columns (grouped groups.calls inputs groups.always) laid.placed
        (grouped-well most few laid.keys groups.calls inputs groups.always laid.plain calls_fed keys-are laid.always)

  shaped-well : (grouping : Option Groups) (columns : List Column) → IsLaidOut grouping terms columns → FeedsShape grouping terms
      → IsWell most few (column_kinds columns) (shaped grouping (made condition terms rows))
  unfolding shaped
  shaped-well None columns laid feeds = subst (λ (ks : List Kind). IsWell most few ks (made condition terms rows)) (sym laid) single-well
  shaped-well (Some groups) columns laid feeds = groups-well groups columns laid feeds

shaped-length : (condition : Option Term) (terms : List Term) (grouping : Option Groups) (rows : List (List Value)) (n : ℕ) → 1 ≤ n → length rows ≤ n
    → length (shaped grouping (made condition terms rows)) ≤ n
unfolding shaped
shaped-length condition terms None rows n some short = omega (arith, short, made-length condition terms rows)
shaped-length condition terms (Some groups) rows n some short =
    let inputs = map (keyed groups.keys) (made condition terms rows) in
    let few : length inputs ≤ n = omega (arith, short, made-length condition terms rows, length-mapped (keyed groups.keys) (made condition terms rows)) in
    omega (arith, length-mapped (arranged groups.cells) (grouped groups.calls inputs groups.always), grouped-length groups.calls inputs groups.always n some few)

-- there are no more rows than there were, but for the one that is always there
pub result_of-length : (query : Asked) (rows : List (List Value)) (n : ℕ) → 1 ≤ n → length rows ≤ n → length (result_of query rows) ≤ n
result_of-length query rows n some short = shaped-length query.filter query.terms query.grouping rows n some short

pub result_of-most : (query : Asked) (rows : List (List Value)) → length (result_of query rows) ≤ max 1 (length rows)
result_of-most query rows = result_of-length query rows (max 1 (length rows)) (omega arith) (omega arith)

pub plain_same : (of : Scalar) (value : Value) → IsOf (kind.Plain of) value ↔ IsOfScalar of value
plain_same of value = ((λ h. h), (λ h. h))

-- what is asked
abbrev IsSoundQuery : TableDef → Asked → Type 0
IsSoundQuery def query = All (IsSoundTerm (kinds_of def)) query.terms × IsLaidOut query.grouping query.terms query.columns × FeedsShape query.grouping query.terms

asked-sound : (number : ℕ) (def : TableDef) (select : Select) (query : Asked) → asked_of number def select ≡ Ok query → IsSoundQuery def query
asked-sound number def select query asks =
    let Q = IsSoundTerm (kinds_of def) in
    let filter = and_then-Ok (filter_of def.columns select.filter) _ query asks in
    let shape = and_then-Ok (shape_of def.columns select) _ query filter.2 in
    let order = and_then-Ok (sorts_of shape.0.columns select.order) _ query shape.2 in
    let limit = and_then-Ok (limit_of select.limit) _ query order.2 in
    let each : (e : Expr) → IfOk (term_of def.columns e) Q = λ e. both_ok (IsTyped IsOf (kinds_of def)) (IsForm (kinds_of def)) (term_of def.columns e) (term_of-typed IsOf plain_same def.columns e) (term_of-form def.columns e) in
    let kind_of = λ (column : Column). column.kind in
    let column : (place : ℕ) (column : Column) → slice_get def.columns place ≡ Some column → Q (column_at place column) =
    λ place column at. (
      (λ row all. value_at-of IsOf plain_same (kinds_of def) row place column.kind all (slice_get-map kind_of def.columns place ∙ ap (option_map kind_of) at)),
      column_at-form def.columns place column at,
    ) in
    let zero_has : Q (constant scalar.UInt64 (Whole (pos 0))) = ((λ row all. fits-small 0 (omega arith)), inl tt) in
    let laid = shape_of-laid def.columns Q each column zero_has select shape.0 shape.1 in
    subst (IsSoundQuery def) (ok_same limit.2) (laid.0, laid.1, shape_of-feeds def.columns select shape.0 shape.1)

-- rows of the table's kinds give rows of the columns' kinds, and their states have no larger sets
pub result_of-fits : (number : ℕ) (def : TableDef) (select : Select) (query : Asked) → asked_of number def select ≡ Ok query → All IsApt (kinds_of def) → (most : ℕ) → most < 2 ^ 64
    → (rows : List (List Value)) → AllAreOf (kinds_of def) rows → length rows ≤ most → SetsWithin most (kinds_of def) rows
    → AllAreOf (column_kinds query.columns) (result_of query rows) × SetsWithin most (column_kinds query.columns) (result_of query rows)
result_of-fits number def select query asks apt most few rows are short within =
    let sound = asked-sound number def select query asks in
    let well = shaped-well (kinds_of def) apt most few query.filter query.terms sound.0 rows (AllAreOf-to (kinds_of def) rows are) short within query.grouping query.columns sound.1 sound.2 in
    (AllAreOf-from (column_kinds query.columns) (result_of query rows) well.0, well.1)
