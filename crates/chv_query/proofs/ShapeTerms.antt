-- What a query evaluates, and where a query that groups has its output columns among keys and results.
use Rattle.std.proofs.Common.{◌≡◌, ◌∙◌, ◌+◌, ℕ, suc, pos, Bool, true, false, if◌then◌else◌, List, [], ◌∷◌, ◌++◌, length, map, Option, None, Some, is_some, Ok, slice_get, option_map, refl, sym, ap, subst, arith, append_assoc, length-append}
use Rattle.std.proofs.lemmas.List.{map-append}
use Rattle.std.proofs.lemmas.List.Elements.{All-append, All-cons, All-head, All-nil}
use Rattle.std.proofs.lemmas.Option.{slice_get-map}
use Rattle.std.specs.List.{All}
use Rattle.std.specs.Prelude.{IfOk}
use Rattle.chv_ast.specs.declared.expr.Expr.{Expr}
use Rattle.chv_ast.specs.declared.refusal.Refusal.{Refusal}
use Rattle.chv_ast.specs.declared.refusal.Refusal.TheVariants.{TypeMismatch, UnknownColumn}
use Rattle.chv_ast.specs.declared.statement.Item.{Item}
use Rattle.chv_ast.specs.declared.statement.Item.TheVariants as shown
use Rattle.chv_ast.specs.declared.statement.Select.{Select}
use Rattle.chv_catalog.proofs.StepLemmas.{and_then-Ok, refuse_if-Ok}
use Rattle.chv_catalog.specs.Checks.{is_state}
use Rattle.chv_expr.proofs.TermFits.{terms_of-each}
use Rattle.chv_expr.specs.Terms.{Term, column_at, constant, term_of, terms_of}
use Rattle.chv_group.specs.Groups.{is_empty, takes_states}
use Rattle.chv_group.specs.declared.call.AggCall.{AggCall}
use Rattle.chv_query.proofs.GrowthLemmas.{slice_get-more}
use Rattle.chv_query.proofs.KeyLemmas.{length-terms}
use Rattle.chv_query.proofs.SetSums.{length-mapped}
use Rattle.chv_query.proofs.ShapeLemmas.{kinds-columns_of}
use Rattle.chv_query.proofs.TakesLemmas.{ok_same, some_same}
use Rattle.chv_query.specs.Calls.{Called, Wanted, call_kind, call_of, called_alone, called_with, over_of, same_function, values_of, wanted}
use Rattle.chv_query.specs.Keys.{Key, key_of, key_term, key_tree, keys_of, place_of_key}
use Rattle.chv_query.specs.Outputs.{Output, columns_from, item_outputs, output_name, outputs_of}
use Rattle.chv_query.specs.Shapes.{Cells, Shape, is_grouping, key_shown, no_cells, put_item, put_items, put_wanted, shape_of, shape_of_cells, shape_of_groups, shape_of_outputs, with_call, with_key}
use Rattle.chv_query.specs.declared.groups.Groups.{Groups}
use Rattle.chv_types.specs.Aggregates.{result_of, sum_of}
use Rattle.chv_types.specs.Steps.{and_then, or_refuse}
use Rattle.chv_types.specs.declared.aggregate.AggForm.{AggForm}
use Rattle.chv_types.specs.declared.aggregate.AggForm.TheVariants as form
use Rattle.chv_types.specs.declared.aggregate.AggName.{AggName}
use Rattle.chv_types.specs.declared.aggregate.AggName.TheVariants as agg
use Rattle.chv_types.specs.declared.kind.Kind.{Kind}
use Rattle.chv_types.specs.declared.kind.Kind.TheVariants as kind
use Rattle.chv_types.specs.declared.kind.Scalar.{Scalar}
use Rattle.chv_types.specs.declared.kind.Scalar.TheVariants as scalar
use Rattle.chv_types.specs.declared.table.Column.{Column}
use Rattle.chv_types.specs.declared.value.Value.TheVariants.{Whole}

-- the kinds of terms
abbrev pub term_kinds : List Term → List Kind
term_kinds terms = map (λ (term : Term). term.kind) terms

-- a call that takes states takes those of its own kind, and one that takes values has a result over them
abbrev pub IsOn : AggCall → Term → Type 0
IsOn call term =
    (takes_states call.form ≡ true → term.kind ≡ kind.State call.agg call.arg)
    × (takes_states call.form ≡ false → is_some (result_of call.agg call.arg) ≡ true)

-- likewise of calls and what they are called on
abbrev pub AllOn : List AggCall → List Term → Type 0
AllOn [] [] = Unit {0}
AllOn [] (term ∷ terms) = ⊥
AllOn (call ∷ calls) [] = ⊥
AllOn (call ∷ calls) (term ∷ terms) = IsOn call term × AllOn calls terms

-- columns show the kinds at these places
abbrev pub AllPlaced : List Kind → List ℕ → List Column → Type 0
AllPlaced kinds [] [] = Unit {0}
AllPlaced kinds [] (column ∷ columns) = ⊥
AllPlaced kinds (place ∷ places) [] = ⊥
AllPlaced kinds (place ∷ places) (column ∷ columns) = (slice_get kinds place ≡ Some column.kind) × AllPlaced kinds places columns

-- groups over terms: keys, which are no states, stand in front of what calls are on; columns show keys and what calls give
pub record IsLaid (groups : Groups) (terms : List Term) (columns : List Column) : Type 0 where
  pub keys : List Term
  pub args : List Term
  pub are : terms ≡ keys ++ args
  pub count : groups.keys ≡ length keys
  pub plain : All (λ (term : Term). is_state term.kind ≡ false) keys
  pub always : groups.always ≡ true → keys ≡ []
  pub on : AllOn groups.calls args
  pub placed : AllPlaced (term_kinds keys ++ map call_kind groups.calls) groups.cells columns

abbrev pub IsLaidOut : Option Groups → List Term → List Column → Type 0
IsLaidOut None terms columns = map (λ (column : Column). column.kind) columns ≡ term_kinds terms
IsLaidOut (Some groups) terms columns = IsLaid groups terms columns

there : {A : Type 0} (refusal : Refusal) (o : Option A) (a : A) → or_refuse refusal o ≡ Ok a → o ≡ Some a
there refusal None a is = absurd (cc is)
there refusal (Some b) a is = cc is

-- calls
same_is : (a b : AggName) → same_function a b ≡ true → a ≡ b
same_is agg.Count agg.Count h = refl
same_is agg.Sum agg.Sum h = refl
same_is agg.Min agg.Min h = refl
same_is agg.Max agg.Max h = refl
same_is agg.UniqExact agg.UniqExact h = refl
same_is a b h = absurd (cc h)

merge_on : (name other : AggName) (plain found : Scalar) (same : Bool) → same_function name other ≡ same → (if same then Some plain else None) ≡ Some found
    → kind.State other plain ≡ kind.State name found
merge_on name other plain found true e is =
    let names : name ≡ other = same_is name other e in
    let args : plain ≡ found = cc is in
    rw (names, args) refl
merge_on name other plain found false e is = absurd (cc is)

sum_there : (plain found : Scalar) (o : Option Scalar) → sum_of plain ≡ o → option_map (λ _. plain) o ≡ Some found → is_some (result_of agg.Sum found) ≡ true
sum_there plain found None e is = absurd (cc is)
sum_there plain found (Some sum) e is = let same : plain ≡ found = cc is in subst (λ (p : Scalar). is_some (sum_of p) ≡ true) same (ap is_some e)

values_there : (name : AggName) (plain found : Scalar) → values_of name plain ≡ Some found → is_some (result_of name found) ≡ true
values_there agg.Count plain found is = absurd (cc is)
values_there agg.Sum plain found is = sum_there plain found (sum_of plain) refl is
values_there agg.Min plain found is = refl
values_there agg.Max plain found is = refl
values_there agg.UniqExact plain found is = refl

over_on : (name : AggName) (form : AggForm) (of : Kind) (found : Scalar) → over_of name form of ≡ Some found
    → (takes_states form ≡ true → of ≡ kind.State name found) × (takes_states form ≡ false → is_some (result_of name found) ≡ true)
over_on name form.Plain (kind.Plain plain) found is = ((λ h. absurd (cc h)), (λ h. values_there name plain found is))
over_on name form.State (kind.Plain plain) found is = ((λ h. absurd (cc h)), (λ h. values_there name plain found is))
over_on name form.Merge (kind.Plain plain) found is = absurd (cc is)
over_on name form.MergeState (kind.Plain plain) found is = absurd (cc is)
over_on name form.Plain (kind.State other plain) found is = absurd (cc is)
over_on name form.State (kind.State other plain) found is = absurd (cc is)
over_on name form.Merge (kind.State other plain) found is = ((λ h. merge_on name other plain found (same_function name other) refl is), (λ h. absurd (cc h)))
over_on name form.MergeState (kind.State other plain) found is = ((λ h. merge_on name other plain found (same_function name other) refl is), (λ h. absurd (cc h)))

on_is : (name : AggName) (form : AggForm) (term : Term) (over : Option Scalar) (called : Called) → over_of name form term.kind ≡ over
    → option_map (λ plain. record { call = record { agg = name; arg = plain; form = form }; arg = term }) over ≡ Some called
    → IsOn called.call called.arg × (called.arg ≡ term)
on_is name form term None called e is = absurd (cc is)
on_is name form term (Some found) called e is =
    let same : record { call = record { agg = name; arg = found; form = form }; arg = term } ≡ called = cc is in
    subst (λ (c : Called). IsOn c.call c.arg × (c.arg ≡ term)) same (over_on name form term.kind found e, refl)

abbrev zero_term : Term
zero_term = constant scalar.UInt64 (Whole (pos 0))

alone_is : (name : AggName) (form : AggForm) (called : Called) → called_alone name form ≡ Some called → IsOn called.call called.arg × (called.arg ≡ zero_term)
alone_is agg.Count form.Plain called is = subst (λ (c : Called). IsOn c.call c.arg × (c.arg ≡ zero_term)) (some_same is) (((λ h. absurd (cc h)), (λ h. refl)), refl)
alone_is agg.Count form.State called is = subst (λ (c : Called). IsOn c.call c.arg × (c.arg ≡ zero_term)) (some_same is) (((λ h. absurd (cc h)), (λ h. refl)), refl)
alone_is agg.Count form.Merge called is = absurd (cc is)
alone_is agg.Count form.MergeState called is = absurd (cc is)
alone_is agg.Sum form called is = absurd (cc is)
alone_is agg.Min form called is = absurd (cc is)
alone_is agg.Max form called is = absurd (cc is)
alone_is agg.UniqExact form called is = absurd (cc is)

AllOn-push : (calls : List AggCall) (terms : List Term) (call : AggCall) (term : Term) → AllOn calls terms → IsOn call term → AllOn (calls ++ call ∷ []) (terms ++ term ∷ [])
AllOn-push [] [] call term all on = (on, tt)
AllOn-push [] (other ∷ terms) call term all on = absurd all
AllOn-push (other ∷ calls) [] call term all on = absurd all
AllOn-push (other ∷ calls) (first ∷ terms) call term all on = (all.0, AllOn-push calls terms call term all.1 on)

-- places
AllPlaced-more : (kinds more : List Kind) (places : List ℕ) (columns : List Column) → AllPlaced kinds places columns → AllPlaced (kinds ++ more) places columns
AllPlaced-more kinds more [] [] all = tt
AllPlaced-more kinds more [] (column ∷ columns) all = absurd all
AllPlaced-more kinds more (place ∷ places) [] all = absurd all
AllPlaced-more kinds more (place ∷ places) (column ∷ columns) all = (slice_get-more kinds more place column.kind all.0, AllPlaced-more kinds more places columns all.1)

AllPlaced-push : (kinds : List Kind) (places : List ℕ) (columns : List Column) (place : ℕ) (column : Column) → AllPlaced kinds places columns → slice_get kinds place ≡ Some column.kind
    → AllPlaced kinds (places ++ place ∷ []) (columns ++ column ∷ [])
AllPlaced-push kinds [] [] place column all is = (is, tt)
AllPlaced-push kinds [] (other ∷ columns) place column all is = absurd all
AllPlaced-push kinds (other ∷ places) [] place column all is = absurd all
AllPlaced-push kinds (other ∷ places) (first ∷ columns) place column all is = (all.0, AllPlaced-push kinds places columns place column all.1 is)

slice_get-last : (kinds : List Kind) (k : Kind) → slice_get (kinds ++ k ∷ []) (length kinds) ≡ Some k
slice_get-last [] k = refl
slice_get-last (first ∷ kinds) k = slice_get-last kinds k

abbrev key_kinds : List Key → List Kind
key_kinds keys = map (λ (key : Key). key.term.kind) keys

key_kinds-terms : (keys : List Key) → key_kinds keys ≡ term_kinds (map (λ (key : Key). key.term) keys)
key_kinds-terms [] = refl
key_kinds-terms (key ∷ keys) = ap (λ (kinds : List Kind). key.term.kind ∷ kinds) (key_kinds-terms keys)

module _ (columns : List Column) (Q : Term → Type 0) (each : (e : Expr) → IfOk (term_of columns e) Q)
    (column : (place : ℕ) (column : Column) → slice_get columns place ≡ Some column → Q (column_at place column)) (zero_has : Q (constant scalar.UInt64 (Whole (pos 0)))) where
  one : (e : Expr) (term : Term) → term_of columns e ≡ Ok term → Q term
  one e term is = subst (λ r. IfOk r Q) is (each e)

  -- output columns
  abbrev OfOutputs : List Output → Type 0
  OfOutputs outputs = All Q (map (λ (output : Output). output.term) outputs)

  from_place : (place : ℕ) (rest : List Column) → ((i : ℕ) (c : Column) → slice_get rest i ≡ Some c → Q (column_at (place + i) c)) → OfOutputs (columns_from place rest)
  from_place place [] f = All-nil Q
  from_place place (c ∷ rest) f =
      let here : place + 0 ≡ place = omega arith in
      All-cons Q (column_at place c) (map (λ (output : Output). output.term) (columns_from (place + 1) rest)) (subst (λ n. Q (column_at n c)) here (f 0 c refl))
      (from_place (place + 1) rest (λ i d e. let next : place + suc i ≡ place + 1 + i = omega arith in subst (λ n. Q (column_at n d)) next (f (suc i) d e)))

  item-all : (item : Item) (outputs : List Output) → item_outputs columns item ≡ Ok outputs → OfOutputs outputs
  item-all shown.All outputs is =
      subst OfOutputs (ok_same is) (from_place 0 columns (λ i c e. let here : i ≡ 0 + i = omega arith in subst (λ n. Q (column_at n c)) here (column i c e)))
  item-all (shown.One e alias) outputs is =
      let found = and_then-Ok (term_of columns e) _ outputs is in
      subst OfOutputs (ok_same found.2) (All-cons Q found.0 [] (one e found.0 found.1) (All-nil Q))

  outputs-all : (items : List Item) (outputs : List Output) → outputs_of columns items ≡ Ok outputs → OfOutputs outputs
  outputs-all [] outputs is = subst OfOutputs (ok_same is) (All-nil Q)
  outputs-all (item ∷ items) outputs is =
      let first = and_then-Ok (item_outputs columns item) _ outputs is in
      let rest = and_then-Ok (outputs_of columns items) _ outputs first.2 in
      let terms = λ (output : Output). output.term in
      subst OfOutputs (ok_same rest.2)
      (subst (All Q) (sym (map-append terms first.0 rest.0)) (All-append Q (map terms first.0) (map terms rest.0) (item-all item first.0 first.1) (outputs-all items rest.0 rest.1)))

  -- keys
  abbrev AreKeys : List Key → Type 0
  AreKeys keys = All Q (map (λ (key : Key). key.term) keys) × All (λ (term : Term). is_state term.kind ≡ false) (map (λ (key : Key). key.term) keys)

  abbrev IsKey : Term → Type 0
  IsKey term = Q term × (is_state term.kind ≡ false)

  term_key : (tree : Expr) (term : Term) → key_term columns tree ≡ Ok term → IsKey term
  term_key tree term is =
      let found = and_then-Ok (term_of columns tree) _ term is in
      let passed = refuse_if-Ok (is_state found.0.kind) TypeMismatch (Ok found.0) term found.2 in
      subst IsKey (ok_same passed.1) (one tree found.0 found.1, passed.0)

  key_is : (items : List Item) (e : Expr) (key : Key) → key_of columns items e ≡ Ok key → IsKey key.term
  key_is items e key is =
      let tree = and_then-Ok (or_refuse UnknownColumn (key_tree columns items e)) _ key is in
      let term = and_then-Ok (key_term columns tree.0) _ key tree.2 in
      subst (λ (k : Key). IsKey k.term) (ok_same term.2) (term_key tree.0 term.0 term.1)

  keys-all : (items : List Item) (trees : List Expr) (keys : List Key) → keys_of columns items trees ≡ Ok keys → AreKeys keys
  keys-all items [] keys is = subst AreKeys (ok_same is) (All-nil Q, All-nil (λ (term : Term). is_state term.kind ≡ false))
  keys-all items (tree ∷ trees) keys is =
      let first = and_then-Ok (key_of columns items tree) _ keys is in
      let rest = and_then-Ok (keys_of columns items trees) _ keys first.2 in
      let here = key_is items tree first.0 first.1 in
      let behind = keys-all items trees rest.0 rest.1 in
      let terms = map (λ (key : Key). key.term) rest.0 in
      subst AreKeys (ok_same rest.2)
      (All-cons Q first.0.term terms here.0 behind.0, All-cons (λ (term : Term). is_state term.kind ≡ false) first.0.term terms here.1 behind.1)

  -- calls
  called_is : (name : AggName) (form : AggForm) (terms : List Term) (called : Called) → called_with name form terms ≡ Some called → All Q terms → IsOn called.call called.arg × Q called.arg
  called_is name form [] called is all = let found = alone_is name form called is in (found.0, subst Q (sym found.1) zero_has)
  called_is name form (term ∷ []) called is all =
      let found = on_is name form term (over_of name form term.kind) called refl is in
      (found.0, subst Q (sym found.1) (All-head Q term [] all))
  called_is name form (term ∷ (next ∷ terms)) called is all = absurd (cc is)

  call_is : (w : Wanted) (called : Called) → call_of columns w ≡ Ok called → IsOn called.call called.arg × Q called.arg
  call_is w called is =
      let found = and_then-Ok (terms_of columns w.args) _ called is in
      called_is w.agg w.form found.0 called (there TypeMismatch (called_with w.agg w.form found.0) called found.2)
      (subst (λ r. IfOk r (All Q)) found.1 (terms_of-each columns Q each w.args))

  module _ (keys : List Key) where
    -- cells behind the keys
    record AreCells (cells : Cells) : Type 0 where
      on : AllOn cells.calls cells.args
      terms : All Q cells.args
      placed : AllPlaced (key_kinds keys ++ map call_kind cells.calls) cells.places cells.columns

    call_cells : (name : List ℕ) (cells : Cells) (called : Called) → AreCells cells → IsOn called.call called.arg × Q called.arg → AreCells (with_call name (length keys) cells called)
    call_cells name cells called are is =
        let before = key_kinds keys ++ map call_kind cells.calls in
        let of : Kind = call_kind called.call in
        let more : before ++ of ∷ [] ≡ key_kinds keys ++ map call_kind (cells.calls ++ called.call ∷ []) =
        append_assoc (key_kinds keys) (map call_kind cells.calls) (of ∷ []) ∙ ap (λ (l : List Kind). key_kinds keys ++ l) (sym (map-append call_kind cells.calls (called.call ∷ []))) in
        let place : length before ≡ length keys + length cells.calls =
        omega (arith, length-append (key_kinds keys) (map call_kind cells.calls), length-mapped (λ (key : Key). key.term.kind) keys, length-mapped call_kind cells.calls) in
        let at : slice_get (before ++ of ∷ []) (length keys + length cells.calls) ≡ Some of = subst (λ (n : ℕ). slice_get (before ++ of ∷ []) n ≡ Some of) place (slice_get-last before of) in
        record {
          on = AllOn-push cells.calls cells.args called.call called.arg are.on is.0;
          terms = All-append Q cells.args (called.arg ∷ []) are.terms (All-cons Q called.arg [] is.1 (All-nil Q));
          placed = subst (λ (kinds : List Kind). AllPlaced kinds (cells.places ++ (length keys + length cells.calls) ∷ []) (cells.columns ++ record { name = name; kind = of } ∷ [])) more
              (AllPlaced-push (before ++ of ∷ []) cells.places cells.columns (length keys + length cells.calls) (record { name = name; kind = of })
              (AllPlaced-more before (of ∷ []) cells.places cells.columns are.placed) at);
        }

    key_cells : (name : List ℕ) (cells : Cells) (place : ℕ) (key : Key) → AreCells cells → slice_get keys place ≡ Some key → AreCells (with_key name cells place key)
    key_cells name cells place key are is =
        let kind_of = λ (key : Key). key.term.kind in
        record {
          on = are.on;
          terms = are.terms;
          placed = AllPlaced-push (key_kinds keys ++ map call_kind cells.calls) cells.places cells.columns place (record { name = name; kind = key.term.kind }) are.placed
              (slice_get-more (key_kinds keys) (map call_kind cells.calls) place key.term.kind (slice_get-map kind_of keys place ∙ ap (option_map kind_of) is));
        }

    shown_at : (e : Expr) (found : ℕ × Key) → key_shown columns keys e ≡ Ok found → slice_get keys found.0 ≡ Some found.1
    shown_at e found is =
        let term = and_then-Ok (term_of columns e) _ found is in
        let place = and_then-Ok (or_refuse TypeMismatch (place_of_key keys e)) _ found term.2 in
        let key = and_then-Ok (or_refuse TypeMismatch (slice_get keys place.0)) _ found place.2 in
        subst (λ (f : ℕ × Key). slice_get keys f.0 ≡ Some f.1) (ok_same key.2) (there TypeMismatch (slice_get keys place.0) key.0 key.1)

    wanted_cells : (cells : Cells) (name : List ℕ) (e : Expr) (w : Option Wanted) (after : Cells) → AreCells cells → put_wanted columns keys cells name e w ≡ Ok after → AreCells after
    wanted_cells cells name e None after are is =
        let found = and_then-Ok (key_shown columns keys e) _ after is in
        subst AreCells (ok_same found.2) (key_cells name cells found.0.0 found.0.1 are (shown_at e found.0 found.1))
    wanted_cells cells name e (Some w) after are is =
        let found = and_then-Ok (call_of columns w) _ after is in
        subst AreCells (ok_same found.2) (call_cells name cells found.0 are (call_is w found.0 found.1))

    item_cells : (cells : Cells) (item : Item) (after : Cells) → AreCells cells → put_item columns keys cells item ≡ Ok after → AreCells after
    item_cells cells shown.All after are is = absurd (cc is)
    item_cells cells (shown.One e alias) after are is = wanted_cells cells (output_name alias e) e (wanted e) after are is

    items_cells : (cells : Cells) (items : List Item) (after : Cells) → AreCells cells → put_items columns keys cells items ≡ Ok after → AreCells after
    items_cells cells [] after are is = subst AreCells (ok_same is) are
    items_cells cells (item ∷ items) after are is =
        let first = and_then-Ok (put_item columns keys cells item) _ after is in
        items_cells first.0 items after (item_cells cells item first.0 are first.1) first.2

  -- shapes
  abbrev IsLaidShape : Shape → Type 0
  IsLaidShape shape = All Q shape.terms × IsLaidOut shape.grouping shape.terms shape.columns

  empty_keys : (keys : List Key) → is_empty keys ≡ true → map (λ (key : Key). key.term) keys ≡ []
  empty_keys [] h = refl
  empty_keys (key ∷ keys) h = absurd (cc h)

  cells_shape : (keys : List Key) (cells : Cells) → AreKeys keys → AreCells keys cells → IsLaidShape (shape_of_cells keys cells)
  cells_shape keys cells of are =
      let terms = map (λ (key : Key). key.term) keys in (
        All-append Q terms cells.args of.0 are.terms,
        record {
          keys = terms;
          args = cells.args;
          are = refl;
          count = sym (length-terms keys);
          plain = of.1;
          always = empty_keys keys;
          on = are.on;
          placed = subst (λ (kinds : List Kind). AllPlaced (kinds ++ map call_kind cells.calls) cells.places cells.columns) (key_kinds-terms keys) are.placed;
        },
      )

  either_laid : (groups : Bool) (select : Select) (shape : Shape)
      → (if groups then shape_of_groups columns select.keys select.items else and_then (outputs_of columns select.items) (λ outputs. Ok (shape_of_outputs outputs))) ≡ Ok shape
      → IsLaidShape shape
  either_laid true select shape is =
      let keys = and_then-Ok (keys_of columns select.items select.keys) _ shape is in
      let cells = and_then-Ok (put_items columns keys.0 no_cells select.items) _ shape keys.2 in
      let none : AreCells keys.0 no_cells = record { on = tt; terms = All-nil Q; placed = tt } in
      subst IsLaidShape (ok_same cells.2) (cells_shape keys.0 cells.0 (keys-all select.items select.keys keys.0 keys.1) (items_cells keys.0 no_cells select.items cells.0 none cells.1))
  either_laid false select shape is =
      let found = and_then-Ok (outputs_of columns select.items) _ shape is in
      subst IsLaidShape (ok_same found.2) (outputs-all select.items found.0 found.1, kinds-columns_of found.0)

  -- what is evaluated has what holds of expressions, and groups are laid out
  pub shape_of-laid : (select : Select) (shape : Shape) → shape_of columns select ≡ Ok shape → All Q shape.terms × IsLaidOut shape.grouping shape.terms shape.columns
  unfolding shape_of
  shape_of-laid select shape is = either_laid (is_grouping select) select shape is
