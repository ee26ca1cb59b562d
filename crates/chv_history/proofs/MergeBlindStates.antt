-- The states of calls over the columns of rows that are merged.
use Rattle.std.proofs.Common.{◌≡◌, ℕ, pos, zero, suc, ◌+◌, nat_eq, Bool, true, false, List, [], ◌∷◌, take, Option, Some, refl, sym, ap, subst, ◌∙◌, inl, inr, arith, slice_get, option_map}
use Rattle.std.proofs.lemmas.List.Elements.{All-head, All-tail}
use Rattle.std.proofs.lemmas.Option.{slice_get-map}
use Rattle.std.specs.List.{All, list_any}
use Rattle.std.specs.Option.{unwrap_or}
use Rattle.chv_agg.specs.Pairs.{join_each}
use Rattle.chv_agg.specs.StateBytes.{join_bytes}
use Rattle.chv_agg.specs.States.{join}
use Rattle.chv_agg.specs.declared.any_agg.AnyAgg.{AnyAgg}
use Rattle.chv_catalog.specs.Checks.{is_state}
use Rattle.chv_catalog.specs.Schemas.{kinds_of}
use Rattle.chv_catalog.specs.declared.table_def.TableDef.{TableDef}
use Rattle.chv_expr.proofs.TermFits.{AllOf, IsForm}
use Rattle.chv_expr.specs.Terms.{Term, value_at}
use Rattle.chv_group.specs.Groups.{argument_at, takes_states}
use Rattle.chv_group.specs.Tallies.{states_over}
use Rattle.chv_group.specs.declared.call.AggCall.{AggCall}
use Rattle.chv_merge.specs.NormalForms.{merge_rows}
use Rattle.chv_query.proofs.ShapeTerms.{AllOn, IsOn}
use Rattle.chv_query.specs.MergeBlind.{all_take_states}
use Rattle.chv_query.specs.Results.{arranged, output_row}
use Rattle.chv_types.specs.Values.{IsPlain}
use Rattle.chv_types.specs.declared.kind.Kind.{Kind}
use Rattle.chv_types.specs.declared.kind.Kind.TheVariants as kind
use Rattle.chv_types.specs.declared.value.Value.{Value}
use Rattle.chv_types.specs.declared.value.Value.TheVariants.{State, Whole}
use Rattle.chv_history.proofs.MergeBlindDefinitions.{HasPlainKey}
use Rattle.chv_history.proofs.MergeBlindRows.{IsShaped, state_alone, state_at, state_joined, state_merged, states_joined}
use Rattle.std.proofs.lemmas.Bool.{and_parts}

-- calls take the states of columns, one each
abbrev pub AreColumns : List Kind → List AggCall → List ℕ → Type 0
AreColumns kinds [] [] = Unit {0}
AreColumns kinds [] (place ∷ places) = ⊥
AreColumns kinds (call ∷ calls) [] = ⊥
AreColumns kinds (call ∷ calls) (place ∷ places) =
    (takes_states call.form ≡ true) × (slice_get kinds place ≡ Some (kind.State call.agg call.arg)) × AreColumns kinds calls places

-- the column that a call takes
pub record IsColumnOf (kinds : List Kind) (places : List ℕ) (i : ℕ) (call : AggCall) : Type 0 where
  pub place : ℕ
  pub here : slice_get places i ≡ Some place
  pub takes : takes_states call.form ≡ true
  pub at : slice_get kinds place ≡ Some (kind.State call.agg call.arg)

column_of : (kinds : List Kind) (calls : List AggCall) (places : List ℕ) (i : ℕ) (call : AggCall) → AreColumns kinds calls places → slice_get calls i ≡ Some call
    → IsColumnOf kinds places i call
column_of kinds [] places i call are is = absurd (cc is)
column_of kinds (first ∷ calls) [] i call are is = absurd are
column_of kinds (first ∷ calls) (place ∷ places) zero call are is =
    let same : first ≡ call = cc is in
    subst (IsColumnOf kinds (place ∷ places) 0) same (record { place = place; here = refl; takes = are.0; at = are.1 })
column_of kinds (first ∷ calls) (place ∷ places) (suc i) call are is =
    let behind = column_of kinds calls places i call are.2 is in
    record { place = behind.place; here = behind.here; takes = behind.takes; at = behind.at }

-- what is evaluated on rows are columns
pub record AreRead (kinds : List Kind) (calls : List AggCall) (args : List Term) : Type 0 where
  pub places : List ℕ
  pub columns : AreColumns kinds calls places
  pub read : (row : List Value) → output_row args row ≡ Some (arranged places row)

module _ (kinds : List Kind) where
  column_read : (call : AggCall) (term : Term) → IsOn call term → takes_states call.form ≡ true → IsForm kinds term
      → (place : ℕ) × (slice_get kinds place ≡ Some (kind.State call.agg call.arg)) × ((row : List Value) → term.value row ≡ Some (value_at place row))
  column_read call term on takes (inl plain) = absurd (subst IsPlain (on.0 takes) plain)
  column_read call term on takes (inr column) = (column.0, column.1 ∙ ap Some (on.0 takes), column.2)

  -- what calls take that take states are columns
  pub are_read : (calls : List AggCall) (args : List Term) → AllOn calls args → all_take_states calls ≡ true → All (IsForm kinds) args → AreRead kinds calls args
  are_read [] [] on take forms = record { places = []; columns = tt; read = λ row. refl }
  are_read [] (term ∷ args) on take forms = absurd on
  are_read (call ∷ calls) [] on take forms = absurd on
  are_read (call ∷ calls) (term ∷ args) on take forms =
      let parts = and_parts (takes_states call.form) (all_take_states calls) take in
      let here = column_read call term on.0 parts.0 (All-head (IsForm kinds) term args forms) in
      let rest = are_read calls args on.1 parts.1 (All-tail (IsForm kinds) term args forms) in
      record {
        places = here.0 ∷ rest.places;
        columns = (parts.0, here.1, rest.columns);
        read = λ row. rw (here.2 row, rest.read row) refl;
      }

-- a row's value at a place
arranged_at : (places : List ℕ) (row : List Value) (i place : ℕ) (value : Value) → slice_get places i ≡ Some place → slice_get row place ≡ Some value
    → unwrap_or (slice_get (arranged places row) i) (Whole (pos 0)) ≡ value
arranged_at places row i place value here at =
    ap (λ (o : Option Value). unwrap_or o (Whole (pos 0))) (slice_get-map (λ p. value_at p row) places i ∙ ap (option_map (λ p. value_at p row)) here)
    ∙ ap (λ (o : Option Value). unwrap_or o (Whole (pos 0))) at

-- the states of calls over the columns of one row, under a key
abbrev pub states_in : List AggCall → List ℕ → List Value → List Value → List AnyAgg
states_in calls places row key = states_over 0 calls (record { key = key; args = arranged places row } ∷ [])

module _ (def : TableDef) (plain : HasPlainKey def) (calls : List AggCall) (places : List ℕ) (columns : AreColumns (kinds_of def) calls places) where
  apart : (b : Bool) (place : ℕ) → list_any (nat_eq place) def.key ≡ b → (of : Kind) → slice_get (kinds_of def) place ≡ Some of → is_state of ≡ true → b ≡ false
  apart false place e of at state = refl
  apart true place e of at state = let none : is_state of ≡ false = plain place of e at in absurd (cc (sym state ∙ none))

  -- over rows that are merged each state is joined
  pub states_merged : (a b : List Value) → AllOf IsShaped (kinds_of def) a → AllOf IsShaped (kinds_of def) b → (key : List Value)
      → states_in calls places (merge_rows (kinds_of def) def.key a b) key ≡ join_each join (states_in calls places a key) (states_in calls places b key)
  states_merged a b p q key =
      states_joined 0 calls (record { key = key; args = arranged places a }) (record { key = key; args = arranged places b })
      (record { key = key; args = arranged places (merge_rows (kinds_of def) def.key a b) }) (λ i call is. by i call (column_of (kinds_of def) calls places i call columns is))
    where
      by : (i : ℕ) (call : AggCall) → IsColumnOf (kinds_of def) places i call
          → state_alone call (argument_at (0 + i) (record { key = key; args = arranged places (merge_rows (kinds_of def) def.key a b) }))
          ≡ join (state_alone call (argument_at (0 + i) (record { key = key; args = arranged places a })))
          (state_alone call (argument_at (0 + i) (record { key = key; args = arranged places b })))
      by i call column =
          let n : 0 + i ≡ i = omega arith in
          let x = state_at (kinds_of def) a column.place call.agg call.arg p column.at in
          let y = state_at (kinds_of def) b column.place call.agg call.arg q column.at in
          let free : list_any (nat_eq column.place) def.key ≡ false =
          apart (list_any (nat_eq column.place) def.key) column.place refl (kind.State call.agg call.arg) column.at refl in
          let m = state_merged (kinds_of def) def.key column.place call.agg call.arg column.at free a b x.0 y.0 x.1 y.1 in
          rw (
            n,
            arranged_at places (merge_rows (kinds_of def) def.key a b) i column.place (State (join_bytes call.agg call.arg x.0 y.0)) column.here m,
            arranged_at places a i column.place (State x.0) column.here x.1,
            arranged_at places b i column.place (State y.0) column.here y.1,
          ) (state_joined call x.0 y.0 column.takes)
