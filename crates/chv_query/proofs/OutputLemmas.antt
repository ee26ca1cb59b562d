-- Output columns, one behind the other.
use Rattle.std.proofs.Common.{◌≡◌, ◌<◌, ◌≤◌, ◌+◌, ◌++◌, ℕ, zero, suc, List, [], ◌∷◌, length, get_or, map, take, refl, sym, ap, arith, add-one, append_assoc, Result, Ok}
use Rattle.std.proofs.lemmas.List.{map-append, take_all}
use Rattle.chv_ast.specs.declared.refusal.Refusal.{Refusal}
use Rattle.chv_ast.specs.declared.statement.Item.{Item}
use Rattle.chv_types.specs.Fits.{Fits, FitAll}
use Rattle.chv_types.specs.Steps.{and_then}
use Rattle.chv_types.specs.declared.table.Column.{Column}
use Rattle.chv_types.specs.declared.value.Value.{Value}
use Rattle.chv_expr.proofs.TreeLaws.{value-Column}
use Rattle.chv_expr.specs.Bindings.{Means, kinds_of}
use Rattle.chv_expr.specs.Terms.{Term, column_at, value_at}
use Rattle.chv_expr.specs.declared.bound.Bound.{Bound}
use Rattle.chv_expr.specs.declared.tree.Tree.TheVariants as tree
use Rattle.chv_query.specs.Bound.{AllMean, AreOutputs}
use Rattle.chv_query.specs.Outputs.{Output, columns_from, outputs_of}
use Rattle.chv_query.specs.declared.output.Outputs.{Outputs}

pub AllMean-append : (columns : List Column) (a b : List Bound) (s t : List Term) → AllMean columns a s → AllMean columns b t → AllMean columns (a ++ b) (s ++ t)
AllMean-append columns [] b [] t h k = k
AllMean-append columns [] b (x ∷ s) t h k = absurd h
AllMean-append columns (x ∷ a) b [] t h k = absurd h
AllMean-append columns (x ∷ a) b (y ∷ s) t h k = (h.0, AllMean-append columns a b s t h.1 k)

-- one output column more
pub AreOutputs-push : (columns : List Column) (bound : Outputs) (outputs : List Output) (column : Column) (value : Bound) (output : Output)
    → AreOutputs columns bound outputs → column ≡ record { name = output.name; kind = output.term.kind } → Means columns value output.term
    → AreOutputs columns (record { columns = bound.columns ++ column ∷ []; bounds = bound.bounds ++ value ∷ [] }) (outputs ++ output ∷ [])
AreOutputs-push columns bound outputs column value output are is means = record {
  named = rw (map-append {B = Column} (λ (output : Output). record { name = output.name; kind = output.term.kind }) outputs (output ∷ []), are.named, is) refl;
  mean = rw (map-append (λ (output : Output). output.term) outputs (output ∷ []))
      (AllMean-append columns bound.bounds (value ∷ []) (map (λ (output : Output). output.term) outputs) (output.term ∷ []) are.mean (means, tt));
}

-- the value at a place of a row of the columns' kinds is of the column's kind
value_at-Fits : (columns : List Column) (row : List Value) (place : ℕ) (column : Column) → place < length columns → column ≡ get_or columns place column
    → FitAll (kinds_of columns) row → Fits column.kind (value_at place row)
value_at-Fits [] row place column within is fit = absurd (omega arith)
value_at-Fits (first ∷ columns) [] place column within is fit = absurd fit
value_at-Fits (first ∷ columns) (value ∷ row) zero column within is fit = rw is fit.0
value_at-Fits (first ∷ columns) (value ∷ row) (suc place) column within is fit = value_at-Fits columns row place column (omega arith) is fit.1

-- a bound column means the column of its place
pub Means-column : (columns : List Column) (place : ℕ) (column : Column) (bound : Bound) → place < length columns → column ≡ get_or columns place column
    → bound.kind ≡ column.kind → bound.tree ≡ tree.Column place → Means columns bound (column_at place column)
Means-column columns place column bound within is kind tree = record {
  kind = kind;
  same = λ row. rw tree (value-Column place row);
  fits = λ row fit. value_at-Fits columns row place column within is fit;
}

-- so many columns from a place on, and one more
columns_from-suc : (from place : ℕ) (columns : List Column) (column : Column) → place < length columns → column ≡ get_or columns place column
    → take (suc place) (columns_from from columns)
    ≡ take place (columns_from from columns) ++ record { name = column.name; term = column_at (from + place) column } ∷ []
columns_from-suc from place [] column within is = absurd (omega arith)
columns_from-suc from zero (first ∷ columns) column within is =
    let at : from + 0 ≡ from = omega arith in rw (at, is) refl
columns_from-suc from (suc place) (first ∷ columns) column within is =
    let at : from + suc place ≡ (from + 1) + place = omega arith in
    rw at (ap (λ (rest : List Output). record { name = first.name; term = column_at from first } ∷ rest)
    (columns_from-suc (from + 1) place columns column (omega arith) is))

length-columns_from : (from : ℕ) (columns : List Column) → length (columns_from from columns) ≡ length columns
length-columns_from from [] = refl
length-columns_from from (column ∷ columns) = ap suc (length-columns_from (from + 1) columns)

-- the columns so far, and the next one
pub AreOutputs-more : (columns : List Column) (bound : Outputs) (before : List Output) (place : ℕ) (column : Column) (put : Column) (value : Bound)
    → AreOutputs columns bound (before ++ take place (columns_from 0 columns)) → place < length columns → column ≡ get_or columns place column
    → put ≡ column → value.kind ≡ column.kind → value.tree ≡ tree.Column place
    → AreOutputs columns (record { columns = bound.columns ++ put ∷ []; bounds = bound.bounds ++ value ∷ [] })
    (before ++ take (place + 1) (columns_from 0 columns))
AreOutputs-more columns bound before place column put value are within is same kind tree =
    let output : Output = record { name = column.name; term = column_at place column } in
    let at : 0 + place ≡ place = omega arith in
    let more : before ++ take (place + 1) (columns_from 0 columns) ≡ (before ++ take place (columns_from 0 columns)) ++ output ∷ [] =
    rw (add-one, columns_from-suc 0 place columns column within is, at) (sym (append_assoc before (take place (columns_from 0 columns)) (output ∷ []))) in
    rw more (AreOutputs-push columns bound _ put value output are same (Means-column columns place column value within is kind tree))

-- all columns
pub AreOutputs-all : (columns : List Column) (bound : Outputs) (before : List Output) (place : ℕ) → length columns ≤ place
    → AreOutputs columns bound (before ++ take place (columns_from 0 columns)) → AreOutputs columns bound (before ++ columns_from 0 columns)
AreOutputs-all columns bound before place end are =
    rw (take_all place (columns_from 0 columns) (omega (arith, length-columns_from 0 columns))) at are

-- output columns, and those behind them
abbrev behind : List Output → Result (List Output) Refusal → Result (List Output) Refusal
behind outputs more = and_then more (λ others. Ok (outputs ++ others))

-- the output columns of the items so far are bound; those of the items that are left go behind them
pub record AreSoFar (columns : List Column) (items left : List Item) (bound : Outputs) : Type 0 where
  pub outputs : List Output
  pub follow : outputs_of columns items ≡ behind outputs (outputs_of columns left)
  pub are : AreOutputs columns bound outputs
