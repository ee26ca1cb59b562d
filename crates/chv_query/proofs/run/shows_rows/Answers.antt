use Rattle.std.proofs.Common.{◌≡◌, List, Some, length, map}
use Rattle.std.proofs.lemmas.List.Elements.{All-weaker}
use Rattle.chv_types.specs.declared.value.Value.{Value}
use Rattle.chv_query.specs.Bound.{term_in}
use Rattle.chv_query.specs.Results.{output_row}
use Rattle.chv_query.proofs.WholeRowLemmas.{columns_row}
use Rattle.chv_query.proofs.run.shows_rows.Goals as goal

pub returns-then-are_columns : goal.returns-then-are_columns
returns-then-are_columns c = λ wide.
    let outputs = c.args.outputs.now in
    All-weaker (λ (row : List Value). length row ≡ length outputs) (λ row. output_row (map term_in outputs) row ≡ Some row)
    (λ row fits. columns_row outputs row (c.are_columns.ensures c.if-are_columns.true) fits) c.args.rows.now (c.have_width.ensures wide)
