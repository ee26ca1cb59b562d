use Rattle.std.proofs.Common.{subst, List}
use Rattle.std.specs.List.{All}
use Rattle.chv_query.specs.Bound.{term_in}
use Rattle.chv_query.specs.Results.{output_row}
use Rattle.chv_types.specs.declared.value.Value.{Value}
use Rattle.std.proofs.Common.{map, Some, ◌≡◌}
use Rattle.chv_query.proofs.WholeRowLemmas.{run-whole}
use Rattle.chv_query.proofs.run.run_rows.Goals as goal

pub returns-then-shows_all-clause-rows : goal.returns-then-shows_all-clause-rows
returns-then-shows_all-clause-rows c =
    let query = c.args.query.now in
    let all = c.shows_all.ensures c.if-shows_all.true in
    run-whole query c.args.block all.0 all.1
    (subst (λ (rows : List (List Value)). All (λ row. output_row (map term_in query.terms) row ≡ Some row) rows) c.as_slice.ensures all.2)
