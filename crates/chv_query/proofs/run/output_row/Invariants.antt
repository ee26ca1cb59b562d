use Rattle.std.proofs.Common.{◌≡◌, drop, map}
use Rattle.chv_query.specs.Bound.{term_in}
use Rattle.chv_query.specs.Results.{output_row}
use Rattle.chv_query.proofs.RunLemmas.{behind}
use Rattle.chv_query.proofs.run.output_row.Given as goal

abbrev pub invariant-loop-output : goal.invariant-loop-output
invariant-loop-output l = output_row (map term_in l.outputs) l.row ≡ behind l.values (output_row (map term_in (drop l.output-index l.outputs)) l.row)
