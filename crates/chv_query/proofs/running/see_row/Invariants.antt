use Rattle.std.proofs.Common.{◌≡◌, drop, map}
use Rattle.chv_query.specs.Bound.{term_in}
use Rattle.chv_query.specs.Results.{output_row}
use Rattle.chv_query.proofs.RunLemmas.{behind}
use Rattle.chv_types.specs.Values.{seen_value}
use Rattle.chv_query.proofs.running.see_row.Given as goal

abbrev pub invariant-loop-term : goal.invariant-loop-term
invariant-loop-term l = output_row (map term_in l.terms) l.row ≡ behind (map seen_value l.values.items) (output_row (map term_in (drop l.term-index l.terms)) l.row)
