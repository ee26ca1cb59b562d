use Rattle.std.proofs.Common.{◌≡◌, None, take}
use Rattle.chv_query.specs.Bound.{first_division, made_by}
use Rattle.chv_query.specs.Results.{results}
use Rattle.chv_query.proofs.run.run_each.Given as goal

abbrev pub invariant-loop-i : goal.invariant-loop-i
invariant-loop-i l = record {
  rows : l.made ≡ results (made_by l.query) (take l.i l.rows);
  none : first_division l.query (take l.i l.rows) ≡ None;
}
