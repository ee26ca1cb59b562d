use Rattle.std.proofs.Common.{◌≡◌, None, map, take}
use Rattle.chv_group.specs.Takings.{HasTaken}
use Rattle.chv_query.specs.Bound.{first_division, made_by}
use Rattle.chv_query.specs.Results.{keyed, results}
use Rattle.chv_query.proofs.running.feed_rows.Given as goal

abbrev pub invariant-loop-i : goal.invariant-loop-i
invariant-loop-i l = record {
  calls : l.grouping.calls ≡ l.groups.calls;
  taken : HasTaken l.grouping (map (keyed l.groups.keys) (results (made_by l.query) (take l.i l.rows)));
  none : first_division l.query (take l.i l.rows) ≡ None;
}
