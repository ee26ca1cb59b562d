use Rattle.std.proofs.Common.{List, ◌++◌, take}
use Rattle.chv_query.specs.Bound.{AreOutputs}
use Rattle.chv_query.specs.Outputs.{Output, columns_from}
use Rattle.chv_query.proofs.output.put_columns.Given as goal

abbrev pub invariant-loop-place : goal.invariant-loop-place
invariant-loop-place l =
    (before : List Output) → AreOutputs l.columns l.fn.outputs before → AreOutputs l.columns l.outputs (before ++ take l.place (columns_from 0 l.columns))
