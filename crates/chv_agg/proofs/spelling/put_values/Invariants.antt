use Rattle.std.proofs.Common.{◌≡◌, ◌++◌, take}
use Rattle.chv_agg.specs.Plain.{values_spelling}
use Rattle.chv_agg.proofs.spelling.put_values.Given as goal

abbrev pub invariant-loop-i : goal.invariant-loop-i
invariant-loop-i l = l.out.items ≡ l.initial.out.items ++ values_spelling l.arg (take l.i l.values)
