-- Groups as the states of the inputs one by one.
use Rattle.std.specs.Prelude.{List, ◌++◌}
use Rattle.chv_agg.specs.Pairs.{each_by_key}
use Rattle.chv_agg.specs.declared.any_agg.AnyAgg.{AnyAgg}
use Rattle.chv_group.specs.Tallies.{states_over, values_of}
use Rattle.chv_group.specs.declared.call.AggCall.{AggCall}
use Rattle.chv_group.specs.declared.call.Keyed.{Keyed}
use Rattle.chv_types.specs.declared.value.Value.{Value}

-- the states of calls over each input alone, with its key
abbrev pub states_alone : List AggCall → List Keyed → List (List Value × List AnyAgg)
states_alone calls inputs = each_by_key (λ (input : Keyed). input.key) (states_over 0 calls) inputs

-- the row of a key and the states of calls: the key, and behind it what the calls give
abbrev pub states_row : List AggCall → List Value × List AnyAgg → List Value
states_row calls pair = pair.0 ++ values_of calls pair.1
