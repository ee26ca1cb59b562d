use Rattle.std.proofs.Common.{◌≡◌, ◌++◌, map, take}
use Rattle.std.specs.List.{All}
use Rattle.chv_group.specs.KeyBytes.{IsHeld, key_bytes}
use Rattle.chv_types.specs.Values.{seen_value}
use Rattle.chv_group.proofs.key_bytes.put_key.Given as goal

abbrev pub invariant-loop-value : goal.invariant-loop-value
invariant-loop-value l = record {
  put : l.out.items ≡ l.initial.out.items ++ key_bytes (map seen_value (take l.value-index l.key));
  held : All IsHeld (map seen_value (take l.value-index l.key));
}
