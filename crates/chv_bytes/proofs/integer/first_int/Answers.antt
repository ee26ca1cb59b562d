use Rattle.std.proofs.Common.{◌≡◌, rules, take, to_z, of_z}
use Rattle.std.specs.Int.{w128}
use Rattle.chv_bytes.specs.Integers.{int_bytes, int_value, width_of, InRange}
use Rattle.chv_bytes.proofs.IntegerLemmas.{integer_read}
use Rattle.chv_bytes.proofs.integer.first_int.Goals as goal

then-read : (c : goal.After-read_int128) → InRange c.args.kind (to_z w128 (of_z w128 c.read_int128.result)) × (int_bytes c.args.kind (to_z w128 (of_z w128 c.read_int128.result)) ≡ take (width_of c.args.kind) c.args.bytes.now)
then-read c =
    let value : to_z w128 (of_z w128 c.read_int128.result) ≡ int_value c.args.kind c.args.bytes.now = search rules in
    integer_read c.args.kind (to_z w128 (of_z w128 c.read_int128.result)) c.args.bytes.now value c.requires (search rules)

pub returns-then-is_signed-clause-range : goal.returns-then-is_signed-clause-range
returns-then-is_signed-clause-range c = (then-read c).0

pub returns-then-is_signed-clause-bytes : goal.returns-then-is_signed-clause-bytes
returns-then-is_signed-clause-bytes c = (then-read c).1

else-read : (c : goal.After-from) → InRange c.args.kind (to_z w128 (of_z w128 c.from.result)) × (int_bytes c.args.kind (to_z w128 (of_z w128 c.from.result)) ≡ take (width_of c.args.kind) c.args.bytes.now)
else-read c =
    let value : to_z w128 (of_z w128 c.from.result) ≡ int_value c.args.kind c.args.bytes.now = search rules in
    integer_read c.args.kind (to_z w128 (of_z w128 c.from.result)) c.args.bytes.now value c.requires (search rules)

pub returns-else-is_signed-clause-range : goal.returns-else-is_signed-clause-range
returns-else-is_signed-clause-range c = (else-read c).0

pub returns-else-is_signed-clause-bytes : goal.returns-else-is_signed-clause-bytes
returns-else-is_signed-clause-bytes c = (else-read c).1
