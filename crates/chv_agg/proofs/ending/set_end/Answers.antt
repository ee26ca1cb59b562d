use Rattle.std.proofs.Common.{◌-◌, ◌<◌, ◌^◌, length, rules}
use Rattle.std.specs.Int.{to_le_bytes, w64}
use Rattle.chv_bytes.specs.Places.{StandsAt}
use Rattle.chv_agg.proofs.ReadingLemmas.{none_set, too_many}
use Rattle.chv_agg.proofs.ending.set_end.Goals as goal

pub returns-then-count-bytes-clause-none : goal.returns-then-count-bytes-clause-none
returns-then-count-bytes-clause-none c none =
    let stands : StandsAt (to_le_bytes w64 c.in_ok-count.count) c.args.bytes.now c.args.at c.in_ok-count.start = search rules in
    let small : c.in_ok-count.count < 2 ^ 64 = search rules in
    let more : length c.args.bytes.now - c.in_ok-count.start < c.in_ok-count.count = search rules in
    none_set c.args.arg c.args.bytes.now c.args.at c.in_ok-count.start c.in_ok-count.count stands small
    (too_many c.args.arg c.args.bytes.now c.in_ok-count.start c.in_ok-count.count more)
