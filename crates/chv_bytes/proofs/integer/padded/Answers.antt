use Rattle.std.proofs.Common.{ap, ◌∙◌, take, to_z, of_z}
use Rattle.std.proofs.lemmas.Int.{to_z-of_z}
use Rattle.std.specs.Int.{w128}
use Rattle.chv_bytes.specs.Integers.{width_of}
use Rattle.chv_bytes.proofs.IntegerLemmas.{low_bytes-put}
use Rattle.chv_bytes.proofs.integer.padded.Goals as goal

pub returns : goal.returns
returns c =
    ap (take (width_of c.args.kind)) c.write_int128.ensures
    ∙ low_bytes-put c.args.kind c.args.v (to_z w128 (of_z w128 c.args.v)) c.width.result _ (to_z-of_z w128 c.args.v c.ranges.v) c.width.ensures.width c.requires
