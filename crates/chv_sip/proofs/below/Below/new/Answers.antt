-- The pieces that were fed stand in front of the names.
use Rattle.std.proofs.Common.{◌++◌, ◌∷◌}
use Rattle.chv_sip.specs.Below.{AreFed}
use Rattle.chv_sip.proofs.below.Below.new.Goals as goal

pub returns : goal.returns
returns c =
    let fed : AreFed (((3 ∷ c.to_le_bytes.result) ++ c.to_le_bytes-2.result) ++ c.to_le_bytes-3.result) c.feed-4.new.self =
    c.feed-4.ensures _ (c.feed-3.ensures _ (c.feed-2.ensures _ (c.feed.ensures _ c.begun-below.ensures))) in
    rw (c.to_le_bytes.ensures, c.to_le_bytes-2.ensures, c.to_le_bytes-3.ensures) at fed
