-- The pieces that were fed are the token's key.
use Rattle.std.proofs.Common.{◌++◌, ◌∷◌, ◌∙◌, List, ℕ, ap₂}
use Rattle.chv_sip.specs.SipHash.{sip_hash}
use Rattle.chv_sip.proofs.block_id.token_hash.Goals as goal

pub returns : goal.returns
returns c =
    c.finish.ensures _ _ _ (c.feed-4.ensures _ _ _ (c.feed-3.ensures _ _ _ (c.feed-2.ensures _ _ _ (c.feed.ensures _ _ _ c.new-sip.ensures))))
    ∙ ap₂ (λ (front behind : List ℕ). sip_hash c.args.key.k0 c.args.key.k1 (2 ∷ (front ++ c.args.token.now ++ behind))) c.to_le_bytes.ensures c.to_le_bytes-2.ensures
