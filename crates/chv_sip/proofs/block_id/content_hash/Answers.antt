use Rattle.chv_sip.proofs.block_id.content_hash.Goals as goal

pub returns : goal.returns
returns c = c.finish.ensures _ _ _ (c.feed-2.ensures _ _ _ (c.feed.ensures _ _ _ c.new-sip.ensures))
