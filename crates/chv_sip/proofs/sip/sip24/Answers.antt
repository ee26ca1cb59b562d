use Rattle.chv_sip.proofs.sip.sip24.Goals as goal

pub returns : goal.returns
returns c = c.finish.ensures _ _ _ (c.feed.ensures _ _ _ c.new-sip.ensures)
