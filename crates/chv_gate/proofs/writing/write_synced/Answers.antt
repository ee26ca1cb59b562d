-- What a crash leaves during the sync is what it leaves behind the put.
use Rattle.std.proofs.Common.{length}
use Rattle.chv_gate.proofs.DuringLemmas.{during_put, during_write}
use Rattle.chv_gate.proofs.writing.write_synced.Goals as goal

pub returns-in_err-put-clause-during : goal.returns-in_err-put-clause-during
returns-in_err-put-clause-during g c tells whole =
    let outside = g.W.Site.outside in
    during_put c.args.f (outside c.args.site.now) c.args.at (length c.args.bytes.now) (outside c.put.new.self) (c.requires.inside tells) whole
    (c.put.ensures.torn tells) (c.put.ensures.keeps.others tells) (c.put.ensures.during tells)

pub returns-clause-during : goal.returns-clause-during
returns-clause-during g c tells whole =
    let outside = g.W.Site.outside in
    during_write c.args.f (outside c.args.site.now) c.args.at (length c.args.bytes.now) (outside c.put.new.self) (outside c.sync.new.self) (c.requires.inside tells) whole
    (c.put.ensures.torn tells) (c.put.ensures.keeps.others tells) (c.put.ensures.keeps.said tells) (c.put.ensures.during tells) (c.sync.ensures.during tells)
