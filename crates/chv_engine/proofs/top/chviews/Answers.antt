-- No call of the site was made.
use Rattle.chv_engine.proofs.GuaranteeLemmas.{untouched_whole}
use Rattle.chv_engine.proofs.top.chviews.Goals as goal

pub returns-in-Ok-None-clause-during : goal.returns-in-Ok-None-clause-during
returns-in-Ok-None-clause-during g c = λ tells told history settles.
    let S = g.W.Site in
    untouched_whole (g.S.Source.left c.args.source.now) history (S.outside c.args.site.now) settles (g.met.W.Site.only_now c.args.site.now)

pub returns-in-Err-clause-during : goal.returns-in-Err-clause-during
returns-in-Err-clause-during g c = λ tells told history settles.
    let S = g.W.Site in
    untouched_whole (g.S.Source.left c.args.source.now) history (S.outside c.args.site.now) settles (g.met.W.Site.only_now c.args.site.now)
