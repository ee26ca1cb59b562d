-- The store is opened, and the requests are answered.
use Rattle.std.proofs.Common.{◌≡◌, ap, subst}
use Rattle.chv_history.specs.Histories.{book_of}
use Rattle.chv_history.specs.Script.{requests_of}
use Rattle.chv_flight.specs.declared.fault.RunFault.{RunFault}
use Rattle.chv_flight.proofs.RunLemmas.{counts_then}
use Rattle.chv_engine.specs.Telling.{TellsFault}
use Rattle.chv_engine.proofs.EndLemmas.{counts_told, never_told, opening_during, run_during, run_ends, run_refused, run_undamaged, says_held, says_opening, settles_files, tells_met, tells_opening, untold_during}
use Rattle.chv_engine.proofs.GuaranteeLemmas.{whole_during}
use Rattle.chv_engine.proofs.OpenedLemmas.{opened_logged}
use Rattle.chv_engine.proofs.run.run_script.Goals as goal

-- the store was opened
pub returns-in-Ok-clause-ended : goal.returns-in-Ok-clause-ended
returns-in-Ok-clause-ended g c = λ tells history settles.
    let S = g.W.Site in
    let requests = requests_of c.args.script in
    let old = S.outside c.args.site.now in
    let mid = S.outside c.open_store.new.site in
    let new = S.outside c.run_open.new.site in
    let runs = c.run_open.ensures.1 in
    let holds = c.in-Ok.ensures.holds tells history.schema (book_of history) settles.stands.lawful.schema (settles_files requests history old.files settles) in
    run_ends S.tells requests c.run_open.result c.in-Ok.store c.run_open.ensures.0 old mid new tells runs history settles holds (c.in-Ok.ensures.keeps.said tells) (g.met.W.Site.reads c.run_open.new.site)

pub returns-in-Ok-clause-refused : goal.returns-in-Ok-clause-refused
returns-in-Ok-clause-refused g c = λ tells.
    let S = g.W.Site in
    let requests = requests_of c.args.script in
    let old = S.outside c.args.site.now in
    let mid = S.outside c.open_store.new.site in
    let new = S.outside c.run_open.new.site in
    let runs = c.run_open.ensures.1 in
    run_refused S.tells requests c.run_open.result c.in-Ok.store c.run_open.ensures.0 old mid new tells runs c.in-Ok.ensures.usable.within (c.in-Ok.ensures.opened tells)

pub returns-in-Ok-clause-during : goal.returns-in-Ok-clause-during
returns-in-Ok-clause-during g c = λ tells history settles.
    let S = g.W.Site in
    let requests = requests_of c.args.script in
    let old = S.outside c.args.site.now in
    let mid = S.outside c.open_store.new.site in
    let new = S.outside c.run_open.new.site in
    let runs = c.run_open.ensures.1 in
    let files = settles_files requests history old.files settles in
    let holds = c.in-Ok.ensures.holds tells history.schema (book_of history) settles.stands.lawful.schema files in
    whole_during c.args.script history old new settles
    (run_during S.tells requests c.run_open.result c.in-Ok.store c.run_open.ensures.0 old mid new tells runs history settles holds (c.in-Ok.ensures.keeps.said tells)
    (c.in-Ok.ensures.during tells history.schema (book_of history) settles.stands.lawful.schema files))

pub returns-in-Ok-clause-damaged : goal.returns-in-Ok-clause-damaged
returns-in-Ok-clause-damaged g c = λ tells damage is.
    let S = g.W.Site in
    let old = S.outside c.args.site.now in
    let mid = S.outside c.open_store.new.site in
    let new = S.outside c.run_open.new.site in
    says_held c.in-Ok.store c.run_open.ensures.0 damage old mid new
    (opened_logged c.in-Ok.store old.files mid.files (c.in-Ok.ensures.opened tells) (c.in-Ok.ensures.others tells)) (c.run_open.ensures.1.damaged tells damage is)

pub returns-in-Ok-clause-undamaged : goal.returns-in-Ok-clause-undamaged
returns-in-Ok-clause-undamaged g c = λ tells history damage settles ended.
    let S = g.W.Site in
    let requests = requests_of c.args.script in
    let old = S.outside c.args.site.now in
    let mid = S.outside c.open_store.new.site in
    let new = S.outside c.run_open.new.site in
    let runs = c.run_open.ensures.1 in
    let holds = c.in-Ok.ensures.holds tells history.schema (book_of history) settles.stands.lawful.schema (settles_files requests history old.files settles) in
    run_undamaged S.tells requests c.run_open.result c.in-Ok.store c.run_open.ensures.0 old mid new tells runs history settles holds (c.in-Ok.ensures.keeps.said tells) damage ended

pub returns-in-Ok-clause-meets : goal.returns-in-Ok-clause-meets
returns-in-Ok-clause-meets g c = λ tells line damaged.
    let S = g.W.Site in
    let requests = requests_of c.args.script in
    let old = S.outside c.args.site.now in
    let mid = S.outside c.open_store.new.site in
    let new = S.outside c.run_open.new.site in
    let runs = c.run_open.ensures.1 in
    tells_met c.in-Ok.store old mid new c.run_open.result requests line c.in-Ok.ensures.usable.within (c.in-Ok.ensures.opened tells) (c.in-Ok.ensures.keeps.others tells) (c.in-Ok.ensures.keeps.said tells) damaged
    (runs.met tells)

pub returns-in-Ok-clause-counts : goal.returns-in-Ok-clause-counts
returns-in-Ok-clause-counts g c =
    let S = g.W.Site in
    let old = S.outside c.args.site.now in
    let mid = S.outside c.open_store.new.site in
    let new = S.outside c.run_open.new.site in
    counts_then c.run_open.result old mid new (c.in-Ok.ensures.keeps.counts.same (λ none. none)) c.in-Ok.ensures.keeps.counts.other c.run_open.ensures.1.counts

-- it was not
pub returns-in-Err-clause-during : goal.returns-in-Err-clause-during
returns-in-Err-clause-during g c = λ tells history settles.
    let S = g.W.Site in
    let why = c.in-Err.why in
    let ends = c.tell.result in
    let old = S.outside c.args.site.now in
    let mid = S.outside c.open_store.new.site in
    let new = S.outside c.tell.new.site in
    let Still = c.tell.new.site ≡ c.open_store.new.site in
    let told = subst (λ (fault : RunFault). TellsFault S.tells Still why.schema.catalog.tables fault ends mid new) c.from.ensures c.tell.ensures in
    let requests = requests_of c.args.script in
    let files = settles_files requests history old.files settles in
    untold_during S.tells Still why ends old mid new (ap S.outside) tells (c.in-Err.ensures.damaged tells) (c.in-Err.ensures.keeps.said tells) told history settles _
    (whole_during c.args.script history old mid settles
    (opening_during requests history old mid settles (c.in-Err.ensures.during tells history.schema (book_of history) settles.stands.lawful.schema files)))

pub returns-in-Err-clause-damaged : goal.returns-in-Err-clause-damaged
returns-in-Err-clause-damaged g c = λ tells damage ended.
    let S = g.W.Site in
    let why = c.in-Err.why in
    let ends = c.tell.result in
    let old = S.outside c.args.site.now in
    let mid = S.outside c.open_store.new.site in
    let new = S.outside c.tell.new.site in
    let Still = c.tell.new.site ≡ c.open_store.new.site in
    let told = subst (λ (fault : RunFault). TellsFault S.tells Still why.schema.catalog.tables fault ends mid new) c.from.ensures c.tell.ensures in
    says_opening S.tells Still why ends old mid new (ap S.outside) tells (c.in-Err.ensures.damaged tells) (c.in-Err.ensures.keeps.said tells) told damage ended

pub returns-in-Err-clause-undamaged : goal.returns-in-Err-clause-undamaged
returns-in-Err-clause-undamaged g c = λ tells history damage settles ended.
    let S = g.W.Site in
    let why = c.in-Err.why in
    let ends = c.tell.result in
    let old = S.outside c.args.site.now in
    let mid = S.outside c.open_store.new.site in
    let new = S.outside c.tell.new.site in
    let Still = c.tell.new.site ≡ c.open_store.new.site in
    let told = subst (λ (fault : RunFault). TellsFault S.tells Still why.schema.catalog.tables fault ends mid new) c.from.ensures c.tell.ensures in
    never_told S.tells Still why ends old mid new (ap S.outside) tells (c.in-Err.ensures.damaged tells) (c.in-Err.ensures.keeps.said tells) told history settles damage ended

pub returns-in-Err-clause-meets : goal.returns-in-Err-clause-meets
returns-in-Err-clause-meets g c = λ tells line damaged.
    let S = g.W.Site in
    let why = c.in-Err.why in
    let ends = c.tell.result in
    let old = S.outside c.args.site.now in
    let mid = S.outside c.open_store.new.site in
    let new = S.outside c.tell.new.site in
    let Still = c.tell.new.site ≡ c.open_store.new.site in
    let told = subst (λ (fault : RunFault). TellsFault S.tells Still why.schema.catalog.tables fault ends mid new) c.from.ensures c.tell.ensures in
    tells_opening S.tells Still why ends old mid new (ap S.outside) tells (c.in-Err.ensures.damaged tells) (c.in-Err.ensures.keeps.said tells) told (requests_of c.args.script) line damaged

pub returns-in-Err-clause-counts : goal.returns-in-Err-clause-counts
returns-in-Err-clause-counts g c =
    let S = g.W.Site in
    let why = c.in-Err.why in
    let ends = c.tell.result in
    let old = S.outside c.args.site.now in
    let mid = S.outside c.open_store.new.site in
    let new = S.outside c.tell.new.site in
    let Still = c.tell.new.site ≡ c.open_store.new.site in
    let told = subst (λ (fault : RunFault). TellsFault S.tells Still why.schema.catalog.tables fault ends mid new) c.from.ensures c.tell.ensures in
    counts_told S.tells Still why.schema.catalog.tables ends old mid new (ap S.outside) why.fault c.in-Err.ensures.keeps.counts told
