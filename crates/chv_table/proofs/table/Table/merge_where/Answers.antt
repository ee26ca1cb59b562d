-- Where there is no run, nothing changes.
use Rattle.std.proofs.Common.{◌≡◌}
use Rattle.chv_table.proofs.MergeLemmas.{merges_none}
use Rattle.chv_table.proofs.table.Table.merge_where.Goals as goal

pub returns-in-None : goal.returns-in-None
returns-in-None g c =
    merges_none g.W.Site.tells c.args.run (tt {0}) c.args.self.now (g.W.Site.outside c.args.site.now) c.in-None.is c.requires.within c.requires.placed (g.met.W.Site.only_now c.args.site.now)

pub merge_run-requires-clause-run : goal.merge_run-requires-clause-run
merge_run-requires-clause-run g c = c.requires.run c.in-Some.run' c.in-Some.is
