use Rattle.chv_site.specs.declared.call.Act.TheVariants.{Cut, BeginCut}
use Rattle.chv_site.specs.MemSite.{calls_of}
use Rattle.chv_site.proofs.Acts.{cut-Widens, begin_cut-Widens}
use Rattle.chv_site.proofs.Clock.{of_calls, ended_call}
use Rattle.chv_site.proofs.mem_site.MemSiteSite.cut.Goals as goal

pub returns-clause-during : goal.returns-clause-during
returns-clause-during c =
    of_calls _ _ _ _ _ _ _ (ended_call c.args.f (Cut c.args.len) (BeginCut c.args.len) (calls_of c.args.self.now) (calls_of c.act.new.self) (cut-Widens c.args.len) (begin_cut-Widens c.args.len) c.act.ensures.ended)
