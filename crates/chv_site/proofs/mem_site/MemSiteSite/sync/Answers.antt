use Rattle.chv_site.specs.MemSite.{calls_of}
use Rattle.chv_site.proofs.Clock.{of_calls, no_call, sync_call}
use Rattle.chv_site.proofs.mem_site.MemSiteSite.sync.Goals as goal

pub returns-in_err-begin_on_files-clause-during : goal.returns-in_err-begin_on_files-clause-during
returns-in_err-begin_on_files-clause-during c = of_calls _ _ _ _ _ _ _ (no_call (calls_of c.args.self.now) _ (λ image text left. left))

pub returns-clause-during : goal.returns-clause-during
returns-clause-during c =
    of_calls _ _ _ _ _ _ _ (sync_call c.args.f (calls_of c.args.self.now) c.act-done.new.self c.act-done.result c.act-done.ensures.acted c.act-done.ensures.err)
