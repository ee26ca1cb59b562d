use Rattle.chv_site.specs.MemSite.{calls_of}
use Rattle.chv_site.proofs.Crashes.{restored_files}
use Rattle.chv_site.proofs.mem_site.MemSite.crash.Goals as goal

pub returns-clause-image : goal.returns-clause-image
returns-clause-image c = restored_files c.args.pick (calls_of c.args.self) c.in_ok-log.log c.in_ok-log.ensures.files
