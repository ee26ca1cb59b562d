use Rattle.std.proofs.Common.{rules}
use Rattle.chv_site.specs.MemSite.{calls_of}
use Rattle.chv_site.proofs.Effects.{only_read}
use Rattle.chv_site.proofs.mem_site.MemSiteSite.fetch.Goals as goal

pub returns-in_err-begin_on_files-clause-keeps : goal.returns-in_err-begin_on_files-clause-keeps
returns-in_err-begin_on_files-clause-keeps c = only_read (calls_of c.args.self.now) _ _ _ _ _ (search rules)

pub returns-clause-keeps : goal.returns-clause-keeps
returns-clause-keeps c = only_read (calls_of c.args.self.now) _ _ _ _ _ (search rules)
