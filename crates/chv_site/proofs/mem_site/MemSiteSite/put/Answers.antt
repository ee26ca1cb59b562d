use Rattle.std.proofs.Common.{length}
use Rattle.chv_site.specs.declared.call.Act.TheVariants.{Put, BeginPut}
use Rattle.chv_site.specs.Calls.{IsEnded}
use Rattle.chv_site.specs.MemSite.{calls_of}
use Rattle.chv_site.proofs.Acts.{ended-IsPut, put-Widens, begin_put-Widens}
use Rattle.chv_site.proofs.Clock.{of_calls, same_calls, ended_call}
use Rattle.chv_site.proofs.mem_site.MemSiteSite.put.Goals as goal

pub returns-in-Ok-clause-torn : goal.returns-in-Ok-clause-torn
returns-in-Ok-clause-torn c =
    let ended : IsEnded c.args.f (Put c.args.at c.args.bytes.now) (BeginPut c.args.at (length c.args.bytes.now)) (calls_of c.args.self.now) (calls_of c.act.new.self) = rw c.in-Ok.ensures at c.act.ensures.ended in
    ended-IsPut c.args.f c.args.at c.args.bytes.now (calls_of c.args.self.now) (calls_of c.act.new.self) ended (c.requires.inside)

pub returns-in-Ok-clause-during : goal.returns-in-Ok-clause-during
returns-in-Ok-clause-during c =
    let ended : IsEnded c.args.f (Put c.args.at c.args.bytes.now) (BeginPut c.args.at (length c.args.bytes.now)) (calls_of c.args.self.now) (calls_of c.act.new.self) = rw c.in-Ok.ensures at c.act.ensures.ended in
    of_calls _ _ _ _ _ _ _ (ended_call c.args.f (Put c.args.at c.args.bytes.now) (BeginPut c.args.at (length c.args.bytes.now)) (calls_of c.args.self.now) (calls_of c.act.new.self) (put-Widens c.args.at c.args.bytes.now) (begin_put-Widens c.args.at (length c.args.bytes.now)) ended)

pub returns-in-Err-clause-during : goal.returns-in-Err-clause-during
returns-in-Err-clause-during c = of_calls _ _ _ _ _ _ _ (same_calls (calls_of c.args.self.now) (calls_of c.lack.new.self) c.lack.ensures.calls)
