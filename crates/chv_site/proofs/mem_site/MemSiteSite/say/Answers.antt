use Rattle.std.proofs.Common.{rules}
use Rattle.chv_site.specs.MemSite.{calls_of}
use Rattle.chv_site.proofs.Clock.{of_calls, no_call, unsaid, say_call}
use Rattle.chv_site.proofs.mem_site.MemSiteSite.say.Goals as goal

pub returns-in_err-begin_say-clause-says : goal.returns-in_err-begin_say-clause-says
returns-in_err-begin_say-clause-says c = record {
  said = search rules;
  err = search rules;
  files = search rules;
  during = λ _. of_calls _ _ _ _ _ _ _ (no_call (calls_of c.args.self.now) _ (unsaid c.args.bytes.now (calls_of c.args.self.now)));
  counts = search rules;
}

pub returns-clause-says : goal.returns-clause-says
returns-clause-says c = record {
  said = search rules;
  err = search rules;
  files = search rules;
  during = λ _.
      of_calls _ _ _ _ _ _ _ (say_call c.args.bytes.now (calls_of c.args.self.now) c.say-done.new.self c.say-done.result c.say-done.ensures.said c.say-done.ensures.err);
  counts = search rules;
}
