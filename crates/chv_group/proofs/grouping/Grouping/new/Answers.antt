use Rattle.chv_group.proofs.GroupLemmas.{AreOf-nothing}
use Rattle.chv_group.proofs.grouping.Grouping.new.Goals as goal

pub returns-clause-taken : goal.returns-clause-taken
returns-clause-taken c = rw (c.new.ensures, c.new-2.ensures.items) (AreOf-nothing c.args.calls)
