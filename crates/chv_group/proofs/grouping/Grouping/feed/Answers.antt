use Rattle.chv_group.proofs.grouping.Grouping.feed.Goals as goal

pub returns-else-is_err-clause-taken : goal.returns-else-is_err-clause-taken
returns-else-is_err-clause-taken c = rw (← c.self.view_is) (rw c.as_slice-calls.ensures at c.feed_groups-fed.ensures.taken)
