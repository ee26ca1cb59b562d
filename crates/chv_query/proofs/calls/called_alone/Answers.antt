use Rattle.chv_query.proofs.calls.called_alone.Goals as goal

pub returns-in-Count : goal.returns-in-Count
returns-in-Count c = rw c.in-Count.is c.count_rows.ensures
