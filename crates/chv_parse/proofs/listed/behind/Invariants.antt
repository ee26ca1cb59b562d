use Rattle.std.proofs.Common.{◌≡◌, ◌-◌}
use Rattle.chv_parse.specs.StatementReading.{read_behind_some}
use Rattle.chv_parse.proofs.listed.behind.Given as goal

-- reading on behind the values so far is reading on behind the first ones
abbrev pub invariant-loop : goal.invariant-loop
invariant-loop g l =
    read_behind_some l.values g.T.Member.reader (l.count - l.counter) l.cursor
    ≡ read_behind_some l.fn.front g.T.Member.reader l.fn.count l.fn.cursor
