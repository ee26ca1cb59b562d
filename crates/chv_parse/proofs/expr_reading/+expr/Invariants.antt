use Rattle.std.proofs.Common.{◌≡◌, ◌≤◌, ◌+◌, ◌-◌, ◌*◌, suc}
use Rattle.chv_parse.specs.ExprReading.{climb, read_at}
use Rattle.chv_parse.proofs.expr_reading.+expr.Given as goal

-- climbing on from the operand so far is climbing on from the first one
abbrev pub invariant-climb-loop : goal.invariant-climb-loop
invariant-climb-loop l = record {
  reads : climb (read_at l.nest l.room) l.room l.level (l.room - l.counter) l.left l.cursor ≡ climb (read_at l.nest l.room) l.room l.level l.room l.fn.first l.fn.cursor;
  shallow : l.left.depth ≤ suc l.room;
}

-- a step goes to fewer parentheses or to less room, or down this list
abbrev pub decreases-read_at : goal.decreases-read_at
decreases-read_at l = 64 * l.nest + 64 * l.room + 60

abbrev pub decreases-chain : goal.decreases-chain
decreases-chain l = 64 * l.nest + 64 * l.room + 123

abbrev pub decreases-climb : goal.decreases-climb
decreases-climb l = 64 * l.nest + 64 * l.room + 122

abbrev pub decreases-first_operand : goal.decreases-first_operand
decreases-first_operand l = 64 * l.nest + 64 * l.room + 122

abbrev pub decreases-unary : goal.decreases-unary
decreases-unary l = 64 * l.nest + 64 * l.room + 121

abbrev pub decreases-atom : goal.decreases-atom
decreases-atom l = 64 * l.nest + 64 * l.room + 121

abbrev pub decreases-nested : goal.decreases-nested
decreases-nested l = 64 * l.nest + 64 * l.room + 56

abbrev pub decreases-inside : goal.decreases-inside
decreases-inside l = 64 * l.nest + 64 * l.room

abbrev pub decreases-named : goal.decreases-named
decreases-named l = 64 * l.nest + 64 * l.room + 120

abbrev pub decreases-call : goal.decreases-call
decreases-call l = 64 * l.nest + 64 * l.room + 119

abbrev pub decreases-listed_arguments : goal.decreases-listed_arguments
decreases-listed_arguments l = 64 * l.nest + 64 * l.room + 118

abbrev pub decreases-some : goal.decreases-some
decreases-some l = 64 * l.nest + 64 * l.room + 117

abbrev pub decreases-more : goal.decreases-more
decreases-more l = 64 * l.nest + 64 * l.room + 64 + 2 * l.count

abbrev pub decreases-next : goal.decreases-next
decreases-next l = 64 * l.nest + 64 * l.room + 65 + 2 * l.count
