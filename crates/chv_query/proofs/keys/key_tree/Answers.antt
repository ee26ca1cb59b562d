use Rattle.std.proofs.Common.{rules}
use Rattle.chv_query.proofs.NameLemmas.{column_name-Column, column_name-other}
use Rattle.chv_query.proofs.keys.key_tree.Goals as goal

pub returns-then-is_some : goal.returns-then-is_some
returns-then-is_some c = rw (c.in-Column.is, column_name-Column) (search rules)

pub returns-else-is_some : goal.returns-else-is_some
returns-else-is_some c = rw (c.in-Column.is, column_name-Column) (search rules)

pub returns-in_default : goal.returns-in_default
returns-in_default c = rw (column_name-other c.args.key.now c.in_default.not-Column) (search rules)
