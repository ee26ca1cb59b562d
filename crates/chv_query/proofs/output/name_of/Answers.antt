use Rattle.std.proofs.Common.{rules}
use Rattle.chv_query.proofs.NameLemmas.{column_name-Column, column_name-other}
use Rattle.chv_query.proofs.output.name_of.Goals as goal

pub returns-in-Column : goal.returns-in-Column
returns-in-Column c = rw (c.in-None.is, c.in-Column.is, column_name-Column) (search rules)

pub returns-in_ok-expr_text-in_default : goal.returns-in_ok-expr_text-in_default
returns-in_ok-expr_text-in_default c =
    rw (c.in-None.is, column_name-other c.args.expr.now c.in_default.not-Column) (search rules)
