use Rattle.std.proofs.Common.{◌∙◌, ap, ◌++◌}
use Rattle.chv_print.specs.ExprTexts.{expr_text}
use Rattle.chv_print.proofs.StatementBack.{expr_reads_back}
use Rattle.chv_print.proofs.expr.expr_text.Goals as goal

pub returns-clause-read_back : goal.returns-clause-read_back
returns-clause-read_back c = expr_reads_back c.args.e.now c.put_expr.new.out.items
    (c.in_ok-put_expr.ensures.ok ∙ ap (λ front. front ++ expr_text c.args.e.now) c.new-text.ensures.items)
