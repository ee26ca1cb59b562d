use Rattle.std.proofs.Common.{◌∙◌, ap, ◌++◌}
use Rattle.chv_print.specs.StatementTexts.{statement_text}
use Rattle.chv_print.proofs.StatementBack.{statement_reads_back}
use Rattle.chv_print.proofs.statement.statement_text.Goals as goal

pub returns-clause-read_back : goal.returns-clause-read_back
returns-clause-read_back c = statement_reads_back c.args.s.now c.put_statement.new.out.items
    (c.in_ok-put_statement.ensures.ok ∙ ap (λ front. front ++ statement_text c.args.s.now) c.new-text.ensures.items)
