use Rattle.std.proofs.Common.{append_assoc}
use Rattle.chv_print.specs.StatementTexts.{statement_text}
use Rattle.chv_print.proofs.statement.put_statement.Goals as goal

pub returns-in_ok-extend_from_slice-in-Optimize-2 : goal.returns-in_ok-extend_from_slice-in-Optimize-2
unfolding statement_text
returns-in_ok-extend_from_slice-in-Optimize-2 c = record {
  ok = rw c.in-Optimize.is
      (simp (
        c.in_ok-extend_from_slice-in-Optimize-2.ensures.items,
        c.in_ok-put_name-in-Optimize.ensures.ok,
        c.as_slice-in-Optimize.ensures,
        c.in_ok-extend_from_slice-in-Optimize.ensures.items,
        append_assoc,
      ));
}
