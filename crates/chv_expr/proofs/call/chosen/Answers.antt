use Rattle.std.proofs.Common.{◌∙◌}
use Rattle.chv_expr.proofs.MeansLemmas.{chosen_value-number}
use Rattle.chv_expr.proofs.TreeLaws.{value-Widen}
use Rattle.chv_expr.proofs.call.chosen.Goals as goal

pub returns-in_ok-arg-in_default : goal.returns-in_ok-arg-in_default
returns-in_ok-arg-in_default c = record {
  chosen = λ row. value-Widen c.is_signed.result c.in_ok-arg-in_default.arg row
      ∙ rw (c.is_signed.ensures, c.in_ok-arg-in_default.ensures) (chosen_value-number c.args.plain _ c.in_default.not-Bool c.in_default.not-Text);
  err = tt;
}
