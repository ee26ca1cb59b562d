-- Exactly the expressions of the grammar are read.
use Rattle.std.proofs.Common.{[], ◌∷◌, ◌++◌, refl, ap, ◌∙◌, subst, arith}
use Rattle.chv_ast.specs.Grammar.{IsExpr}
use Rattle.chv_ast.specs.GrammarStatements.{IsOneLiteral}
use Rattle.chv_parse.specs.Reading.{given, Exact}
use Rattle.chv_parse.specs.ExprReading.{EndsExpr, read_at, read_expr, read_literal}
use Rattle.chv_parse.proofs.ExprSteps.{both_read, both_reads, same_read}
use Rattle.chv_parse.proofs.ExprSound.{read_at-sound, read_literal-IsLiteral}
use Rattle.chv_parse.proofs.ExprComplete.{operand, spelled-reads, whole_ends, literal-read}

pub exact_expr : Exact read_expr IsExpr EndsExpr
unfolding read_expr
exact_expr = record {
  sound = λ tokens rest e h.
      let b = both_read (read_at 128 128 0) (λ whole. given whole.expr) tokens e rest h in
      let w = read_at-sound 128 128 0 (omega arith) tokens b.middle b.value b.first in
      let s = same_read b.value.expr e b.middle rest b.second in
      let found : IsExpr b.value.expr w.us = record { level = b.value.level; spelled = w.spelled 128 w.shallow } in
      (w.us, w.split ∙ ap (λ ts. w.us ++ ts) s.1, subst (λ x. IsExpr x w.us) s.0 found);
  complete = λ us rest e found ends.
      let r = spelled-reads found.level 128 128 e us found.spelled in
      both_reads (read_at 128 128 0) (λ whole. given whole.expr) (us ++ rest) rest (operand e found.level r.depth) _
      (whole_ends found.level 128 128 e us r 128 rest (omega arith) ends) refl;
}

-- exactly the literals without a minus are read, whatever follows
pub exact_literal : Exact read_literal IsOneLiteral (λ rest. Unit {0})
exact_literal = record {
  sound = λ tokens rest value h.
      let o = read_literal-IsLiteral tokens rest value h in
      (o.0 ∷ [], o.1, record { token = o.0; alone = refl; meant = o.2 });
  complete = λ us rest value found _.
      ap (λ ts. read_literal (ts ++ rest)) found.alone ∙ literal-read value found.token rest found.meant;
}
