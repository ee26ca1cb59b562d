use Rattle.chv_ast.specs.declared.refusal.Refusal.TheVariants.{TypeMismatch}
use Rattle.chv_expr.proofs.MeansLemmas.{none_meant, one_meant}
use Rattle.chv_query.specs.Bound.{AnswersAs, IsCall}
use Rattle.chv_query.specs.Calls.{called_with}
use Rattle.chv_types.specs.Steps.{or_refuse}
use Rattle.chv_query.proofs.calls.called_with.Goals as goal

pub returns-in-None : goal.returns-in-None
returns-in-None c = rw c.in-None.is (λ columns terms meant.
    none_meant (λ terms. AnswersAs (IsCall columns) (or_refuse TypeMismatch (called_with c.args.agg c.args.form terms)) c.called_alone.result)
    columns terms meant (c.called_alone.ensures columns))

pub returns-in-One : goal.returns-in-One
returns-in-One c = rw c.in-One.is (λ columns terms meant.
    one_meant (λ terms. AnswersAs (IsCall columns) (or_refuse TypeMismatch (called_with c.args.agg c.args.form terms)) c.called_on.result)
    columns c.in-One.arg terms meant (λ term means. c.called_on.ensures columns term means))
