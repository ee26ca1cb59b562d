use Rattle.chv_ast.specs.declared.refusal.Refusal.TheVariants.{TypeMismatch}
use Rattle.chv_types.specs.Steps.{or_refuse}
use Rattle.chv_expr.specs.Bindings.{Binds}
use Rattle.chv_expr.specs.Terms.{applied}
use Rattle.chv_expr.proofs.MeansLemmas.{one_meant, two_meant, three_meant}
use Rattle.chv_expr.proofs.call.apply.Goals as goal

pub returns-in-One : goal.returns-in-One
returns-in-One c = rw c.in-One.is (λ columns terms m.
    one_meant (λ terms. Binds columns (or_refuse TypeMismatch (applied c.args.function terms)) c.apply_one.result)
    columns c.in-One.a terms m (c.apply_one.ensures columns))

pub returns-in-Two : goal.returns-in-Two
returns-in-Two c = rw c.in-Two.is (λ columns terms m.
    two_meant (λ terms. Binds columns (or_refuse TypeMismatch (applied c.args.function terms)) c.apply_two.result)
    columns c.in-Two.a c.in-Two.b terms m (c.apply_two.ensures columns))

pub returns-in-Three : goal.returns-in-Three
returns-in-Three c = rw c.in-Three.is (λ columns terms m.
    three_meant (λ terms. Binds columns (or_refuse TypeMismatch (applied c.args.function terms)) c.apply_three.result)
    columns c.in-Three.test c.in-Three.a c.in-Three.b terms m (c.apply_three.ensures columns))
