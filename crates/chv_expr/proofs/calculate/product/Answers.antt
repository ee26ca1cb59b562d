use Rattle.std.proofs.Common.{rules}
use Rattle.std.proofs.lemmas.Int.{wraps, int_wrap-mul_left, int_wrap-mul_right}
use Rattle.chv_expr.proofs.calculate.product.Goals as goal

pub returns : goal.returns
returns c = search (rules, wraps, int_wrap-mul_left, int_wrap-mul_right)
