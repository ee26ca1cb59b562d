use Rattle.std.proofs.Common.{rules}
use Rattle.std.proofs.lemmas.Int.{wraps, int_wrap-add_left, int_wrap-sub_right}
use Rattle.chv_expr.proofs.calculate.difference.Goals as goal

pub returns : goal.returns
returns c = search (rules, wraps, int_wrap-add_left, int_wrap-sub_right)
