use Rattle.std.proofs.Common.{◌∙◌, ◌≤◌, ap, arith, length}
use Rattle.chv_types.specs.declared.value.Value.TheVariants.{Text}
use Rattle.chv_expr.specs.declared.tree.Tree.TheVariants as tree
use Rattle.chv_expr.proofs.MeansLemmas.{Binds-text}
use Rattle.chv_expr.proofs.literal.bind_text.Goals as goal

pub returns : goal.returns
returns c = λ columns.
    let below : length c.args.text.now ≤ 1048576 = omega arith in
    Binds-text columns c.args.text.now c.in_ok-constant.field-0 below c.in_ok-constant.ensures.kind
    (c.in_ok-constant.ensures.tree ∙ ap (λ text. tree.Constant (Text text)) c.in_ok-text.ensures)
