use Rattle.std.specs.Prelude.{Some, pos}
use Rattle.std.specs.Int.{cast_signed, cast_unsigned, w128}
use Rattle.std.proofs.Common.{◌≡◌, ◌∙◌, ◌<◌, ◌^◌, ap, arith, sym}
use Rattle.std.proofs.lemmas.Int.{to_z_pos}
use Rattle.chv_types.specs.Texts.{whole_number}
use Rattle.chv_types.specs.declared.value.Value.TheVariants.{Whole}
use Rattle.chv_expr.specs.declared.tree.Tree.TheVariants as tree
use Rattle.chv_expr.proofs.MeansLemmas.{Binds-whole}
use Rattle.chv_expr.proofs.literal.bind_whole.Goals as goal

pub returns-in_ok-constant-in-Some : goal.returns-in_ok-constant-in-Some
returns-in_ok-constant-in-Some c = λ columns.
    let n = c.in-Some.n in
    let below : n < 2 ^ 64 = omega arith in
    let given : whole_number c.args.digits.now ≡ Some n = sym c.whole_number.ensures ∙ c.in-Some.is in
    let number : cast_signed w128 (cast_unsigned w128 c.from.result) ≡ pos n = rw c.from.ensures (to_z_pos w128 n (omega arith)) in
    rw c.if-minus.false (Binds-whole columns c.args.digits.now n c.in_ok-constant-in-Some.field-0 below given c.in_ok-constant-in-Some.ensures.kind
    (c.in_ok-constant-in-Some.ensures.tree ∙ ap (λ n. tree.Constant (Whole n)) number))
