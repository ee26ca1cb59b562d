use Rattle.std.proofs.Common.{◌≡◌, arith, rules}
use Rattle.chv_query.proofs.OutputLemmas.{AreOutputs-all, AreOutputs-more}
use Rattle.chv_query.proofs.output.put_columns.Goals as goal

pub loop-place-preserved : goal.loop-place-preserved
loop-place-preserved c = λ before are.
    let column = c.index-columns-place.result in
    let name : c.in_ok-from_slice.field-0 ≡ column.name = cc (c.in_ok-from_slice.ensures, c.as_slice.ensures) in
    rw (c.in_ok-push.ensures.ok, c.in_ok-push-2.ensures.ok, name)
    (AreOutputs-more c.args.columns.now c.loop-place.outputs before c.loop-place.place column _ c.in_ok-bound.bound
    (c.loop-place.invariant before are) c.loop-place-test.true c.index-columns-place.is (search rules) c.in_ok-bound.ensures.kind c.in_ok-bound.ensures.tree)

pub returns : goal.returns
returns c = λ before are.
    AreOutputs-all c.args.columns.now c.loop-place.outputs before c.loop-place.place (omega arith) (c.loop-place.invariant before are)
