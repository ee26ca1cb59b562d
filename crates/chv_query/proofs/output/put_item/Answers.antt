use Rattle.std.proofs.Common.{◌≡◌, ◌∷◌, [], refl, rules}
use Rattle.chv_query.specs.Outputs.{Output, output_name}
use Rattle.chv_query.proofs.OutputLemmas.{AreOutputs-push}
use Rattle.chv_query.proofs.output.put_item.Goals as goal

pub returns-in_ok-push-in-One-2-clause-put : goal.returns-in_ok-push-in-One-2-clause-put
returns-in_ok-push-in-One-2-clause-put c = λ before are.
    let bound = c.in_ok-bound-in-One.ensures in
    let output : Output = record { name = output_name c.in-One.alias c.in-One.expr; term = bound.0 } in
    let name : c.in_ok-name-in-One.name ≡ output.name = cc (c.in_ok-name-in-One.ensures, c.as_ref.ensures.value) in (
      output ∷ [],
      rw (c.in-One.is, bound.1) refl,
      rw (c.in_ok-push-in-One.ensures.ok, c.in_ok-push-in-One-2.ensures.ok)
          (AreOutputs-push c.args.columns.now c.args.outputs.now before _ c.in_ok-bound-in-One.bound output are (search rules) bound.2),
    )
