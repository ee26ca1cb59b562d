use Rattle.std.proofs.Common.{◌≡◌, ◌∙◌, sym, Err}
use Rattle.chv_catalog.proofs.FaultLemmas.{passed_on, refused_by}
use Rattle.chv_define.specs.Checks.{checked_select}
use Rattle.chv_define.proofs.OutputLemmas.{checked-bound, refused-binding}
use Rattle.chv_define.proofs.outputs.check_select.Goals as goal

pub returns-in_err-query-clause-refused : goal.returns-in_err-query-clause-refused
returns-in_err-query-clause-refused c =
    passed_on c.from_residual.result _ (λ refusal. checked_select c.args.schema.now.catalog c.args.select.now c.args.target.now ≡ Err refusal) c.from_residual.ensures.1
    (λ refusal told. refused-binding c.args.schema.now.catalog c.args.select.now c.args.target.now _ refusal c.in_err-query.ensures told)

pub returns-in_err-check_outputs-clause-refused : goal.returns-in_err-check_outputs-clause-refused
returns-in_err-check_outputs-clause-refused c =
    let bound = checked-bound c.args.schema.now.catalog c.args.select.now c.args.target.now c.in_ok-query.query c.in_ok-query.ensures in
    let outputs = rw (c.as_slice.ensures, c.as_slice-2.ensures, c.columns.ensures) at (sym c.check_outputs.ensures ∙ c.in_err-check_outputs.was) in
    refused_by c.from_residual-in_err-check_outputs.result _ (λ refusal. checked_select c.args.schema.now.catalog c.args.select.now c.args.target.now ≡ Err refusal) c.from_residual-in_err-check_outputs.ensures.1
    (bound ∙ outputs)

pub returns-clause-passed : goal.returns-clause-passed
returns-clause-passed c =
    let bound = checked-bound c.args.schema.now.catalog c.args.select.now c.args.target.now c.in_ok-query.query c.in_ok-query.ensures in
    bound ∙ (rw (c.as_slice.ensures, c.as_slice-2.ensures, c.columns.ensures) at (sym c.check_outputs.ensures ∙ c.in_ok-check_outputs.was))
