use Rattle.std.proofs.Common.{◌≡◌, List, sym, subst}
use Rattle.std.proofs.lemmas.Result.{IfOk-weaker}
use Rattle.chv_agg.specs.OfKinds.{AllAreOf}
use Rattle.chv_types.specs.declared.value.Value.{Value}
use Rattle.chv_merge.specs.NormalForms.{normal_form}
use Rattle.chv_merge.proofs.EngineLemmas.{normal_form-kinds}
use Rattle.chv_merge.proofs.normal_form.normal_by.Goals as goal

pub returns-in-MergeTree-clause-kinds : goal.returns-in-MergeTree-clause-kinds
returns-in-MergeTree-clause-kinds c =
    let kinds = c.args.kinds.now in
    let key = c.args.key.now in
    let block = c.args.block in
    IfOk-weaker c.normal.result (λ (rows : List (List Value)). rows ≡ normal_form key block) (AllAreOf kinds)
    (λ rows e. subst (AllAreOf kinds) (sym e) (normal_form-kinds kinds key block c.requires.rows)) c.normal.ensures
