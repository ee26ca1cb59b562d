use Rattle.std.proofs.Common.{◌≡◌, ◌<◌, ◌∷◌, Some, None, length, set, ap, subst, sym, ◌∙◌, arith}
use Rattle.std.specs.Prelude.{OnOk}
use Rattle.chv_agg.specs.OfKinds.{AreOf}
use Rattle.chv_merge.proofs.ColumnLemmas.{AreOf-length, lowest-kinds, merged-lowest, merged-states, state-AreOf}
use Rattle.chv_merge.specs.Merging.{column}
use Rattle.chv_merge.specs.NormalForms.{merged_at}
use Rattle.chv_types.specs.declared.value.Value.{Value}
use Rattle.chv_merge.proofs.column.merge_column.Goals as goal

pub set-requires : goal.set-requires
set-requires c =
    let within : c.args.place < length c.args.kinds.now = c.requires.place in
    let long : length c.args.row.now ≡ length c.args.kinds.now = AreOf-length c.args.kinds.now c.args.row.now c.requires.row in
    omega (arith, within, long)

pub returns-in_ok-value-in-Some-clause-merged : goal.returns-in_ok-value-in-Some-clause-merged
returns-in_ok-value-in-Some-clause-merged c x e =
    let there : merged_at c.args.kinds.now c.args.key.now c.args.place ≡ Some (c.in-Some.agg, c.in-Some.arg) = sym c.merged_in.ensures ∙ c.in-Some.is in
    c.set.ensures ∙ ap (set c.args.row.now c.args.place) (c.in_ok-value-in-Some.ensures.value
    ∙ merged-states c.args.kinds.now c.args.key.now c.args.place c.in-Some.agg c.in-Some.arg c.args.row.now c.args.others.now x there c.requires.row c.requires.others e)

pub returns-in_ok-value-in-Some-clause-kinds : goal.returns-in_ok-value-in-Some-clause-kinds
returns-in_ok-value-in-Some-clause-kinds c =
    let there : merged_at c.args.kinds.now c.args.key.now c.args.place ≡ Some (c.in-Some.agg, c.in-Some.arg) = sym c.merged_in.ensures ∙ c.in-Some.is in
    subst (AreOf c.args.kinds.now) (sym (c.set.ensures ∙ ap (set c.args.row.now c.args.place) c.in_ok-value-in-Some.ensures.value))
    (state-AreOf c.args.kinds.now c.args.key.now c.args.place c.in-Some.agg c.in-Some.arg c.args.row.now (c.args.row.now ∷ c.args.others.now) there c.requires.row c.in_ok-value-in-Some.ensures.fits)

pub returns-in-None-clause-merged : goal.returns-in-None-clause-merged
returns-in-None-clause-merged c x e =
    let none : merged_at c.args.kinds.now c.args.key.now c.args.place ≡ None = sym c.merged_in.ensures ∙ c.in-None.is in
    subst (λ (value : Value). OnOk c.put_lowest.result (c.put_lowest.new.row ≡ set c.args.row.now c.args.place value))
    (sym (merged-lowest (merged_at c.args.kinds.now c.args.key.now c.args.place) x (column c.args.place c.args.others.now) none)) (c.put_lowest.ensures x e)

pub returns-in-None-clause-kinds : goal.returns-in-None-clause-kinds
returns-in-None-clause-kinds c =
    lowest-kinds c.put_lowest.result c.args.kinds.now c.args.place c.args.row.now c.put_lowest.new.row c.args.others.now c.requires.place c.requires.row c.requires.others c.put_lowest.ensures
