use Rattle.std.proofs.Common.{◌≡◌, ◌+◌, ◌∷◌, ◌++◌, [], List, fold, take, set, ap, sym, ◌∙◌}
use Rattle.std.proofs.lemmas.List.{take_more}
use Rattle.chv_agg.specs.States.{lower}
use Rattle.chv_merge.proofs.ColumnLemmas.{lowest-push, set-same}
use Rattle.chv_merge.specs.Merging.{column}
use Rattle.chv_types.specs.declared.value.Value.{Value}
use Rattle.chv_merge.proofs.column.put_lowest.Goals as goal

pub loop-other-init : goal.loop-other-init
loop-other-init c x e = sym (set-same c.args.row.now c.args.place x e)

pub loop-other-preserved : goal.loop-other-preserved
loop-other-preserved c x e =
    let seen : List (List Value) = take c.loop-other.other-index c.args.others.now in
    let more : seen ++ c.other-item.result ∷ [] ≡ take (c.loop-other.other-index + 1) c.args.others.now =
    ap (λ (other : List Value). seen ++ other ∷ []) c.other-item.is ∙ sym (take_more c.args.others.now c.loop-other.other-index c.other-item.result c.loop-other-test.true) in
    lowest-push c.args.row.now c.args.place x seen c.other-item.result c.loop-other.row c.put_lower.new.row e (c.loop-other.invariant x e) c.in_ok-put_lower.ensures
    ∙ ap (λ (others : List (List Value)). set c.args.row.now c.args.place (fold lower x (column c.args.place others))) more
