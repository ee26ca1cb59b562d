use Rattle.std.proofs.Common.{◌≡◌, suc, ◌-◌, length, sym, ap, ◌∙◌, arith}
use Rattle.std.specs.Ordering.{is_lt}
use Rattle.chv_agg.proofs.SetLemmas.{follows-last}
use Rattle.chv_agg.proofs.reading.follows.Goals as goal

pub returns : goal.returns
returns c =
    let long : length c.args.values.now ≡ suc (length c.args.values.now - 1) = omega (arith, c.if-count-eq0.false) in
    c.is_lt.ensures ∙ ap is_lt c.compare.ensures
    ∙ sym (follows-last c.args.values.now c.args.value.now c.index-values-count.result (length c.args.values.now - 1) long (sym c.index-values-count.is))
