use Rattle.std.proofs.Common.{ap, arith, rules, slice_set, List}
use Rattle.std.specs.Option.{is_some}
use Rattle.chv_bytes.specs.Places.{StandsAt}
use Rattle.chv_types.specs.declared.value.Value.{Value}
use Rattle.chv_block.specs.Spellings.{IsOf, value_spelling}
use Rattle.chv_part.proofs.ReadingLemmas.{gains_nothing, gains_more, no_column}
use Rattle.chv_part.proofs.reading.read_column.Goals as goal

pub loop-j-init : goal.loop-j-init
loop-j-init c = gains_nothing c.args.kind c.args.rows.now c.args.bytes.now c.args.at

pub returns-in_default-clause-none : goal.returns-in_default-clause-none
returns-in_default-clause-none c = λ is.
    no_column c.args.kind c.loop-j.j c.args.rows.now c.loop-j.rows c.args.bytes.now c.args.at c.loop-j.next c.loop-j.invariant (omega (arith, c.loop-j-test.true, c.loop-j.auto.rows))
    (c.in_ok-value.ensures.none (ap is_some c.in_default.is))

pub loop-j-preserved : goal.loop-j-preserved
loop-j-preserved c =
    let value = c.in-Some.value in
    let of : IsOf c.args.kind value = search rules in
    let stands : StandsAt (value_spelling c.args.kind value) c.args.bytes.now c.loop-j.next c.in-Some.behind = search rules in
    gains_more c.args.kind c.loop-j.j _ c.args.rows.now c.loop-j.rows _ c.index-rows-j.result c.args.bytes.now c.args.at c.loop-j.next c.in-Some.behind value
    c.loop-j.invariant (omega (arith, c.loop-j-test.true, c.loop-j.auto.rows)) (omega arith) of stands
    (ap (λ (r : List Value). slice_set c.loop-j.rows c.loop-j.j r) c.in_ok-push.ensures.ok)
