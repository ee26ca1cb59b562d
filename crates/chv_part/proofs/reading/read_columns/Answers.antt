use Rattle.std.proofs.Common.{ap, rules, length, slice_index_or}
use Rattle.std.specs.Option.{is_some}
use Rattle.chv_types.specs.declared.kind.Kind.TheVariants.{Plain}
use Rattle.chv_types.specs.declared.kind.Scalar.TheVariants.{UInt8}
use Rattle.chv_part.specs.Columns.{HasGained}
use Rattle.chv_part.proofs.ReadingLemmas.{reads_next, no_columns}
use Rattle.chv_part.proofs.reading.read_columns.Goals as goal

pub returns-in_default-clause-none : goal.returns-in_default-clause-none
returns-in_default-clause-none c = λ is.
    no_columns c.args.kinds.now c.loop-place.place _ _ c.loop-place.rows c.args.bytes.now c.loop-place.at c.loop-place.invariant c.loop-place-test.true
    (c.in_ok-behind.ensures.none (ap is_some c.in_default.is))

pub loop-place-preserved : goal.loop-place-preserved
loop-place-preserved c =
    let kind = slice_index_or c.args.kinds.now c.loop-place.place (Plain UInt8) in
    let gained : HasGained kind (length c.loop-place.rows) c.loop-place.rows c.read_column.new.rows c.args.bytes.now c.loop-place.at c.in-Some.behind = search rules in
    reads_next c.args.kinds.now c.loop-place.place _ _ c.loop-place.rows c.read_column.new.rows c.args.bytes.now c.loop-place.at c.in-Some.behind c.loop-place-test.true c.loop-place.invariant gained
