use Rattle.std.proofs.Common.{◌<◌, ◌+◌, length, get_or, drop, arith, refl, sym, ◌∙◌}
use Rattle.std.proofs.lemmas.List.Elements.{All-set}
use Rattle.std.proofs.lemmas.Result.{err_from_is_err_and}
use Rattle.chv_block.specs.Spellings.{IsSmall}
use Rattle.chv_types.specs.declared.kind.Kind.TheVariants.{Plain}
use Rattle.chv_types.specs.declared.kind.Scalar.TheVariants.{UInt8}
use Rattle.chv_plan.specs.Places.{ArePlaces}
use Rattle.chv_plan.proofs.PlaceLemmas.{first_place}
use Rattle.chv_plan.proofs.RowLemmas.{AreOf-length, AreOf-set, written_step, written_refused}
use Rattle.chv_plan.proofs.row.written_row.Goals as goal

pub returns-in_err-row-clause-refused : goal.returns-in_err-row-clause-refused
returns-in_err-row-clause-refused c =
    let within : get_or c.args.places.now c.loop-i.i 0 < length c.args.kinds.now =
    (first_place (length c.args.kinds.now) c.args.places.now c.loop-i.i _ c.loop-i.invariant.places (omega arith) refl).0 in
    let p = err_from_is_err_and c.from_residual.result c.from_residual.ensures.1 in
    rw p.1 (λ refusal is.
    sym c.loop-i.invariant.left
    ∙ written_refused c.args.kinds.now c.args.places.now c.args.literals.now c.loop-i.row.items c.loop-i.i c.index-literals-i.result (Plain UInt8) refusal
    (omega arith) c.loop-i-test.true c.index-literals-i.is within (c.in_err-row.ensures.refused refusal (sym p.2 ∙ is)))

pub index_mut-requires : goal.index_mut-requires
index_mut-requires c =
    omega (arith, AreOf-length c.args.kinds.now c.loop-i.row.items c.loop-i.invariant.kinds, (first_place (length c.args.kinds.now) c.args.places.now c.loop-i.i _ c.loop-i.invariant.places (omega arith) refl).0)

pub loop-i-preserved : goal.loop-i-preserved
loop-i-preserved c =
    let first : (get_or c.args.places.now c.loop-i.i 0 < length c.args.kinds.now) × ArePlaces (length c.args.kinds.now) (drop (c.loop-i.i + 1) c.args.places.now) =
    first_place (length c.args.kinds.now) c.args.places.now c.loop-i.i (c.loop-i.i + 1) c.loop-i.invariant.places (omega arith) (omega arith) in
    record {
      left =
          sym (written_step c.args.kinds.now c.args.places.now c.args.literals.now c.loop-i.row.items c.loop-i.i (c.loop-i.i + 1) c.index-literals-i.result (Plain UInt8) c.in_ok-row.field-0
          (omega arith) c.loop-i-test.true c.index-literals-i.is first.0 c.in_ok-row.ensures.value (omega arith))
          ∙ c.loop-i.invariant.left;
      kinds = AreOf-set c.args.kinds.now c.loop-i.row.items (get_or c.args.places.now c.loop-i.i 0) (Plain UInt8) c.in_ok-row.field-0 c.loop-i.invariant.kinds first.0 c.in_ok-row.ensures.kind;
      small = All-set IsSmall c.loop-i.row.items (get_or c.args.places.now c.loop-i.i 0) c.in_ok-row.field-0 c.in_ok-row.ensures.small c.loop-i.invariant.small;
      places = first.1;
    }
