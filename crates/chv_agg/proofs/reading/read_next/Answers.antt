use Rattle.std.proofs.Common.{◌≡◌, false, rules}
use Rattle.chv_agg.specs.Plain.{scalar_spelling}
use Rattle.chv_agg.specs.StateReading.{follows}
use Rattle.chv_bytes.specs.Places.{StandsAt}
use Rattle.chv_types.specs.Fits.{IsOfScalar}
use Rattle.chv_agg.proofs.SetLemmas.{none_beyond}
use Rattle.chv_agg.proofs.reading.read_next.Goals as goal

pub returns-then-not-follows-clause-none : goal.returns-then-not-follows-clause-none
returns-then-not-follows-clause-none c none =
    let found = c.in-Some.value in
    let stands : StandsAt (scalar_spelling c.args.arg found) c.args.bytes.now c.args.at c.in-Some.behind = search rules in
    let of : IsOfScalar c.args.arg found = search rules in
    let below : follows c.args.values.now found ≡ false = search rules in
    none_beyond c.args.arg (follows c.args.values.now) found c.args.bytes.now c.args.at c.in-Some.behind stands of below
