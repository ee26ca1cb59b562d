use Rattle.std.proofs.Common.{◌≡◌, false, rules}
use Rattle.chv_agg.specs.Plain.{scalar_spelling}
use Rattle.chv_agg.specs.StateReading.{is_above}
use Rattle.chv_bytes.specs.Places.{StandsAt}
use Rattle.chv_types.specs.Fits.{IsOfScalar}
use Rattle.chv_types.specs.Values.{seen_value}
use Rattle.chv_types.specs.declared.value.Value.{Value}
use Rattle.chv_agg.proofs.SetLemmas.{none_beyond}
use Rattle.chv_agg.proofs.ending.next_seen.Goals as goal

pub returns-then-not-is_above-clause-none : goal.returns-then-not-is_above-clause-none
returns-then-not-is_above-clause-none c none =
    let found : Value = seen_value c.in_ok-value.value in
    let stands : StandsAt (scalar_spelling c.args.arg found) c.args.bytes.now c.args.at c.in_ok-value.behind = search rules in
    let of : IsOfScalar c.args.arg found = search rules in
    let below : is_above c.args.last found ≡ false = search rules in
    none_beyond c.args.arg (is_above c.args.last) found c.args.bytes.now c.args.at c.in_ok-value.behind stands of below
