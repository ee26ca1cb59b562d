use Rattle.std.proofs.Common.{◌≡◌, ◌<◌, length, get_or, Some, rules}
use Rattle.chv_types.specs.Values.{seen_value}
use Rattle.chv_agg.proofs.EndLemmas.{found_stands}
use Rattle.chv_agg.proofs.ending.found_end.Goals as goal

pub returns-clause-found : goal.returns-clause-found
returns-clause-found c =
    let within : c.args.at < length c.args.bytes.now = search rules in
    let one : get_or c.args.bytes.now c.args.at 0 ≡ 1 = search rules in
    record {
      state = Some (seen_value c.in_ok-behind.field-0-0);
      fits = c.in_ok-behind.ensures.kind;
      stands = found_stands c.args.arg (seen_value c.in_ok-behind.field-0-0) c.args.bytes.now c.args.at c.in_ok-behind.behind within one c.in_ok-behind.ensures.found;
    }
