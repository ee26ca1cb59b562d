use Rattle.std.proofs.Common.{◌≡◌, rules, false}
use Rattle.std.proofs.lemmas.Result.{on_ok_weaker}
use Rattle.chv_group.proofs.OverLemmas.{add-IsOver, merge-IsOver, on_both}
use Rattle.chv_group.specs.Groups.{takes_states}
use Rattle.chv_types.specs.Values.{seen_value}
use Rattle.chv_group.proofs.tallies.take_one.Goals as goal

pub returns-in-Plain-clause-over : goal.returns-in-Plain-clause-over
returns-in-Plain-clause-over c =
    let plain : takes_states c.args.call.form ≡ false = search rules in
    on_ok_weaker c.add.result (add-IsOver c.args.call c.args.tally.now c.add.new.self (seen_value c.args.arg) c.requires.over (c.requires.takes plain)) c.add.ensures

pub returns-in-Merge-clause-over : goal.returns-in-Merge-clause-over
returns-in-Merge-clause-over c =
    on_both c.merge.result c.merge.ensures.merged c.merge.ensures.fits
    (merge-IsOver c.args.call c.args.tally.now c.merge.new.self c.bytes_of.result.now c.requires.over)
