-- The commits so far are taken, and they are those that were read.
use Rattle.std.proofs.Common.{◌≡◌, ◌+◌, ◌-◌, ◌*◌, List, ℕ}
use Rattle.chv_site.specs.Effects.{ChangesOnly}
use Rattle.chv_site.specs.FileIds.{table_log}
use Rattle.chv_site.specs.Files.{settled}
use Rattle.chv_site.specs.Outside.{bytes_in}
use Rattle.chv_commit.specs.Replays.{MAX_ENTRIES}
use Rattle.chv_gate.specs.GateLog.{HasFrames, begun}
use Rattle.chv_gate.specs.Crashes.{Leaves, LeavesFrames}
use Rattle.chv_table.proofs.OpeningLemmas.{HasTaken, HasRead}
use Rattle.chv_table.proofs.opening.open_table.Given as goal

abbrev pub invariant-commits : goal.invariant-commits
invariant-commits g l =
    let S = g.W.Site in
    let before = S.outside l.fn.site in
    let now = S.outside l.site in
    let log = table_log l.number in
    record {
      window : l.replay.window ≡ l.def.window;
      took : HasTaken l.gate l.replay.window l.replay.state;
      read : S.tells → HasRead l.gate l.replay.window l.replay.state (begun (bytes_in before log));
      begun_now : S.tells → now.files log ≡ settled (begun (bytes_in before log));
      left : S.tells → (payloads : List (List ℕ)) → LeavesFrames payloads (before.files log) → Leaves log (HasFrames payloads) before now;
      keeps : ChangesOnly S.tells ⊥ log before now;
    }

abbrev pub decreases-commits : goal.decreases-commits
decreases-commits g l = 9 + 2 * MAX_ENTRIES - l.replay.state.next_part
