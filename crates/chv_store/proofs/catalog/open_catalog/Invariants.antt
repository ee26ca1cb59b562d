-- The texts so far are read.
use Rattle.std.proofs.Common.{◌≡◌, ◌-◌, ◌≤◌, List, ℕ, length}
use Rattle.chv_catalog.specs.Schemas.{definitions_in}
use Rattle.chv_gate.specs.Crashes.{Leaves, LeavesFrames}
use Rattle.chv_gate.specs.GateLog.{HasFrames, begun}
use Rattle.chv_site.specs.Effects.{ChangesOnly}
use Rattle.chv_site.specs.FileIds.{catalog_log}
use Rattle.chv_site.specs.Files.{settled}
use Rattle.chv_site.specs.Outside.{bytes_in}
use Rattle.chv_store.proofs.CatalogLemmas.{AreWithin, HasDefinitions}
use Rattle.chv_store.proofs.catalog.open_catalog.Given as goal

abbrev pub invariant-statements : goal.invariant-statements
invariant-statements g l =
    let S = g.W.Site in
    let before = S.outside l.fn.site in
    let now = S.outside l.site in
    record {
      within : AreWithin l.schema.catalog l.gate;
      read : S.tells → HasDefinitions l.schema.catalog l.gate (begun (bytes_in before catalog_log));
      begun_now : S.tells → now.files catalog_log ≡ settled (begun (bytes_in before catalog_log));
      left : S.tells → (payloads : List (List ℕ)) → LeavesFrames payloads (before.files catalog_log) → Leaves catalog_log (HasFrames payloads) before now;
      kept : S.tells → 2 ≤ length (bytes_in before catalog_log) → bytes_in now catalog_log ≡ bytes_in before catalog_log;
      keeps : ChangesOnly S.tells ⊥ catalog_log before now;
    }

abbrev pub decreases-statements : goal.decreases-statements
decreases-statements g l = 257 - definitions_in l.schema.catalog
