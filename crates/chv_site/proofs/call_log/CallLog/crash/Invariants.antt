use Rattle.std.proofs.Common.{◌≡◌, [], take}
use Rattle.chv_site.specs.declared.file_id.FileId.{FileId}
use Rattle.chv_site.specs.Calls.{text_after}
use Rattle.chv_site.proofs.Crashes.{IsSoFar}
use Rattle.chv_site.proofs.call_log.CallLog.crash.Given as goal

abbrev pub invariant-loop-name : goal.invariant-loop-name
invariant-loop-name l = record {
  text : text_after l.made ≡ [];
  files : (g : FileId) → IsSoFar l.pick l.self l.made (take l.name-index l.name-items) g;
}
