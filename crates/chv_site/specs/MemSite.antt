-- What a site in memory has.
use Rattle.std.specs.Prelude.{ℕ, ◌≡◌, ◌⊎◌, List, ◌∷◌, length}
use Rattle.chv_site.specs.declared.file_id.FileId.{FileId}
use Rattle.chv_site.specs.declared.call.Act.{Act}
use Rattle.chv_site.specs.declared.call.Call.{Call}
use Rattle.chv_site.specs.declared.call.Call.TheVariants.{OnFile}
use Rattle.chv_site.specs.declared.mem_faults.MemFaults.{MemFaults}
use Rattle.chv_site.specs.declared.mem_site.MemSite.{MemSite}
use Rattle.chv_site.specs.Files.{FileState}
use Rattle.chv_site.specs.Faults.{HasRisen}
use Rattle.chv_site.specs.Outside.{Outside}
use Rattle.chv_site.specs.Calls.{state_after, text_after, HasLeft}

-- its calls that changed something, the newest of them first
abbrev pub calls_of : MemSite → List Call
calls_of m = m.log

-- which calls fail, and the counts
abbrev pub faults_of : MemSite → MemFaults
faults_of m = m.faults

-- each file: what a read gives, and what is pending
abbrev pub files_of : MemSite → FileId → FileState
files_of m = state_after (calls_of m)

-- all that is outside once these calls changed something, the newest of them first, and so many calls on files and says failed
abbrev pub outside_after : List Call → ℕ → ℕ → Outside
outside_after calls disk say = record {
  files = state_after calls;
  said = text_after calls;
  moment = length calls;
  left_since = HasLeft calls;
  disk_faults = disk;
  say_faults = say;
}

-- all that is outside; the moment counts the calls that changed something
abbrev pub outside_of : MemSite → Outside
outside_of m = outside_after (calls_of m) (faults_of m).disk (faults_of m).say

-- a call on a file that failed is noted as begun, or found no memory and left no trace
pub record IsBegun (f : FileId) (begun : Act) (old new : MemSite) : Type 0 where
  pub how : (calls_of new ≡ OnFile f begun ∷ calls_of old)
      ⊎ ((calls_of new ≡ calls_of old) × HasRisen (faults_of old).lacked (faults_of new).lacked)
