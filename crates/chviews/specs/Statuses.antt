-- How a run ends.
use Rattle.std.specs.Prelude.{ℕ, ◌≡◌, ◌⊎◌}
use Rattle.chv_engine.specs.declared.Status.{Status}
use Rattle.chv_engine.specs.declared.Status.TheVariants.{Done, SomeRefused, BadWords, DiskFault, SourceFault, SayFault, Damaged, NoMemory, TooLong}

-- the exit status
abbrev pub exit_status_of : Status → ℕ
exit_status_of Done = 0
exit_status_of SomeRefused = 1
exit_status_of BadWords = 2
exit_status_of DiskFault = 3
exit_status_of SourceFault = 4
exit_status_of SayFault = 5
exit_status_of Damaged = 6
exit_status_of NoMemory = 7
exit_status_of TooLong = 8

-- the script was run to its end
abbrev pub CameToItsEnd : Status → Type 0
CameToItsEnd s = (s ≡ Done) ⊎ (s ≡ SomeRefused)
