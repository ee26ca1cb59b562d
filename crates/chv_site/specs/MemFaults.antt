-- Which calls of a site in memory fail, and its counts of faults.
use Rattle.std.specs.Prelude.{ℕ, ◌≡◌, ◌⊎◌, ◌≤◌, List, Option, Result, IsErr, OnOk}
use Rattle.std.specs.declared.option.Option.TheVariants.{None, Some}
use Rattle.std.specs.List.{Contains}
use Rattle.chv_site.specs.Faults.{raised, HasRisen}
use Rattle.chv_site.specs.declared.mem_faults.MemFaults.{MemFaults}

-- no call so far, where those with these numbers are to fail
abbrev pub uncounted : List ℕ → MemFaults
uncounted fails = record { fails = fails; stop = None; calls = 0; disk = 0; say = 0; lacked = 0 }

-- a call is the first of those that fail from it on, or one behind it
abbrev pub IsStopped : Option ℕ → ℕ → Type 0
IsStopped None call = ⊥
IsStopped (Some first) call = first ≤ call

-- the next call is to fail
abbrev pub IsNextFailing : MemFaults → Type 0
IsNextFailing faults = Contains faults.fails (raised faults.calls) ⊎ IsStopped faults.stop (raised faults.calls)

-- one more call
abbrev pub counted : MemFaults → MemFaults
counted faults = record faults { calls = raised faults.calls }

-- one more call on files has failed
abbrev pub disk_failed : MemFaults → MemFaults
disk_failed faults = record faults { disk = raised faults.disk }

-- one more say has failed
abbrev pub say_failed : MemFaults → MemFaults
say_failed faults = record faults { say = raised faults.say }

-- one more call has found no memory
abbrev pub lacking : MemFaults → MemFaults
lacking faults = record faults { lacked = raised faults.lacked }

-- a call fails exactly where it is told to, or where it finds no memory, which an Ok never did
pub record IsAsTold {T E : Type 0} (old new : MemFaults) (result : Result T E) : Type 0 where
  pub told : IsNextFailing old → IsErr result
  pub only : IsErr result → IsNextFailing old ⊎ HasRisen old.lacked new.lacked
  pub ok : OnOk result (new.lacked ≡ old.lacked)
  pub counted : new.calls ≡ raised old.calls
  pub fails : new.fails ≡ old.fails
  pub stop : new.stop ≡ old.stop
