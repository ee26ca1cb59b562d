-- The causes of a fault that ends a run.
use Rattle.std.specs.Prelude.{◌≡◌, ◌≤◌, Bool, Result, Err, IsErrOf}
use Rattle.chv_site.specs.Faults.{HasRisen}
use Rattle.chv_site.specs.Outside.{Outside}
use Rattle.chv_table.specs.declared.fault.PutFault.{PutFault}
use Rattle.chv_table.specs.declared.fault.PutFault.TheVariants as put
use Rattle.chv_table.specs.declared.fault.TableFault.{TableFault}
use Rattle.chv_table.specs.declared.fault.TableFault.TheVariants as table
use Rattle.chv_flight.specs.declared.fault.RunFault.{RunFault}
use Rattle.chv_flight.specs.declared.fault.RunFault.TheVariants.{Disk, Say, Damaged, NoMemory}

-- a table that was not made ends the run
abbrev pub put_fault_of : PutFault → RunFault
put_fault_of put.Failed = Disk
put_fault_of put.NoMemory = NoMemory

-- a table that was not opened, or not read, ends the run
abbrev pub table_fault_of : TableFault → RunFault
table_fault_of table.Failed = Disk
table_fault_of (table.Damaged damage) = Damaged damage
table_fault_of table.NoMemory = NoMemory

-- no count falls; a fault of the disk or of the console comes only where its count rose, and without it that count stays
pub record CountsRun {T : Type 0} (result : Result T RunFault) (old new : Outside) : Type 0 where
  pub disk_keeps : old.disk_faults ≤ new.disk_faults
  pub say_keeps : old.say_faults ≤ new.say_faults
  pub disk : IsErrOf result Disk → HasRisen old.disk_faults new.disk_faults
  pub say : IsErrOf result Say → HasRisen old.say_faults new.say_faults
  pub disk_stays : (IsErrOf result Disk → ⊥) → new.disk_faults ≡ old.disk_faults
  pub say_stays : (IsErrOf result Say → ⊥) → new.say_faults ≡ old.say_faults

-- the counts of a call that answers the fault that ends the run
abbrev pub CountsFault : RunFault → Outside → Outside → Type 0
CountsFault fault old new = CountsRun {T = Bool} (Err fault) old new
