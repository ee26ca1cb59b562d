-- Why the files of a table were not read, as the fault of the table.
use Rattle.std.specs.Prelude.{ℕ}
use Rattle.chv_gate.specs.declared.fault.GateFault.{GateFault}
use Rattle.chv_part.specs.declared.damage.Damage.{Damage}
use Rattle.chv_part.specs.declared.reading.PartFault.{PartFault}
use Rattle.chv_table.specs.declared.fault.TableFault.{TableFault}

-- why its log was not read on
abbrev pub log_fault_of : ℕ → GateFault → TableFault
log_fault_of number GateFault.Failed = TableFault.Failed
log_fault_of number GateFault.NoMemory = TableFault.NoMemory
log_fault_of number (GateFault.Damaged at) = TableFault.Damaged (Damage.Log number at)

-- why one of its parts was not read
abbrev pub part_fault_of : ℕ → ℕ → PartFault → TableFault
part_fault_of number part PartFault.Failed = TableFault.Failed
part_fault_of number part (PartFault.Hash kept found) = TableFault.Damaged (Damage.PartHash number part kept found)
part_fault_of number part PartFault.Shape = TableFault.Damaged (Damage.PartShape number part)
part_fault_of number part PartFault.NoMemory = TableFault.NoMemory
