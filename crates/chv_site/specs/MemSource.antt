-- What a source in memory has.
use Rattle.std.specs.Prelude.{ℕ, List, drop}
use Rattle.chv_site.specs.declared.mem_source.MemSource.{MemSource}

-- the bytes that are left
abbrev pub source_left : MemSource → List ℕ
source_left s = drop s.place s.bytes.items

-- the numbers of the pulls that fail
abbrev pub source_fails : MemSource → List ℕ
source_fails s = s.fails

-- how many pulls there were
abbrev pub source_calls : MemSource → ℕ
source_calls s = s.calls

-- how many of them failed
abbrev pub source_faults : MemSource → ℕ
source_faults s = s.faults
