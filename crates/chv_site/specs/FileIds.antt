-- The files of a store by what they are.
use Rattle.std.specs.Prelude.{ℕ}
use Rattle.chv_site.specs.declared.file_id.FileId.{FileId}

-- the log of the catalog
abbrev pub catalog_log : FileId
catalog_log = record { table = 0; part = 0 }

-- the log of a table
abbrev pub table_log : ℕ → FileId
table_log t = record { table = t; part = 0 }

-- a part of a table
abbrev pub part_of : ℕ → ℕ → FileId
part_of t p = record { table = t; part = p }
