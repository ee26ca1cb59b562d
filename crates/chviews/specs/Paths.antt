-- Where a file of the store stands: docs/FORMATS.md, "Files".
use Rattle.std.specs.Prelude.{ℕ, List, ◌++◌, codes}
use Rattle.std.specs.Fmt.{decimal}
use Rattle.chv_site.specs.declared.file_id.FileId.{FileId}

-- part p of table t is the file t<t>-p<p>.bin of the folder chviews-data, both numbers in decimal
abbrev pub path_of : FileId → List ℕ
path_of f = codes "chviews-data/t" ++ (decimal f.table ++ (codes "-p" ++ (decimal f.part ++ codes ".bin")))
