-- What files in memory have.
use Rattle.std.specs.Prelude.{Option}
use Rattle.std.specs.declared.option.Option.TheVariants.{None, Some}
use Rattle.std.specs.BTreeMap as tree
use Rattle.chv_site.specs.declared.file_id.FileId.{FileId}
use Rattle.chv_site.specs.declared.mem_file.MemFile.{MemFile}
use Rattle.chv_site.specs.declared.file_store.FileStore.{FileStore}
use Rattle.chv_site.specs.MemFile.{kept_in_file}
use Rattle.chv_site.specs.Calls.{Kept, fresh, id_cmp}

-- a file that may be absent
abbrev pub kept_in : Option MemFile → Kept
kept_in (Some file) = kept_in_file file
kept_in None = fresh

-- a file of the store
abbrev pub kept_of : FileStore → FileId → Kept
kept_of store f = kept_in (tree.get id_cmp store.by_id f)
