-- What a file in memory stands for.
use Rattle.chv_site.specs.declared.mem_file.MemFile.{MemFile}
use Rattle.chv_site.specs.Calls.{Kept}

-- the file, and its bytes at its last sync
abbrev pub kept_in_file : MemFile → Kept
kept_in_file file = record {
  state = record { bytes = file.bytes.items; least = file.least; most = file.most; touched = file.touched.items };
  synced = file.synced.items;
}
