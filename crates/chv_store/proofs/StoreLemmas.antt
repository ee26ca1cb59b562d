-- What a store and its files stand for: as long as the files are as they were, and in what a crash leaves of them.
use Rattle.std.proofs.Common.{◌≡◌, ◌≢◌, ℕ, zero, suc, ◌+◌, ◌<◌, ◌≤◌, List, [], ◌∷◌, length, map, slice_get, Some, refl, sym, ap, subst, ◌∙◌, arith}
use Rattle.std.proofs.lemmas.List.{length-map}
use Rattle.std.proofs.lemmas.Option.{same_Some}
use Rattle.chv_catalog.specs.declared.table_def.TableDef.{TableDef}
use Rattle.chv_site.specs.declared.file_id.FileId.{FileId}
use Rattle.chv_site.specs.FileIds.{table_log}
use Rattle.chv_site.specs.Files.{FileState}
use Rattle.chv_site.specs.Images.{Image, IsFileImage, IsImage}
use Rattle.chv_gate.specs.GateLog.{HasFrames}
use Rattle.chv_gate.proofs.CrashLemmas.{ready_image}
use Rattle.chv_part.specs.Books.{TableForm, Book}
use Rattle.chv_part.specs.Forms.{form_of}
use Rattle.chv_part.specs.Standing.{FilesStand, TableStands}
use Rattle.chv_table.specs.Tables.{HoldsBook}
use Rattle.chv_table.specs.Tables.{IsPlaced as IsTablePlaced}
use Rattle.chv_table.specs.declared.table.Table.{Table}
use Rattle.chv_table.proofs.TableLemmas.{table_left, holds_book_kept}
use Rattle.chv_store.specs.Holding.{HoldsBooks}
use Rattle.chv_store.specs.Stores.{EachTable, IsHeldAs, IsWithin, forms_of}
use Rattle.chv_store.specs.declared.store.Store.{Store}
use Rattle.chv_store.proofs.EachTableLemmas.{each-at, each-both}

-- the form at a place is that of the definition there
pub form_at : (defs : List TableDef) (place : ℕ) (form : TableForm) → slice_get (map form_of defs) place ≡ Some form → (def : TableDef) × (slice_get defs place ≡ Some def) × (form_of def ≡ form)
form_at [] place form at = absurd (cc at)
form_at (def ∷ defs) zero form at = (def, refl, same_Some (form_of def) form at)
form_at (def ∷ defs) (suc place) form at = form_at defs place form at

-- there are as many forms as tables
pub forms-length : (store : Store) → length (forms_of store) ≡ length store.schema.catalog.tables
forms-length store = length-map store.schema.catalog.tables form_of

-- the numbers held of a table are those of its definition, and with its files it stands for the book of its number
abbrev pub IsHeldWith : (FileId → FileState) → (ℕ → Book) → ℕ → TableDef → Table → Type 0
IsHeldWith files books number def table = IsHeldAs number def table × HoldsBook table files (books number)

pub each-held : (store : Store) (files : FileId → FileState) (payloads : List (List ℕ)) (books : ℕ → Book) → IsWithin store → HoldsBooks store files payloads books
    → EachTable (IsHeldWith files books) 1 store.schema.catalog.tables store.tables.items
each-held store files payloads books within held =
    each-both IsHeldAs (λ number def table. HoldsBook table files (books number)) 1 store.schema.catalog.tables store.tables.items within.tables held.tables

-- a table holds its book as long as its own files are as they were
pub book_kept : (old new : FileId → FileState) (number : ℕ) (def : TableDef) (table : Table) (book : Book) → ((f : FileId) → f.table ≡ number → new f ≡ old f) → IsHeldAs number def table → HoldsBook table old book → HoldsBook table new book
book_kept old new number def table book kept held holds = holds_book_kept table old new book held.0 (λ f same. kept f (same ∙ held.1.number_is)) holds

-- the log of a table is one of the files of its number
pub log_number : (number : ℕ) (def : TableDef) (table : Table) → IsHeldAs number def table → table.log.file.table ≡ number
log_number number def table held = ap (λ (f : FileId). f.table) held.0.log ∙ held.1.number_is

-- and its standing gate is in its file as long as that is as it was
pub placed_kept : (old new : FileId → FileState) (number : ℕ) (def : TableDef) (table : Table) → ((f : FileId) → f.table ≡ number → new f ≡ old f) → IsHeldAs number def table → IsTablePlaced table old → IsTablePlaced table new
placed_kept old new number def table kept held placed =
    subst (λ (s : FileState). table.log.gate < length s.bytes) (sym (kept table.log.file (log_number number def table held))) placed

-- a table's files are not the catalog's
pub catalog_apart : (store : Store) (f : FileId) → IsWithin store → 1 ≤ f.table → f ≢ store.catalog.file
catalog_apart store f within some same = let e : f.table ≡ 0 = ap (λ (g : FileId). g.table) (same ∙ within.catalog) in omega (arith, some, e)

-- what a crash leaves of a table that is held stands for its book
held_left : (files : FileId → FileState) (image : Image) (books : ℕ → Book) (number : ℕ) (def : TableDef) (table : Table) → IsHeldWith files books number def table
    → ((f : FileId) → f.table ≡ number → IsFileImage (files f) (image f)) → TableStands image number (form_of def) (books number)
held_left files image books number def table held is =
    let left = table_left table files image (books number) held.0.0 held.1 (λ f same. is f (same ∙ held.0.1.number_is)) in
    subst (λ (n : ℕ). TableStands image n (form_of def) (books number)) held.0.1.number_is
    (subst (λ (form : TableForm). TableStands image table.number form (books number)) held.0.1.form_is left)

module _ (store : Store) (files : FileId → FileState) (payloads : List (List ℕ)) (books : ℕ → Book) (within : IsWithin store) (held : HoldsBooks store files payloads books) (image : Image) where
  -- what a crash leaves of the catalog's log has its frames
  pub catalog_left : IsFileImage (files store.catalog.file) (image store.catalog.file) → HasFrames payloads (image store.catalog.file)
  catalog_left is = ready_image store.catalog.gate payloads (files store.catalog.file) held.catalog (image store.catalog.file) is

  -- the files of one table of a store stand for its book, where a crash leaves them so
  pub table_stands : (place : ℕ) (form : TableForm) → slice_get (forms_of store) place ≡ Some form → ((f : FileId) → f.table ≡ place + 1 → IsFileImage (files f) (image f)) → TableStands image (place + 1) form (books (place + 1))
  table_stands place form at is =
      let def = form_at store.schema.catalog.tables place form at in
      let there = each-at (IsHeldWith files books) 1 place store.schema.catalog.tables store.tables.items def.0 (each-held store files payloads books within held) def.1 in
      let number : 1 + place ≡ place + 1 = omega arith in
      subst (λ (f : TableForm). TableStands image (place + 1) f (books (place + 1))) def.2
      (held_left files image books (place + 1) def.0 there.table (subst (λ (n : ℕ). IsHeldWith files books n def.0 there.table) number there.holds) is)

  -- what a crash leaves of a log of no table has at most one byte
  pub short_left : (table : ℕ) → length (forms_of store) < table → IsFileImage (files (table_log table)) (image (table_log table)) → length (image (table_log table)) ≤ 1
  short_left table beyond is = let long = is.no_longer in omega (arith, long, held.others table (omega (arith, beyond, forms-length store)))

  -- what a crash leaves of a store stands for what it holds
  pub image_stands : IsImage files image → FilesStand image payloads (forms_of store) books
  image_stands is = record {
    catalog = subst (λ (f : FileId). HasFrames payloads (image f)) within.catalog (catalog_left (is store.catalog.file));
    tables = λ place form at. table_stands place form at (λ f same. is f);
    others = λ table beyond. short_left table beyond (is (table_log table));
  }
