-- What a store and its files stand for.
use Rattle.std.specs.Prelude.{ℕ, ◌≡◌, ◌<◌, ◌≤◌, ◌==◌, List, length, if◌then◌else◌}
use Rattle.chv_commit.specs.declared.commit.Commit.{Commit}
use Rattle.chv_gate.specs.GateLog.{IsReady}
use Rattle.chv_part.specs.Books.{TableForm, Book}
use Rattle.chv_part.specs.Standing.{FilesStand}
use Rattle.chv_site.specs.FileIds.{table_log}
use Rattle.chv_site.specs.Files.{FileState, settled}
use Rattle.chv_site.specs.declared.file_id.FileId.{FileId}
use Rattle.chv_table.specs.Tables.{HoldsBook, HoldsCommits}
use Rattle.chv_store.specs.Stores.{EachTable}
use Rattle.chv_store.specs.declared.store.Store.{Store}

-- another one for one number
abbrev pub with_one : {A : Type 0} → ℕ → A → (ℕ → A) → ℕ → A
with_one number new each = λ n. if n == number then new else each n

-- another book for one table
abbrev pub with_book : ℕ → Book → (ℕ → Book) → ℕ → Book
with_book table book books = with_one table book books

-- a store with its files: the catalog's log is ready behind these payloads, each table holds its book, and no other table
-- has a log of which a crash leaves more than a torn gate
pub record HoldsBooks (store : Store) (files : FileId → FileState) (payloads : List (List ℕ)) (books : ℕ → Book) : Type 0 where
  pub catalog : IsReady store.catalog.gate payloads (files store.catalog.file)
  pub tables : EachTable (λ number def table. HoldsBook table files (books number)) 1 store.schema.catalog.tables store.tables.items
  pub others : (table : ℕ) → length store.schema.catalog.tables < table → (files (table_log table)).most ≤ 1

-- and with no word on parts: each table's log is ready behind its commits, which say what is held
pub record HoldsLogs (store : Store) (files : FileId → FileState) (payloads : List (List ℕ)) (commits : ℕ → List Commit) : Type 0 where
  pub catalog : IsReady store.catalog.gate payloads (files store.catalog.file)
  pub tables : EachTable (λ number def table. HoldsCommits table files (commits number)) 1 store.schema.catalog.tables store.tables.items

-- before a store is opened: its files stand for payloads, forms and books, and nothing is pending
pub record FilesSettle (files : FileId → FileState) (payloads : List (List ℕ)) (forms : List TableForm) (books : ℕ → Book) : Type 0 where
  pub settled_files : (f : FileId) → files f ≡ settled (files f).bytes
  pub stands : FilesStand (λ f. (files f).bytes) payloads forms books
