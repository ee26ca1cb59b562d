-- What a store has, and what its files hold where they stand for it.
use Rattle.std.specs.Prelude.{ℕ, ◌≡◌, ◌+◌, ◌-◌, ◌==◌, List, [], ◌∷◌, ◌++◌, length, map, if◌then◌else◌, Option, None, Some, slice_get}
use Rattle.std.specs.List.{All}
use Rattle.chv_catalog.specs.declared.definition.Definition.{Definition}
use Rattle.chv_catalog.specs.declared.definition.Definition.TheVariants.{Table, View}
use Rattle.chv_catalog.specs.declared.table_def.TableDef.{TableDef}
use Rattle.chv_commit.specs.Replays.{Span}
use Rattle.chv_query.specs.Accepted.{Accepted, catalog_of, tables_of, IsSchema, catalog_payload}
use Rattle.chv_part.specs.Books.{TableForm, Book, IsLawfulBook}
use Rattle.chv_part.specs.Forms.{form_of}
use Rattle.chv_part.specs.Standing.{FilesStand}
use Rattle.chv_query.specs.Arrivals.{Arrival, entry_in, IsArrival}
use Rattle.chv_sip.specs.declared.block_id.BlockId.{BlockId}
use Rattle.chv_site.specs.declared.file_id.FileId.{FileId}
use Rattle.chv_site.specs.Files.{FileState, settled}

-- what a store has: its accepted statements in order; and, by the number of each table, counted from 1, what arrived there in
-- order, and its live parts
pub record History : Type 0 where
  pub schema : List Accepted
  pub arrivals : ℕ → List Arrival
  pub layouts : ℕ → List Span

-- the history of a new store
abbrev pub no_history : History
no_history = record { schema = []; arrivals = λ _. []; layouts = λ _. [] }

-- the book of a table
abbrev pub book_of : History → ℕ → Book
book_of history table = record { entries = map entry_in (history.arrivals table); layout = history.layouts table }

-- the ids under which blocks arrived
abbrev pub ids_in : List Arrival → List BlockId
ids_in arrivals = map (λ (arrival : Arrival). arrival.id) arrivals

-- the forms of a schema's tables, in the order of creation
abbrev pub forms_of : List Accepted → List TableForm
forms_of schema = map form_of (tables_of schema)

-- how many ids the window of a table has
abbrev pub window_in : Option TableDef → ℕ
window_in None = 0
window_in (Some def) = def.window

-- how many ids the window of the table of a number has
abbrev pub window_at : List TableDef → ℕ → ℕ
window_at tables table = window_in (slice_get tables (table - 1))

-- what is there by number, with this at one number
abbrev pub put_at : {A : Type 0} → ℕ → A → (ℕ → A) → ℕ → A
put_at number new old = λ n. if n == number then new else old n

-- of what is there by number, none for a new table; a view changes nothing
abbrev pub with_none : {A : Type 0} → Definition → ℕ → (ℕ → List A) → ℕ → List A
with_none (Table def) number each = put_at number [] each
with_none (View def) number each = each

-- a history with a definition more: where it is a table's, the table is the last, and nothing has arrived there
abbrev pub with_accepted : Accepted → History → History
with_accepted accepted history =
    let number = length (tables_of history.schema) + 1 in
    record {
      schema = history.schema ++ accepted ∷ [];
      arrivals = with_none accepted.definition number history.arrivals;
      layouts = with_none accepted.definition number history.layouts;
    }

-- a history is lawful: its statements are accepted one after the other; what arrived in a table came along a path that leads
-- there; and its book is one that it can have
pub record IsLawful (history : History) : Type 0 where
  pub schema : IsSchema history.schema
  pub arrivals : (place : ℕ) (def : TableDef) → slice_get (tables_of history.schema) place ≡ Some def → All (IsArrival (catalog_of history.schema) (place + 1)) (history.arrivals (place + 1))
  pub books : (place : ℕ) (form : TableForm) → slice_get (forms_of history.schema) place ≡ Some form → IsLawfulBook form (book_of history (place + 1))

-- the files stand for a history, which is lawful: the catalog's log has the texts of its schema, and each table's files stand
-- for its book
pub record Stands (files : FileId → List ℕ) (history : History) : Type 0 where
  pub lawful : IsLawful history
  pub files_stand : FilesStand files (map catalog_payload history.schema) (forms_of history.schema) (book_of history)

-- files that stand for a history, of which nothing is pending
pub record Settles (files : FileId → FileState) (history : History) : Type 0 where
  pub settled_files : (f : FileId) → files f ≡ settled (files f).bytes
  pub stands : Stands (λ f. (files f).bytes) history
