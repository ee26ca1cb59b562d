-- What one table has.
use Rattle.std.specs.Prelude.{ℕ, Bool, ◌≡◌, ◌+◌, ◌-◌, ◌≤◌, List, [], ◌∷◌, ◌++◌, length, map, slice_range, if◌then◌else◌}
use Rattle.std.specs.List.{All, flat_map, list_any}
use Rattle.chv_block.specs.Spellings.{AllAreOf}
use Rattle.chv_commit.specs.Replays.{MAX_ENTRIES, Span, AreRuns}
use Rattle.chv_merge.specs.NormalForms.{normal_form_of}
use Rattle.chv_part.specs.Arriving.{fresh, with_part}
use Rattle.chv_sip.specs.BlockIds.{id_eq, last_ids}
use Rattle.chv_sip.specs.declared.block_id.BlockId.{BlockId}
use Rattle.chv_types.specs.declared.kind.Kind.{Kind}
use Rattle.chv_types.specs.declared.table.Engine.{Engine}
use Rattle.chv_types.specs.declared.value.Value.{Value}

-- what a table's definition says of its files: what a merge does with its rows, how many ids its window has, the kinds of its
-- columns, and the places of its key's columns
pub record TableForm : Type 0 where
  pub engine : Engine
  pub window : ℕ
  pub kinds : List Kind
  pub key : List ℕ

-- the kinds of a table's columns: from 1 to 64
pub record AreColumns (kinds : List Kind) : Type 0 where
  pub some : 1 ≤ length kinds
  pub most : length kinds ≤ 64

-- a block that arrived in a table: its id, and its rows in normal form
pub record Entry : Type 0 where
  pub id : BlockId
  pub rows : List (List Value)

-- what one table has: its blocks in the order of arrival, and its live parts in order
pub record Book : Type 0 where
  pub entries : List Entry
  pub layout : List Span

abbrev pub no_book : Book
no_book = record { entries = []; layout = [] }

-- the most rows of a block
abbrev pub MAX_ROWS : ℕ
MAX_ROWS = 1048576

-- rows as a table of this form keeps them
abbrev pub normal_rows : TableForm → List (List Value) → List (List Value)
normal_rows form rows = normal_form_of form.engine form.kinds form.key rows

-- an entry of a table of this form: one row or more of its kinds, in normal form
pub record IsEntry (form : TableForm) (entry : Entry) : Type 0 where
  pub kinds_fit : AllAreOf form.kinds entry.rows
  pub normal : normal_rows form entry.rows ≡ entry.rows
  pub some : 1 ≤ length entry.rows
  pub most : length entry.rows ≤ MAX_ROWS

-- the ids of a table's entries, in the order of arrival
abbrev pub ids_of : Book → List BlockId
ids_of book = map (λ (entry : Entry). entry.id) book.entries

-- an id is among the last ids of a table with this window
abbrev pub is_recent : ℕ → BlockId → Book → Bool
is_recent window id book = list_any (id_eq id) (last_ids window (ids_of book))

-- a new entry has a part of its own
abbrev pub appended : Entry → Book → Book
appended entry book =
    let place = length book.entries + 1 in
    record { entries = book.entries ++ entry ∷ []; layout = book.layout ++ record { lo = place; hi = place; level = 0 } ∷ [] }

-- a block arrives in a table with this window: it is skipped where its id is among the last
abbrev pub arrived : ℕ → Entry → Book → Book
arrived window entry book = if is_recent window entry.id book then book else appended entry book

-- a commit of blocks that arrive one after the other: those that are not skipped have one part of their own
abbrev pub committed : ℕ → List Entry → Book → Book
committed window entries book =
    let new = fresh (λ (entry : Entry). entry.id) window (ids_of book) entries in
    record { entries = book.entries ++ new; layout = with_part (length book.entries) (length new) book.layout }

-- between two entries with one id stand as many others as the window has, or more
pub record IsSpaced (window : ℕ) (ids : List BlockId) : Type 0 where
  pub apart : (older between newer : List BlockId) (id : BlockId) → ids ≡ older ++ id ∷ (between ++ id ∷ newer) → window ≤ length between

-- a table of this form can have this book
pub record IsLawfulBook (form : TableForm) (book : Book) : Type 0 where
  pub entries : All (IsEntry form) book.entries
  pub bounded : length book.entries ≤ MAX_ENTRIES
  pub runs : AreRuns 1 (length book.entries) book.layout
  pub spaced : IsSpaced form.window (ids_of book)

-- all rows of a table, in the order of arrival
abbrev pub rows_in : Book → List (List Value)
rows_in book = flat_map (λ (entry : Entry). entry.rows) book.entries

-- the rows of a part that holds the entries from one to another, both counted, the first being 1: theirs in normal form
abbrev pub part_rows : TableForm → Book → ℕ → ℕ → List (List Value)
part_rows form book lo hi = normal_rows form (flat_map (λ (entry : Entry). entry.rows) (slice_range book.entries (lo - 1) hi))
