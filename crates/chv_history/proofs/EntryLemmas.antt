-- The books of a history behind a commit, and behind an accepted statement.
use Rattle.std.proofs.Common.{◌≡◌, ◌≢◌, inl, inr, ℕ, ◌+◌, suc, List, [], ◌∷◌, ◌++◌, length, map, refl, sym, ap, ap₂, subst, ◌∙◌}
use Rattle.std.proofs.lemmas.Bool.{cases_eq}
use Rattle.std.proofs.lemmas.List.{append-nil, length-append, length-map, map-append}
use Rattle.chv_catalog.specs.declared.definition.Definition.{Definition}
use Rattle.chv_catalog.specs.declared.definition.Definition.TheVariants.{Table, View}
use Rattle.chv_commit.specs.Replays.{Span}
use Rattle.chv_query.specs.Accepted.{Accepted, tables_of}
use Rattle.chv_part.specs.Arriving.{fresh, with_part}
use Rattle.chv_part.specs.Books.{Book, Entry, no_book, ids_of, arrived, committed}
use Rattle.chv_query.specs.Arrivals.{Arrival, entry_in}
use Rattle.chv_part.proofs.BookLemmas.{committed-arrived}
use Rattle.chv_sip.specs.declared.block_id.BlockId.{BlockId}
use Rattle.chv_history.specs.Events.{with_arrivals, with_commit, written_in}
use Rattle.chv_history.specs.Histories.{History, book_of, ids_in, put_at, window_at, with_accepted, with_none}
use Rattle.chv_history.specs.Runs.{entries_in}
use Rattle.chv_history.proofs.ArrivingLemmas.{fresh-entries, ids-entries, put_at-same, put_at-other}
use Rattle.chv_history.proofs.CommitLemmas.{arrivals-with_commit}

-- a book and the number of its entries, and their ids, are those of what arrived
pub length-entries : (history : History) (table : ℕ) → length (book_of history table).entries ≡ entries_in history table
length-entries history table = length-map (history.arrivals table) entry_in

pub ids_of-book_of : (history : History) (table : ℕ) → ids_of (book_of history table) ≡ ids_in (history.arrivals table)
ids_of-book_of history table = ids-entries (history.arrivals table)

-- a book with entries more, in a part of their own
abbrev pub with_entries : List Entry → Book → Book
with_entries new book = record { entries = book.entries ++ new; layout = with_part (length book.entries) (length new) book.layout }

book_of-with_arrivals : (table : ℕ) (new : List Arrival) (history : History) → book_of (with_arrivals table new history) table ≡ with_entries (map entry_in new) (book_of history table)
book_of-with_arrivals table [] history = ap (λ (entries : List Entry). record { entries = entries; layout = history.layouts table }) (sym (append-nil (map entry_in (history.arrivals table))))
book_of-with_arrivals table (a ∷ new) history =
    let old = history.arrivals table in
    ap₂ (λ (entries : List Entry) (layout : List Span). record { entries = entries; layout = layout })
    (ap (map entry_in) (put_at-same table (old ++ a ∷ new) history.arrivals) ∙ map-append entry_in old (a ∷ new))
    (put_at-same table (with_part (length old) (suc (length new)) (history.layouts table)) history.layouts
    ∙ ap₂ (λ (entries more : ℕ). with_part entries (suc more) (history.layouts table)) (sym (length-map old entry_in)) (sym (length-map new entry_in)))

-- a commit to a table is a commit to its book
pub book_of-commit : (table : ℕ) (arrivals : List Arrival) (history : History)
    → book_of (with_commit table arrivals history) table ≡ committed (window_at (tables_of history.schema) table) (map entry_in arrivals) (book_of history table)
book_of-commit table arrivals history =
    let window = window_at (tables_of history.schema) table in
    book_of-with_arrivals table (written_in table arrivals history) history
    ∙ ap (λ (new : List Entry). with_entries new (book_of history table))
    (sym (fresh-entries window (ids_in (history.arrivals table)) arrivals)
    ∙ ap (λ (ids : List BlockId). fresh (λ (e : Entry). e.id) window ids (map entry_in arrivals)) (sym (ids_of-book_of history table)))

-- so one block arrives in its table's book
pub book_of-arrived : (table : ℕ) (arrival : Arrival) (history : History)
    → book_of (with_commit table (arrival ∷ []) history) table ≡ arrived (window_at (tables_of history.schema) table) (entry_in arrival) (book_of history table)
book_of-arrived table arrival history = book_of-commit table (arrival ∷ []) history ∙ committed-arrived (window_at (tables_of history.schema) table) (entry_in arrival) (book_of history table)

-- every other book is as it was
other_book : (table n : ℕ) (new : List Arrival) (history : History) → n ≢ table → book_of (with_arrivals table new history) n ≡ book_of history n
other_book table n [] history other = refl
other_book table n (a ∷ new) history other =
    ap₂ (λ (arrivals : List Arrival) (layout : List Span). record { entries = map entry_in arrivals; layout = layout })
    (put_at-other table n (history.arrivals table ++ a ∷ new) history.arrivals other)
    (put_at-other table n (with_part (length (history.arrivals table)) (suc (length new)) (history.layouts table)) history.layouts other)

pub book_of-other : (table n : ℕ) (arrivals : List Arrival) (history : History) → n ≢ table → book_of (with_commit table arrivals history) n ≡ book_of history n
book_of-other table n arrivals history other = other_book table n (written_in table arrivals history) history other

-- all books behind one block that arrives
pub books-arrived : (table : ℕ) (arrival : Arrival) (history : History) (n : ℕ)
    → book_of (with_commit table (arrival ∷ []) history) n ≡ put_at table (arrived (window_at (tables_of history.schema) table) (entry_in arrival) (book_of history table)) (book_of history) n
books-arrived table arrival history n =
    let next = arrived (window_at (tables_of history.schema) table) (entry_in arrival) (book_of history table) in
    elim (cases_eq n table) as (λ _. book_of (with_commit table (arrival ∷ []) history) n ≡ put_at table next (book_of history) n) [
      | inl same ↦
          subst (λ (m : ℕ). book_of (with_commit table (arrival ∷ []) history) m ≡ put_at table next (book_of history) m) (sym same)
          (book_of-arrived table arrival history ∙ sym (put_at-same table next (book_of history)))
      | inr other ↦ book_of-other table n (arrival ∷ []) history other ∙ sym (put_at-other table n next (book_of history) other)
    ]

-- of a new table there is no book; a view changes nothing
abbrev pub with_new_book : Definition → ℕ → (ℕ → Book) → ℕ → Book
with_new_book (Table def) number books = put_at number no_book books
with_new_book (View def) number books = books

-- and behind an accepted statement
books-defined : (definition : Definition) (number : ℕ) (history : History) (n : ℕ)
    → record { entries = map entry_in (with_none definition number history.arrivals n); layout = with_none definition number history.layouts n } ≡ with_new_book definition number (book_of history) n
books-defined (Table def) number history n =
    let both : List Arrival → List Span → Book = λ arrivals layout. record { entries = map entry_in arrivals; layout = layout } in
    let Same : ℕ → Type 0 = λ k. both (put_at number [] history.arrivals k) (put_at number [] history.layouts k) ≡ put_at number no_book (book_of history) k in
    elim (cases_eq n number) as (λ _. Same n) [
      | inl same ↦
          subst Same (sym same)
          (ap₂ both (put_at-same number [] history.arrivals) (put_at-same number [] history.layouts) ∙ sym (put_at-same number no_book (book_of history)))
      | inr other ↦
          ap₂ both (put_at-other number n [] history.arrivals other) (put_at-other number n [] history.layouts other)
          ∙ sym (put_at-other number n no_book (book_of history) other)
    ]
books-defined (View def) number history n = refl

pub books-accepted : (accepted : Accepted) (history : History) (n : ℕ)
    → book_of (with_accepted accepted history) n ≡ with_new_book accepted.definition (length (tables_of history.schema) + 1) (book_of history) n
books-accepted accepted history n = books-defined accepted.definition (length (tables_of history.schema) + 1) history n

-- how many entries a table has behind a commit
pub entries_in-commit : (table : ℕ) (arrivals : List Arrival) (history : History) → entries_in (with_commit table arrivals history) table ≡ entries_in history table + length (written_in table arrivals history)
entries_in-commit table arrivals history =
    ap length (arrivals-with_commit table arrivals history) ∙ length-append (history.arrivals table) (written_in table arrivals history)
