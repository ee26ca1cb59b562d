-- A history stays lawful as a table or a view is made and as blocks arrive.
use Rattle.std.proofs.Common.{◌≡◌, ◌≢◌, ◌⊎◌, inl, inr, ℕ, zero, suc, ◌+◌, ◌-◌, ◌<◌, ◌≤◌, Bool, true, false, List, [], ◌∷◌, ◌++◌, length, map, slice_get, Some, All, refl, sym, ap, ap₂, subst, ◌∙◌, arith}
use Rattle.std.proofs.lemmas.Bool.{cases_eq}
use Rattle.std.proofs.lemmas.List.{append-nil, length-map, map-append}
use Rattle.std.proofs.lemmas.List.Elements.{All-nil, All-push, All-weaker}
use Rattle.std.proofs.lemmas.Option.{slice_get_within}
use Rattle.chv_catalog.specs.Schemas.{Catalog}
use Rattle.chv_catalog.specs.declared.definition.Definition.{Definition}
use Rattle.chv_catalog.specs.declared.definition.Definition.TheVariants.{Table, View}
use Rattle.chv_catalog.specs.declared.table_def.TableDef.{TableDef}
use Rattle.chv_commit.specs.Replays.{MAX_ENTRIES, Span}
use Rattle.chv_query.specs.Accepted.{Accepted, IsAccepted, IsSchema, catalog_of, tables_in, tables_of}
use Rattle.chv_query.proofs.AcceptedLemmas.{IsSchema-push, tables_of-push}
use Rattle.chv_part.specs.Books.{TableForm, IsLawfulBook, no_book, arrived}
use Rattle.chv_part.specs.Forms.{form_of}
use Rattle.chv_part.proofs.BookLemmas.{IsLawfulBook-arrived, IsLawfulBook-no_book}
use Rattle.chv_query.specs.Arrivals.{Arrival, IsArrival, entry_in}
use Rattle.chv_query.specs.Derived.{def_at}
use Rattle.chv_query.proofs.GrowthLemmas.{IsArrival-more}
use Rattle.chv_history.specs.Events.{with_commit, written_in}
use Rattle.chv_history.specs.Histories.{History, IsLawful, book_of, forms_of, window_at, window_in, with_accepted, with_none}
use Rattle.chv_history.specs.Runs.{entries_in}
use Rattle.chv_history.proofs.ArrivingLemmas.{with_none-new, with_none-other}
use Rattle.chv_query.proofs.EntryLemmas.{arrival-entry}
use Rattle.chv_history.proofs.CommitLemmas.{arrivals-other, arrivals-with_commit, is_skipped, schema-with_commit, written_in-new, written_in-skipped}
use Rattle.chv_history.proofs.EntryLemmas.{book_of-arrived, book_of-other, length-entries}

-- the form at a place is that of the table there
pub form_at : (tables : List TableDef) (place : ℕ) (form : TableForm) → slice_get (map form_of tables) place ≡ Some form → (def : TableDef) × (slice_get tables place ≡ Some def) × (form ≡ form_of def)
form_at [] place form is = absurd (cc is)
form_at (def ∷ defs) zero form is = (def, refl, cc is)
form_at (def ∷ defs) (suc place) form is = form_at defs place form is

pub form_there : (tables : List TableDef) (place : ℕ) (def : TableDef) → slice_get tables place ≡ Some def → slice_get (map form_of tables) place ≡ Some (form_of def)
form_there [] place def is = absurd (cc is)
form_there (first ∷ defs) zero def is = let same : first ≡ def = cc is in ap (λ (d : TableDef). Some (form_of d)) same
form_there (first ∷ defs) (suc place) def is = form_there defs place def is

-- its window is that of the form
pub window_form : (tables : List TableDef) (place : ℕ) (form : TableForm) → slice_get (map form_of tables) place ≡ Some form → window_at tables (place + 1) ≡ form.window
window_form tables place form is =
    let at = form_at tables place form is in
    let same : place + 1 - 1 ≡ place = omega arith in
    ap (λ (p : ℕ). window_in (slice_get tables p)) same ∙ ap window_in at.1 ∙ ap (λ (f : TableForm). f.window) (sym at.2)

-- there is a form of each table
pub length-forms_of : (tables : List TableDef) → length (map form_of tables) ≡ length tables
length-forms_of tables = length-map tables form_of

-- what stands at a place of a list with an item more
pub slice_get-push : {X : Type 0} (xs : List X) (x y : X) (place : ℕ) → slice_get (xs ++ x ∷ []) place ≡ Some y → ((place < length xs) × (slice_get xs place ≡ Some y)) ⊎ ((place ≡ length xs) × (x ≡ y))
slice_get-push [] x y zero is = inr (refl, cc is)
slice_get-push [] x y (suc place) is = absurd (cc is)
slice_get-push (first ∷ xs) x y zero is = inl (omega arith, is)
slice_get-push (first ∷ xs) x y (suc place) is =
    elim (slice_get-push xs x y place is) as (λ _. ((suc place < length (first ∷ xs)) × (slice_get (first ∷ xs) (suc place) ≡ Some y)) ⊎ ((suc place ≡ length (first ∷ xs)) × (x ≡ y))) [
      | inl old ↦ inl (omega (arith, old.0), old.1)
      | inr new ↦ inr (omega (arith, new.0), new.1)
    ]

-- a table of a schema with a definition more is one from before, or the one that is defined, which is the last
pub table_cases : (tables : List TableDef) (definition : Definition) (place : ℕ) (def : TableDef) → slice_get (tables ++ tables_in definition) place ≡ Some def
    → ((place < length tables) × (slice_get tables place ≡ Some def)) ⊎ ((place ≡ length tables) × (definition ≡ Table def))
table_cases tables (Table new) place def is =
    elim (slice_get-push tables new def place is) as (λ _. ((place < length tables) × (slice_get tables place ≡ Some def)) ⊎ ((place ≡ length tables) × (Table new ≡ Table def))) [
      | inl old ↦ inl old
      | inr last ↦ inr (last.0, ap Table last.1)
    ]
table_cases tables (View new) place def is =
    let old : slice_get tables place ≡ Some def = subst (λ (defs : List TableDef). slice_get defs place ≡ Some def) (append-nil tables) is in
    inl (slice_get_within tables place def old, old)

-- the forms of a schema with a definition more
pub forms_of-push : (schema : List Accepted) (accepted : Accepted) → forms_of (schema ++ accepted ∷ []) ≡ forms_of schema ++ map form_of (tables_in accepted.definition)
forms_of-push schema accepted = ap (map form_of) (tables_of-push schema accepted) ∙ map-append form_of (tables_of schema) (tables_in accepted.definition)

module _ (accepted : Accepted) (history : History) (lawful : IsLawful history) where
  abbrev tables : List TableDef
  tables = tables_of history.schema

  abbrev number : ℕ
  number = length tables + 1

  abbrev more : List Accepted
  more = history.schema ++ accepted ∷ []

  abbrev Cases : ℕ → TableDef → Type 0
  Cases place def = ((place < length tables) × (slice_get tables place ≡ Some def)) ⊎ ((place ≡ length tables) × (accepted.definition ≡ Table def))

  new_cases : (place : ℕ) (def : TableDef) → slice_get (tables_of more) place ≡ Some def → Cases place def
  new_cases place def is = table_cases tables accepted.definition place def (subst (λ (defs : List TableDef). slice_get defs place ≡ Some def) (tables_of-push history.schema accepted) is)

  -- what arrived in each table, and its book: those from before, or none
  abbrev Arrived : ℕ → List Arrival → Type 0
  Arrived table arrivals = All (IsArrival (catalog_of more) table) arrivals

  still_arrivals : IsSchema more → (place : ℕ) (def : TableDef) → slice_get (tables_of more) place ≡ Some def → Arrived (place + 1) (with_none accepted.definition number history.arrivals (place + 1))
  still_arrivals schema place def is = elim (new_cases place def is) as (λ _. Arrived (place + 1) (with_none accepted.definition number history.arrivals (place + 1))) [
    | inl old ↦
        subst (Arrived (place + 1)) (sym (with_none-other accepted.definition number (place + 1) history.arrivals (λ same. absurd (omega (arith, same, old.0)))))
        (All-weaker (IsArrival (catalog_of history.schema) (place + 1)) (IsArrival (catalog_of more) (place + 1)) (λ a of. IsArrival-more history.schema accepted schema (place + 1) a of)
        (history.arrivals (place + 1)) (lawful.arrivals place def old.1))
    | inr new ↦
        subst (λ (p : ℕ). Arrived (place + 1) (with_none accepted.definition number history.arrivals (p + 1))) (sym new.0)
        (subst (Arrived (place + 1)) (sym (with_none-new accepted.definition def number history.arrivals new.1)) (All-nil (IsArrival (catalog_of more) (place + 1))))
  ]

  old_book : (place : ℕ) → place < length tables → book_of (with_accepted accepted history) (place + 1) ≡ book_of history (place + 1)
  old_book place below =
      let other : place + 1 ≢ number = λ same. absurd (omega (arith, same, below)) in
      ap₂ (λ (arrivals : List Arrival) (layout : List Span). record { entries = map entry_in arrivals; layout = layout })
      (with_none-other accepted.definition number (place + 1) history.arrivals other) (with_none-other accepted.definition number (place + 1) history.layouts other)

  new_book : (def : TableDef) → accepted.definition ≡ Table def → book_of (with_accepted accepted history) number ≡ no_book
  new_book def is =
      ap₂ (λ (arrivals : List Arrival) (layout : List Span). record { entries = map entry_in arrivals; layout = layout })
      (with_none-new accepted.definition def number history.arrivals is) (with_none-new accepted.definition def number history.layouts is)

  still_book : (place : ℕ) (def : TableDef) → slice_get (tables_of more) place ≡ Some def → IsLawfulBook (form_of def) (book_of (with_accepted accepted history) (place + 1))
  still_book place def is = elim (new_cases place def is) as (λ _. IsLawfulBook (form_of def) (book_of (with_accepted accepted history) (place + 1))) [
    | inl old ↦ subst (IsLawfulBook (form_of def)) (sym (old_book place old.0)) (lawful.books place (form_of def) (form_there tables place def old.1))
    | inr new ↦
        subst (λ (p : ℕ). IsLawfulBook (form_of def) (book_of (with_accepted accepted history) (p + 1))) (sym new.0)
        (subst (IsLawfulBook (form_of def)) (sym (new_book def new.1)) (IsLawfulBook-no_book (form_of def)))
  ]

  still_books : (place : ℕ) (form : TableForm) → slice_get (forms_of more) place ≡ Some form → IsLawfulBook form (book_of (with_accepted accepted history) (place + 1))
  still_books place form is =
      let at = form_at (tables_of more) place form is in
      subst (λ (f : TableForm). IsLawfulBook f (book_of (with_accepted accepted history) (place + 1))) (sym at.2) (still_book place at.0 at.1)

  -- a statement is accepted
  pub lawful_accepted : IsAccepted (catalog_of history.schema) accepted → IsLawful (with_accepted accepted history)
  lawful_accepted is =
      let schema = IsSchema-push history.schema accepted lawful.schema is in
      record { schema = schema; arrivals = still_arrivals schema; books = still_books }

-- what arrives in the table of a number came along a path that leads there, and the table has room for it
pub record MayArrive (history : History) (table : ℕ) (arrival : Arrival) : Type 0 where
  pub numbered : 1 ≤ table
  pub def : TableDef
  pub stands : def_at (catalog_of history.schema) table ≡ Some def
  pub is : IsArrival (catalog_of history.schema) table arrival
  pub room : entries_in history table < MAX_ENTRIES

module _ (history : History) (table : ℕ) (arrival : Arrival) (lawful : IsLawful history) (may : MayArrive history table arrival) where
  abbrev next : History
  next = with_commit table (arrival ∷ []) history

  abbrev catalog : Catalog
  catalog = catalog_of history.schema

  here_arrivals : All (IsArrival catalog table) (history.arrivals table) → All (IsArrival catalog table) (next.arrivals table)
  here_arrivals old =
      subst (All (IsArrival catalog table)) (sym (arrivals-with_commit table (arrival ∷ []) history))
      (elim (is_skipped table arrival history) as (λ (b : Bool). is_skipped table arrival history ≡ b → All (IsArrival catalog table) (history.arrivals table ++ written_in table (arrival ∷ []) history)) [
        | true ↦ λ skipped.
            subst (λ (l : List Arrival). All (IsArrival catalog table) (history.arrivals table ++ l)) (sym (written_in-skipped table arrival history skipped))
            (subst (All (IsArrival catalog table)) (sym (append-nil (history.arrivals table))) old)
        | false ↦ λ new.
            subst (λ (l : List Arrival). All (IsArrival catalog table) (history.arrivals table ++ l)) (sym (written_in-new table arrival history new))
            (All-push (IsArrival catalog table) (history.arrivals table) arrival old may.is)
      ] refl)

  still_arrived : (place : ℕ) (def : TableDef) → slice_get catalog.tables place ≡ Some def → All (IsArrival catalog (place + 1)) (next.arrivals (place + 1))
  still_arrived place def is = elim (cases_eq (place + 1) table) as (λ _. All (IsArrival catalog (place + 1)) (next.arrivals (place + 1))) [
    | inl same ↦
        subst (λ (n : ℕ). All (IsArrival catalog n) (next.arrivals n)) (sym same)
        (here_arrivals (subst (λ (n : ℕ). All (IsArrival catalog n) (history.arrivals n)) same (lawful.arrivals place def is)))
    | inr other ↦ subst (All (IsArrival catalog (place + 1))) (sym (arrivals-other table (place + 1) (arrival ∷ []) history other)) (lawful.arrivals place def is)
  ]

  -- the table's book has its entry
  here_book : IsLawfulBook (form_of may.def) (book_of next table)
  here_book =
      let form = form_of may.def in
      let place : table - 1 + 1 ≡ table = omega (arith, may.numbered) in
      let window : window_at catalog.tables table ≡ may.def.window = ap window_in may.stands in
      let old : IsLawfulBook form (book_of history table) = subst (λ (n : ℕ). IsLawfulBook form (book_of history n)) place (lawful.books (table - 1) form (form_there catalog.tables (table - 1) may.def may.stands)) in
      subst (IsLawfulBook form) (sym (book_of-arrived table arrival history))
      (subst (λ (w : ℕ). IsLawfulBook form (arrived w (entry_in arrival) (book_of history table))) (sym window)
      (IsLawfulBook-arrived form (entry_in arrival) (book_of history table) (arrival-entry history.schema lawful.schema table may.def may.stands arrival may.is) (omega (arith, length-entries history table, may.room)) old))

  same_form : (place : ℕ) (form : TableForm) → place + 1 ≡ table → slice_get (forms_of history.schema) place ≡ Some form → form_of may.def ≡ form
  same_form place form same is =
      let before : table - 1 ≡ place = omega (arith, same) in
      let here : slice_get (forms_of history.schema) place ≡ Some (form_of may.def) =
      subst (λ (p : ℕ). slice_get (forms_of history.schema) p ≡ Some (form_of may.def)) before (form_there catalog.tables (table - 1) may.def may.stands) in
      cc (sym here ∙ is)

  still_lawful_books : (place : ℕ) (form : TableForm) → slice_get (forms_of history.schema) place ≡ Some form → IsLawfulBook form (book_of next (place + 1))
  still_lawful_books place form is = elim (cases_eq (place + 1) table) as (λ _. IsLawfulBook form (book_of next (place + 1))) [
    | inl same ↦
        subst (λ (n : ℕ). IsLawfulBook form (book_of next n)) (sym same)
        (subst (λ (f : TableForm). IsLawfulBook f (book_of next table)) (same_form place form same is) here_book)
    | inr other ↦ subst (IsLawfulBook form) (sym (book_of-other table (place + 1) (arrival ∷ []) history other)) (lawful.books place form is)
  ]

  -- a block arrives
  pub lawful_arrived : IsLawful next
  lawful_arrived =
      let schema = schema-with_commit table (arrival ∷ []) history in
      record {
        schema = subst IsSchema (sym schema) lawful.schema;
        arrivals = λ place def is.
            subst (λ (s : List Accepted). All (IsArrival (catalog_of s) (place + 1)) (next.arrivals (place + 1))) (sym schema)
            (still_arrived place def (subst (λ (s : List Accepted). slice_get (tables_of s) place ≡ Some def) schema is));
        books = λ place form is. still_lawful_books place form (subst (λ (s : List Accepted). slice_get (forms_of s) place ≡ Some form) schema is);
      }
