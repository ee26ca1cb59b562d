-- That no block stands twice within its table's window.
use Rattle.std.specs.Prelude.{ℕ, ◌≡◌, ◌≤◌, ◌+◌, List, ◌∷◌, ◌++◌, length, Some, slice_get}
use Rattle.chv_catalog.specs.declared.table_def.TableDef.{TableDef}
use Rattle.chv_query.specs.Accepted.{tables_of}
use Rattle.chv_query.specs.Arrivals.{Arrival}
use Rattle.chv_part.specs.Books.{IsSpaced}
use Rattle.chv_history.specs.Histories.{History, ids_in}

-- in each table, between two arrivals under one id stand as many others as its window has, or more
abbrev pub AreSpaced : History → Type 0
AreSpaced history =
    (place : ℕ) (def : TableDef) → slice_get (tables_of history.schema) place ≡ Some def
    → IsSpaced def.window (ids_in (history.arrivals (place + 1)))

-- between two arrivals of one contribution stand as many others as a window has, or more
abbrev pub KeepApart : ℕ → List Arrival → Type 0
KeepApart window arrivals =
    (older between newer : List Arrival) (a b : Arrival) → arrivals ≡ older ++ a ∷ (between ++ b ∷ newer)
    → a.contribution ≡ b.contribution → window ≤ length between

-- so it is in each table, with its window
abbrev pub ContributionsAreSpaced : History → Type 0
ContributionsAreSpaced history =
    (place : ℕ) (def : TableDef) → slice_get (tables_of history.schema) place ≡ Some def
    → KeepApart def.window (history.arrivals (place + 1))
