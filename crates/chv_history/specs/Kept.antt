-- What a run does with the numbers that it holds of its tables, whatever the files hold.
use Rattle.std.specs.Prelude.{ℕ, ◌≡◌, ◌+◌, Bool, true, false, ◌||◌, List, [], ◌∷◌, length, if◌then◌else◌, None, Some, Result, Ok, Err, slice_get}
use Rattle.std.specs.List.{list_any}
use Rattle.chv_ast.specs.declared.refusal.Refusal.{Refusal}
use Rattle.chv_catalog.specs.Schemas.{Catalog, with_definition}
use Rattle.chv_catalog.specs.declared.definition.Definition.{Definition}
use Rattle.chv_catalog.specs.declared.definition.Definition.TheVariants.{Table, View}
use Rattle.chv_catalog.specs.declared.table_def.TableDef.{TableDef}
use Rattle.chv_commit.specs.Replays.{State, no_state, added}
use Rattle.chv_query.specs.Accepted.{catalog_of}
use Rattle.chv_query.specs.Arrivals.{Arrival}
use Rattle.chv_query.specs.Plans.{Delivery}
use Rattle.chv_query.specs.Queries.{Asked, made_of}
use Rattle.chv_types.specs.declared.value.Value.{Value}
use Rattle.chv_sip.specs.BlockIds.{id_eq, last_ids}
use Rattle.chv_history.specs.Events.{Plan}
use Rattle.chv_history.specs.Histories.{History, ids_in, window_at, put_at}
use Rattle.chv_history.specs.Script.{Request}
use Rattle.chv_history.specs.Tasks.{Task, Make, Bring, TellRows, TellParts, task_of}

-- what is held: what is defined, and what the log of each table says, by the table's number
pub record Kept : Type 0 where
  pub catalog : Catalog
  pub states : ℕ → State

-- what a log says behind a block that arrives: where its id is not among the last, there is a part more
abbrev pub noted : ℕ → Arrival → State → State
noted window arrival state =
    if list_any (id_eq arrival.id) state.ids then state else added window state.next_part (length arrival.rows) (arrival.id ∷ []) state

-- what is held behind a delivery
abbrev pub kept_delivery : Delivery → Kept → Kept
kept_delivery delivery kept = record kept {
  states = put_at delivery.table (noted (window_at kept.catalog.tables delivery.table) delivery.entry (kept.states delivery.table)) kept.states;
}

-- what is held behind deliveries that are made one after the other
abbrev pub kept_plan : Plan → Kept → Kept
kept_plan [] kept = kept
kept_plan (delivery ∷ plan) kept = kept_plan plan (kept_delivery delivery kept)

-- of a new table nothing is said yet; a view changes nothing
abbrev pub with_log : Definition → ℕ → (ℕ → State) → ℕ → State
with_log (Table def) number states = put_at number no_state states
with_log (View def) number states = states

-- what is held behind a client's statement
abbrev pub kept_task : Result Task Refusal → Kept → Kept
kept_task (Ok (Make accepted)) kept =
    record {
      catalog = with_definition accepted.definition kept.catalog;
      states = with_log accepted.definition (length kept.catalog.tables + 1) kept.states;
    }
kept_task (Ok (Bring plan)) kept = kept_plan plan kept
kept_task (Ok (TellRows query)) kept = kept
kept_task (Ok (TellParts table def)) kept = kept
kept_task (Err refuses) kept = kept

-- how many entries each table has
abbrev pub entries_kept : Kept → ℕ → ℕ
entries_kept kept table = (kept.states table).entries

-- the task of a request
abbrev pub kept_answer : Request → Kept → Result Task Refusal
kept_answer request kept = task_of kept.catalog (entries_kept kept) request.statement

-- what is held behind requests that are answered in order
abbrev pub kept_behind : List Request → Kept → Kept
kept_behind [] kept = kept
kept_behind (request ∷ requests) kept = kept_behind requests (kept_task (kept_answer request kept) kept)

-- a query divides by zero on some row
abbrev pub MayDivide : Asked → Type 0
MayDivide query = (row : List Value) × (made_of query row ≡ None)

-- whether a statement is refused, by what its check says; of a query without refusal the rows decide, where it may divide by zero
abbrev pub IsRefused : Result Task Refusal → Bool → Type 0
IsRefused (Err refuses) refused = refused ≡ true
IsRefused (Ok (TellRows query)) refused = refused ≡ true → MayDivide query
IsRefused (Ok (Make accepted)) refused = refused ≡ false
IsRefused (Ok (Bring plan)) refused = refused ≡ false
IsRefused (Ok (TellParts table def)) refused = refused ≡ false

-- whether one of some requests that are answered in order is refused
abbrev pub Refuses : List Request → Kept → Bool → Type 0
Refuses [] kept refused = refused ≡ false
Refuses (request ∷ requests) kept refused =
    (first later : Bool) × (refused ≡ (first || later)) × IsRefused (kept_answer request kept) first
    × Refuses requests (kept_task (kept_answer request kept) kept) later

-- what is held is that of a history: what it defines, and of each table as many entries, and the last of their ids
pub record IsKeptOf (kept : Kept) (history : History) : Type 0 where
  pub catalog : kept.catalog ≡ catalog_of history.schema
  pub entries : (place : ℕ) (def : TableDef) → slice_get kept.catalog.tables place ≡ Some def → entries_kept kept (place + 1) ≡ length (history.arrivals (place + 1))
  pub ids : (place : ℕ) (def : TableDef) → slice_get kept.catalog.tables place ≡ Some def → (kept.states (place + 1)).ids ≡ last_ids def.window (ids_in (history.arrivals (place + 1)))
