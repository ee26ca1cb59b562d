-- What a call that answers a client does.
use Rattle.std.specs.Prelude.{ℕ, ◌≡◌, ◌-◌, ◌<◌, ◌≤◌, List, [], ◌∷◌, ◌++◌, length, map, Bool, true, not, Option, ◌||◌, Some, slice_get, Result, Ok, Err, IfOk, OnOk, IsErrOf}
use Rattle.chv_ast.specs.declared.refusal.Refusal.{Refusal}
use Rattle.chv_ast.specs.declared.refusal.Refusal.TheVariants.{LimitPassed}
use Rattle.chv_ast.specs.declared.statement.CreateTable.{CreateTable}
use Rattle.chv_ast.specs.declared.statement.CreateView.{CreateView}
use Rattle.chv_ast.specs.declared.statement.Insert.{Insert}
use Rattle.chv_ast.specs.declared.statement.Select.{Select}
use Rattle.chv_ast.specs.declared.statement.Statement.{Statement}
use Rattle.chv_ast.specs.declared.statement.Statement.TheVariants as statement
use Rattle.chv_catalog.specs.Schemas.{Catalog}
use Rattle.chv_catalog.specs.declared.table_def.TableDef.{TableDef}
use Rattle.chv_commit.specs.declared.commit.Commit.{Commit}
use Rattle.chv_catalog.specs.declared.definition.Definition.TheVariants.{Table, View}
use Rattle.chv_query.specs.Accepted.{Accepted, catalog_of, IsSchema, catalog_payload}
use Rattle.chv_query.specs.Definitions.{defined}
use Rattle.chv_query.specs.Views.{defined_view}
use Rattle.chv_types.specs.Steps.{and_then, refuse_if}
use Rattle.chv_history.specs.Crashes.{IsLeftBy}
use Rattle.chv_history.specs.Events.{Event, Plan, Moment, behind}
use Rattle.chv_history.specs.Histories.{History, book_of, IsLawful}
use Rattle.chv_history.specs.Kept.{Kept, IsRefused, kept_task}
use Rattle.chv_history.specs.Runs.{answer_events, entries_in}
use Rattle.chv_history.specs.Script.{Request}
use Rattle.chv_history.specs.Tasks.{Task, Make, Bring, TellRows, TellParts, has_room, task_of}
use Rattle.chv_part.specs.Forms.{form_of}
use Rattle.chv_part.specs.declared.damage.Damage.{Damage}
use Rattle.chv_query.specs.Tables.{table_of}
use Rattle.chv_query.specs.Plans.{planned}
use Rattle.chv_query.specs.Queries.{Asked, asked_select}
use Rattle.chv_site.specs.During.{During}
use Rattle.chv_site.specs.FileIds.{table_log}
use Rattle.chv_site.specs.Files.{FileState, KeepsFiles}
use Rattle.chv_site.specs.Images.{Image, IsLeftSaying}
use Rattle.chv_site.specs.Outside.{Outside, bytes_in}
use Rattle.chv_site.specs.declared.file_id.FileId.{FileId}
use Rattle.chv_store.specs.Holding.{HoldsBooks, HoldsLogs}
use Rattle.chv_store.specs.Stores.{IsUsable, IsWithin, state_of}
use Rattle.chv_store.specs.declared.store.Store.{Store}
use Rattle.chv_table.specs.Damage.{IsPartDamage}
use Rattle.chv_flight.specs.Faults.{CountsRun}
use Rattle.chv_flight.specs.declared.fault.RunFault.{RunFault}
use Rattle.chv_flight.specs.declared.fault.RunFault.TheVariants.{Damaged, NoMemory}

-- what a client asks for: a task, or a refusal, beside what is defined and the tables' numbers of entries
abbrev pub Wish : Type 0
Wish = Catalog → (ℕ → ℕ) → Result Task Refusal

-- the events of what a client asks for
abbrev pub wish_events : ℕ → Wish → History → List Event
wish_events client wish history = answer_events client (wish (catalog_of history.schema) (entries_in history)) history

-- what is asked for, beside what is held
abbrev pub wish_in : Wish → Kept → Result Task Refusal
wish_in wish kept = wish kept.catalog (λ table. (kept.states table).entries)

-- a store, with what is outside, is at a moment; `before` is the text said before the run
pub record IsAt (store : Store) (outside : Outside) (before : List ℕ) (m : Moment) : Type 0 where
  pub lawful : IsLawful m.history
  pub catalog : store.schema.catalog ≡ catalog_of m.history.schema
  pub holds : HoldsBooks store outside.files (map catalog_payload m.history.schema) (book_of m.history)
  pub text : outside.said ≡ before ++ m.said

-- the store is at the moment behind events, which have the mark where a statement was refused
pub record AnswersAs (store : Store) (outside : Outside) (before : List ℕ) (refused : Bool) (events : List Event) (m : Moment) : Type 0 where
  pub at : IsAt store outside before (behind events m)
  pub mark : (behind events m).refused ≡ (m.refused || refused)

-- a store has these definitions, and holds of the log of each table what it says
pub record HoldsKept (store : Store) (kept : Kept) : Type 0 where
  pub catalog : store.schema.catalog ≡ kept.catalog
  pub states : (table : ℕ) → 1 ≤ table → table ≤ length kept.catalog.tables → state_of store table ≡ kept.states table

-- a store with its files holds what its logs say, whatever the parts are, and no other table has a log of which a crash
-- leaves more than a torn gate
pub record IsLogged (store : Store) (files : FileId → FileState) : Type 0 where
  pub schema : List Accepted
  pub lawful : IsSchema schema
  pub catalog : store.schema.catalog ≡ catalog_of schema
  pub commits : ℕ → List Commit
  pub holds : HoldsLogs store files (map catalog_payload schema) commits
  pub others : (table : ℕ) → length store.schema.catalog.tables < table → (files (table_log table)).most ≤ 1

-- a query is asked that no check refuses, and this damage is that of the first damaged one of the live parts of its table
pub record MeetsDamage (wish : Wish) (store : Store) (files : Image) (damage : Damage) : Type 0 where
  pub query : Asked
  pub asks : wish store.schema.catalog (λ other. (state_of store other).entries) ≡ Ok (TellRows query)
  pub is : IsPartDamage query.table (form_of query.def) (state_of store query.table).layout files damage

-- this damage ends the run, unless another fault does
abbrev pub EndsBy : Damage → Result Bool RunFault → Type 0
EndsBy damage (Ok refused) = ⊥
EndsBy damage (Err (Damaged other)) = other ≡ damage
EndsBy damage (Err fault) = Unit {0}

-- a damage that was met: the store is as it was, no file changed, and nothing was said
pub record HasMet (wish : Wish) (damage : Damage) (was is : Store) (old new : Outside) : Type 0 where
  pub meets : MeetsDamage wish was (bytes_in old) damage
  pub same : is ≡ was
  pub files : KeepsFiles old.files new.files
  pub said : new.said ≡ old.said

-- a reply was said, or after an error a front of it, and no file changed; this is answered
pub record Replies (tells : Type 0) (text : List ℕ) (refused : Bool) (result : Result Bool RunFault) (old new : Outside) : Type 0 where
  pub answer : IfOk result (λ answer. answer ≡ refused)
  pub said : tells → OnOk result (new.said ≡ old.said ++ text)
  pub files : tells → KeepsFiles old.files new.files
  pub during : tells → During old new (IsLeftSaying old.files old.said text)
  pub memory : IsErrOf result NoMemory → ⊥
  pub undamaged : (damage : Damage) → IsErrOf result (Damaged damage) → ⊥
  pub counts : CountsRun result old new

-- a client was answered what it asks for
pub record Answers (tells : Type 0) (client : ℕ) (wish : Wish) (result : Result Bool RunFault) (was is : Store) (old new : Outside) : Type 0 where
  -- a store that was at a moment is behind the events, and a crash at any moment of the call leaves what is between them
  pub answered : tells → IfOk result (λ refused. (before : List ℕ) (m : Moment) → IsAt was old before m → AnswersAs is new before refused (wish_events client wish m.history) m)
  pub during : tells → (before : List ℕ) (m : Moment) → IsAt was old before m → During old new (IsLeftBy (wish_events client wish m.history) before m)
  -- whatever the files hold: whether it is refused, and what is held afterwards; a refusal changes no file
  pub kept : IfOk result (λ refused. (kept : Kept) → HoldsKept was kept → HoldsKept is (kept_task (wish_in wish kept) kept) × IsRefused (wish_in wish kept) refused)
  pub refused : tells → IfOk result (λ refused. refused ≡ true → KeepsFiles old.files new.files)
  pub logged : tells → OnOk result (IsLogged was old.files → IsLogged is new.files)
  pub usable : OnOk result (IsUsable tells is new)
  -- damage is told where it is met, and always
  pub damaged : tells → (damage : Damage) → IsErrOf result (Damaged damage) → HasMet wish damage was is old new
  pub met : tells → (damage : Damage) → MeetsDamage wish was (bytes_in old) damage → EndsBy damage result
  pub counts : CountsRun result old new

-- the rows of a query are asked for
abbrev pub query_wish : Select → Wish
query_wish select catalog entries = and_then (asked_select catalog select) (λ query. Ok (TellRows query))

-- a query is of a table of the store
pub record IsOfStore (store : Store) (query : Asked) : Type 0 where
  pub first : 1 ≤ query.table
  pub stands : slice_get store.schema.catalog.tables (query.table - 1) ≡ Some query.def

-- the parts of the table of a name are asked for
abbrev pub parts_wish : List ℕ → Wish
parts_wish name catalog entries = and_then (table_of catalog name) (λ found. Ok (TellParts found.0 found.1))

-- a CREATE TABLE statement asks for its table
abbrev pub create_wish : CreateTable → Wish
create_wish made catalog entries = and_then (defined catalog made) (λ def. Ok (Make (record { statement = statement.CreateTable made; definition = Table def })))

-- a CREATE MATERIALIZED VIEW statement asks for its view
abbrev pub view_wish : CreateView → Wish
view_wish made catalog entries = and_then (defined_view catalog made) (λ def. Ok (Make (record { statement = statement.CreateView made; definition = View def })))

-- an INSERT asks for deliveries for which there is room
abbrev pub plan_wish : Plan → Wish
plan_wish plan catalog entries = refuse_if (not (has_room plan entries)) LimitPassed (Ok (Bring plan))

abbrev pub insert_wish : Insert → Wish
insert_wish insert catalog entries = and_then (planned catalog insert) (λ plan. plan_wish plan catalog entries)

-- a statement, or a text that is none, asks for its task
abbrev pub statement_wish : Option Statement → Wish
statement_wish asked catalog entries = task_of catalog entries asked

abbrev pub request_wish : Request → Wish
request_wish request = statement_wish request.statement

-- the first of these requests is a query that no check refuses, and this damage is that of the first damaged one of the live
-- parts of its table
abbrev pub FirstAsks : List Request → Store → Image → Damage → Type 0
FirstAsks [] store files damage = ⊥
FirstAsks (request ∷ requests) store files damage = MeetsDamage (request_wish request) store files damage

-- this damage is that of the first damaged one of the live parts of a table of the store, as they are held
pub record IsHeldDamage (store : Store) (outside : Outside) (damage : Damage) : Type 0 where
  pub within : IsWithin store
  pub table : ℕ
  pub def : TableDef
  pub first : 1 ≤ table
  pub stands : slice_get store.schema.catalog.tables (table - 1) ≡ Some def
  pub is : IsPartDamage table (form_of def) (state_of store table).layout (bytes_in outside) damage
