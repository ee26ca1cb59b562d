-- Damage that a request meets, and the counts of calls one behind the other.
use Rattle.std.proofs.Common.{◌≡◌, ℕ, ◌-◌, ◌≤◌, List, map, Bool, Option, Some, Ok, Err, IfOk, slice_get, subst, ◌∙◌, arith}
use Rattle.std.specs.Prelude.{Result}
use Rattle.std.proofs.lemmas.Option.{slice_get_within}
use Rattle.chv_ast.specs.declared.refusal.Refusal.{Refusal}
use Rattle.chv_ast.specs.declared.statement.Select.{Select}
use Rattle.chv_ast.specs.declared.statement.Statement.{Statement}
use Rattle.chv_catalog.specs.Schemas.{Catalog}
use Rattle.chv_catalog.specs.declared.table_def.TableDef.{TableDef}
use Rattle.chv_query.specs.Accepted.{catalog_payload}
use Rattle.chv_history.specs.Events.{Moment, behind}
use Rattle.chv_history.specs.Histories.{book_of}
use Rattle.chv_history.specs.Script.{Request}
use Rattle.chv_history.specs.Tasks.{Task, Bring, Make, TellParts, TellRows, task_of}
use Rattle.chv_history.proofs.LookupLemmas.{asked_stands}
use Rattle.chv_history.proofs.TaskLemmas.{task_holds}
use Rattle.chv_part.specs.Forms.{form_of}
use Rattle.chv_part.specs.declared.damage.Damage.{Damage}
use Rattle.chv_query.specs.Queries.{Asked, asked}
use Rattle.chv_site.specs.Faults.{HasRisen}
use Rattle.chv_site.specs.Files.{FileState, KeepsFiles}
use Rattle.chv_site.specs.Outside.{Outside, bytes_in}
use Rattle.chv_site.specs.declared.file_id.FileId.{FileId}
use Rattle.chv_store.specs.Stores.{IsWithin, state_of}
use Rattle.chv_store.specs.declared.store.Store.{Store}
use Rattle.chv_store.proofs.PlaceLemmas.{its_book, whole_of}
use Rattle.chv_table.specs.Damage.{IsPartDamage}
use Rattle.chv_table.proofs.RowsLemmas.{book_parts_whole, part_damage_excludes}
use Rattle.chv_flight.specs.Answers.{IsAt, IsHeldDamage, IsLogged, MeetsDamage, request_wish}
use Rattle.chv_flight.specs.Faults.{CountsRun}
use Rattle.chv_flight.specs.declared.fault.RunFault.{RunFault}
use Rattle.chv_flight.proofs.AnswerLemmas.{held_at, same_files}

-- the table of a query stands
abbrev pub StandsAt : List TableDef → Asked → Type 0
StandsAt tables query = (1 ≤ query.table) × (slice_get tables (query.table - 1) ≡ Some query.def)

query_stands : (catalog : Catalog) (select : Select) (query : Asked) → asked catalog select ≡ Ok query → StandsAt catalog.tables query
query_stands catalog select query asks = let found = asked_stands catalog select query asks in (found.first, found.stands)

-- where rows are asked for, they are those of a table that stands
abbrev TellsTable : List TableDef → Task → Type 0
TellsTable tables (Make accepted) = Unit {0}
TellsTable tables (Bring plan) = Unit {0}
TellsTable tables (TellRows query) = StandsAt tables query
TellsTable tables (TellParts table def) = Unit {0}

-- a query that is asked is of a table that stands
pub rows_asked : (catalog : Catalog) (entries : ℕ → ℕ) (text : Option Statement) (query : Asked) → task_of catalog entries text ≡ Ok (TellRows query) → StandsAt catalog.tables query
rows_asked catalog entries text query asks =
    subst (λ (task : Result Task Refusal). IfOk task (TellsTable catalog.tables)) asks
    (task_holds catalog entries (TellsTable catalog.tables) (query_stands catalog) (λ table def. tt) text (λ accepted is defines. tt) (λ brought is plan brings room. tt))

-- the damage that a request meets is of a table that stands
pub meets_held : (request : Request) (store : Store) (outside : Outside) (damage : Damage) → IsWithin store
    → MeetsDamage (request_wish request) store (bytes_in outside) damage → IsHeldDamage store outside damage
meets_held request store outside damage within meets =
    let stands = rows_asked store.schema.catalog (λ other. (state_of store other).entries) request.statement meets.query meets.asks in
    record { within = within; table = meets.query.table; def = meets.query.def; first = stands.0; stands = stands.1; is = meets.is }

-- what holds of a store and of damage holds as long as the files are as they were
pub logged_kept : (store : Store) (old new : FileId → FileState) → KeepsFiles old new → IsLogged store old → IsLogged store new
logged_kept store old new kept logged = subst (IsLogged store) (same_files old new kept) logged

pub damage_kept : (store : Store) (old new : Outside) (damage : Damage) → KeepsFiles old.files new.files → IsHeldDamage store old damage → IsHeldDamage store new damage
damage_kept store old new damage kept held = record {
  within = held.within;
  table = held.table;
  def = held.def;
  first = held.first;
  stands = held.stands;
  is =
      subst (λ (files : FileId → FileState). IsPartDamage held.table (form_of held.def) (state_of store held.table).layout (λ f. (files f).bytes) damage)
      (same_files old.files new.files kept) held.is;
}

-- at a moment no live part of a store's tables is damaged
pub none_damaged : (store : Store) (outside : Outside) (before : List ℕ) (m : Moment) (damage : Damage) → IsAt store outside before m → IsHeldDamage store outside damage → ⊥
none_damaged store outside before m damage at is =
    let last = slice_get_within store.schema.catalog.tables (is.table - 1) is.def is.stands in
    let there = held_at store is.table is.within (record { first = is.first; last = omega (arith, is.first, last) }) in
    let book = its_book store is.table there.0 there.1 outside.files (map catalog_payload m.history.schema) (book_of m.history) at.holds in
    part_damage_excludes is.table (form_of is.def) (state_of store is.table).layout (bytes_in outside) damage is.is
    (whole_of store is.table there.0 there.1 is.def is.stands (bytes_in outside) (book_parts_whole there.0 outside.files (book_of m.history is.table) book))

-- an answer is no error
pub no_error : (answer : Bool) (fault : RunFault) → ◌≡◌ {A = Result Bool RunFault} (Ok answer) (Err fault) → ⊥
no_error answer fault same = cc

pub same_error : (a b : RunFault) → ◌≡◌ {A = Result Bool RunFault} (Err a) (Err b) → a ≡ b
same_error a b same = cc

-- the counts of a call behind another that left them
pub counts_then : (r : Result Bool RunFault) (old mid new : Outside) → mid.disk_faults ≡ old.disk_faults → mid.say_faults ≡ old.say_faults → CountsRun r mid new → CountsRun r old new
counts_then r old mid new disk say counts = record {
  disk_keeps = subst (λ (n : ℕ). n ≤ new.disk_faults) disk counts.disk_keeps;
  say_keeps = subst (λ (n : ℕ). n ≤ new.say_faults) say counts.say_keeps;
  disk = λ is. subst (λ (n : ℕ). HasRisen n new.disk_faults) disk (counts.disk is);
  say = λ is. subst (λ (n : ℕ). HasRisen n new.say_faults) say (counts.say is);
  disk_stays = λ none. counts.disk_stays none ∙ disk;
  say_stays = λ none. counts.say_stays none ∙ say;
}
