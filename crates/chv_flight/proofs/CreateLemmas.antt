-- A table is made: what that does to the moment that a store is at, to what is held, and to what a crash leaves.
use Rattle.std.proofs.Common.{◌≡◌, ◌⊎◌, inl, inr, ℕ, zero, suc, ◌+◌, ◌-◌, ◌<◌, ◌≤◌, Bool, true, false, List, [], ◌∷◌, ◌++◌, length, map, get_or, Ok, Err, OnOk, refl, sym, ap, subst, ◌∙◌, arith}
use Rattle.std.specs.Prelude.{Result, IsErrOf}
use Rattle.std.proofs.lemmas.Bool.{cases_eq}
use Rattle.std.proofs.lemmas.List.{get_or_past, length-append, length-map, map_push}
use Rattle.chv_ast.specs.declared.refusal.Refusal.{Refusal}
use Rattle.chv_ast.specs.declared.statement.CreateTable.{CreateTable}
use Rattle.chv_ast.specs.declared.statement.Statement.TheVariants as statement
use Rattle.chv_ast.specs.Formed.{FormedTable}
use Rattle.chv_catalog.proofs.SchemaLemmas.{same_tables}
use Rattle.chv_catalog.specs.Schemas.{Catalog, with_definition}
use Rattle.chv_catalog.specs.declared.definition.Definition.TheVariants.{Table}
use Rattle.chv_catalog.specs.declared.table_def.TableDef.{TableDef}
use Rattle.chv_commit.specs.Replays.{State, no_state}
use Rattle.chv_commit.specs.declared.commit.Commit.{Commit}
use Rattle.chv_query.specs.Accepted.{Accepted, IsAccepted, catalog_of, catalog_payload}
use Rattle.chv_query.specs.Definitions.{defined}
use Rattle.chv_query.proofs.AcceptedLemmas.{IsSchema-push, catalog_of-push}
use Rattle.chv_part.specs.Books.{Book, TableForm, no_book}
use Rattle.chv_part.specs.Forms.{form_of}
use Rattle.chv_site.specs.During.{During}
use Rattle.chv_site.specs.FileIds.{table_log}
use Rattle.chv_site.specs.Files.{FileState}
use Rattle.chv_site.specs.Outside.{Outside}
use Rattle.chv_site.specs.declared.file_id.FileId.{FileId}
use Rattle.chv_site.proofs.Moments.{weakened}
use Rattle.chv_store.specs.Calls.{ChangesLogs, StandsFor, Turns}
use Rattle.chv_store.specs.Holding.{HoldsBooks, HoldsLogs, with_book, with_one}
use Rattle.chv_store.specs.Openings.{MakesDefinition}
use Rattle.chv_store.specs.Stores.{IsHeldAs, IsUsable, forms_of, states_of, state_of}
use Rattle.chv_store.specs.declared.store.Store.{Store}
use Rattle.chv_store.proofs.EachTableLemmas.{each-length}
use Rattle.chv_table.specs.Tables.{held_state}
use Rattle.chv_table.specs.declared.fault.PutFault.{PutFault}
use Rattle.chv_table.specs.declared.fault.PutFault.TheVariants as put
use Rattle.chv_text.specs.Replies.{ok_line}
use Rattle.chv_types.specs.Steps.{and_then}
use Rattle.chv_history.specs.Crashes.{IsLeftBy}
use Rattle.chv_history.specs.Events.{Created, Event, Moment, Replied, happen}
use Rattle.chv_history.specs.Histories.{History, IsLawful, Stands, book_of, put_at, with_accepted}
use Rattle.chv_history.specs.Histories.{forms_of as forms_in}
use Rattle.chv_history.specs.Kept.{Kept, kept_task}
use Rattle.chv_history.specs.Tasks.{Make}
use Rattle.chv_history.proofs.ArrivingLemmas.{put_at-other, put_at-same}
use Rattle.chv_history.proofs.EntryLemmas.{books-accepted}
use Rattle.chv_history.proofs.LawfulLemmas.{forms_of-push, lawful_accepted}
use Rattle.chv_history.proofs.LeftLemmas.{left_either}
use Rattle.chv_history.proofs.StandingLemmas.{stands_by}
use Rattle.chv_flight.specs.Answers.{Answers, HoldsKept, IsAt, IsLogged, Replies, create_wish}
use Rattle.chv_flight.specs.Faults.{put_fault_of}
use Rattle.chv_flight.specs.declared.fault.RunFault.{RunFault}
use Rattle.chv_flight.specs.declared.fault.RunFault.TheVariants.{Disk, Say}
use Rattle.chv_flight.proofs.AnswerLemmas.{Asks, counts_read}
use Rattle.chv_flight.proofs.DeliverLemmas.{holds_by}
use Rattle.chv_flight.proofs.DoneLemmas.{Done, TellsNone, done_answers, ended_task}

-- the table that a statement makes, as a history has it
abbrev pub made : CreateTable → TableDef → Accepted
made create def = record { statement = statement.CreateTable create; definition = Table def }

-- what the store's call did
pub record HasCreated (tells : Type 0) (result : Result (Unit {0}) PutFault) (was is : Store) (text : List ℕ) (def : TableDef) (old new : Outside) : Type 0 where
  pub created : tells → (payloads : List (List ℕ)) (books : ℕ → Book) → HoldsBooks was old.files payloads books
      → Turns result (HoldsBooks is new.files (payloads ++ text ∷ []) (with_book (length was.schema.catalog.tables + 1) no_book books)) (StandsFor payloads (forms_of was) books)
      (StandsFor (payloads ++ text ∷ []) (forms_of was ++ form_of def ∷ []) (with_book (length was.schema.catalog.tables + 1) no_book books)) old new
  pub logged : tells → (payloads : List (List ℕ)) (commits : ℕ → List Commit) → HoldsLogs was old.files payloads commits → (old.files (table_log (length was.schema.catalog.tables + 1))).most ≤ 1
      → OnOk result (HoldsLogs is new.files (payloads ++ text ∷ []) (with_one (length was.schema.catalog.tables + 1) [] commits))
  pub held : OnOk result ((is.schema.catalog ≡ with_definition (Table def) was.schema.catalog) × (states_of is ≡ states_of was ++ no_state ∷ []))
  pub keeps : ChangesLogs tells (IsErrOf result put.Failed) (length was.schema.catalog.tables + 1) old new

-- a table that is defined is one that a statement makes
pub makes_table : (catalog : Catalog) (create : CreateTable) (def : TableDef) → FormedTable create → defined catalog create ≡ Ok def → MakesDefinition catalog (statement.CreateTable create) (Table def)
makes_table catalog create def formed is = record { formed = formed; defines = is }

-- a table that is not defined is refused
pub create_refused : (store : Store) (create : CreateTable) (refuses : Refusal) → defined store.schema.catalog create ≡ Err refuses → Asks (create_wish create) store (Err refuses)
create_refused store create refuses is entries agree = ap (λ (r : Result TableDef Refusal). and_then r (λ d. Ok (Make (made create d)))) is

-- a definition asks for no rows
pub make_tells_none : (accepted : Accepted) → TellsNone (Make accepted)
make_tells_none accepted query same = cc same

-- a fault of what is put, by what ends the run
pub failed_by : (fault : PutFault) → put_fault_of fault ≡ Disk → fault ≡ put.Failed
failed_by put.Failed disk = refl
failed_by put.NoMemory disk = cc disk

pub failed_so : (fault : PutFault) → ◌≡◌ {A = Result (Unit {0}) PutFault} (Err fault) (Err put.Failed) → put_fault_of fault ≡ Disk
failed_so put.Failed same = refl
failed_so put.NoMemory same = cc same

pub unsaid : (fault : PutFault) → put_fault_of fault ≡ Say → ⊥
unsaid put.Failed same = cc same
unsaid put.NoMemory same = cc same

-- one state more that is the default is read as the default
get_or-default : {X : Type 0} (xs : List X) (i : ℕ) (d : X) → get_or (xs ++ d ∷ []) i d ≡ get_or xs i d
get_or-default [] zero d = refl
get_or-default [] (suc i) d = refl
get_or-default (x ∷ xs) zero d = refl
get_or-default (x ∷ xs) (suc i) d = get_or-default xs i d

module _ (tells : Type 0) (client : ℕ) (result : Result (Unit {0}) PutFault) (was is : Store) (create : CreateTable) (def : TableDef) (old new : Outside) (usable : IsUsable tells was old)
    (makes : MakesDefinition was.schema.catalog (statement.CreateTable create) (Table def)) (call : HasCreated tells result was is (catalog_payload (made create def)) def old new) where
  abbrev accepted : Accepted
  accepted = made create def

  abbrev number : ℕ
  number = length was.schema.catalog.tables + 1

  asks : Asks (create_wish create) was (Ok (Make accepted))
  asks entries agree = ap (λ (r : Result TableDef Refusal). and_then r (λ d. Ok (Make (made create d)))) makes.defines

  -- at a moment
  module _ (before : List ℕ) (m : Moment) (at : IsAt was old before m) where
    abbrev next : History
    next = with_accepted accepted m.history

    abbrev payloads : List (List ℕ)
    payloads = map catalog_payload m.history.schema

    abbrev books : ℕ → Book
    books = with_book number no_book (book_of m.history)

    lawful_next : IsLawful next
    lawful_next = lawful_accepted accepted m.history at.lawful (subst (λ (catalog : Catalog). IsAccepted catalog accepted) at.catalog makes)

    payloads_next : payloads ++ catalog_payload (made create def) ∷ [] ≡ map catalog_payload next.schema
    payloads_next = sym (map_push catalog_payload m.history.schema accepted)

    books_next : (n : ℕ) → book_of next n ≡ books n
    books_next n = books-accepted accepted m.history n ∙ ap (λ (catalog : Catalog). put_at (length catalog.tables + 1) no_book (book_of m.history) n) (sym at.catalog)

    forms_are : forms_of was ≡ forms_in m.history.schema
    forms_are = ap (map form_of) (same_tables was.schema.catalog (catalog_of m.history.schema) at.catalog)

    forms_next : forms_of was ++ form_of def ∷ [] ≡ forms_in next.schema
    forms_next = ap (λ (forms : List TableForm). forms ++ form_of def ∷ []) forms_are ∙ sym (forms_of-push m.history.schema accepted)

    turns : tells
        → Turns result (HoldsBooks is new.files (payloads ++ catalog_payload (made create def) ∷ []) books) (StandsFor payloads (forms_of was) (book_of m.history))
        (StandsFor (payloads ++ catalog_payload (made create def) ∷ []) (forms_of was ++ form_of def ∷ []) books) old new
    turns tell = call.created tell payloads (book_of m.history) at.holds

    -- a crash meanwhile leaves the store with the table or without
    create_during : tells → (events : List Event) → During old new (IsLeftBy (Created accepted ∷ events) before m)
    create_during tell events =
        weakened old new _ (IsLeftBy (Created accepted ∷ events) before m) (turns tell).during
        (λ image text left.
        left_either (Created accepted) events before m image text refl
        (elim left.stands as (λ _. Stands image m.history ⊎ Stands image next) [
          | inl first ↦ inl (stands_by image m.history payloads (forms_of was) (book_of m.history) at.lawful refl forms_are (λ n. refl) first)
          | inr second ↦ inr (stands_by image next (payloads ++ catalog_payload (made create def) ∷ []) (forms_of was ++ form_of def ∷ []) books lawful_next payloads_next forms_next books_next second)
        ]) (left.text_left ∙ at.text))

    create_at : result ≡ Ok tt → tells → IsAt is new before (happen (Created accepted) m)
    create_at ok tell =
        let held = subst (λ (r : Result (Unit {0}) PutFault). OnOk r ((is.schema.catalog ≡ with_definition (Table def) was.schema.catalog) × (states_of is ≡ states_of was ++ no_state ∷ []))) ok call.held in
        let holds = subst (λ (r : Result (Unit {0}) PutFault). OnOk r (HoldsBooks is new.files (payloads ++ catalog_payload (made create def) ∷ []) books)) ok (turns tell).done in
        record {
          lawful = lawful_next;
          catalog = held.0 ∙ ap (with_definition (Table def)) at.catalog ∙ sym (catalog_of-push m.history.schema accepted);
          holds = subst (λ (ps : List (List ℕ)). HoldsBooks is new.files ps (book_of next)) payloads_next (holds_by is new.files (payloads ++ catalog_payload (made create def) ∷ []) books (book_of next) books_next holds);
          text = call.keeps.said tell ∙ at.text;
        }

  module _ (ok : result ≡ Ok tt) where
    held : (is.schema.catalog ≡ with_definition (Table def) was.schema.catalog) × (states_of is ≡ states_of was ++ no_state ∷ [])
    held = subst (λ (r : Result (Unit {0}) PutFault). OnOk r ((is.schema.catalog ≡ with_definition (Table def) was.schema.catalog) × (states_of is ≡ states_of was ++ no_state ∷ []))) ok call.held

    one_more : length is.schema.catalog.tables ≡ number
    one_more = ap (λ (catalog : Catalog). length catalog.tables) held.0 ∙ length-append was.schema.catalog.tables (def ∷ [])

    -- what is held of each table
    same_state : (table : ℕ) → state_of is table ≡ state_of was table
    same_state table = ap (λ (states : List State). get_or states (table - 1) no_state) held.1 ∙ get_or-default (states_of was) (table - 1) no_state

    few_states : length (states_of was) ≡ length was.schema.catalog.tables
    few_states = length-map was.tables.items held_state ∙ each-length IsHeldAs 1 was.schema.catalog.tables was.tables.items usable.within.tables

    create_kept : (kept : Kept) → HoldsKept was kept → HoldsKept is (kept_task (Ok (Make accepted)) kept)
    create_kept kept has =
        let last = length kept.catalog.tables + 1 in
        let many : length was.schema.catalog.tables ≡ length kept.catalog.tables = ap (λ (catalog : Catalog). length catalog.tables) has.catalog in
        record {
          catalog = held.0 ∙ ap (with_definition (Table def)) has.catalog;
          states = λ table first within. elim (cases_eq table last) as (λ _. state_of is table ≡ put_at last no_state kept.states table) [
            | inl same ↦
                same_state table ∙ get_or_past (states_of was) (table - 1) no_state (omega (arith, same, few_states, many))
                ∙ subst (λ (n : ℕ). no_state ≡ put_at last no_state kept.states n) (sym same) (sym (put_at-same last no_state kept.states))
            | inr other ↦
                same_state table ∙ has.states table first (omega (arith, within, other, length-append kept.catalog.tables (def ∷ []))) ∙ sym (put_at-other last table no_state kept.states other)
          ];
        }

    create_logged : tells → IsLogged was old.files → IsLogged is new.files
    create_logged tell logged =
        let payloads = map catalog_payload logged.schema in
        let passes : IsAccepted (catalog_of logged.schema) accepted = subst (λ (catalog : Catalog). IsAccepted catalog accepted) logged.catalog makes in
        let holds = call.logged tell payloads logged.commits logged.holds (logged.others number (omega arith)) in
        record {
          schema = logged.schema ++ accepted ∷ [];
          lawful = IsSchema-push logged.schema accepted logged.lawful passes;
          catalog = held.0 ∙ ap (with_definition (Table def)) logged.catalog ∙ sym (catalog_of-push logged.schema accepted);
          commits = with_one number [] logged.commits;
          holds = subst (λ (ps : List (List ℕ)). HoldsLogs is new.files ps (with_one number [] logged.commits)) (sym (map_push catalog_payload logged.schema accepted))
              (subst (λ (r : Result (Unit {0}) PutFault). OnOk r (HoldsLogs is new.files (payloads ++ catalog_payload (made create def) ∷ []) (with_one number [] logged.commits))) ok holds);
          others = λ table beyond.
              let above : number < table = omega (arith, beyond, one_more) in
              subst (λ (s : FileState). s.most ≤ 1)
              (sym (call.keeps.others tell (table_log table) (λ same. absurd (omega (arith, above, ap (λ (f : FileId). f.table) same))) (λ same. absurd (omega (arith, above, ap (λ (f : FileId). f.table) same)))))
              (logged.others table (omega (arith, above)));
        }

    unfailed : IsErrOf result put.Failed → ⊥
    unfailed err = cc (sym ok ∙ err)

    create_done : IsUsable tells is new → Done tells client (Make accepted) (ok_line client) was is old new
    create_done ready = record {
      events = λ history. Created accepted ∷ [];
      text = λ history. ok_line client;
      plans = [];
      are = λ history. refl;
      at = λ tell before m at. create_at before m at ok tell;
      says = λ tell before m at. refl;
      mark = λ m. refl;
      during = λ tell before m at. create_during before m at tell [];
      kept = create_kept;
      logged = create_logged;
      usable = ready;
      disk = call.keeps.counts.same unfailed;
      say = call.keeps.counts.other;
    }

    -- the table is made, and a reply says it
    pub create_answers : IsUsable tells is new → (line : List ℕ) → line ≡ ok_line client → (answer : Result Bool RunFault) (end : Outside) → Replies tells line false answer new end
        → Answers tells client (create_wish create) answer was is old end
    create_answers ready line same answer end replies =
        done_answers tells client (create_wish create) (Make accepted) (make_tells_none accepted) was is old usable asks (ok_line client) answer new end (create_done ready)
        (subst (λ (l : List ℕ). Replies tells l false answer new end) same replies)

  -- or a fault ends it
  pub create_ended : (fault : PutFault) → result ≡ Err fault → Answers tells client (create_wish create) (Err (put_fault_of fault)) was is old new
  create_ended fault is_err =
      ended_task tells client (create_wish create) (Make accepted) fault was is old new (make_tells_none accepted) usable asks (λ tell before m at. create_during before m at tell (Replied (ok_line client) [] false ∷ []))
      (counts_read (put_fault_of fault) (IsErrOf result put.Failed) old new call.keeps.counts (λ disk. is_err ∙ ap (λ (f : PutFault). Err f) (failed_by fault disk)) (λ failed. failed_so fault (sym is_err ∙ failed)) (unsaid fault))
