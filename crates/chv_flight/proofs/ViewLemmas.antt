-- A view is made: what that does to the moment that a store is at, to what is held, and to what a crash leaves.
use Rattle.std.proofs.Common.{◌≡◌, ◌⊎◌, inl, inr, ℕ, ◌-◌, ◌≤◌, Bool, false, List, [], ◌∷◌, ◌++◌, length, map, get_or, Ok, Err, OnOk, refl, sym, ap, subst, ◌∙◌, arith}
use Rattle.std.specs.Prelude.{Result, IsErrOf}
use Rattle.std.proofs.lemmas.List.{append-nil, map_push}
use Rattle.chv_ast.specs.Formed.{FormedView}
use Rattle.chv_ast.specs.declared.refusal.Refusal.{Refusal}
use Rattle.chv_ast.specs.declared.statement.CreateView.{CreateView}
use Rattle.chv_ast.specs.declared.statement.Statement.TheVariants as statement
use Rattle.chv_catalog.proofs.SchemaLemmas.{same_tables}
use Rattle.chv_catalog.specs.Schemas.{Catalog, with_definition}
use Rattle.chv_catalog.specs.declared.definition.Definition.TheVariants.{View}
use Rattle.chv_catalog.specs.declared.view_def.ViewDef.{ViewDef}
use Rattle.chv_commit.specs.Replays.{State, no_state}
use Rattle.chv_commit.specs.declared.commit.Commit.{Commit}
use Rattle.chv_query.specs.Accepted.{Accepted, IsAccepted, catalog_of, catalog_payload}
use Rattle.chv_query.specs.Views.{defined_view}
use Rattle.chv_query.proofs.AcceptedLemmas.{IsSchema-push, catalog_of-push}
use Rattle.chv_part.specs.Books.{Book}
use Rattle.chv_part.specs.Forms.{form_of}
use Rattle.chv_site.specs.During.{During}
use Rattle.chv_site.specs.Effects.{ChangesOnly}
use Rattle.chv_site.specs.FileIds.{catalog_log, table_log}
use Rattle.chv_site.specs.Files.{FileState}
use Rattle.chv_site.specs.Outside.{Outside}
use Rattle.chv_site.specs.declared.file_id.FileId.{FileId}
use Rattle.chv_site.proofs.Moments.{weakened}
use Rattle.chv_store.specs.Calls.{StandsFor, Turns}
use Rattle.chv_store.specs.Holding.{HoldsBooks, HoldsLogs}
use Rattle.chv_store.specs.Openings.{MakesDefinition}
use Rattle.chv_store.specs.Stores.{IsUsable, forms_of, states_of, state_of}
use Rattle.chv_store.specs.declared.store.Store.{Store}
use Rattle.chv_table.specs.declared.fault.PutFault.{PutFault}
use Rattle.chv_table.specs.declared.fault.PutFault.TheVariants as put
use Rattle.chv_text.specs.Replies.{ok_line}
use Rattle.chv_types.specs.Steps.{and_then}
use Rattle.chv_history.specs.Crashes.{IsLeftBy}
use Rattle.chv_history.specs.Events.{Created, Event, Moment, Replied, happen}
use Rattle.chv_history.specs.Histories.{History, IsLawful, Stands, book_of, with_accepted}
use Rattle.chv_history.specs.Histories.{forms_of as forms_in}
use Rattle.chv_history.specs.Kept.{Kept, kept_task}
use Rattle.chv_history.specs.Tasks.{Make}
use Rattle.chv_history.proofs.EntryLemmas.{books-accepted}
use Rattle.chv_history.proofs.LawfulLemmas.{forms_of-push, lawful_accepted}
use Rattle.chv_history.proofs.LeftLemmas.{left_either}
use Rattle.chv_history.proofs.StandingLemmas.{stands_by}
use Rattle.chv_flight.specs.Answers.{Answers, HoldsKept, IsAt, IsLogged, Replies, view_wish}
use Rattle.chv_flight.specs.Faults.{put_fault_of}
use Rattle.chv_flight.specs.declared.fault.RunFault.{RunFault}
use Rattle.chv_flight.proofs.AnswerLemmas.{Asks, counts_read}
use Rattle.chv_flight.proofs.CreateLemmas.{failed_by, failed_so, make_tells_none, unsaid}
use Rattle.chv_flight.proofs.DeliverLemmas.{holds_by}
use Rattle.chv_flight.proofs.DoneLemmas.{Done, done_answers, ended_task}

-- the view that a statement makes, as a history has it
abbrev pub viewed : CreateView → ViewDef → Accepted
viewed create def = record { statement = statement.CreateView create; definition = View def }

-- what the store's call did
pub record HasViewed (tells : Type 0) (result : Result (Unit {0}) PutFault) (was is : Store) (text : List ℕ) (def : ViewDef) (old new : Outside) : Type 0 where
  pub created : tells → (payloads : List (List ℕ)) (books : ℕ → Book) → HoldsBooks was old.files payloads books
      → Turns result (HoldsBooks is new.files (payloads ++ text ∷ []) books) (StandsFor payloads (forms_of was) books) (StandsFor (payloads ++ text ∷ []) (forms_of was) books) old new
  pub logged : tells → (payloads : List (List ℕ)) (commits : ℕ → List Commit) → HoldsLogs was old.files payloads commits → OnOk result (HoldsLogs is new.files (payloads ++ text ∷ []) commits)
  pub held : OnOk result ((is.schema.catalog ≡ with_definition (View def) was.schema.catalog) × (states_of is ≡ states_of was))
  pub keeps : ChangesOnly tells (IsErrOf result put.Failed) catalog_log old new

-- a view that is defined is one that a statement makes
pub makes_view : (catalog : Catalog) (create : CreateView) (def : ViewDef) → FormedView create → defined_view catalog create ≡ Ok def → MakesDefinition catalog (statement.CreateView create) (View def)
makes_view catalog create def formed is = record { formed = formed; defines = is }

-- a view that is not defined is refused
pub view_refused : (store : Store) (create : CreateView) (refuses : Refusal) → defined_view store.schema.catalog create ≡ Err refuses → Asks (view_wish create) store (Err refuses)
view_refused store create refuses is entries agree = ap (λ (r : Result ViewDef Refusal). and_then r (λ d. Ok (Make (viewed create d)))) is

-- a table's log is not the catalog's
not_catalog : (table : ℕ) → 1 ≤ table → table_log table ≡ catalog_log → ⊥
not_catalog table some same = absurd (omega (arith, some, ap (λ (f : FileId). f.table) same))

module _ (tells : Type 0) (client : ℕ) (result : Result (Unit {0}) PutFault) (was is : Store) (create : CreateView) (def : ViewDef) (old new : Outside) (usable : IsUsable tells was old)
    (makes : MakesDefinition was.schema.catalog (statement.CreateView create) (View def)) (call : HasViewed tells result was is (catalog_payload (viewed create def)) def old new) where
  abbrev accepted : Accepted
  accepted = viewed create def

  abbrev payload : List ℕ
  payload = catalog_payload (viewed create def)

  asks : Asks (view_wish create) was (Ok (Make accepted))
  asks entries agree = ap (λ (r : Result ViewDef Refusal). and_then r (λ d. Ok (Make (viewed create d)))) makes.defines

  -- at a moment
  module _ (before : List ℕ) (m : Moment) (at : IsAt was old before m) where
    abbrev next : History
    next = with_accepted accepted m.history

    abbrev payloads : List (List ℕ)
    payloads = map catalog_payload m.history.schema

    lawful_next : IsLawful next
    lawful_next = lawful_accepted accepted m.history at.lawful (subst (λ (catalog : Catalog). IsAccepted catalog accepted) at.catalog makes)

    payloads_next : payloads ++ payload ∷ [] ≡ map catalog_payload next.schema
    payloads_next = sym (map_push catalog_payload m.history.schema accepted)

    books_next : (n : ℕ) → book_of next n ≡ book_of m.history n
    books_next n = books-accepted accepted m.history n

    forms_are : forms_of was ≡ forms_in m.history.schema
    forms_are = ap (map form_of) (same_tables was.schema.catalog (catalog_of m.history.schema) at.catalog)

    forms_next : forms_of was ≡ forms_in next.schema
    forms_next = forms_are ∙ sym (append-nil (forms_in m.history.schema)) ∙ sym (forms_of-push m.history.schema accepted)

    turns : tells
        → Turns result (HoldsBooks is new.files (payloads ++ payload ∷ []) (book_of m.history)) (StandsFor payloads (forms_of was) (book_of m.history))
        (StandsFor (payloads ++ payload ∷ []) (forms_of was) (book_of m.history)) old new
    turns tell = call.created tell payloads (book_of m.history) at.holds

    -- a crash meanwhile leaves the store with the view or without
    view_during : tells → (events : List Event) → During old new (IsLeftBy (Created accepted ∷ events) before m)
    view_during tell events =
        weakened old new _ (IsLeftBy (Created accepted ∷ events) before m) (turns tell).during
        (λ image text left.
        left_either (Created accepted) events before m image text refl
        (elim left.stands as (λ _. Stands image m.history ⊎ Stands image next) [
          | inl first ↦ inl (stands_by image m.history payloads (forms_of was) (book_of m.history) at.lawful refl forms_are (λ n. refl) first)
          | inr second ↦ inr (stands_by image next (payloads ++ payload ∷ []) (forms_of was) (book_of m.history) lawful_next payloads_next forms_next books_next second)
        ]) (left.text_left ∙ at.text))

    view_at : result ≡ Ok tt → tells → IsAt is new before (happen (Created accepted) m)
    view_at ok tell =
        let held = subst (λ (r : Result (Unit {0}) PutFault). OnOk r ((is.schema.catalog ≡ with_definition (View def) was.schema.catalog) × (states_of is ≡ states_of was))) ok call.held in
        let holds = subst (λ (r : Result (Unit {0}) PutFault). OnOk r (HoldsBooks is new.files (payloads ++ payload ∷ []) (book_of m.history))) ok (turns tell).done in
        record {
          lawful = lawful_next;
          catalog = held.0 ∙ ap (with_definition (View def)) at.catalog ∙ sym (catalog_of-push m.history.schema accepted);
          holds = subst (λ (ps : List (List ℕ)). HoldsBooks is new.files ps (book_of next)) payloads_next (holds_by is new.files (payloads ++ payload ∷ []) (book_of m.history) (book_of next) books_next holds);
          text = call.keeps.said tell ∙ at.text;
        }

  module _ (ok : result ≡ Ok tt) where
    held : (is.schema.catalog ≡ with_definition (View def) was.schema.catalog) × (states_of is ≡ states_of was)
    held = subst (λ (r : Result (Unit {0}) PutFault). OnOk r ((is.schema.catalog ≡ with_definition (View def) was.schema.catalog) × (states_of is ≡ states_of was))) ok call.held

    -- what is held of each table
    same_state : (table : ℕ) → state_of is table ≡ state_of was table
    same_state table = ap (λ (states : List State). get_or states (table - 1) no_state) held.1

    view_kept : (kept : Kept) → HoldsKept was kept → HoldsKept is (kept_task (Ok (Make accepted)) kept)
    view_kept kept has = record {
      catalog = held.0 ∙ ap (with_definition (View def)) has.catalog;
      states = λ table first within. same_state table ∙ has.states table first within;
    }

    view_logged : tells → IsLogged was old.files → IsLogged is new.files
    view_logged tell logged =
        let payloads = map catalog_payload logged.schema in
        let passes : IsAccepted (catalog_of logged.schema) accepted = subst (λ (catalog : Catalog). IsAccepted catalog accepted) logged.catalog makes in
        let holds = call.logged tell payloads logged.commits logged.holds in
        let tables : is.schema.catalog.tables ≡ was.schema.catalog.tables = ap (λ (catalog : Catalog). catalog.tables) held.0 in
        record {
          schema = logged.schema ++ accepted ∷ [];
          lawful = IsSchema-push logged.schema accepted logged.lawful passes;
          catalog = held.0 ∙ ap (with_definition (View def)) logged.catalog ∙ sym (catalog_of-push logged.schema accepted);
          commits = logged.commits;
          holds = subst (λ (ps : List (List ℕ)). HoldsLogs is new.files ps logged.commits) (sym (map_push catalog_payload logged.schema accepted))
              (subst (λ (r : Result (Unit {0}) PutFault). OnOk r (HoldsLogs is new.files (payloads ++ payload ∷ []) logged.commits)) ok holds);
          others = λ table beyond.
              subst (λ (s : FileState). s.most ≤ 1) (sym (call.keeps.others tell (table_log table) (not_catalog table (omega (arith, beyond)))))
              (logged.others table (omega (arith, beyond, ap length tables)));
        }

    unfailed : IsErrOf result put.Failed → ⊥
    unfailed err = cc (sym ok ∙ err)

    view_done : IsUsable tells is new → Done tells client (Make accepted) (ok_line client) was is old new
    view_done ready = record {
      events = λ history. Created accepted ∷ [];
      text = λ history. ok_line client;
      plans = [];
      are = λ history. refl;
      at = λ tell before m at. view_at before m at ok tell;
      says = λ tell before m at. refl;
      mark = λ m. refl;
      during = λ tell before m at. view_during before m at tell [];
      kept = view_kept;
      logged = view_logged;
      usable = ready;
      disk = call.keeps.counts.same unfailed;
      say = call.keeps.counts.other;
    }

    -- the view is made, and a reply says it
    pub view_answers : IsUsable tells is new → (line : List ℕ) → line ≡ ok_line client → (answer : Result Bool RunFault) (end : Outside) → Replies tells line false answer new end
        → Answers tells client (view_wish create) answer was is old end
    view_answers ready line same answer end replies =
        done_answers tells client (view_wish create) (Make accepted) (make_tells_none accepted) was is old usable asks (ok_line client) answer new end (view_done ready)
        (subst (λ (l : List ℕ). Replies tells l false answer new end) same replies)

  -- or a fault ends it
  pub view_ended : (fault : PutFault) → result ≡ Err fault → Answers tells client (view_wish create) (Err (put_fault_of fault)) was is old new
  view_ended fault is_err =
      ended_task tells client (view_wish create) (Make accepted) fault was is old new (make_tells_none accepted) usable asks (λ tell before m at. view_during before m at tell (Replied (ok_line client) [] false ∷ []))
      (counts_read (put_fault_of fault) (IsErrOf result put.Failed) old new call.keeps.counts (λ disk. is_err ∙ ap (λ (f : PutFault). Err f) (failed_by fault disk)) (λ failed. failed_so fault (sym is_err ∙ failed)) (unsaid fault))
