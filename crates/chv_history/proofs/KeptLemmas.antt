-- What a run holds of its tables is that of its history.
use Rattle.std.proofs.Common.{◌≡◌, ◌≢◌, inl, inr, ℕ, ◌+◌, ◌-◌, ◌≤◌, Bool, true, false, not, ◌&&◌, ◌||◌, if◌then◌else◌, List, [], ◌∷◌, ◌++◌, length, map, Option, None, Some, Result, Ok, Err, IfOk, is_none, nat_lt, slice_get, refl, sym, ap, ap₂, subst, ◌∙◌, arith}
use Rattle.std.specs.List.{All, list_all, list_any}
use Rattle.std.proofs.lemmas.Bool.{cases_eq}
use Rattle.std.proofs.lemmas.List.{append-nil, drop_all, length-append, map_push}
use Rattle.std.proofs.lemmas.List.Elements.{All-head, All-tail}
use Rattle.std.proofs.lemmas.List.Folds.{Any-from_list_any}
use Rattle.chv_ast.specs.declared.refusal.Refusal.{Refusal}
use Rattle.chv_ast.specs.declared.refusal.Refusal.TheVariants.{LimitPassed, NotBuilt}
use Rattle.chv_ast.specs.declared.statement.Statement.{Statement}
use Rattle.chv_ast.specs.declared.statement.Statement.TheVariants as statement
use Rattle.chv_catalog.proofs.SchemaLemmas.{same_tables}
use Rattle.chv_catalog.specs.Schemas.{Catalog, no_definitions, with_definition}
use Rattle.chv_catalog.specs.declared.definition.Definition.{Definition}
use Rattle.chv_catalog.specs.declared.definition.Definition.TheVariants.{Table, View}
use Rattle.chv_catalog.specs.declared.table_def.TableDef.{TableDef}
use Rattle.chv_commit.specs.Replays.{MAX_ENTRIES, State, added, no_state}
use Rattle.chv_query.specs.Accepted.{Accepted, IsSchema, catalog_of, tables_in, tables_of}
use Rattle.chv_query.proofs.AcceptedLemmas.{catalog_of-push}
use Rattle.chv_part.specs.Forms.{form_of}
use Rattle.chv_query.specs.Arrivals.{Arrival}
use Rattle.chv_query.specs.Plans.{Delivery, planned}
use Rattle.chv_query.specs.Queries.{Asked, divides, made_of}
use Rattle.chv_types.specs.Steps.{and_then, refuse_if}
use Rattle.chv_types.specs.declared.value.Value.{Value}
use Rattle.chv_sip.specs.BlockIds.{id_eq, last_ids}
use Rattle.chv_sip.specs.declared.block_id.BlockId.{BlockId}
use Rattle.chv_sip.proofs.LastIds.{last_ids-last_ids}
use Rattle.chv_history.specs.Built.{is_built}
use Rattle.chv_history.specs.Events.{Event, Plan, Moment, begins, behind, happen, with_commit}
use Rattle.chv_history.specs.Histories.{History, book_of, ids_in, no_history, put_at, window_at, window_in, with_accepted, with_none}
use Rattle.chv_history.specs.Kept.{Kept, IsKeptOf, IsRefused, MayDivide, Refuses, entries_kept, kept_answer, kept_behind, kept_delivery, kept_plan, kept_task, noted, with_log}
use Rattle.chv_history.specs.Runs.{answer_events, delivered, delivery_event, entries_in, request_events, run_events}
use Rattle.chv_history.specs.Script.{Request}
use Rattle.chv_history.specs.Tasks.{Task, Bring, Make, TellParts, TellRows, built_task, deliveries_to, has_room, task_of}
use Rattle.chv_history.specs.Told.{table_rows}
use Rattle.chv_history.proofs.ArrivingLemmas.{put_at-same, put_at-other, with_none-new, with_none-other}
use Rattle.chv_history.proofs.CommitLemmas.{arrivals-other, arrivals-with_arrivals, is_skipped, schema-with_commit, with_commit-new, with_commit-skipped}
use Rattle.chv_history.proofs.LawfulLemmas.{table_cases}
use Rattle.chv_history.proofs.FillingLemmas.{Filling, filling_request}
use Rattle.chv_history.proofs.LeftLemmas.{behind-append}
use Rattle.chv_history.proofs.LookupLemmas.{AreFilling, planned-within, schema-filling, table_at}
use Rattle.chv_history.proofs.RequestLemmas.{behind-cons, deliveries_refused, or_assoc, or_false}
use Rattle.chv_history.proofs.WhileLemmas.{while_last}

-- of one table: as many entries, and the last of their ids
pub record Tells (window : ℕ) (state : State) (arrivals : List Arrival) : Type 0 where
  pub entries : state.entries ≡ length arrivals
  pub ids : state.ids ≡ last_ids window (ids_in arrivals)

pub kept_at : (kept : Kept) (history : History) (place : ℕ) (def : TableDef) → IsKeptOf kept history → slice_get kept.catalog.tables place ≡ Some def → Tells def.window (kept.states (place + 1)) (history.arrivals (place + 1))
kept_at kept history place def is stands = record { entries = is.entries place def stands; ids = is.ids place def stands }

pub kept_by : (kept : Kept) (history : History) → kept.catalog ≡ catalog_of history.schema
    → ((place : ℕ) (def : TableDef) → slice_get kept.catalog.tables place ≡ Some def → Tells def.window (kept.states (place + 1)) (history.arrivals (place + 1))) → IsKeptOf kept history
kept_by kept history catalog each = record { catalog = catalog; entries = λ place def stands. (each place def stands).entries; ids = λ place def stands. (each place def stands).ids }

-- its tables are those of the history
pub kept_tables : (kept : Kept) (history : History) → IsKeptOf kept history → kept.catalog.tables ≡ tables_of history.schema
kept_tables kept history is = same_tables kept.catalog (catalog_of history.schema) is.catalog

-- nothing has arrived
tells_none : (window : ℕ) → Tells window no_state []
tells_none window = record { entries = refl; ids = sym (drop_all (0 - window) [] (omega arith)) }

-- a block is skipped by what is held where it is by the history, and is noted else
tells_noted : (window : ℕ) (arrival : Arrival) (state : State) (arrivals : List Arrival) (skipped : Bool) → list_any (id_eq arrival.id) (last_ids window (ids_in arrivals)) ≡ skipped → Tells window state arrivals
    → Tells window (noted window arrival state) (if skipped then arrivals else arrivals ++ arrival ∷ [])
tells_noted window arrival state arrivals skipped is tells =
    let by : list_any (id_eq arrival.id) state.ids ≡ skipped = ap (list_any (id_eq arrival.id)) tells.ids ∙ is in
    let note : Bool → State = λ b. if b then state else added window state.next_part (length arrival.rows) (arrival.id ∷ []) state in
    subst (λ (s : State). Tells window s (if skipped then arrivals else arrivals ++ arrival ∷ [])) (sym (ap note by))
    (elim skipped as (λ (b : Bool). Tells window (note b) (if b then arrivals else arrivals ++ arrival ∷ [])) [
      | true ↦ tells
      | false ↦
          record {
            entries = omega (arith, tells.entries, length-append arrivals (arrival ∷ []));
            ids =
                ap (λ (ids : List BlockId). last_ids window (ids ++ arrival.id ∷ [])) tells.ids
                ∙ last_ids-last_ids window (ids_in arrivals) (arrival.id ∷ [])
                ∙ ap (last_ids window) (sym (map_push (λ (a : Arrival). a.id) arrivals arrival));
          }
    ])

-- what arrived behind one block
arrived_one : (table : ℕ) (arrival : Arrival) (history : History)
    → (with_commit table (arrival ∷ []) history).arrivals table ≡ (if is_skipped table arrival history then history.arrivals table else history.arrivals table ++ arrival ∷ [])
arrived_one table arrival history =
    elim (is_skipped table arrival history)
    as (λ (b : Bool). is_skipped table arrival history ≡ b → (with_commit table (arrival ∷ []) history).arrivals table ≡ (if b then history.arrivals table else history.arrivals table ++ arrival ∷ [])) [
      | true ↦ λ skipped. ap (λ (h : History). h.arrivals table) (with_commit-skipped table arrival history skipped)
      | false ↦ λ new. ap (λ (h : History). h.arrivals table) (with_commit-new table arrival history new) ∙ arrivals-with_arrivals table (arrival ∷ []) history
    ] refl

module _ (delivery : Delivery) (kept : Kept) (history : History) (is : IsKeptOf kept history) where
  abbrev note : State
  note = noted (window_at kept.catalog.tables delivery.table) delivery.entry (kept.states delivery.table)

  tells_here : (place : ℕ) (def : TableDef) → place + 1 ≡ delivery.table → slice_get kept.catalog.tables place ≡ Some def → Tells def.window note ((delivered delivery history).arrivals delivery.table)
  tells_here place def same stands =
      let at : place + 1 - 1 ≡ place = omega arith in
      let window : window_at kept.catalog.tables delivery.table ≡ def.window = subst (λ (n : ℕ). window_at kept.catalog.tables n ≡ def.window) same (ap (λ (p : ℕ). window_in (slice_get kept.catalog.tables p)) at ∙ ap window_in stands) in
      let there : window_at (tables_of history.schema) delivery.table ≡ def.window = ap (λ (tables : List TableDef). window_at tables delivery.table) (sym (kept_tables kept history is)) ∙ window in
      let old : Tells def.window (kept.states delivery.table) (history.arrivals delivery.table) = subst (λ (n : ℕ). Tells def.window (kept.states n) (history.arrivals n)) same (kept_at kept history place def is stands) in
      let skipped : list_any (id_eq delivery.entry.id) (last_ids def.window (ids_in (history.arrivals delivery.table))) ≡ is_skipped delivery.table delivery.entry history =
      ap (λ (w : ℕ). list_any (id_eq delivery.entry.id) (last_ids w (ids_in (history.arrivals delivery.table)))) (sym there) in
      subst (λ (w : ℕ). Tells def.window (noted w delivery.entry (kept.states delivery.table)) ((delivered delivery history).arrivals delivery.table)) (sym window)
      (subst (Tells def.window (noted def.window delivery.entry (kept.states delivery.table))) (sym (arrived_one delivery.table delivery.entry history))
      (tells_noted def.window delivery.entry (kept.states delivery.table) (history.arrivals delivery.table) (is_skipped delivery.table delivery.entry history) skipped old))

  tells_each : (place : ℕ) (def : TableDef) → slice_get kept.catalog.tables place ≡ Some def → Tells def.window (put_at delivery.table note kept.states (place + 1)) ((delivered delivery history).arrivals (place + 1))
  tells_each place def stands = elim (cases_eq (place + 1) delivery.table) as (λ _. Tells def.window (put_at delivery.table note kept.states (place + 1)) ((delivered delivery history).arrivals (place + 1))) [
    | inl same ↦
        subst (λ (n : ℕ). Tells def.window (put_at delivery.table note kept.states n) ((delivered delivery history).arrivals n)) (sym same)
        (subst (λ (s : State). Tells def.window s ((delivered delivery history).arrivals delivery.table)) (sym (put_at-same delivery.table note kept.states)) (tells_here place def same stands))
    | inr other ↦
        subst (λ (s : State). Tells def.window s ((delivered delivery history).arrivals (place + 1))) (sym (put_at-other delivery.table (place + 1) note kept.states other))
        (subst (Tells def.window (kept.states (place + 1))) (sym (arrivals-other delivery.table (place + 1) (delivery.entry ∷ []) history other)) (kept_at kept history place def is stands))
  ]

  -- a delivery is made
  pub kept_delivered : IsKeptOf (kept_delivery delivery kept) (delivered delivery history)
  kept_delivered = kept_by (kept_delivery delivery kept) (delivered delivery history) (is.catalog ∙ ap catalog_of (sym (schema-with_commit delivery.table (delivery.entry ∷ []) history))) tells_each

-- deliveries are made one after the other
pub kept_planned : (plan : Plan) (kept : Kept) (m : Moment) → IsKeptOf kept m.history → IsKeptOf (kept_plan plan kept) (behind (map delivery_event plan) m).history
kept_planned [] kept m is = is
kept_planned (delivery ∷ plan) kept m is = kept_planned plan (kept_delivery delivery kept) (happen (delivery_event delivery) m) (kept_delivered delivery kept m.history is)

-- of a new table nothing is said, and of every other what was
with_log-new : (definition : Definition) (def : TableDef) (number : ℕ) (states : ℕ → State) → definition ≡ Table def → with_log definition number states number ≡ no_state
with_log-new (Table new) def number states is = put_at-same number no_state states
with_log-new (View new) def number states is = absurd (cc is)

with_log-other : (definition : Definition) (number n : ℕ) (states : ℕ → State) → n ≢ number → with_log definition number states n ≡ states n
with_log-other (Table new) number n states other = put_at-other number n no_state states other
with_log-other (View new) number n states other = refl

-- the tables of a catalog with a definition more
tables-more : (definition : Definition) (catalog : Catalog) → (with_definition definition catalog).tables ≡ catalog.tables ++ tables_in definition
tables-more (Table new) catalog = refl
tables-more (View new) catalog = sym (append-nil catalog.tables)

-- a table or a view is made
module _ (accepted : Accepted) (kept : Kept) (history : History) (is : IsKeptOf kept history) where
  abbrev number : ℕ
  number = length kept.catalog.tables + 1

  same_number : length (tables_of history.schema) + 1 ≡ number
  same_number = ap (λ (tables : List TableDef). length tables + 1) (sym (kept_tables kept history is))

  abbrev TellsMade : TableDef → ℕ → Type 0
  TellsMade def n = Tells def.window (with_log accepted.definition number kept.states n) (with_none accepted.definition number history.arrivals n)

  tells_made : (place : ℕ) (def : TableDef) → slice_get (kept.catalog.tables ++ tables_in accepted.definition) place ≡ Some def → TellsMade def (place + 1)
  tells_made place def stands =
      elim (table_cases kept.catalog.tables accepted.definition place def stands) as (λ _. TellsMade def (place + 1)) [
        | inl old ↦
            let other : place + 1 ≢ number = λ same. absurd (omega (arith, same, old.0)) in
            subst (λ (s : State). Tells def.window s (with_none accepted.definition number history.arrivals (place + 1))) (sym (with_log-other accepted.definition number (place + 1) kept.states other))
            (subst (Tells def.window (kept.states (place + 1))) (sym (with_none-other accepted.definition number (place + 1) history.arrivals other)) (kept_at kept history place def is old.1))
        | inr new ↦
            subst (λ (p : ℕ). TellsMade def (p + 1)) (sym new.0)
            (subst (λ (s : State). Tells def.window s (with_none accepted.definition number history.arrivals number)) (sym (with_log-new accepted.definition def number kept.states new.1))
            (subst (Tells def.window no_state) (sym (with_none-new accepted.definition def number history.arrivals new.1)) (tells_none def.window)))
      ]

  pub kept_made : IsKeptOf (kept_task (Ok (Make accepted)) kept) (with_accepted accepted history)
  kept_made =
      kept_by (kept_task (Ok (Make accepted)) kept) (with_accepted accepted history)
      (ap (with_definition accepted.definition) is.catalog ∙ sym (catalog_of-push history.schema accepted))
      (λ place def stands.
      subst (λ (n : ℕ). Tells def.window (with_log accepted.definition number kept.states (place + 1)) (with_none accepted.definition n history.arrivals (place + 1))) (sym same_number)
      (tells_made place def (subst (λ (defs : List TableDef). slice_get defs place ≡ Some def) (tables-more accepted.definition kept.catalog) stands)))

-- a task is done, or refused
pub kept_answered : (client : ℕ) (task : Result Task Refusal) (kept : Kept) (m : Moment) → IsKeptOf kept m.history → IsKeptOf (kept_task task kept) (behind (answer_events client task m.history) m).history
kept_answered client (Ok (Make accepted)) kept m is = kept_made accepted kept m.history is
kept_answered client (Ok (Bring plan)) kept m is =
    subst (λ (n : Moment). IsKeptOf (kept_plan plan kept) n.history) (sym (behind-append (map delivery_event plan) _ m)) (kept_planned plan kept m is)
kept_answered client (Ok (TellRows query)) kept m is = is
kept_answered client (Ok (TellParts table def)) kept m is = is
kept_answered client (Err refuses) kept m is = is

-- a query that divides by zero on one of some rows may divide by zero
none_is : {A : Type 0} (o : Option A) → is_none o ≡ true → o ≡ None
none_is None is = refl
none_is (Some a) is = absurd (cc is)

pub divides_may : (query : Asked) (rows : List (List Value)) → divides query rows ≡ true → MayDivide query
divides_may query rows is =
    let some = Any-from_list_any (λ (row : List Value). is_none (made_of query row)) rows is in
    (some.1, none_is (made_of query some.1) some.4)

-- a moment behind an answer is marked where one was refused before, or this one is
pub record MarksAnswer (task : Result Task Refusal) (before after : Bool) : Type 0 where
  pub first : Bool
  pub marks : after ≡ (before || first)
  pub is : IsRefused task first

pub refused_answered : (client : ℕ) (task : Result Task Refusal) (m : Moment) → MarksAnswer task m.refused (behind (answer_events client task m.history) m).refused
refused_answered client (Ok (Make accepted)) m = record { first = false; marks = refl; is = refl }
refused_answered client (Ok (Bring plan)) m = record {
  first = false;
  marks = ap (λ (n : Moment). n.refused) (behind-append (map delivery_event plan) _ m) ∙ ap (λ (b : Bool). b || false) (deliveries_refused plan m);
  is = refl;
}
refused_answered client (Ok (TellRows query)) m =
    let rows = table_rows (form_of query.def) (book_of m.history query.table) in
    record { first = divides query rows; marks = refl; is = divides_may query rows }
refused_answered client (Ok (TellParts table def)) m = record { first = false; marks = refl; is = refl }
refused_answered client (Err refuses) m = record { first = true; marks = refl; is = refl }

-- numbers of entries that agree on the tables that stand
abbrev pub Agree : List TableDef → (ℕ → ℕ) → (ℕ → ℕ) → Type 0
Agree tables one two = (table : ℕ) → 1 ≤ table → table ≤ length tables → one table ≡ two table

-- leave room for the same plans
room_agrees : (tables : List TableDef) (one two : ℕ → ℕ) (all plan : Plan) → Agree tables one two → All (λ (d : Delivery). (1 ≤ d.table) × (d.table ≤ length tables)) plan
    → list_all (λ (d : Delivery). not (nat_lt MAX_ENTRIES (one d.table + deliveries_to d.table all))) plan ≡ list_all (λ (d : Delivery). not (nat_lt MAX_ENTRIES (two d.table + deliveries_to d.table all))) plan
room_agrees tables one two all [] agree known = refl
room_agrees tables one two all (d ∷ plan) agree known =
    let Known : Delivery → Type 0 = λ (e : Delivery). (1 ≤ e.table) × (e.table ≤ length tables) in
    let here = All-head Known d plan known in
    ap₂ (λ (n : ℕ) (rest : Bool). not (nat_lt MAX_ENTRIES (n + deliveries_to d.table all)) && rest) (agree d.table here.0 here.1)
    (room_agrees tables one two all plan agree (All-tail Known d plan known))

bring_agrees : (tables : List TableDef) (one two : ℕ → ℕ) (plans : Result Plan Refusal) → Agree tables one two → IfOk plans (All (λ (d : Delivery). (1 ≤ d.table) × (d.table ≤ length tables)))
    → and_then plans (λ plan. refuse_if (not (has_room plan one)) LimitPassed (Ok (Bring plan))) ≡ and_then plans (λ plan. refuse_if (not (has_room plan two)) LimitPassed (Ok (Bring plan)))
bring_agrees tables one two (Ok plan) agree known = ap (λ (b : Bool). refuse_if (not b) LimitPassed (Ok (Bring plan))) (room_agrees tables one two plan plan agree known)
bring_agrees tables one two (Err refuses) agree known = refl

built_agrees : (catalog : Catalog) (one two : ℕ → ℕ) (asked : Statement) → AreFilling catalog → Agree catalog.tables one two → built_task catalog one asked ≡ built_task catalog two asked
built_agrees catalog one two (statement.CreateTable made) filling agree = refl
built_agrees catalog one two (statement.Insert brought) filling agree = bring_agrees catalog.tables one two (planned catalog brought) agree (planned-within catalog filling brought)
built_agrees catalog one two (statement.Query select) filling agree = refl
built_agrees catalog one two (statement.ShowParts asked) filling agree = refl
built_agrees catalog one two (statement.CreateView asked) filling agree = refl
built_agrees catalog one two (statement.Optimize asked) filling agree = refl
built_agrees catalog one two statement.FlushQueue filling agree = refl

-- so the task of a statement is the same
pub task_agrees : (catalog : Catalog) (one two : ℕ → ℕ) (asked : Option Statement) → AreFilling catalog → Agree catalog.tables one two → task_of catalog one asked ≡ task_of catalog two asked
task_agrees catalog one two None filling agree = refl
task_agrees catalog one two (Some asked) filling agree = ap (refuse_if (not (is_built asked)) NotBuilt) (built_agrees catalog one two asked filling agree)

-- what is held agrees with its history
pub kept_agrees : (kept : Kept) (history : History) → IsKeptOf kept history → Agree kept.catalog.tables (entries_kept kept) (entries_in history)
kept_agrees kept history is table first last =
    let place : table - 1 + 1 ≡ table = omega (arith, first) in
    let at = table_at kept.catalog.tables (table - 1) (omega (arith, first, last)) in
    subst (λ (n : ℕ). entries_kept kept n ≡ entries_in history n) place (is.entries (table - 1) at.0 at.1)

-- so a request has the same task by what is held
pub kept_request : (request : Request) (kept : Kept) (history : History) → AreFilling (catalog_of history.schema) → IsKeptOf kept history → task_of (catalog_of history.schema) (entries_in history) request.statement ≡ kept_answer request kept
kept_request request kept history filling is =
    ap (λ (catalog : Catalog). task_of catalog (entries_in history) request.statement) (sym is.catalog)
    ∙ sym (task_agrees kept.catalog (entries_kept kept) (entries_in history) request.statement (subst AreFilling (sym is.catalog) filling) (kept_agrees kept history is))

-- a moment behind requests is marked where one was refused before, or one of them is
pub record MarksAll (requests : List Request) (kept : Kept) (before after : Bool) : Type 0 where
  pub later : Bool
  pub marks : after ≡ (before || later)
  pub refuses : Refuses requests kept later

marks_more : (request : Request) (requests : List Request) (kept : Kept) (before between after : Bool) → MarksAnswer (kept_answer request kept) before between
    → MarksAll requests (kept_task (kept_answer request kept) kept) between after → MarksAll (request ∷ requests) kept before after
marks_more request requests kept before between after one rest = record {
  later = one.first || rest.later;
  marks = rest.marks ∙ ap (λ (b : Bool). b || rest.later) one.marks ∙ or_assoc before one.first rest.later;
  refuses = (one.first, rest.later, refl, one.is, rest.refuses);
}

-- what is held stays that of the history in a run, which refuses a statement as what is held says
pub kept_run : (requests : List Request) (kept : Kept) (m : Moment) → AreFilling (catalog_of m.history.schema) → IsKeptOf kept m.history
    → IsKeptOf (kept_behind requests kept) (behind (run_events requests m) m).history × MarksAll requests kept m.refused (behind (run_events requests m) m).refused
kept_run [] kept m filling is = (is, record { later = false; marks = or_false m.refused; refuses = refl })
kept_run (request ∷ requests) kept m filling is =
    let task = kept_request request kept m.history filling is in
    let events = request_events request m.history in
    let by : events ≡ answer_events request.client (kept_answer request kept) m.history = ap (λ (t : Result Task Refusal). answer_events request.client t m.history) task in
    let next = behind events m in
    let held : IsKeptOf (kept_task (kept_answer request kept) kept) next.history =
    subst (λ (es : List Event). IsKeptOf (kept_task (kept_answer request kept) kept) (behind es m).history) (sym by) (kept_answered request.client (kept_answer request kept) kept m is) in
    let mark : MarksAnswer (kept_answer request kept) m.refused next.refused =
    subst (λ (es : List Event). MarksAnswer (kept_answer request kept) m.refused (behind es m).refused) (sym by) (refused_answered request.client (kept_answer request kept) m) in
    let seen : AreFilling (catalog_of next.history.schema) = while_last Filling events [] m (filling_request request [] m filling) in
    let rest = kept_run requests (kept_task (kept_answer request kept) kept) next seen held in
    let last = behind (run_events requests next) next in
    let all = behind-cons request requests m in (
      subst (λ (n : Moment). IsKeptOf (kept_behind requests (kept_task (kept_answer request kept) kept)) n.history) (sym all) rest.0,
      subst (λ (n : Moment). MarksAll (request ∷ requests) kept m.refused n.refused) (sym all) (marks_more request requests kept m.refused next.refused last.refused mark rest.1),
    )

-- so it is in a run that begins with nothing refused
pub kept_begun : (requests : List Request) (kept : Kept) (history : History) → IsSchema history.schema → IsKeptOf kept history
    → IsKeptOf (kept_behind requests kept) (behind (run_events requests (begins history)) (begins history)).history × Refuses requests kept (behind (run_events requests (begins history)) (begins history)).refused
kept_begun requests kept history schema is =
    let all = kept_run requests kept (begins history) (schema-filling history.schema schema) is in
    (all.0, subst (Refuses requests kept) (sym all.1.marks) all.1.refuses)

-- of a new store nothing is held
pub kept_none : IsKeptOf (record { catalog = no_definitions; states = λ _. no_state }) no_history
kept_none = record { catalog = refl; entries = λ place def stands. absurd (cc stands); ids = λ place def stands. absurd (cc stands) }
