-- What one delivery does: to the moment that a store is at, to what is held, and to what a crash leaves.
use Rattle.std.proofs.Common.{◌≡◌, ◌≢◌, ◌⊎◌, inl, inr, ℕ, ◌+◌, ◌-◌, ◌<◌, ◌≤◌, Bool, true, false, if◌then◌else◌, List, [], ◌∷◌, length, map, get_or, slice_get, Option, None, Some, Ok, Err, IfOk, OnOk, IsErr, refl, sym, ap, ap₂, subst, ◌∙◌, arith, get_or-set_same, get_or-set_other}
use Rattle.std.specs.Prelude.{Result, ◌==◌, ◌↔◌}
use Rattle.std.specs.Bool.{Decides}
use Rattle.std.specs.List.{Contains, list_any}
use Rattle.std.proofs.lemmas.Bool.{cases_eq, false_from_ne_true, false≢true}
use Rattle.std.proofs.lemmas.Bool.Decides.{Decides-and, Decides-eqb, Decides-like}
use Rattle.std.proofs.lemmas.Map.Made.{is_member-Decides}
use Rattle.std.proofs.lemmas.Option.{get_or_from_slice_get, slice_get-map, slice_get_within}
use Rattle.std.specs.Option.{option_map}
use Rattle.chv_catalog.specs.Schemas.{Catalog}
use Rattle.chv_catalog.specs.declared.table_def.TableDef.{TableDef}
use Rattle.chv_commit.specs.Replays.{State, added, no_state}
use Rattle.chv_commit.specs.declared.commit.Commit.{Commit}
use Rattle.chv_query.specs.Accepted.{catalog_of, catalog_payload, tables_of}
use Rattle.chv_part.specs.Books.{Book, Entry, IsEntry, arrived}
use Rattle.chv_part.specs.Forms.{form_of}
use Rattle.chv_part.specs.Parts.{IsPartFile}
use Rattle.chv_query.specs.Arrivals.{Arrival, IsArrival, entry_in}
use Rattle.chv_query.specs.Derived.{def_at}
use Rattle.chv_query.proofs.EntryLemmas.{arrival-entry}
use Rattle.chv_query.specs.Plans.{Delivery}
use Rattle.chv_plan.specs.Deliveries.{Delivers as IsHeldDelivery}
use Rattle.chv_plan.specs.declared.delivery.Delivery.{Delivery as HeldDelivery}
use Rattle.chv_sip.specs.BlockIds.{id_eq, last_ids}
use Rattle.chv_sip.specs.declared.block_id.BlockId.{BlockId}
use Rattle.chv_site.specs.During.{During}
use Rattle.chv_site.specs.FileIds.{table_log}
use Rattle.chv_site.specs.Files.{FileState}
use Rattle.chv_site.specs.Images.{Image}
use Rattle.chv_site.specs.Outside.{Outside}
use Rattle.chv_site.specs.declared.fault.Failed.{Failed}
use Rattle.chv_site.specs.declared.file_id.FileId.{FileId}
use Rattle.chv_site.proofs.Moments.{weakened}
use Rattle.chv_store.specs.Calls.{BringsTo, Notes, StandsFor, Turns, books_behind, commits_behind, states_behind}
use Rattle.chv_store.specs.Holding.{HoldsBooks, HoldsLogs}
use Rattle.chv_store.specs.Stores.{HasRoom, IsWithin, forms_of, states_of, state_of, window_in, window_of}
use Rattle.chv_store.specs.declared.store.Store.{Store}
use Rattle.chv_store.proofs.EachTableLemmas.{each-weaker}
use Rattle.chv_store.proofs.PlaceLemmas.{its_book, its_state, its_window}
use Rattle.chv_table.specs.Delivering.{ChangesTable}
use Rattle.chv_table.specs.Tables.{HoldsBook, held_state}
use Rattle.chv_table.specs.declared.table.Delivered.{Delivered}
use Rattle.chv_table.specs.declared.table.Delivered.TheVariants.{Written, Skipped}
use Rattle.chv_history.specs.Crashes.{IsLeftBy}
use Rattle.chv_history.specs.Events.{Moment, happen}
use Rattle.chv_history.specs.Histories.{History, IsLawful, Stands, book_of, ids_in, put_at, window_at}
use Rattle.chv_history.specs.Histories.{forms_of as forms_in, window_in as window_there}
use Rattle.chv_history.specs.Kept.{Kept, kept_delivery, noted}
use Rattle.chv_history.specs.KeptTurns.{written_kept}
use Rattle.chv_history.specs.Runs.{delivered, delivery_event, written_of}
use Rattle.chv_history.proofs.ArrivingLemmas.{put_at-other, put_at-same}
use Rattle.chv_history.proofs.CommitLemmas.{is_skipped, schema-with_commit, written_in-new, written_in-skipped}
use Rattle.chv_history.proofs.EntryLemmas.{books-arrived, ids_of-book_of}
use Rattle.chv_history.proofs.LawfulLemmas.{MayArrive, lawful_arrived}
use Rattle.chv_history.proofs.LeftLemmas.{left_either}
use Rattle.chv_history.proofs.StandingLemmas.{stands_by}
use Rattle.chv_flight.specs.Answers.{HoldsKept, IsAt, IsLogged}
use Rattle.chv_flight.specs.Deliveries.{Delivers}
use Rattle.chv_flight.proofs.AnswerLemmas.{held_at, moment_entries}

-- how many blocks are written
abbrev pub count_of : Delivered → ℕ
count_of Written = 1
count_of Skipped = 0

-- an arrival is an entry of its table
its_entry : (store : Store) → IsWithin store → (table : ℕ) (def : TableDef) → slice_get store.schema.catalog.tables (table - 1) ≡ Some def → (a : Arrival) → IsArrival store.schema.catalog table a
    → IsEntry (form_of def) (entry_in a)
its_entry store within table def stands a is =
    let defined = within.defined in
    arrival-entry defined.0 defined.1 table def (subst (λ (catalog : Catalog). def_at catalog table ≡ Some def) (sym defined.2) stands) a (subst (λ (catalog : Catalog). IsArrival catalog table a) (sym defined.2) is)

-- what the store's call did
pub record HasDelivered (tells : Type 0) (result : Result Delivered Failed) (was is : Store) (table : ℕ) (id : BlockId) (rows : ℕ) (encoded : List ℕ) (old new : Outside) : Type 0 where
  pub delivered : tells → (payloads : List (List ℕ)) (books : ℕ → Book) (entry : Entry) → BringsTo was.schema.catalog.tables table id rows encoded entry → HoldsBooks was old.files payloads books
      → Turns result (HoldsBooks is new.files payloads (books_behind was table entry books)) (StandsFor payloads (forms_of was) books) (StandsFor payloads (forms_of was) (books_behind was table entry books)) old new
  pub logged : tells → IfOk result (λ answer. (payloads : List (List ℕ)) (commits : ℕ → List Commit) → HoldsLogs was old.files payloads commits → HoldsLogs is new.files payloads (commits_behind answer was table rows id commits))
  pub noted : IfOk result (λ answer. Notes answer was is table rows id)
  pub keeps : ChangesTable tells (IsErr result) table (state_of was table).next_part old new

-- how many ids a window has, by either word for it
pub same_window : (found : Option TableDef) → window_in found ≡ window_there found
same_window None = refl
same_window (Some def) = refl

-- a store holds the same books, by whatever function they are given
pub holds_by : (store : Store) (files : FileId → FileState) (payloads : List (List ℕ)) (old new : ℕ → Book) → ((n : ℕ) → new n ≡ old n) → HoldsBooks store files payloads old → HoldsBooks store files payloads new
holds_by store files payloads old new same holds = record {
  catalog = holds.catalog;
  tables = each-weaker (λ n def table. HoldsBook table files (old n)) (λ n def table. HoldsBook table files (new n)) 1 store.schema.catalog.tables store.tables.items
      (λ n def table low high held. subst (HoldsBook table files) (sym (same n)) held) holds.tables;
  others = holds.others;
}

-- the test finds an id among others exactly where it is there
id_eq-Decides : (a b : BlockId) → Decides (id_eq a b) (a ≡ b)
id_eq-Decides a b =
    Decides-like (id_eq a b)
    (λ (same : (a.first ≡ b.first) × (a.second ≡ b.second)). ap₂ (λ (x y : ℕ). record { first = x; second = y }) same.0 same.1)
    (λ (same : a ≡ b). (ap (λ (id : BlockId). id.first) same, ap (λ (id : BlockId). id.second) same))
    (Decides-and (a.first == b.first) (a.second == b.second) (Decides-eqb a.first b.first) (Decides-eqb a.second b.second))

id_among : (id : BlockId) (ids : List BlockId) → Decides (list_any (id_eq id) ids) (Contains ids id)
id_among id ids = is_member-Decides id_eq-Decides ids id

-- whether a block was skipped
abbrev pub was_skipped : Delivered → Bool
was_skipped Written = false
was_skipped Skipped = true

-- which is told by a test of what is exactly where it was
told_skipped : (answer : Delivered) (among : Bool) (There : Type 0) → Decides among There → (answer ≡ Skipped) ↔ There → among ≡ was_skipped answer
told_skipped Skipped among There decides skipped = decides.1 (skipped.0 refl)
told_skipped Written among There decides skipped = false_from_ne_true among (λ yes. cc (skipped.1 (decides.0 yes)))

-- after an error nothing is to be shown of an answer
pub no_answer : {T E : Type 0} (r : Result T E) (P : T → Type 0) → IsErr r → IfOk r P
no_answer (Ok x) P err = absurd (false≢true err)
no_answer (Err e) P err = tt

pub nothing_ok : {T E : Type 0} (r : Result T E) (P : Type 0) → IsErr r → OnOk r P
nothing_ok (Ok x) P err = absurd (false≢true err)
nothing_ok (Err e) P err = tt

module _ (tells : Type 0) (result : Result Delivered Failed) (was is : Store) (planned : Delivery) (encoded : List ℕ) (old new : Outside) (within : IsWithin was) (room : HasRoom 1 was planned.table)
    (def : TableDef) (stands : slice_get was.schema.catalog.tables (planned.table - 1) ≡ Some def) (lawful : IsArrival was.schema.catalog planned.table planned.entry) (encoded_is : IsPartFile (form_of def) planned.entry.rows encoded)
    (call : HasDelivered tells result was is planned.table planned.entry.id (length planned.entry.rows) encoded old new) where
  brings : BringsTo was.schema.catalog.tables planned.table planned.entry.id (length planned.entry.rows) encoded (entry_in planned.entry)
  brings = record { def = def; stands = stands; lawful = its_entry was within planned.table def stands planned.entry lawful; id_is = refl; rows_are = refl; encoded_is = encoded_is }

  -- the table that stands there says what is held
  stands_state : slice_get (states_of was) (planned.table - 1) ≡ Some (held_state room.held)
  stands_state = slice_get-map held_state was.tables.items (planned.table - 1) ∙ ap (option_map held_state) room.stands

  state_is : state_of was planned.table ≡ held_state room.held
  state_is = get_or_from_slice_get (states_of was) (planned.table - 1) (held_state room.held) no_state stands_state

  notes : (answer : Delivered) → result ≡ Ok answer → Notes answer was is planned.table (length planned.entry.rows) planned.entry.id
  notes answer ok = subst (λ (r : Result Delivered Failed). IfOk r (λ a. Notes a was is planned.table (length planned.entry.rows) planned.entry.id)) ok call.noted

  -- the block is skipped where its id is among those that are held
  among : (answer : Delivered) → result ≡ Ok answer → list_any (id_eq planned.entry.id) (state_of was planned.table).ids ≡ was_skipped answer
  among answer ok =
      let ids = (state_of was planned.table).ids in
      told_skipped answer (list_any (id_eq planned.entry.id) ids) (Contains ids planned.entry.id) (id_among planned.entry.id ids) (notes answer ok).skipped

  same_catalog : (answer : Delivered) → result ≡ Ok answer → is.schema.catalog ≡ was.schema.catalog
  same_catalog answer ok = ap (λ s. s.catalog) (notes answer ok).schema

  -- at a moment
  module _ (before : List ℕ) (m : Moment) (at : IsAt was old before m) where
    abbrev next : History
    next = delivered planned m.history

    window : window_of was planned.table ≡ window_at (tables_of m.history.schema) planned.table
    window = same_window (slice_get was.schema.catalog.tables (planned.table - 1)) ∙ ap (λ (catalog : Catalog). window_at catalog.tables planned.table) at.catalog

    ids_are : (state_of was planned.table).ids ≡ last_ids (window_at (tables_of m.history.schema) planned.table) (ids_in (m.history.arrivals planned.table))
    ids_are =
        let held = held_at was planned.table within room.is_table in
        let book = its_book was planned.table held.0 held.1 old.files (map catalog_payload m.history.schema) (book_of m.history) at.holds in
        ap (λ (s : State). s.ids) (its_state was planned.table held.0 held.1) ∙ book.describes.ids
        ∙ ap₂ last_ids (sym (its_window was planned.table held.0 held.1) ∙ window) (ids_of-book_of m.history planned.table)

    may : MayArrive m.history planned.table planned.entry
    may = record {
      numbered = room.is_table.first;
      def = def;
      stands = subst (λ (catalog : Catalog). def_at catalog planned.table ≡ Some def) at.catalog stands;
      is = subst (λ (catalog : Catalog). IsArrival catalog planned.table planned.entry) at.catalog lawful;
      room =
          let held = moment_entries was old before m within at planned.table room.is_table.first room.is_table.last in
          let there : (state_of was planned.table).entries ≡ (held_state room.held).entries = ap (λ (s : State). s.entries) state_is in
          omega (arith, held, there, room.room.in_number);
    }

    lawful_next : IsLawful next
    lawful_next = lawful_arrived m.history planned.table planned.entry at.lawful may

    schema_next : next.schema ≡ m.history.schema
    schema_next = schema-with_commit planned.table (planned.entry ∷ []) m.history

    books_next : (n : ℕ) → book_of next n ≡ books_behind was planned.table (entry_in planned.entry) (book_of m.history) n
    books_next n =
        books-arrived planned.table planned.entry m.history n
        ∙ ap (λ (w : ℕ). put_at planned.table (arrived w (entry_in planned.entry) (book_of m.history planned.table)) (book_of m.history) n) (sym window)

    payloads_next : map catalog_payload m.history.schema ≡ map catalog_payload next.schema
    payloads_next = ap (map catalog_payload) (sym schema_next)

    forms_are : forms_of was ≡ forms_in m.history.schema
    forms_are = ap (λ (catalog : Catalog). map form_of catalog.tables) at.catalog

    -- what a crash leaves stands for the history from before it, or behind it
    left_old : (image : Image) → StandsFor (map catalog_payload m.history.schema) (forms_of was) (book_of m.history) image → Stands image m.history
    left_old image stand = stands_by image m.history (map catalog_payload m.history.schema) (forms_of was) (book_of m.history) at.lawful refl forms_are (λ n. refl) stand

    left_new : (image : Image) → StandsFor (map catalog_payload m.history.schema) (forms_of was) (books_behind was planned.table (entry_in planned.entry) (book_of m.history)) image → Stands image next
    left_new image stand =
        stands_by image next (map catalog_payload m.history.schema) (forms_of was) (books_behind was planned.table (entry_in planned.entry) (book_of m.history)) lawful_next payloads_next
        (forms_are ∙ ap forms_in (sym schema_next)) books_next stand

    turns : tells
        → Turns result (HoldsBooks is new.files (map catalog_payload m.history.schema) (books_behind was planned.table (entry_in planned.entry) (book_of m.history)))
        (StandsFor (map catalog_payload m.history.schema) (forms_of was) (book_of m.history))
        (StandsFor (map catalog_payload m.history.schema) (forms_of was) (books_behind was planned.table (entry_in planned.entry) (book_of m.history))) old new
    turns tell = call.delivered tell (map catalog_payload m.history.schema) (book_of m.history) (entry_in planned.entry) brings at.holds

    one_during : tells → During old new (IsLeftBy (delivery_event planned ∷ []) before m)
    one_during tell =
        weakened old new _ (IsLeftBy (delivery_event planned ∷ []) before m) (turns tell).during
        (λ image text left.
        left_either (delivery_event planned) [] before m image text refl
        (elim left.stands as (λ _. Stands image m.history ⊎ Stands image next) [ inl first ↦ inl (left_old image first) | inr second ↦ inr (left_new image second) ]) (left.text_left ∙ at.text))

    module _ (answer : Delivered) (ok : result ≡ Ok answer) where
      one_at : tells → IsAt is new before (happen (delivery_event planned) m)
      one_at tell =
          let done = subst (λ (r : Result Delivered Failed). OnOk r (HoldsBooks is new.files (map catalog_payload m.history.schema) (books_behind was planned.table (entry_in planned.entry) (book_of m.history)))) ok (turns tell).done in
          record {
            lawful = lawful_next;
            catalog = same_catalog answer ok ∙ at.catalog ∙ ap catalog_of (sym schema_next);
            holds = subst (λ (payloads : List (List ℕ)). HoldsBooks is new.files payloads (book_of next)) payloads_next
                (holds_by is new.files (map catalog_payload m.history.schema) (books_behind was planned.table (entry_in planned.entry) (book_of m.history)) (book_of next) books_next done);
            text = call.keeps.said tell ∙ at.text;
          }

      skipped_so : is_skipped planned.table planned.entry m.history ≡ was_skipped answer
      skipped_so = ap (list_any (id_eq planned.entry.id)) (sym ids_are) ∙ among answer ok

    counted_so : (answer : Delivered) → is_skipped planned.table planned.entry m.history ≡ was_skipped answer → count_of answer ≡ written_of (planned ∷ []) m.history
    counted_so Written new = sym (ap (λ (l : List Arrival). length l + 0) (written_in-new planned.table planned.entry m.history new))
    counted_so Skipped skipped = sym (ap (λ (l : List Arrival). length l + 0) (written_in-skipped planned.table planned.entry m.history skipped))

  -- what is held of the tables
  module _ (kept : Kept) (has : HoldsKept was kept) where
    last_kept : planned.table ≤ length kept.catalog.tables
    last_kept = omega (arith, room.is_table.last, ap (λ (catalog : Catalog). length catalog.tables) has.catalog)

    its : state_of was planned.table ≡ kept.states planned.table
    its = has.states planned.table room.is_table.first last_kept

    window_kept : window_of was planned.table ≡ window_at kept.catalog.tables planned.table
    window_kept = same_window (slice_get was.schema.catalog.tables (planned.table - 1)) ∙ ap (λ (catalog : Catalog). window_at catalog.tables planned.table) has.catalog

    abbrev note : State
    note = noted (window_at kept.catalog.tables planned.table) planned.entry (kept.states planned.table)

    -- it is noted where it is written
    note_by : (b : Bool) → list_any (id_eq planned.entry.id) (state_of was planned.table).ids ≡ b
        → note ≡ (if b then state_of was planned.table else added (window_of was planned.table) (state_of was planned.table).next_part (length planned.entry.rows) (planned.entry.id ∷ []) (state_of was planned.table))
    note_by b is =
        ap₂ (λ (w : ℕ) (s : State). noted w planned.entry s) (sym window_kept) (sym its)
        ∙ ap (λ (t : Bool). if t then state_of was planned.table else added (window_of was planned.table) (state_of was planned.table).next_part (length planned.entry.rows) (planned.entry.id ∷ []) (state_of was planned.table)) is

    note_here : (answer : Delivered) → list_any (id_eq planned.entry.id) (state_of was planned.table).ids ≡ was_skipped answer
        → get_or (states_behind answer was planned.table (length planned.entry.rows) planned.entry.id) (planned.table - 1) no_state ≡ note
    note_here Skipped is = sym (note_by true is)
    note_here Written is =
        get_or-set_same (states_of was) (planned.table - 1) (added (window_of was planned.table) (state_of was planned.table).next_part (length planned.entry.rows) (planned.entry.id ∷ []) (state_of was planned.table)) no_state
        (slice_get_within (states_of was) (planned.table - 1) (held_state room.held) stands_state)
        ∙ sym (note_by false is)

    note_other : (answer : Delivered) (table : ℕ) → table - 1 ≢ planned.table - 1
        → get_or (states_behind answer was planned.table (length planned.entry.rows) planned.entry.id) (table - 1) no_state ≡ state_of was table
    note_other Skipped table other = refl
    note_other Written table other =
        get_or-set_other (states_of was) (planned.table - 1) (table - 1) (added (window_of was planned.table) (state_of was planned.table).next_part (length planned.entry.rows) (planned.entry.id ∷ []) (state_of was planned.table)) no_state other

    one_kept : (answer : Delivered) → result ≡ Ok answer → HoldsKept is (kept_delivery planned kept)
    one_kept answer ok = record {
      catalog = same_catalog answer ok ∙ has.catalog;
      states = λ table first last.
          let states = ap (λ (states : List State). get_or states (table - 1) no_state) (notes answer ok).states in
          elim (cases_eq table planned.table) as (λ _. state_of is table ≡ put_at planned.table note kept.states table) [
            | inl same ↦
                states ∙ subst (λ (n : ℕ). get_or (states_behind answer was planned.table (length planned.entry.rows) planned.entry.id) (n - 1) no_state ≡ put_at planned.table note kept.states n) (sym same)
                (note_here answer (among answer ok) ∙ sym (put_at-same planned.table note kept.states))
            | inr other ↦
                states ∙ note_other answer table (λ one. other (omega (arith, one, first, room.is_table.first))) ∙ has.states table first last
                ∙ sym (put_at-other planned.table table note kept.states other)
          ];
    }

    -- it is counted by them as it is by the history
    counted_by : (answer : Delivered) (skips : Bool) → skips ≡ was_skipped answer → count_of answer ≡ (if skips then 0 else 1)
    counted_by Written skips is = ap (λ (b : Bool). if b then 0 else 1) (sym is)
    counted_by Skipped skips is = ap (λ (b : Bool). if b then 0 else 1) (sym is)

    counted_kept : (answer : Delivered) → result ≡ Ok answer → count_of answer ≡ written_kept kept planned
    counted_kept answer ok =
        counted_by answer (list_any (id_eq planned.entry.id) (kept.states planned.table).ids) (ap (λ (s : State). list_any (id_eq planned.entry.id) s.ids) (sym its) ∙ among answer ok)

  -- and of their logs
  one_logged : (answer : Delivered) → result ≡ Ok answer → tells → IsLogged was old.files → IsLogged is new.files
  one_logged answer ok tell logged = record {
    schema = logged.schema;
    lawful = logged.lawful;
    catalog = same_catalog answer ok ∙ logged.catalog;
    commits = commits_behind answer was planned.table (length planned.entry.rows) planned.entry.id logged.commits;
    holds =
        (subst (λ (r : Result Delivered Failed). IfOk r (λ a. (payloads : List (List ℕ)) (commits : ℕ → List Commit) → HoldsLogs was old.files payloads commits
        → HoldsLogs is new.files payloads (commits_behind a was planned.table (length planned.entry.rows) planned.entry.id commits))) ok (call.logged tell))
        (map catalog_payload logged.schema) logged.commits logged.holds;
    others = λ table beyond.
        let above : length was.schema.catalog.tables < table = omega (arith, beyond, ap (λ (catalog : Catalog). length catalog.tables) (same_catalog answer ok)) in
        let other : table ≢ planned.table = λ same. absurd (omega (arith, same, above, room.is_table.last)) in
        subst (λ (s : FileState). s.most ≤ 1)
        (sym (call.keeps.others tell (table_log table) (λ same. other (ap (λ (f : FileId). f.table) same)) (λ same. other (ap (λ (f : FileId). f.table) same))))
        (logged.others table above);
  }

  planned_made : (answer : Delivered) → result ≡ Ok answer → Delivers tells (planned ∷ []) (Ok (count_of answer)) was is old new
  planned_made answer ok = record {
    delivered = λ tell before m at. (one_at before m at answer ok tell, counted_so before m at answer (skipped_so before m at answer ok));
    during = λ tell before m at. one_during before m at tell;
    kept = λ kept has. one_kept kept has answer ok;
    logged = λ tell. one_logged answer ok tell;
    said = λ tell. call.keeps.said tell;
  }

  planned_failed : (r : Result ℕ Failed) → IsErr r → Delivers tells (planned ∷ []) r was is old new
  planned_failed r err = record {
    delivered = λ tell. no_answer r _ err;
    during = λ tell before m at. one_during before m at tell;
    kept = nothing_ok r _ err;
    logged = λ tell. nothing_ok r _ err;
    said = λ tell. call.keeps.said tell;
  }

-- so it is with a delivery by what is held of it
module _ (tells : Type 0) (result : Result Delivered Failed) (was is : Store) (held : HeldDelivery) (encoded : List ℕ) (same : encoded ≡ held.encoded) (old new : Outside) (within : IsWithin was) (room : HasRoom 1 was held.table)
    (call : HasDelivered tells result was is held.table held.id held.rows encoded old new) (planned : Delivery) (of : IsHeldDelivery was.schema.catalog held planned) where
  its_room : HasRoom 1 was planned.table
  its_room = subst (HasRoom 1 was) of.table room

  its_file : IsPartFile (form_of of.def) planned.entry.rows encoded
  its_file = record { kinds_fit = (its_entry was within planned.table of.def of.stands planned.entry of.lawful).kinds_fit; spelled = same ∙ of.encoded }

  its_call : HasDelivered tells result was is planned.table planned.entry.id (length planned.entry.rows) encoded old new
  its_call =
      subst (λ (table : ℕ). HasDelivered tells result was is table planned.entry.id (length planned.entry.rows) encoded old new) of.table
      (subst (λ (id : BlockId). HasDelivered tells result was is held.table id (length planned.entry.rows) encoded old new) of.id
      (subst (λ (rows : ℕ). HasDelivered tells result was is held.table held.id rows encoded old new) of.rows call))

  pub one_made : (answer : Delivered) → result ≡ Ok answer → Delivers tells (planned ∷ []) (Ok (count_of answer)) was is old new
  one_made = planned_made tells result was is planned encoded old new within its_room of.def of.stands of.lawful its_file its_call

  pub one_counted : (answer : Delivered) → result ≡ Ok answer → (kept : Kept) → HoldsKept was kept → count_of answer ≡ written_kept kept planned
  one_counted answer ok kept has = counted_kept tells result was is planned encoded old new within its_room of.def of.stands of.lawful its_file its_call kept has answer ok

  pub one_failed : (r : Result ℕ Failed) → IsErr r → Delivers tells (planned ∷ []) r was is old new
  one_failed = planned_failed tells result was is planned encoded old new within its_room of.def of.stands of.lawful its_file its_call
