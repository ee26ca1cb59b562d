-- A store that is opened holds what its logs say, and a run that goes on with it keeps to them.
use Rattle.std.proofs.Common.{◌≡◌, ◌≢◌, ℕ, ◌+◌, ◌-◌, ◌<◌, ◌≤◌, List, [], ◌∷◌, length, map, get_or, slice_get, Some, option_map, refl, sym, ap, subst, ◌∙◌, arith}
use Rattle.std.specs.List.{All}
use Rattle.std.proofs.lemmas.List.Elements.{All-head}
use Rattle.std.proofs.lemmas.Option.{get_or_from_slice_get, slice_get-map, slice_get_within}
use Rattle.chv_catalog.proofs.SchemaLemmas.{same_tables}
use Rattle.chv_catalog.specs.Schemas.{Catalog}
use Rattle.chv_catalog.specs.declared.table_def.TableDef.{TableDef}
use Rattle.chv_commit.specs.Commits.{commit_spelling, IsCommit}
use Rattle.chv_commit.specs.Replays.{AreCommits, State, no_state, replayed}
use Rattle.chv_commit.specs.declared.commit.Commit.{Commit}
use Rattle.chv_commit.specs.declared.part_row.PartRow.{PartRow}
use Rattle.chv_commit.proofs.SoundLemmas.{All-front, All-behind, IsSound-no_state, IsSound-replayed}
use Rattle.chv_commit.proofs.TakenLemmas.{AreCommits-unique}
use Rattle.chv_query.specs.Accepted.{catalog_of, catalog_payload}
use Rattle.chv_gate.specs.GateLog.{HasFrames}
use Rattle.chv_gate.proofs.GateLogLemmas.{has_frames-IsReady, unique}
use Rattle.chv_history.specs.Kept.{Kept, entries_kept, kept_answer}
use Rattle.chv_history.specs.Script.{Request}
use Rattle.chv_history.specs.Tasks.{task_of}
use Rattle.chv_history.proofs.KeptLemmas.{task_agrees}
use Rattle.chv_history.proofs.LookupLemmas.{AreFilling, schema-filling, table_at}
use Rattle.chv_part.specs.Books.{TableForm}
use Rattle.chv_part.specs.Forms.{form_of}
use Rattle.chv_part.specs.Parts.{IsWhole}
use Rattle.chv_part.specs.declared.damage.Damage.{Damage}
use Rattle.chv_site.specs.declared.file_id.FileId.{FileId}
use Rattle.chv_site.specs.FileIds.{table_log, part_of}
use Rattle.chv_site.specs.Files.{FileState}
use Rattle.chv_site.specs.Images.{Image}
use Rattle.chv_store.specs.Damage.{HasCommits}
use Rattle.chv_store.specs.Holding.{with_one}
use Rattle.chv_store.specs.Openings.{OpensAs, OpensTable}
use Rattle.chv_store.specs.Stores.{EachTable, IsHeldAs, IsWithin, state_of, states_of}
use Rattle.chv_store.specs.declared.store.Store.{Store}
use Rattle.chv_store.proofs.EachTableLemmas.{each-at, each-both, each-weaker}
use Rattle.chv_store.proofs.PlaceLemmas.{with_one-same, with_one-other}
use Rattle.chv_table.specs.Damage.{IsDamageOfPart, IsPartDamage}
use Rattle.chv_table.specs.Tables.{HoldsCommits, held_form, held_state}
use Rattle.chv_table.specs.declared.table.Table.{Table}
use Rattle.chv_flight.specs.Answers.{FirstAsks, HoldsKept, IsLogged, request_wish}
use Rattle.chv_flight.proofs.RunLemmas.{rows_asked}
use Rattle.chv_engine.specs.Damage.{AreLive, FirstMeets, HasKept, HasNoStrays, line_of}
use Rattle.chv_engine.proofs.OpeningLemmas.{IsOpening, all_undamaged, schemas_same}

-- what is held of a table whose log has commits is what they say
table_commits : (files : Image) (number : ℕ) (def : TableDef) (table : Table) (commits : List Commit) → IsHeldAs number def table → All IsCommit commits
    → replayed (held_form table).window no_state commits ≡ Some (held_state table) → HasFrames (map commit_spelling commits) (files (table_log number)) → HasCommits files number def.window (held_state table)
table_commits files number def table commits held right replays log =
    let window : (held_form table).window ≡ def.window = ap (λ (form : TableForm). form.window) held.1.form_is in
    record {
      payloads = map commit_spelling commits;
      right = record {
        commits = commits;
        right = right;
        are = refl;
        state = held_state table;
        replays = subst (λ (w : ℕ). replayed w no_state commits ≡ Some (held_state table)) window replays;
      };
      log = log;
      state_is = refl;
    }

-- what is held of the log of the table at a place
state_at : (store : Store) (place : ℕ) (table : Table) → slice_get store.tables.items place ≡ Some table → state_of store (place + 1) ≡ held_state table
state_at store place table at =
    let here : place + 1 - 1 ≡ place = omega arith in
    ap (λ (n : ℕ). get_or (states_of store) n no_state) here
    ∙ get_or_from_slice_get (states_of store) place (held_state table) no_state (slice_get-map held_state store.tables.items place ∙ ap (option_map held_state) at)

-- each table's log says what is held of it
abbrev SaysHeld : Store → Image → Type 0
SaysHeld store files = (place : ℕ) (def : TableDef) → slice_get store.schema.catalog.tables place ≡ Some def → HasCommits files (place + 1) def.window (state_of store (place + 1))

says_held : (store : Store) (files : Image) (P : ℕ → TableDef → Table → Type 0) → IsWithin store → EachTable P 1 store.schema.catalog.tables store.tables.items
    → ((number : ℕ) (def : TableDef) (table : Table) → IsHeldAs number def table → P number def table → HasCommits files number def.window (held_state table)) → SaysHeld store files
says_held store files P within each says place def at =
    let Both = (λ (n : ℕ) (d : TableDef) (t : Table). IsHeldAs n d t × P n d t) in
    let there = each-at Both 1 place store.schema.catalog.tables store.tables.items def (each-both IsHeldAs P 1 store.schema.catalog.tables store.tables.items within.tables each) at in
    let here : 1 + place ≡ place + 1 = omega arith in
    subst (λ (n : ℕ). HasCommits files n def.window (state_of store (place + 1))) here
    (subst (HasCommits files (1 + place) def.window) (sym (state_at store place there.table there.stands)) (says (1 + place) def there.table there.holds.0 there.holds.1))

-- as the store was opened
pub opened_says : (store : Store) (old : Image) (new : FileId → FileState) → IsWithin store → OpensAs store old new → SaysHeld store old
opened_says store old new within opens =
    says_held store old (OpensTable old new) within opens.tables
    (λ n def t held is. table_commits old n def t is.commits held is.holds.right is.holds.replays is.frames)

-- and as long as it holds what its logs say
logged_says : (store : Store) (files : FileId → FileState) → IsWithin store → IsLogged store files → SaysHeld store (λ f. (files f).bytes)
logged_says store files within logged =
    says_held store (λ f. (files f).bytes) (λ n def t. HoldsCommits t files (logged.commits n)) within logged.holds.tables
    (λ n def t held is.
    let frames = map commit_spelling (logged.commits n) in
    table_commits (λ f. (files f).bytes) n def t (logged.commits n) held is.right is.replays
    (subst (λ (f : FileId). HasFrames frames (files f).bytes) (held.0.log ∙ ap table_log held.1.number_is) (has_frames-IsReady t.log.gate frames (files t.log.file) is.log)))

-- a store that was opened has no damaged log
pub opened_undamaged : (store : Store) (old : Image) (new : FileId → FileState) → IsWithin store → OpensAs store old new → (tables : List TableDef) (damage : Damage) → IsOpening old tables damage → ⊥
opened_undamaged store old new within opens =
    all_undamaged old opens.schema opens.has
    (λ place def at. (state_of store (place + 1), opened_says store old new within opens place def (subst (λ (ts : List TableDef). slice_get ts place ≡ Some def) (sym (same_tables store.schema.catalog (catalog_of opens.schema) opens.catalog_is)) at)))

-- a log says one thing
same_states : (window : ℕ) (ps qs : List (List ℕ)) → ps ≡ qs → (x : AreCommits window ps) (y : AreCommits window qs) → x.state ≡ y.state
same_states window ps qs same x y =
    (AreCommits-unique window qs (record { commits = x.commits; right = x.right; are = sym same ∙ x.are; state = x.state; replays = x.replays }) y).1

states_same : (files : Image) (table window : ℕ) (a b : State) → HasCommits files table window a → HasCommits files table window b → a ≡ b
states_same files table window a b x y =
    x.state_is ∙ same_states window x.payloads y.payloads (unique x.payloads y.payloads (files (table_log table)) x.log y.log) x.right y.right ∙ sym y.state_is

-- so a store that was opened holds what its logs say
pub opened_kept : (store : Store) (old : Image) (new : FileId → FileState) (kept : Kept) → IsWithin store → OpensAs store old new → HasKept old kept → HoldsKept store kept
opened_kept store old new kept within opens has =
    let catalog : store.schema.catalog ≡ kept.catalog = opens.catalog_is ∙ ap catalog_of (schemas_same old opens.schema has.schema opens.has has.has) ∙ sym has.catalog in
    record {
      catalog = catalog;
      states = λ table first last.
          let here : table - 1 + 1 ≡ table = omega (arith, first) in
          let at = table_at kept.catalog.tables (table - 1) (omega (arith, first, last)) in
          let mine = opened_says store old new within opens (table - 1) at.0 (subst (λ (ts : List TableDef). slice_get ts (table - 1) ≡ Some at.0) (sym (same_tables store.schema.catalog kept.catalog catalog)) at.1) in
          subst (λ (n : ℕ). state_of store n ≡ kept.states n) here
          (states_same old (table - 1 + 1) at.0.window (state_of store (table - 1 + 1)) (kept.states (table - 1 + 1)) mine (has.states (table - 1) at.0 at.1));
    }

-- and is asked for what they have
kept_asks : (request : Request) (store : Store) (kept : Kept) → IsWithin store → HoldsKept store kept → request_wish request store.schema.catalog (λ other. (state_of store other).entries) ≡ kept_answer request kept
kept_asks request store kept within holds =
    let filling : AreFilling kept.catalog = subst AreFilling (within.defined.2 ∙ holds.catalog) (schema-filling within.defined.0 within.defined.1) in
    ap (λ (catalog : Catalog). task_of catalog (λ other. (state_of store other).entries) request.statement) holds.catalog
    ∙ task_agrees kept.catalog (λ other. (state_of store other).entries) (entries_kept kept) request.statement filling (λ table first last. ap (λ (s : State). s.entries) (holds.states table first last))

-- live parts have numbers from 8 on
parts_numbered : (files : Image) (table window : ℕ) (state : State) → HasCommits files table window state → All (λ (row : PartRow). 8 ≤ row.part) state.layout
parts_numbered files table window state has =
    let sound = IsSound-replayed window no_state has.right.state has.right.commits IsSound-no_state has.right.replays in
    subst (λ (s : State). All (λ (row : PartRow). 8 ≤ row.part) s.layout) (sym has.state_is) (λ k d below. (sound.parts k d below).0)

-- the first part that is damaged is so where no part is another
damage_kept : (table : ℕ) (form : TableForm) (layout : List PartRow) (old new : Image) (damage : Damage) → All (λ (row : PartRow). 8 ≤ row.part) layout
    → ((part : ℕ) → 8 ≤ part → new (part_of table part) ≡ old (part_of table part)) → IsPartDamage table form layout old damage → IsPartDamage table form layout new damage
damage_kept table form layout old new damage numbered same is =
    let Numbered = (λ (row : PartRow). 8 ≤ row.part) in
    let numbers = subst (All Numbered) is.split numbered in
    let earlier = All-front Numbered is.earlier (is.row ∷ is.later) numbers in
    let row = All-head Numbered is.row is.later (All-behind Numbered is.earlier (is.row ∷ is.later) numbers) in
    record {
      earlier = is.earlier;
      row = is.row;
      later = is.later;
      split = is.split;
      whole = λ k d below. subst (IsWhole form) (sym (same _ (earlier k d below))) (is.whole k d below);
      is = subst (λ (bytes : List ℕ). IsDamageOfPart table form is.row.part bytes damage) (sym (same is.row.part row)) is.is;
    }

-- a part that the first request meets is met by the store that was opened
pub opened_meets : (store : Store) (old now : Image) (new : FileId → FileState) (requests : List Request) (line : List ℕ) → IsWithin store → OpensAs store old new → ((f : FileId) → f.part ≢ 0 → now f ≡ old f)
    → FirstMeets old requests line → (damage : Damage) × FirstAsks requests store now damage × (line ≡ line_of store.schema.catalog.tables damage)
opened_meets store old now new [] line within opens same meets = absurd meets
opened_meets store old now new (request ∷ requests) line within opens same meets =
    let kept = meets.kept in
    let holds = opened_kept store old new kept within opens meets.has in
    let table = meets.query.table in
    let def = meets.query.def in
    let stands = rows_asked kept.catalog (entries_kept kept) request.statement meets.query meets.asks in
    let here : table - 1 + 1 ≡ table = omega (arith, stands.0) in
    let below = slice_get_within kept.catalog.tables (table - 1) def stands.1 in
    let state = holds.states table stands.0 (omega (arith, stands.0, below)) in
    let has = subst (λ (n : ℕ). HasCommits old n def.window (kept.states n)) here (meets.has.states (table - 1) def stands.1) in
    let numbered = parts_numbered old table def.window (kept.states table) has in (
      meets.damage,
      record {
        query = meets.query;
        asks = kept_asks request store kept within holds ∙ meets.asks;
        is = subst (λ (s : State). IsPartDamage table (form_of def) s.layout now meets.damage) (sym state)
            (damage_kept table (form_of def) (kept.states table).layout old now meets.damage numbered (λ part high. same (part_of table part) (λ none. omega (arith, high, none))) meets.is);
      },
      meets.told ∙ ap (λ (catalog : Catalog). line_of catalog.tables meets.damage) (sym holds.catalog),
    )

-- the commits of each table that was opened, by its number
commits_by : (old : Image) (new : FileId → FileState) (number : ℕ) (defs : List TableDef) (tables : List Table) → EachTable (OpensTable old new) number defs tables → ℕ → List Commit
commits_by old new number [] [] each n = []
commits_by old new number [] (table ∷ tables) each n = []
commits_by old new number (def ∷ defs) [] each n = []
commits_by old new number (def ∷ defs) (table ∷ tables) each n = with_one number each.0.commits (commits_by old new (number + 1) defs tables each.1) n

each_commits : (old : Image) (new : FileId → FileState) (number : ℕ) (defs : List TableDef) (tables : List Table) (each : EachTable (OpensTable old new) number defs tables)
    → EachTable (λ n def t. HoldsCommits t new (commits_by old new number defs tables each n)) number defs tables
unfolding commits_by
each_commits old new number [] [] each = tt
each_commits old new number [] (table ∷ tables) each = absurd each
each_commits old new number (def ∷ defs) [] each = absurd each
each_commits old new number (def ∷ defs) (table ∷ tables) each =
    let rest = commits_by old new (number + 1) defs tables each.1 in (
      subst (HoldsCommits table new) (sym (with_one-same number each.0.commits rest)) each.0.holds,
      each-weaker (λ n d t. HoldsCommits t new (rest n)) (λ n d t. HoldsCommits t new (with_one number each.0.commits rest n)) (number + 1) defs tables
          (λ n d t low high is. subst (HoldsCommits t new) (sym (with_one-other number n each.0.commits rest (λ same. omega (arith, low, same)))) is)
          (each_commits old new (number + 1) defs tables each.1),
    )

-- a store that was opened is logged, where no other table has a log
pub opened_logged : (store : Store) (old new : FileId → FileState) → OpensAs store (λ f. (old f).bytes) new → ((table : ℕ) → length store.schema.catalog.tables < table → new (table_log table) ≡ old (table_log table))
    → HasNoStrays old → IsLogged store new
opened_logged store old new opens others none =
    let image : Image = λ f. (old f).bytes in
    record {
      schema = opens.schema;
      lawful = opens.has.lawful;
      catalog = opens.catalog_is;
      commits = commits_by image new 1 store.schema.catalog.tables store.tables.items opens.tables;
      holds = record { catalog = opens.catalog; tables = each_commits image new 1 store.schema.catalog.tables store.tables.items opens.tables };
      others = λ table beyond.
          let few = none opens.schema table opens.has (subst (λ (catalog : Catalog). length catalog.tables < table) opens.catalog_is beyond) in
          subst (λ (s : FileState). s.most ≤ 1) (sym (others table beyond)) few;
    }

-- of a store that is logged, what is held of a table are its live parts
pub logged_live : (store : Store) (files : FileId → FileState) (table : ℕ) (def : TableDef) → IsWithin store → IsLogged store files → 1 ≤ table → slice_get store.schema.catalog.tables (table - 1) ≡ Some def
    → AreLive (λ f. (files f).bytes) store.schema.catalog.tables table def (state_of store table).layout
logged_live store files table def within logged first at =
    let here : table - 1 + 1 ≡ table = omega (arith, first) in
    let texts = map catalog_payload logged.schema in
    record {
      schema = logged.schema;
      has = record {
        lawful = logged.lawful;
        frames = subst (λ (f : FileId). HasFrames texts (files f).bytes) within.catalog (has_frames-IsReady store.catalog.gate texts (files store.catalog.file) logged.holds.catalog);
      };
      tables_are = same_tables store.schema.catalog (catalog_of logged.schema) logged.catalog;
      state = state_of store table;
      commits = subst (λ (n : ℕ). HasCommits (λ f. (files f).bytes) n def.window (state_of store n)) here (logged_says store files within logged (table - 1) def at);
      layout_is = refl;
    }
