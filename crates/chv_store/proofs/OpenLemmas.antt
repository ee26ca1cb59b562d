-- What the catalog that is read says of the store that is opened.
use Rattle.std.proofs.Common.{◌≡◌, ℕ, ◌+◌, ◌≤◌, List, length, map, refl, sym, ◌∙◌, ap, subst, arith}
use Rattle.std.proofs.lemmas.List.{length-map}
use Rattle.chv_catalog.proofs.SchemaLemmas.{same_tables}
use Rattle.chv_catalog.specs.Schemas.{Catalog}
use Rattle.chv_catalog.specs.declared.table_def.TableDef.{TableDef}
use Rattle.chv_commit.specs.Commits.{commit_spelling}
use Rattle.chv_query.specs.Accepted.{Accepted, IsSchema, catalog_of, catalog_payload, tables_of}
use Rattle.chv_gate.specs.Crashes.{Leaves, LeavesFrames}
use Rattle.chv_gate.specs.GateLog.{HasFrames, IsReady}
use Rattle.chv_gate.proofs.GateLogLemmas.{unique}
use Rattle.chv_part.specs.Books.{Book, TableForm}
use Rattle.chv_part.specs.Forms.{form_of}
use Rattle.chv_part.specs.declared.damage.Damage.{Damage}
use Rattle.chv_site.specs.declared.file_id.FileId.{FileId}
use Rattle.chv_site.specs.FileIds.{catalog_log, table_log}
use Rattle.chv_site.specs.Files.{FileState, KeepsOthers}
use Rattle.chv_site.specs.During.{During}
use Rattle.chv_site.specs.Outside.{Outside}
use Rattle.chv_table.specs.Damage.{IsLogDamage}
use Rattle.chv_table.specs.Tables.{HoldsBook}
use Rattle.chv_store.specs.Calls.{StandsLeft}
use Rattle.chv_store.specs.Damage.{HasSchema, IsFirstDamage, IsLogWhole, IsTableDamage}
use Rattle.chv_store.specs.Holding.{FilesSettle, HoldsBooks}
use Rattle.chv_store.specs.Openings.{HoldsCatalog, OpensAs, OpensTable}
use Rattle.chv_store.specs.Stores.{EachTable}
use Rattle.chv_store.specs.declared.store.Store.{Store}
use Rattle.chv_store.proofs.EachTableLemmas.{each-weaker}
use Rattle.chv_store.proofs.SchemaLemmas.{schema_unique}
use Rattle.chv_store.proofs.SettleLemmas.{other_table, settles_kept, short_log, standing_during, then_during}

-- while the catalog's log is begun and read, a crash leaves what stands for the same
pub catalog_during : (payloads : List (List ℕ)) (forms : List TableForm) (books : ℕ → Book) (old new : Outside) → FilesSettle old.files payloads forms books
    → ((ps : List (List ℕ)) → LeavesFrames ps (old.files catalog_log) → Leaves catalog_log (HasFrames ps) old new) → During old new (StandsLeft payloads forms books old.said)
catalog_during payloads forms books old new settles during =
    standing_during payloads forms books catalog_log refl (omega arith) old new settles payloads settles.stands.catalog during

-- and then while the logs of its tables are
pub store_during : (schema : List Accepted) (tables : List TableDef) (books : ℕ → Book) (old mid new : Outside) → FilesSettle old.files (map catalog_payload schema) (map form_of (tables_of schema)) books → tables ≡ tables_of schema
    → mid.said ≡ old.said → ((ps : List (List ℕ)) → LeavesFrames ps (old.files catalog_log) → Leaves catalog_log (HasFrames ps) old mid)
    → During mid new (StandsLeft (map catalog_payload schema) (map form_of tables) books mid.said) → During old new (StandsLeft (map catalog_payload schema) (map form_of (tables_of schema)) books old.said)
store_during schema tables books old mid new settles are same first later =
    let payloads = map catalog_payload schema in
    let forms = map form_of (tables_of schema) in
    then_during payloads forms books old mid new same (catalog_during payloads forms books old mid settles first)
    (subst (λ (ts : List TableDef). During mid new (StandsLeft payloads (map form_of ts) books mid.said)) are later)

-- a catalog that was read, and the gate behind its texts
module _ (catalog : Catalog) (gate : ℕ) (old mid : FileId → FileState) (others : KeepsOthers catalog_log old mid) (holds : HoldsCatalog catalog gate (old catalog_log).bytes (mid catalog_log)) where
  -- the logs of tables are as they were
  log_same : (table : ℕ) → 1 ≤ table → mid (table_log table) ≡ old (table_log table)
  log_same table some = others (table_log table) (other_table catalog_log table 0 (λ is. absurd (omega (arith, some, is))))

  log_whole : (table window : ℕ) → 1 ≤ table → IsLogWhole (λ f. (mid f).bytes) table window → IsLogWhole (λ f. (old f).bytes) table window
  log_whole table window some whole = (
    whole.0,
    record {
      payloads = whole.1.payloads;
      right = whole.1.right;
      log = subst (λ (s : FileState). HasFrames whole.1.payloads s.bytes) (log_same table some) whole.1.log;
      state_is = whole.1.state_is;
    },
  )

  has_schema : HasSchema (λ f. (old f).bytes) holds.schema
  has_schema = record { lawful = holds.lawful; frames = holds.frames }

  -- damage of the first of its tables that is damaged
  pub table_damaged : (damage : Damage) → IsFirstDamage catalog.tables (λ f. (mid f).bytes) damage → IsTableDamage (λ f. (old f).bytes) catalog.tables damage
  table_damaged damage first = record {
    schema = holds.schema;
    has = has_schema;
    tables_are = same_tables catalog (catalog_of holds.schema) holds.catalog_is;
    first = record {
      place = first.place;
      def = first.def;
      stands = first.stands;
      earlier = λ p before below at. log_whole (p + 1) before.window (omega arith) (first.earlier p before below at);
      is = subst (λ (s : FileState). IsLogDamage (first.place + 1) first.def.window s.bytes damage) (log_same (first.place + 1) (omega arith)) first.is;
    };
  }

  -- of files that settle for a schema
  module _ (schema : List Accepted) (books : ℕ → Book) (lawful : IsSchema schema) (settles : FilesSettle old (map catalog_payload schema) (map form_of (tables_of schema)) books) where
    same_schema : schema ≡ holds.schema
    same_schema =
        schema_unique schema holds.schema lawful holds.lawful
        (unique (map catalog_payload schema) (map catalog_payload holds.schema) (old catalog_log).bytes settles.stands.catalog holds.frames)

    ready : IsReady gate (map catalog_payload schema) (mid catalog_log)
    ready = subst (λ (s : List Accepted). IsReady gate (map catalog_payload s) (mid catalog_log)) (sym same_schema) holds.log

    -- it is what the schema defines, and its tables still settle for it
    is_catalog : catalog ≡ catalog_of schema
    is_catalog = holds.catalog_is ∙ ap catalog_of (sym same_schema)

    pub are_tables : catalog.tables ≡ tables_of schema
    are_tables = same_tables catalog (catalog_of schema) is_catalog

    pub mid_settles : FilesSettle mid (map catalog_payload schema) (map form_of catalog.tables) books
    mid_settles =
        subst (λ (ts : List TableDef). FilesSettle mid (map catalog_payload schema) (map form_of ts) books) (sym are_tables)
        (settles_kept (map catalog_payload schema) (map form_of (tables_of schema)) books catalog_log refl (omega arith) old settles (map catalog_payload schema) settles.stands.catalog mid gate others ready)

    -- with its tables it is a store
    pub holds_store : (store : Store) (new : FileId → FileState) → store.catalog.file ≡ catalog_log → store.catalog.gate ≡ gate → store.schema.catalog ≡ catalog → new catalog_log ≡ mid catalog_log
        → EachTable (λ number def table. HoldsBook table new (books number)) 1 catalog.tables store.tables.items → FilesSettle new (map catalog_payload schema) (map form_of catalog.tables) books
        → HoldsBooks store new (map catalog_payload schema) books × (store.schema.catalog ≡ catalog_of schema)
    holds_store store new file place same kept each settled = (
      record {
        catalog = subst (λ (f : FileId). IsReady store.catalog.gate (map catalog_payload schema) (new f)) (sym file)
            (subst (λ (n : ℕ). IsReady n (map catalog_payload schema) (new catalog_log)) (sym place)
            (subst (λ (s : FileState). IsReady gate (map catalog_payload schema) s) (sym kept) ready));
        tables = subst (λ (ts : List TableDef). EachTable (λ number def table. HoldsBook table new (books number)) 1 ts store.tables.items) (sym (same_tables store.schema.catalog catalog same)) each;
        others = λ table beyond. short_log (map catalog_payload schema) (map form_of catalog.tables) books new settled table (omega (arith, beyond, ap length (same_tables store.schema.catalog catalog same), length-map catalog.tables form_of));
      },
      same ∙ is_catalog,
    )

  -- and it holds what its logs said
  pub opens_as : (store : Store) (new : FileId → FileState) → store.catalog.file ≡ catalog_log → store.catalog.gate ≡ gate → store.schema.catalog ≡ catalog → new catalog_log ≡ mid catalog_log
      → EachTable (OpensTable (λ f. (mid f).bytes) new) 1 catalog.tables store.tables.items → OpensAs store (λ f. (old f).bytes) new
  opens_as store new file place same kept each = record {
    schema = holds.schema;
    has = has_schema;
    catalog_is = same ∙ holds.catalog_is;
    catalog = subst (λ (f : FileId). IsReady store.catalog.gate (map catalog_payload holds.schema) (new f)) (sym file)
        (subst (λ (n : ℕ). IsReady n (map catalog_payload holds.schema) (new catalog_log)) (sym place)
        (subst (λ (s : FileState). IsReady gate (map catalog_payload holds.schema) s) (sym kept) holds.log));
    tables = subst (λ (ts : List TableDef). EachTable (OpensTable (λ f. (old f).bytes) new) 1 ts store.tables.items) (sym (same_tables store.schema.catalog catalog same))
        (each-weaker (OpensTable (λ f. (mid f).bytes) new) (OpensTable (λ f. (old f).bytes) new) 1 catalog.tables store.tables.items
        (λ n def table low high is. record {
          commits = is.commits;
          holds = is.holds;
          frames = subst (λ (s : FileState). HasFrames (map commit_spelling is.commits) s.bytes) (log_same n low) is.frames;
        }) each);
  }
