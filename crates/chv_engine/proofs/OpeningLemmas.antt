-- Which damage is met as a store is opened, and where there is none.
use Rattle.std.proofs.Common.{◌≡◌, ◌⊎◌, inl, inr, ℕ, ◌+◌, ◌<◌, List, [], map, slice_get, Some, refl, sym, ap, ap₂, subst, ◌∙◌, arith}
use Rattle.chv_catalog.proofs.SchemaLemmas.{same_tables}
use Rattle.chv_catalog.specs.declared.table_def.TableDef.{TableDef}
use Rattle.chv_commit.specs.Commits.{commit_spelling}
use Rattle.chv_query.specs.Accepted.{Accepted, AreTexts, catalog_of, tables_of, catalog_payload}
use Rattle.chv_gate.specs.GateLog.{HasFrames}
use Rattle.chv_gate.specs.Reading.{IsDamagedAt}
use Rattle.chv_gate.proofs.DamageLaws.{damage_unique, damage_excludes}
use Rattle.chv_gate.proofs.GateLogLemmas.{unique}
use Rattle.chv_history.specs.Histories.{History, Stands}
use Rattle.chv_history.specs.Kept.{Kept}
use Rattle.chv_history.proofs.LawfulLemmas.{form_there}
use Rattle.chv_part.specs.Forms.{form_of}
use Rattle.chv_part.specs.declared.damage.Damage.{Damage}
use Rattle.chv_part.specs.declared.damage.Damage.TheVariants.{Catalog, Log, PartHash, PartShape}
use Rattle.chv_site.specs.declared.file_id.FileId.{FileId}
use Rattle.chv_site.specs.FileIds.{catalog_log, table_log}
use Rattle.chv_site.specs.Images.{Image}
use Rattle.chv_store.specs.Damage.{HasSchema, IsCatalogDamage, IsFirstDamage, IsLogWhole, IsTableDamage}
use Rattle.chv_store.proofs.SchemaLemmas.{schema_unique, front-AreTexts}
use Rattle.chv_table.specs.Damage.{IsLogDamage}
use Rattle.chv_table.proofs.LogDamageLemmas.{log_damage_unique, log_damage_excludes}
use Rattle.chv_engine.specs.Damage.{HasKept, line_of}
use Rattle.chv_engine.specs.DamageLines.{damage_line}

-- a log is damaged that is read as the store is opened, and this damage of the first is told beside these tables
abbrev pub IsOpening : Image → List TableDef → Damage → Type 0
IsOpening files tables damage = IsCatalogDamage (files catalog_log) damage ⊎ IsTableDamage files tables damage

-- a catalog's log has the texts of one schema
pub schemas_same : (files : Image) (a b : List Accepted) → HasSchema files a → HasSchema files b → a ≡ b
schemas_same files a b of_a of_b =
    schema_unique a b of_a.lawful of_b.lawful (unique (map catalog_payload a) (map catalog_payload b) (files catalog_log) of_a.frames of_b.frames)

-- damage of the catalog names a place
catalog_damage_at : (file : List ℕ) (damage : Damage) → IsCatalogDamage file damage → (at : ℕ) × (damage ≡ Catalog at) × IsDamagedAt AreTexts at file
catalog_damage_at file (Catalog at) is = (at, refl, is)
catalog_damage_at file (Log table at) is = absurd is
catalog_damage_at file (PartHash table part kept found) is = absurd is
catalog_damage_at file (PartShape table part) is = absurd is

-- a catalog's log that has a schema is not damaged
catalog_undamaged : (files : Image) (schema : List Accepted) (damage : Damage) → HasSchema files schema → IsCatalogDamage (files catalog_log) damage → ⊥
catalog_undamaged files schema damage has is =
    let at = catalog_damage_at (files catalog_log) damage is in
    damage_excludes AreTexts front-AreTexts (files catalog_log) at.0 at.2 (map catalog_payload schema) has.frames (record { schema = schema; are = refl; lawful = has.lawful })

-- nor is a table's log that is whole
whole_undamaged : (files : Image) (table window : ℕ) (damage : Damage) → IsLogWhole files table window → IsLogDamage table window (files (table_log table)) damage → ⊥
whole_undamaged files table window damage whole is =
    log_damage_excludes table window (files (table_log table)) damage is whole.1.payloads whole.1.log whole.1.right

-- one definition stands at a place
same_def : (tables : List TableDef) (p q : ℕ) (a b : TableDef) → p ≡ q → slice_get tables p ≡ Some a → slice_get tables q ≡ Some b → a ≡ b
same_def tables p q a b same x y = let here : slice_get tables q ≡ Some a = ap (slice_get tables) (sym same) ∙ x in cc

-- of the logs of tables one is damaged first, in one way
first_not_later : (tables : List TableDef) (files : Image) (a b : Damage) (x : IsFirstDamage tables files a) (y : IsFirstDamage tables files b) → x.place < y.place → ⊥
first_not_later tables files a b x y below = whole_undamaged files (x.place + 1) x.def.window a (y.earlier x.place x.def below x.stands) x.is

first_unique : (tables : List TableDef) (files : Image) (a b : Damage) → IsFirstDamage tables files a → IsFirstDamage tables files b → a ≡ b
first_unique tables files a b x y =
    let place : x.place ≡ y.place = omega (arith, first_not_later tables files a b x y, first_not_later tables files b a y x) in
    let def = same_def tables x.place y.place x.def y.def place x.stands y.stands in
    let is = subst (λ (d : TableDef). IsLogDamage (y.place + 1) d.window (files (table_log (y.place + 1))) a) def
    (subst (λ (p : ℕ). IsLogDamage (p + 1) x.def.window (files (table_log (p + 1))) a) place x.is) in
    log_damage_unique (y.place + 1) y.def.window (files (table_log (y.place + 1))) a b is y.is

-- one line tells the damage of the logs
pub opening_unique : (files : Image) (ts us : List TableDef) (a b : Damage) → IsOpening files ts a → IsOpening files us b → line_of ts a ≡ line_of us b
opening_unique files ts us a b (inl x) (inl y) =
    let one = catalog_damage_at (files catalog_log) a x in
    let other = catalog_damage_at (files catalog_log) b y in
    let at = damage_unique AreTexts front-AreTexts (files catalog_log) one.0 other.0 one.2 other.2 in
    ap (line_of ts) one.1 ∙ ap (λ (n : ℕ). damage_line (Catalog n) []) at ∙ ap (line_of us) (sym other.1)
opening_unique files ts us a b (inl x) (inr y) = absurd (catalog_undamaged files y.schema a y.has x)
opening_unique files ts us a b (inr x) (inl y) = absurd (catalog_undamaged files x.schema b x.has y)
opening_unique files ts us a b (inr x) (inr y) =
    let tables : ts ≡ us = x.tables_are ∙ ap tables_of (schemas_same files x.schema y.schema x.has y.has) ∙ sym y.tables_are in
    ap₂ line_of tables (first_unique us files a b (subst (λ (t : List TableDef). IsFirstDamage t files a) tables x.first) y.first)

-- the log of each of these tables is whole
abbrev pub AreLogsWhole : Image → List TableDef → Type 0
AreLogsWhole files tables = (place : ℕ) (def : TableDef) → slice_get tables place ≡ Some def → IsLogWhole files (place + 1) def.window

-- where the catalog's log has a schema, and the log of each of its tables is whole, none is damaged
pub all_undamaged : (files : Image) (schema : List Accepted) → HasSchema files schema → AreLogsWhole files (tables_of schema) → (tables : List TableDef) (damage : Damage) → IsOpening files tables damage → ⊥
all_undamaged files schema has whole tables damage (inl is) = catalog_undamaged files schema damage has is
all_undamaged files schema has whole tables damage (inr is) =
    let same : tables ≡ tables_of schema = is.tables_are ∙ ap tables_of (schemas_same files is.schema schema is.has has) in
    let first = subst (λ (t : List TableDef). IsFirstDamage t files damage) same is.first in
    whole_undamaged files (first.place + 1) first.def.window damage (whole first.place first.def first.stands) first.is

-- files that stand for a history have no damaged log
pub standing_undamaged : (files : Image) (history : History) → Stands files history → (tables : List TableDef) (damage : Damage) → IsOpening files tables damage → ⊥
standing_undamaged files history stands =
    all_undamaged files history.schema (record { lawful = stands.lawful.schema; frames = stands.files_stand.catalog })
    (λ place def at.
    let table = stands.files_stand.tables place (form_of def) (form_there (tables_of history.schema) place def at) in (
      table.state,
      record {
        payloads = map commit_spelling table.commits;
        right = record { commits = table.commits; right = table.right; are = refl; state = table.state; replays = table.replays };
        log = subst (λ (f : FileId). HasFrames (map commit_spelling table.commits) (files f)) table.live_is table.log;
        state_is = refl;
      },
    ))

-- nor have files whose logs say what is held
pub kept_undamaged : (files : Image) (kept : Kept) → HasKept files kept → (tables : List TableDef) (damage : Damage) → IsOpening files tables damage → ⊥
kept_undamaged files kept has =
    all_undamaged files has.schema has.has
    (λ place def at. (kept.states (place + 1), has.states place def (subst (λ (ts : List TableDef). slice_get ts place ≡ Some def) (sym (same_tables kept.catalog (catalog_of has.schema) has.catalog)) at)))
