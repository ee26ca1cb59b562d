-- How the texts that are read one after the other become what a catalog has.
use Rattle.std.proofs.Common.{◌≡◌, ℕ, ◌+◌, ◌*◌, ◌≤◌, List, [], ◌∷◌, ◌++◌, length, map, Option, None, Some, refl, sym, ap, subst, ◌∙◌, arith, length-append}
use Rattle.std.specs.List.{All}
use Rattle.std.proofs.lemmas.List.{map-append}
use Rattle.std.proofs.lemmas.List.Elements.{All-weaker}
use Rattle.chv_ast.specs.declared.statement.Statement.{Statement}
use Rattle.chv_catalog.specs.Schemas.{Catalog, definitions_in, kinds_of, no_definitions, with_definition}
use Rattle.chv_catalog.specs.declared.definition.Definition.{Definition}
use Rattle.chv_catalog.specs.declared.definition.Definition.TheVariants.{Table, View}
use Rattle.chv_catalog.specs.declared.table_def.TableDef.{TableDef}
use Rattle.chv_query.specs.Accepted.{Accepted, AreTexts, IsAccepted, IsCatalog, IsSchema, catalog_of, catalog_payload}
use Rattle.chv_query.proofs.AcceptedLemmas.{IsMade, IsSchema-push, catalog_made, catalog_of-push}
use Rattle.chv_gate.specs.GateLog.{frame_of, begun, IsReady}
use Rattle.chv_gate.specs.Reading.{IsOpen, IsFollowed, IsReadUpTo}
use Rattle.chv_gate.proofs.DamageLaws.{followed_unique, damage_of_begun, frames_of_begun}
use Rattle.chv_gate.proofs.ReadingLaws.{reads_none, reads_more, reads_end, reads_ready}
use Rattle.chv_part.specs.Books.{AreColumns}
use Rattle.chv_part.specs.declared.damage.Damage.{Damage}
use Rattle.chv_print.specs.StatementTexts.{statement_text}
use Rattle.chv_site.specs.Files.{FileState, settled}
use Rattle.chv_store.specs.Damage.{IsCatalogDamage}
use Rattle.chv_store.specs.Openings.{MakesDefinition, TextMakesNone, ReadsDefinition, LacksDefinition, HoldsCatalog}
use Rattle.chv_store.specs.Stores.{MAX_STEP}
use Rattle.chv_store.specs.declared.catalog.DefinitionRead.{DefinitionRead}
use Rattle.chv_store.proofs.MakesLemmas.{makes_defined, makes_few, makes_frame}
use Rattle.chv_store.proofs.SchemaLemmas.{next-AreTexts}

-- a payload that makes nothing
pub lacks_definition : (catalog : Catalog) (gate : ℕ) (file payload : List ℕ) (next : ℕ) → IsOpen gate file × IsFollowed gate payload next file → TextMakesNone catalog payload → LacksDefinition catalog gate file
lacks_definition catalog gate file payload next read none = record {
  opened = read.0;
  none = λ create definition place makes follows. none create definition makes (followed_unique gate next place payload (statement_text create) file read.1 follows);
}

-- these numbers go by what was read, whatever the file holds
pub record AreWithin (catalog : Catalog) (gate : ℕ) : Type 0 where
  pub defined : IsCatalog catalog
  pub few : definitions_in catalog ≤ 256
  pub gate_is : gate ≤ MAX_STEP * definitions_in catalog

pub within_none : AreWithin no_definitions 0
within_none = record { defined = ([], tt, refl); few = omega arith; gate_is = omega arith }

-- one definition more
pub one_more : (catalog : Catalog) (definition : Definition) → definitions_in (with_definition definition catalog) ≡ definitions_in catalog + 1
one_more catalog (Table def) = omega (arith, length-append catalog.tables (def ∷ []))
one_more catalog (View def) = omega (arith, length-append catalog.views (def ∷ []))

pub within_next : (catalog : Catalog) (gate : ℕ) (create : Statement) (definition : Definition) (next : ℕ) → AreWithin catalog gate → MakesDefinition catalog create definition
    → next ≡ gate + length (frame_of (statement_text create)) → AreWithin (with_definition definition catalog) next
within_next catalog gate create definition next within makes place =
    let more = one_more catalog definition in
    record {
      defined = makes_defined catalog create definition makes within.defined (with_definition definition catalog) refl;
      few = omega (arith, more, makes_few catalog create definition makes);
      gate_is = omega (arith, more, place, within.gate_is, makes_frame catalog create definition makes);
    }

-- its tables have columns
pub defined_columns : (catalog : Catalog) → IsCatalog catalog → All (λ (def : TableDef). AreColumns (kinds_of def)) catalog.tables
defined_columns catalog defined =
    All-weaker IsMade (λ (def : TableDef). AreColumns (kinds_of def)) (λ def made. record { some = made.some; most = made.most }) catalog.tables (catalog_made catalog defined)

-- the texts of what a catalog has are read, and their gates are open
pub record HasDefinitions (catalog : Catalog) (gate : ℕ) (file : List ℕ) : Type 0 where
  pub schema : List Accepted
  pub lawful : IsSchema schema
  pub are : catalog ≡ catalog_of schema
  pub read : IsReadUpTo gate (map catalog_payload schema) file

-- no text was read yet
pub definitions_none : (file : List ℕ) → HasDefinitions no_definitions 0 file
definitions_none file = record { schema = []; lawful = tt; are = refl; read = reads_none file }

-- one text more was read
pub definitions_next : (catalog : Catalog) (gate : ℕ) (file : List ℕ) (read : DefinitionRead) → HasDefinitions catalog gate file → ReadsDefinition catalog gate file (Some read) → HasDefinitions (with_definition read.definition catalog) read.next file
definitions_next catalog gate file read so_far reads =
    let accepted : Accepted = record { statement = reads.0; definition = read.definition } in
    record {
      schema = so_far.schema ++ accepted ∷ [];
      lawful = IsSchema-push so_far.schema accepted so_far.lawful (subst (λ (c : Catalog). IsAccepted c accepted) so_far.are reads.1);
      are = ap (with_definition read.definition) so_far.are ∙ sym (catalog_of-push so_far.schema accepted);
      read = subst (λ (ps : List (List ℕ)). IsReadUpTo read.next ps file) (sym (map-append catalog_payload so_far.schema (accepted ∷ [])))
          (reads_more gate (map catalog_payload so_far.schema) file (statement_text reads.0) read.next so_far.read reads.2 reads.3);
    }

-- no text of a statement that makes something follows: the log is damaged, and was before it was begun
pub definitions_damage : (catalog : Catalog) (gate : ℕ) (bytes : List ℕ) (damage : Damage) → HasDefinitions catalog gate (begun bytes)
    → (damage ≡ Damage.Catalog (gate + 1)) × LacksDefinition catalog gate (begun bytes) → IsCatalogDamage bytes damage
definitions_damage catalog gate bytes damage so_far told =
    subst (IsCatalogDamage bytes) (sym told.0)
    (damage_of_begun AreTexts (gate + 1) bytes (record {
      payloads = map catalog_payload so_far.schema;
      right = record { schema = so_far.schema; are = refl; lawful = so_far.lawful };
      gate = gate;
      read = so_far.read;
      opened = told.1.opened;
      place = refl;
      wrong = λ payload next follows right.
          let made = next-AreTexts so_far.schema payload so_far.lawful right in
          told.1.none made.0.statement made.0.definition next (subst (λ (c : Catalog). MakesDefinition c made.0.statement made.0.definition) (sym so_far.are) made.1)
          (subst (λ (l : List ℕ). IsFollowed gate l next (begun bytes)) made.2 follows);
    }))

-- where no text is read, the gate is not open
pub catalog_ended : (catalog : Catalog) (gate : ℕ) (file bytes : List ℕ) (read : Option DefinitionRead) → file ≡ bytes → read ≡ None → ReadsDefinition catalog gate file read → IsOpen gate bytes → ⊥
catalog_ended catalog gate file bytes read same none reads = subst (ReadsDefinition catalog gate bytes) none (subst (λ (b : List ℕ). ReadsDefinition catalog gate b read) same reads)

-- the log was read to its end
pub holds_read : (catalog : Catalog) (gate : ℕ) (bytes : List ℕ) (now : FileState) → HasDefinitions catalog gate (begun bytes) → (IsOpen gate (begun bytes) → ⊥) → now ≡ settled (begun bytes)
    → HoldsCatalog catalog gate bytes now
holds_read catalog gate bytes now so_far shut begun_now =
    let payloads = map catalog_payload so_far.schema in
    record {
      schema = so_far.schema;
      lawful = so_far.lawful;
      catalog_is = so_far.are;
      frames = frames_of_begun payloads bytes (reads_end gate payloads (begun bytes) so_far.read shut);
      log = subst (λ (s : FileState). IsReady gate payloads s) (sym begun_now) (reads_ready gate payloads bytes so_far.read shut);
    }
