-- A store with one table more.
use Rattle.std.proofs.Common.{◌≡◌, ◌≢◌, ℕ, ◌+◌, ◌-◌, ◌<◌, ◌≤◌, List, [], ◌∷◌, ◌++◌, length, map, slice_get, Bool, true, false, cond, refl, sym, ap, subst, ◌∙◌, arith, length-append, None}
use Rattle.std.specs.declared.alloc.Global.{Global}
use Rattle.std.specs.declared.vec.Vec.{Vec}
use Rattle.chv_catalog.specs.Schemas.{Catalog, Seen, definitions_in, with_definition}
use Rattle.chv_catalog.specs.declared.definition.Definition.TheVariants.{Table as OfTable}
use Rattle.chv_catalog.specs.declared.table_def.TableDef.{TableDef}
use Rattle.chv_commit.specs.Replays.{no_state}
use Rattle.chv_commit.specs.Commits.{commit_spelling}
use Rattle.chv_commit.specs.declared.commit.Commit.{Commit}
use Rattle.chv_gate.specs.GateLog.{IsReady, begun, body, is_torn, open_frames}
use Rattle.chv_gate.proofs.GateLogLemmas.{length-body}
use Rattle.chv_part.specs.Books.{Book, no_book}
use Rattle.chv_query.proofs.GrowthLemmas.{slice_get-more}
use Rattle.chv_site.specs.declared.file_id.FileId.{FileId}
use Rattle.chv_site.specs.FileIds.{table_log}
use Rattle.chv_site.specs.Files.{FileState, KeepsOthers, settled}
use Rattle.chv_site.specs.Images.{HasLengths}
use Rattle.chv_table.specs.Tables.{HoldsBook, HoldsCommits, IsTableOf, held_state}
use Rattle.chv_table.specs.Tables.{IsPlaced as IsTablePlaced, IsWithin as IsTableWithin}
use Rattle.chv_table.specs.declared.table.Table.{Table}
use Rattle.chv_table.proofs.TableLemmas.{holds_commits_kept}
use Rattle.chv_query.specs.Accepted.{IsCatalog}
use Rattle.chv_store.specs.Holding.{HoldsBooks, HoldsLogs, with_book, with_one}
use Rattle.chv_store.specs.Stores.{EachTable, HasRoom, IsHeldAs, IsPlaced, IsWithin, MAX_STEP}
use Rattle.chv_store.specs.declared.store.Store.{Store}
use Rattle.chv_store.proofs.EachTableLemmas.{each-all, each-both, each-more, each-weaker, each-with-all}
use Rattle.chv_store.proofs.PlaceLemmas.{with_one-other, with_one-same}
use Rattle.chv_store.proofs.StoreLemmas.{IsHeldWith, book_kept, catalog_apart, each-held, log_number, placed_kept}

-- a log of at most one byte stays so once it is begun
begun_by : (bytes : List ℕ) (torn : Bool) → length bytes ≤ 1 → length (cond torn (0 ∷ []) bytes) ≤ 1
begun_by bytes true short = omega arith
begun_by bytes false short = short

pub begun_short : (bytes : List ℕ) → length bytes ≤ 1 → length (begun bytes) ≤ 1
begun_short bytes short = begun_by bytes (is_torn bytes) short

-- a table whose log has one byte at most holds no commits
no_commits : (commits : List Commit) (rest : List ℕ) → length (open_frames (map commit_spelling commits) ++ rest) ≤ 1 → commits ≡ []
no_commits [] rest short = refl
no_commits (commit ∷ commits) rest short =
    let payload = commit_spelling commit in
    let frames = open_frames (map commit_spelling commits) in
    absurd (omega (arith, short, length-append (1 ∷ body payload ++ frames) rest, length-append (body payload) frames, length-body payload))

begun_empty : (table : Table) (files : FileId → FileState) → length (files table.log.file).bytes ≤ 1 → HoldsBook table files no_book → HoldsCommits table files []
begun_empty table files short holds =
    let ready = holds.holds.log in
    subst (HoldsCommits table files) (no_commits holds.commits ready.rest (omega (arith, short, ap length ready.split))) holds.holds

-- so the log of a new table that is begun holds none, where a crash left at most one byte of it before
pub new_commits : (number : ℕ) (table : Table) (before between : FileId → FileState) → table.log.file ≡ table_log number → between (table_log number) ≡ settled (begun (before (table_log number)).bytes)
    → (before (table_log number)).most ≤ 1 → HasLengths (before (table_log number)) → HoldsBook table between no_book → HoldsCommits table between []
new_commits number table before between at begun_now most lengths holds =
    let old_short : length (before (table_log number)).bytes ≤ 1 = omega (arith, most, lengths.no_longer) in
    let short : length (between (table_log number)).bytes ≤ 1 = subst (λ (s : FileState). length s.bytes ≤ 1) (sym begun_now) (begun_short (before (table_log number)).bytes old_short) in
    begun_empty table between (subst (λ (f : FileId). length (between f).bytes ≤ 1) (sym at) short) holds

-- what a store is with this table behind the others
pub record IsMade (store : Store) (number : ℕ) (def : TableDef) (table : Table) (new : Store) : Type 0 where
  pub within : IsWithin store
  pub number_is : number ≡ length store.schema.catalog.tables + 1
  pub held_as : IsHeldAs number def table
  pub file : new.catalog.file ≡ store.catalog.file
  pub schema : new.schema.catalog.tables ≡ store.schema.catalog.tables ++ def ∷ []
  pub views : new.schema.catalog.views ≡ store.schema.catalog.views
  pub tables : new.tables.items ≡ store.tables.items ++ table ∷ []

-- it is made of room for the table, in the schema and among the tables
pub is_made : (store : Store) (number : ℕ) (def : TableDef) (table : Table) (reserved : Seen) (grown : Vec Table Global) (new : Store) → IsWithin store → number ≡ length store.schema.catalog.tables + 1
    → IsTableWithin table × IsTableOf number def table × (held_state table ≡ no_state) → new.catalog.file ≡ store.catalog.file → reserved.catalog ≡ store.schema.catalog
    → new.schema ≡ record { catalog = with_definition (OfTable def) reserved.catalog; room = None } → grown.items ≡ store.tables.items → new.tables.items ≡ grown.items ++ table ∷ [] → IsMade store number def table new
is_made store number def table reserved grown new within number_is fresh file kept schema same tables = record {
  within = within;
  number_is = number_is;
  held_as = (fresh.0, fresh.1);
  file = file;
  schema = ap (λ (s : Seen). s.catalog.tables) schema ∙ ap (λ (catalog : Catalog). catalog.tables ++ def ∷ []) kept;
  views = ap (λ (s : Seen). s.catalog.views) schema ∙ ap (λ (catalog : Catalog). catalog.views) kept;
  tables = tables ∙ ap (λ (ts : List Table). ts ++ table ∷ []) same;
}

-- the files of the tables from before are as they were
abbrev pub KeepsTables : ℕ → (FileId → FileState) → (FileId → FileState) → Type 0
KeepsTables number before behind = (f : FileId) → 1 ≤ f.table → f.table ≢ number → behind f ≡ before f

-- where its log is begun, and then the catalog's is appended to
module _ (store : Store) (number : ℕ) (within : IsWithin store) (before between behind : FileId → FileState) (begun_alone : KeepsOthers (table_log number) before between) (appended_alone : KeepsOthers store.catalog.file between behind) where
  pub behind_same : (f : FileId) → 1 ≤ f.table → behind f ≡ between f
  behind_same f some = appended_alone f (catalog_apart store f within some)

  pub tables_kept : KeepsTables number before behind
  tables_kept f some other = behind_same f some ∙ begun_alone f (λ same. other (ap (λ (g : FileId). g.table) same))

  pub catalog_same : 1 ≤ number → between store.catalog.file ≡ before store.catalog.file
  catalog_same some = begun_alone store.catalog.file (λ same. catalog_apart store (table_log number) within some (sym same))

module _ (store : Store) (number : ℕ) (def : TableDef) (table : Table) (new : Store) (made : IsMade store number def table new) where
  -- what holds of each table, the last being new
  each_made : (P Q : ℕ → TableDef → Table → Type 0) → ((n : ℕ) (d : TableDef) (t : Table) → 1 ≤ n → n ≢ number → P n d t → Q n d t) → EachTable P 1 store.schema.catalog.tables store.tables.items → Q number def table
      → EachTable Q 1 new.schema.catalog.tables new.tables.items
  each_made P Q others each its =
      let at : number ≡ 1 + length store.schema.catalog.tables = omega (arith, made.number_is) in
      subst (λ (defs : List TableDef). EachTable Q 1 defs new.tables.items) (sym made.schema)
      (subst (EachTable Q 1 (store.schema.catalog.tables ++ def ∷ [])) (sym made.tables)
      (each-more Q 1 store.schema.catalog.tables store.tables.items def table
      (each-weaker P Q 1 store.schema.catalog.tables store.tables.items (λ n d t low high is. others n d t low (λ same. omega (arith, same, high, at)) is) each)
      (subst (λ (n : ℕ). Q n def table) at its)))

  one_more : length new.schema.catalog.tables ≡ number
  one_more = omega (arith, ap length made.schema, length-append store.schema.catalog.tables (def ∷ []), made.number_is)

  -- each table keeps its room
  pub made_rooms : (at count : ℕ) → HasRoom count store at → HasRoom count new at
  made_rooms at count room = record {
    is_table = record { first = room.is_table.first; last = omega (arith, room.is_table.last, one_more, made.number_is) };
    held = room.held;
    stands = ap (λ (ts : List Table). slice_get ts (at - 1)) made.tables ∙ slice_get-more store.tables.items (table ∷ []) (at - 1) room.held room.stands;
    room = room.room;
  }

  pub made_within : IsCatalog new.schema.catalog → definitions_in store.schema.catalog < 256 → new.catalog.gate ≤ store.catalog.gate + MAX_STEP → IsWithin new
  made_within defined room gate = record {
    defined = defined;
    catalog = made.file ∙ made.within.catalog;
    few = omega (arith, one_more, made.number_is, ap length made.views, room);
    gate = omega (arith, one_more, made.number_is, ap length made.views, gate, made.within.gate);
    tables = each_made IsHeldAs IsHeldAs (λ n d t low other is. is) made.within.tables made.held_as;
  }

  module _ (before behind : FileId → FileState) (kept : KeepsTables number before behind) where
    same_files : (n : ℕ) → 1 ≤ n → n ≢ number → (f : FileId) → f.table ≡ n → behind f ≡ before f
    same_files n low other f is = kept f (omega (arith, low, is)) (λ same. other (sym is ∙ same))

    pub made_placed : IsPlaced store before → new.catalog.gate < length (behind new.catalog.file).bytes → IsTablePlaced table behind → IsPlaced new behind
    made_placed placed gate its =
        let Before = (λ (n : ℕ) (d : TableDef) (t : Table). IsHeldAs n d t × IsTablePlaced t before) in
        let Behind = (λ (n : ℕ) (d : TableDef) (t : Table). IsTablePlaced t behind) in
        record {
          catalog = gate;
          tables = each-all Behind (λ t. IsTablePlaced t behind) 1 new.schema.catalog.tables new.tables.items (λ n d t is. is)
              (each_made Before Behind (λ n d t low other was. placed_kept before behind n d t (same_files n low other) was.0 was.1)
              (each-with-all IsHeldAs (λ t. IsTablePlaced t before) 1 store.schema.catalog.tables store.tables.items made.within.tables placed.tables) its);
        }

    pub made_books : (payloads more : List (List ℕ)) (books : ℕ → Book) → HoldsBooks store before payloads books → IsReady new.catalog.gate more (behind new.catalog.file) → HoldsBook table behind no_book
        → HoldsBooks new behind more (with_book (length store.schema.catalog.tables + 1) no_book books)
    made_books payloads more books holds ready empty =
        let Number = λ (n : ℕ). HoldsBooks new behind more (with_book n no_book books) in
        subst Number made.number_is (record {
          catalog = ready;
          tables = each_made (IsHeldWith before books) (λ n d t. HoldsBook t behind (with_book number no_book books n))
              (λ n d t low other was. subst (HoldsBook t behind) (sym (with_one-other number n no_book books other)) (book_kept before behind n d t (books n) (same_files n low other) was.0 was.1))
              (each-held store before payloads books made.within holds) (subst (HoldsBook table behind) (sym (with_one-same number no_book books)) empty);
          others = λ t beyond. subst (λ (s : FileState). s.most ≤ 1) (sym (kept (table_log t) (omega (arith, beyond)) (λ same. omega (arith, same, beyond, one_more))))
              (holds.others t (omega (arith, beyond, one_more, made.number_is)));
        })

    pub made_logs : (payloads more : List (List ℕ)) (commits : ℕ → List Commit) → HoldsLogs store before payloads commits → IsReady new.catalog.gate more (behind new.catalog.file) → HoldsCommits table behind []
        → HoldsLogs new behind more (with_one (length store.schema.catalog.tables + 1) [] commits)
    made_logs payloads more commits holds ready empty =
        let Number = λ (n : ℕ). HoldsLogs new behind more (with_one n [] commits) in
        let none : List Commit = [] in
        subst Number made.number_is (record {
          catalog = ready;
          tables = each_made (λ n d t. IsHeldAs n d t × HoldsCommits t before (commits n)) (λ n d t. HoldsCommits t behind (with_one number none commits n))
              (λ n d t low other was. subst (HoldsCommits t behind) (sym (with_one-other number n none commits other))
              (holds_commits_kept t before behind (commits n) (same_files n low other t.log.file (log_number n d t was.0)) was.1))
              (each-both IsHeldAs (λ n d t. HoldsCommits t before (commits n)) 1 store.schema.catalog.tables store.tables.items made.within.tables holds.tables)
              (subst (HoldsCommits table behind) (sym (with_one-same number none commits)) empty);
        })
