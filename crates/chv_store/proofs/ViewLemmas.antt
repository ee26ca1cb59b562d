-- A store with one view more, and what a crash leaves of a store while a view is made.
use Rattle.std.proofs.Common.{◌≡◌, ◌⊎◌, inl, inr, ℕ, ◌+◌, ◌<◌, ◌≤◌, List, [], ◌∷◌, ◌++◌, length, refl, sym, ap, subst, ◌∙◌, arith, length-append}
use Rattle.chv_catalog.specs.Schemas.{Catalog, Seen, definitions_in, with_definition}
use Rattle.chv_catalog.specs.declared.definition.Definition.TheVariants.{View}
use Rattle.chv_catalog.specs.declared.table_def.TableDef.{TableDef}
use Rattle.chv_catalog.specs.declared.view_def.ViewDef.{ViewDef}
use Rattle.chv_commit.specs.declared.commit.Commit.{Commit}
use Rattle.chv_gate.specs.Crashes.{HasFramesOrMore, IsLeftWith, Leaves}
use Rattle.chv_gate.specs.GateLog.{HasFrames, IsPayload, IsReady, frame_of}
use Rattle.chv_gate.specs.declared.log.Log.{Log}
use Rattle.chv_part.specs.Books.{Book}
use Rattle.chv_part.specs.Standing.{FilesStand}
use Rattle.chv_site.specs.declared.file_id.FileId.{FileId}
use Rattle.chv_site.specs.During.{During}
use Rattle.chv_site.specs.FileIds.{table_log}
use Rattle.chv_site.specs.Files.{FileState, KeepsOthers}
use Rattle.chv_site.specs.Images.{Image, IsFileImage, IsLeft}
use Rattle.chv_site.specs.Outside.{Outside}
use Rattle.chv_site.proofs.Moments.{started, weakened}
use Rattle.chv_table.specs.Tables.{HoldsBook, HoldsCommits}
use Rattle.chv_table.specs.Tables.{IsPlaced as IsTablePlaced}
use Rattle.chv_table.specs.declared.table.Table.{Table}
use Rattle.chv_table.proofs.TableLemmas.{holds_commits_kept}
use Rattle.chv_query.specs.Accepted.{IsCatalog}
use Rattle.chv_store.specs.Calls.{EitherLeft, StandsFor}
use Rattle.chv_store.specs.Holding.{HoldsBooks, HoldsLogs}
use Rattle.chv_store.specs.Stores.{EachTable, HasRoom, IsHeldAs, IsPlaced, IsWithin, MAX_STEP, forms_of}
use Rattle.chv_store.specs.declared.store.Store.{Store}
use Rattle.chv_store.proofs.EachTableLemmas.{each-all, each-both, each-weaker, each-with-all}
use Rattle.chv_store.proofs.StoreLemmas.{IsHeldWith, book_kept, catalog_apart, each-held, image_stands, log_number, placed_kept, short_left, table_stands}

-- the schema has the view, the catalog's log its text, and the tables stay
module _ (store : Store) (log : Log) (schema : Seen) (def : ViewDef) (within : IsWithin store) (file : log.file ≡ store.catalog.file) (catalog : schema.catalog ≡ with_definition (View def) store.schema.catalog) where
  abbrev pub Viewed : Store
  Viewed = record { catalog = log; schema = schema; tables = store.tables }

  defs : schema.catalog.tables ≡ store.schema.catalog.tables
  defs = ap (λ (c : Catalog). c.tables) catalog

  each : (P : ℕ → TableDef → Table → Type 0) → EachTable P 1 store.schema.catalog.tables store.tables.items → EachTable P 1 schema.catalog.tables store.tables.items
  each P = subst (λ (ds : List TableDef). EachTable P 1 ds store.tables.items) (sym defs)

  one_more : definitions_in schema.catalog ≡ definitions_in store.schema.catalog + 1
  one_more = omega (arith, ap definitions_in catalog, length-append store.schema.catalog.views (def ∷ []))

  -- each table keeps its room
  pub viewed_rooms : (at count : ℕ) → HasRoom count store at → HasRoom count Viewed at
  viewed_rooms at count room = record {
    is_table = record { first = room.is_table.first; last = omega (arith, room.is_table.last, ap length defs) };
    held = room.held;
    stands = room.stands;
    room = room.room;
  }

  pub viewed_within : IsCatalog schema.catalog → definitions_in store.schema.catalog < 256 → log.gate ≤ store.catalog.gate + MAX_STEP → IsWithin Viewed
  viewed_within defined room gate = record {
    defined = defined;
    catalog = file ∙ within.catalog;
    few = omega (arith, one_more, room);
    gate = omega (arith, one_more, gate, within.gate);
    tables = each IsHeldAs within.tables;
  }

  module _ (before behind : FileId → FileState) (kept : KeepsOthers store.catalog.file before behind) where
    same_files : (n : ℕ) → 1 ≤ n → (f : FileId) → f.table ≡ n → behind f ≡ before f
    same_files n low f is = kept f (catalog_apart store f within (omega (arith, low, is)))

    pub viewed_placed : IsPlaced store before → log.gate < length (behind log.file).bytes → IsPlaced Viewed behind
    viewed_placed placed gate =
        let Before = (λ (n : ℕ) (d : TableDef) (t : Table). IsHeldAs n d t × IsTablePlaced t before) in
        let Behind = (λ (n : ℕ) (d : TableDef) (t : Table). IsTablePlaced t behind) in
        record {
          catalog = gate;
          tables = each-all Behind (λ t. IsTablePlaced t behind) 1 store.schema.catalog.tables store.tables.items (λ n d t is. is)
              (each-weaker Before Behind 1 store.schema.catalog.tables store.tables.items (λ n d t low high was. placed_kept before behind n d t (same_files n low) was.0 was.1)
              (each-with-all IsHeldAs (λ t. IsTablePlaced t before) 1 store.schema.catalog.tables store.tables.items within.tables placed.tables));
        }

    pub viewed_books : (payloads more : List (List ℕ)) (books : ℕ → Book) → HoldsBooks store before payloads books → IsReady log.gate more (behind log.file) → HoldsBooks Viewed behind more books
    viewed_books payloads more books holds ready =
        let Behind = (λ (n : ℕ) (d : TableDef) (t : Table). HoldsBook t behind (books n)) in
        record {
          catalog = ready;
          tables = each Behind
              (each-weaker (IsHeldWith before books) Behind 1 store.schema.catalog.tables store.tables.items (λ n d t low high was. book_kept before behind n d t (books n) (same_files n low) was.0 was.1)
              (each-held store before payloads books within holds));
          others = λ t beyond. subst (λ (s : FileState). s.most ≤ 1) (sym (same_files t (omega (arith, beyond)) (table_log t) refl))
              (holds.others t (omega (arith, beyond, ap length defs)));
        }

    pub viewed_logs : (payloads more : List (List ℕ)) (commits : ℕ → List Commit) → HoldsLogs store before payloads commits → IsReady log.gate more (behind log.file) → HoldsLogs Viewed behind more commits
    viewed_logs payloads more commits holds ready =
        let Before = (λ (n : ℕ) (d : TableDef) (t : Table). HoldsCommits t before (commits n)) in
        let Behind = (λ (n : ℕ) (d : TableDef) (t : Table). HoldsCommits t behind (commits n)) in
        record {
          catalog = ready;
          tables = each Behind
              (each-weaker (λ n d t. IsHeldAs n d t × Before n d t) Behind 1 store.schema.catalog.tables store.tables.items
              (λ n d t low high was. holds_commits_kept t before behind (commits n) (same_files n low t.log.file (log_number n d t was.0)) was.1)
              (each-both IsHeldAs Before 1 store.schema.catalog.tables store.tables.items within.tables holds.tables));
        }

module _ (store : Store) (old : Outside) (payloads : List (List ℕ)) (books : ℕ → Book) (text : List ℕ) (within : IsWithin store) (held : HoldsBooks store old.files payloads books) where
  -- what the files stand for, without the view and with it
  abbrev Was : Image → Type 0
  Was = StandsFor payloads (forms_of store) books

  abbrev Next : Image → Type 0
  Next = StandsFor (payloads ++ text ∷ []) (forms_of store) books

  -- no call was made yet
  pub unviewed_during : ((image : Image) (text_now : List ℕ) → old.left_since old.moment image text_now → IsLeft old.files old.said image text_now) → During old old (EitherLeft Was Next old.said)
  unviewed_during only =
      started old (EitherLeft Was Next old.said)
      (λ image text_now left.
      let is = only image text_now left in
      record { stands = inl (image_stands store old.files payloads books within held image is.0); text_left = is.1 })

  -- the files stand for this where the catalog's log has these frames and each other file is as before
  stands_still : (image : Image) (frames : List (List ℕ)) → ((f : FileId) → 1 ≤ f.table → IsFileImage (old.files f) (image f)) → HasFrames frames (image store.catalog.file) → FilesStand image frames (forms_of store) books
  stands_still image frames others has = record {
    catalog = subst (λ (f : FileId). HasFrames frames (image f)) within.catalog has;
    tables = λ place form at. table_stands store old.files payloads books within held image place form at (λ f same. others f (omega (arith, same)));
    others = λ t beyond. short_left store old.files payloads books within held image t beyond (others (table_log t) (omega (arith, beyond)));
  }

  -- the text may be in the catalog or not
  text_left : (image : Image) (text_now : List ℕ) → IsLeftWith store.catalog.file (HasFramesOrMore payloads text) old.files old.said image text_now → EitherLeft Was Next old.said image text_now
  text_left image text_now left =
      let others = λ (f : FileId) (some : 1 ≤ f.table). left.0 f (catalog_apart store f within some) in
      record {
        stands = elim left.1 as (λ _. Was image ⊎ Next image) [
          | inl has ↦ inl (stands_still image payloads others has)
          | inr has ↦ inr (stands_still image (payloads ++ text ∷ []) others has)
        ];
        text_left = left.2;
      }

  pub viewed_during : (new : Outside) (frame : List ℕ) → IsPayload text → frame ≡ frame_of text
      → ((ps : List (List ℕ)) (payload : List ℕ) → IsReady store.catalog.gate ps (old.files store.catalog.file) → IsPayload payload → frame ≡ frame_of payload → Leaves store.catalog.file (HasFramesOrMore ps payload) old new)
      → During old new (EitherLeft Was Next old.said)
  viewed_during new frame sized spelled during = weakened old new _ (EitherLeft Was Next old.said) (during payloads text held.catalog sized spelled) text_left
