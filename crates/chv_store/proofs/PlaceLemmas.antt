-- The table of a number of a store, and the store with another table there.
use Rattle.std.proofs.Common.{◌≡◌, ◌≢◌, inl, inr, ℕ, zero, suc, ◌+◌, ◌-◌, ◌<◌, ◌≤◌, List, [], ◌∷◌, length, map, get_or, slice_get, slice_set, Bool, Some, if◌then◌else◌, refl, sym, ap, subst, ◌∙◌, arith}
use Rattle.std.specs.Option.{option_map}
use Rattle.std.specs.declared.alloc.Global.{Global}
use Rattle.std.specs.declared.vec.Vec.{Vec}
use Rattle.std.proofs.lemmas.Bool.{cases_eq, eq-eqb, ne_eqb}
use Rattle.std.proofs.lemmas.Option.{get_or_from_slice_get, same_Some, slice_get-map, slice_get_read, slice_get_within}
use Rattle.chv_catalog.specs.declared.table_def.TableDef.{TableDef}
use Rattle.chv_site.specs.declared.file_id.FileId.{FileId}
use Rattle.chv_site.specs.FileIds.{table_log}
use Rattle.chv_site.specs.Files.{FileState}
use Rattle.chv_site.specs.Images.{Image, IsFileImage}
use Rattle.chv_commit.specs.Replays.{State, no_state}
use Rattle.chv_commit.specs.declared.commit.Commit.{Commit}
use Rattle.chv_gate.specs.GateLog.{HasFrames, IsReady}
use Rattle.chv_part.specs.Books.{TableForm, Book}
use Rattle.chv_part.specs.Forms.{form_of}
use Rattle.chv_part.specs.Standing.{FilesStand, TableStands}
use Rattle.chv_part.specs.declared.damage.Damage.{Damage}
use Rattle.chv_table.specs.Damage.{ArePartsWhole, IsPartDamage}
use Rattle.chv_table.specs.Tables.{HasRoomFor, HoldsBook, HoldsCommits, held_form, held_state}
use Rattle.chv_table.specs.Tables.{IsPlaced as IsTablePlaced}
use Rattle.chv_table.specs.declared.table.Table.{Table}
use Rattle.chv_table.proofs.TableLemmas.{holds_commits_kept}
use Rattle.chv_store.specs.Holding.{HoldsBooks, HoldsLogs, with_one}
use Rattle.chv_store.specs.Stores.{EachTable, HasRoom, IsHeldAs, IsPlaced, IsTable, IsWithin, forms_of, states_of, state_of, window_in, window_of}
use Rattle.chv_store.specs.declared.store.Store.{Store}
use Rattle.chv_store.proofs.EachTableLemmas.{each-all, each-at, each-both, each-length, each-set, each-with-all}
use Rattle.chv_store.proofs.StoreLemmas.{IsHeldWith, book_kept, catalog_left, each-held, form_at, forms-length, log_number, placed_kept, short_left, table_stands}

-- what is put for a number is there, and for another number is what was
pub with_one-same : {A : Type 0} (number : ℕ) (new : A) (each : ℕ → A) → with_one number new each number ≡ new
with_one-same number new each = ap (λ (same : Bool). if same then new else each number) (eq-eqb number number refl)

pub with_one-other : {A : Type 0} (number n : ℕ) (new : A) (each : ℕ → A) → n ≢ number → with_one number new each n ≡ each n
with_one-other number n new each other = ap (λ (same : Bool). if same then new else each n) (ne_eqb n number other)

-- a definition stands at each place within
def_there : (defs : List TableDef) (place : ℕ) → place < length defs → (def : TableDef) × (slice_get defs place ≡ Some def)
def_there [] place below = absurd (omega (arith, below))
def_there (def ∷ defs) zero below = (def, refl)
def_there (def ∷ defs) (suc place) below = def_there defs place (omega (arith, below))

-- a list with another item at a place has it there, and at every other place what it had
slice_get-set_same : {X : Type 0} (xs : List X) (i : ℕ) (x y : X) → slice_get xs i ≡ Some x → slice_get (slice_set xs i y) i ≡ Some y
slice_get-set_same [] i x y there = absurd (cc there)
slice_get-set_same (first ∷ xs) zero x y there = refl
slice_get-set_same (first ∷ xs) (suc i) x y there = slice_get-set_same xs i x y there

slice_get-set_other : {X : Type 0} (xs : List X) (i j : ℕ) (y : X) → j ≢ i → slice_get (slice_set xs i y) j ≡ slice_get xs j
slice_get-set_other [] i j y other = refl
slice_get-set_other (first ∷ xs) zero zero y other = absurd (other refl)
slice_get-set_other (first ∷ xs) zero (suc j) y other = refl
slice_get-set_other (first ∷ xs) (suc i) zero y other = refl
slice_get-set_other (first ∷ xs) (suc i) (suc j) y other = slice_get-set_other xs i j y (λ same. other (ap suc same))

-- what a function makes of it
map-slice_set : {X Y : Type 0} (f : X → Y) (xs : List X) (i : ℕ) (y : X) → map f (slice_set xs i y) ≡ slice_set (map f xs) i (f y)
map-slice_set f [] i y = refl
map-slice_set f (first ∷ xs) zero y = refl
map-slice_set {Y = Y} f (first ∷ xs) (suc i) y = ap (λ (ys : List Y). f first ∷ ys) (map-slice_set f xs i y)

-- the same item, put where it is
pub slice_set-same : {X : Type 0} (xs : List X) (i : ℕ) (x : X) → slice_get xs i ≡ Some x → slice_set xs i x ≡ xs
slice_set-same [] i x there = refl
slice_set-same {X = X} (first ∷ xs) zero x there = ap (λ (y : X). y ∷ xs) (sym (same_Some first x there))
slice_set-same {X = X} (first ∷ xs) (suc i) x there = ap (λ (ys : List X). first ∷ ys) (slice_set-same xs i x there)

-- this table is that of a number of a store
pub record TableOf (store : Store) (table : ℕ) (held : Table) : Type 0 where
  pub within : IsWithin store
  pub def : TableDef
  pub defined : slice_get store.schema.catalog.tables (table - 1) ≡ Some def
  pub stands : slice_get store.tables.items (table - 1) ≡ Some held
  pub number : 1 + (table - 1) ≡ table
  pub held_as : IsHeldAs table def held

pub items_within : (store : Store) (table : ℕ) → IsWithin store → IsTable store table → table - 1 < length store.tables.items
items_within store table within is = omega (arith, is.first, is.last, each-length IsHeldAs 1 store.schema.catalog.tables store.tables.items within.tables)

-- the table that is read at its place
pub table_of : (store : Store) (table : ℕ) (held : Table) → IsWithin store → IsTable store table → held ≡ get_or store.tables.items (table - 1) held → TableOf store table held
table_of store table held within is read =
    let def = def_there store.schema.catalog.tables (table - 1) (omega (arith, is.first, is.last)) in
    let number : 1 + (table - 1) ≡ table = omega (arith, is.first) in
    let stands = slice_get_read store.tables.items (length store.tables.items) (table - 1) held refl (items_within store table within is) read in
    let there = each-at IsHeldAs 1 (table - 1) store.schema.catalog.tables store.tables.items def.0 within.tables def.1 in
    let same : there.table ≡ held = same_Some there.table held (sym there.stands ∙ stands) in
    record {
      within = within;
      def = def.0;
      defined = def.1;
      stands = stands;
      number = number;
      held_as = subst (λ (n : ℕ). IsHeldAs n def.0 held) number (subst (IsHeldAs (1 + (table - 1)) def.0) same there.holds);
    }

module _ (store : Store) (table : ℕ) (held : Table) (at : TableOf store table held) where
  -- what holds of each table holds of it
  known : (P : ℕ → TableDef → Table → Type 0) → EachTable P 1 store.schema.catalog.tables store.tables.items → P table at.def held
  known P each =
      let there = each-at P 1 (table - 1) store.schema.catalog.tables store.tables.items at.def each at.defined in
      let same : there.table ≡ held = same_Some there.table held (sym there.stands ∙ at.stands) in
      subst (λ (n : ℕ). P n at.def held) at.number (subst (P (1 + (table - 1)) at.def) same there.holds)

  pub its_book : (files : FileId → FileState) (payloads : List (List ℕ)) (books : ℕ → Book) → HoldsBooks store files payloads books → HoldsBook held files (books table)
  its_book files payloads books holds = known (λ number def t. HoldsBook t files (books number)) holds.tables

  pub its_commits : (files : FileId → FileState) (payloads : List (List ℕ)) (commits : ℕ → List Commit) → HoldsLogs store files payloads commits → HoldsCommits held files (commits table)
  its_commits files payloads commits holds = known (λ number def t. HoldsCommits t files (commits number)) holds.tables

  pub its_place : (files : FileId → FileState) → IsPlaced store files → IsTablePlaced held files
  its_place files placed =
      (known (λ number def t. IsHeldAs number def t × IsTablePlaced t files)
      (each-with-all IsHeldAs (λ t. IsTablePlaced t files) 1 store.schema.catalog.tables store.tables.items at.within.tables placed.tables)).1

  -- it has the form of the definition that stands there
  pub its_form : (def : TableDef) → slice_get store.schema.catalog.tables (table - 1) ≡ Some def → held_form held ≡ form_of def
  its_form def there = at.held_as.1.form_is ∙ ap form_of (same_Some at.def def (sym at.defined ∙ there))

  pub its_window : window_of store table ≡ (held_form held).window
  its_window = ap window_in at.defined ∙ sym (ap (λ (form : TableForm). form.window) at.held_as.1.form_is)

  pub its_state : state_of store table ≡ held_state held
  its_state = get_or_from_slice_get (states_of store) (table - 1) (held_state held) no_state (slice_get-map held_state store.tables.items (table - 1) ∙ ap (option_map held_state) at.stands)

  -- what is told of its parts is told by the number and the definition
  pub whole_of : (def : TableDef) → slice_get store.schema.catalog.tables (table - 1) ≡ Some def → (files : Image) → ArePartsWhole held.number (held_form held) (held_state held).layout files
      → ArePartsWhole table (form_of def) (state_of store table).layout files
  whole_of def there files whole =
      subst (λ (n : ℕ). ArePartsWhole n (form_of def) (state_of store table).layout files) at.held_as.1.number_is
      (subst (λ (f : TableForm). ArePartsWhole held.number f (state_of store table).layout files) (its_form def there)
      (subst (λ (s : State). ArePartsWhole held.number (held_form held) s.layout files) (sym its_state) whole))

  pub damage_of : (def : TableDef) → slice_get store.schema.catalog.tables (table - 1) ≡ Some def → (files : Image) (damage : Damage) → IsPartDamage held.number (held_form held) (held_state held).layout files damage
      → IsPartDamage table (form_of def) (state_of store table).layout files damage
  damage_of def there files damage is =
      subst (λ (n : ℕ). IsPartDamage n (form_of def) (state_of store table).layout files damage) at.held_as.1.number_is
      (subst (λ (f : TableForm). IsPartDamage held.number f (state_of store table).layout files damage) (its_form def there)
      (subst (λ (s : State). IsPartDamage held.number (held_form held) s.layout files damage) (sym its_state) is))

  -- its number is that of a table
  pub its_number : (1 ≤ table) × (table ≤ length store.schema.catalog.tables)
  its_number = (omega (arith, at.number), omega (arith, at.number, slice_get_within store.schema.catalog.tables (table - 1) at.def at.defined))

  apart_catalog : store.catalog.file.table ≢ table
  apart_catalog same = let e : store.catalog.file.table ≡ 0 = ap (λ (f : FileId). f.table) at.within.catalog in omega (arith, same, e, its_number.0)

  -- the files of a store stand for books of which this table's alone is new
  pub stands_with : (files : FileId → FileState) (payloads : List (List ℕ)) (old new : ℕ → Book) → HoldsBooks store files payloads old → ((n : ℕ) → n ≢ table → new n ≡ old n) → (image : Image)
      → ((f : FileId) → f.table ≢ table → IsFileImage (files f) (image f)) → TableStands image table (form_of at.def) (new table) → FilesStand image payloads (forms_of store) new
  stands_with files payloads old new holds others image elsewhere stands = record {
    catalog = subst (λ (f : FileId). HasFrames payloads (image f)) at.within.catalog
        (catalog_left store files payloads old at.within holds image (elsewhere store.catalog.file apart_catalog));
    tables = λ p form there. elim (cases_eq (p + 1) table) as (λ _. TableStands image (p + 1) form (new (p + 1))) [
      | inl one ↦
          let def = form_at store.schema.catalog.tables p form there in
          let here : slice_get store.schema.catalog.tables (table - 1) ≡ Some def.0 = ap (slice_get store.schema.catalog.tables) (omega (arith, one)) ∙ def.1 in
          let same : form_of at.def ≡ form = ap form_of (same_Some at.def def.0 (sym at.defined ∙ here)) ∙ def.2 in
          subst (λ (n : ℕ). TableStands image n form (new n)) (sym one) (subst (λ (f : TableForm). TableStands image table f (new table)) same stands)
      | inr other ↦
          subst (TableStands image (p + 1) form) (sym (others (p + 1) other))
          (table_stands store files payloads old at.within holds image p form there (λ f same. elsewhere f (λ one. other (sym same ∙ one))))
    ];
    others = λ t beyond. short_left store files payloads old at.within holds image t beyond
        (elsewhere (table_log t) (λ same. omega (arith, same, beyond, forms-length store, its_number.1)));
  }

  -- another table of the same definition stands there
  module _ (new : Table) (tables : Vec Table Global) (items : tables.items ≡ slice_set store.tables.items (table - 1) new) where
    abbrev pub now : Store
    now = record { catalog = store.catalog; schema = store.schema; tables = tables }

    -- what holds of each table, from what held of each of the others
    each_now : (P Q : ℕ → TableDef → Table → Type 0) → ((n : ℕ) (def : TableDef) (t : Table) → n ≢ table → P n def t → Q n def t) → EachTable P 1 store.schema.catalog.tables store.tables.items → Q table at.def new
        → EachTable Q 1 store.schema.catalog.tables tables.items
    each_now P Q others each its =
        subst (EachTable Q 1 store.schema.catalog.tables) (sym items)
        (each-set P Q 1 (table - 1) store.schema.catalog.tables store.tables.items at.def new (λ n def t low high other is. others n def t (λ same. other (same ∙ sym at.number)) is)
        at.defined each (subst (λ (n : ℕ). Q n at.def new) (sym at.number) its))

    pub set_within : IsHeldAs table at.def new → IsWithin now
    set_within of_number = record {
      defined = at.within.defined;
      catalog = at.within.catalog;
      few = at.within.few;
      gate = at.within.gate;
      tables = each_now IsHeldAs IsHeldAs (λ n def t other is. is) at.within.tables of_number;
    }

    pub set_states : states_of now ≡ slice_set (states_of store) (table - 1) (held_state new)
    set_states = ap (map held_state) items ∙ map-slice_set held_state store.tables.items (table - 1) new

    -- the states are the same where its state is
    pub set_states-same : held_state new ≡ held_state held → states_of now ≡ states_of store
    set_states-same same =
        set_states ∙ ap (slice_set (states_of store) (table - 1)) same
        ∙ slice_set-same (states_of store) (table - 1) (held_state held) (slice_get-map held_state store.tables.items (table - 1) ∙ ap (option_map held_state) at.stands)

    -- where no file of another table is another
    module _ (before after : FileId → FileState) (elsewhere : (f : FileId) → f.table ≢ table → after f ≡ before f) where
      catalog_same : after store.catalog.file ≡ before store.catalog.file
      catalog_same = elsewhere store.catalog.file apart_catalog

      same_files : (n : ℕ) → n ≢ table → (f : FileId) → f.table ≡ n → after f ≡ before f
      same_files n other f is = elsewhere f (λ same. other (sym is ∙ same))

      pub set_placed : IsPlaced store before → IsTablePlaced new after → IsPlaced now after
      set_placed placed its =
          let Before = (λ (n : ℕ) (def : TableDef) (t : Table). IsHeldAs n def t × IsTablePlaced t before) in
          let After = (λ (n : ℕ) (def : TableDef) (t : Table). IsTablePlaced t after) in
          record {
            catalog = subst (λ (s : FileState). store.catalog.gate < length s.bytes) (sym catalog_same) placed.catalog;
            tables = each-all After (λ t. IsTablePlaced t after) 1 store.schema.catalog.tables tables.items (λ n def t is. is)
                (each_now Before After (λ n def t other was. placed_kept before after n def t (same_files n other) was.0 was.1)
                (each-with-all IsHeldAs (λ t. IsTablePlaced t before) 1 store.schema.catalog.tables store.tables.items at.within.tables placed.tables) its);
          }

      pub set_books : (payloads : List (List ℕ)) (old books : ℕ → Book) → ((n : ℕ) → n ≢ table → books n ≡ old n) → HoldsBooks store before payloads old → HoldsBook new after (books table) → HoldsBooks now after payloads books
      set_books payloads old books others holds its = record {
        catalog = subst (IsReady store.catalog.gate payloads) (sym catalog_same) holds.catalog;
        tables = each_now (IsHeldWith before old) (λ n def t. HoldsBook t after (books n))
            (λ n def t other was. subst (HoldsBook t after) (sym (others n other)) (book_kept before after n def t (old n) (same_files n other) was.0 was.1))
            (each-held store before payloads old at.within holds) its;
        others = λ t beyond. subst (λ (s : FileState). s.most ≤ 1) (sym (elsewhere (table_log t) (λ same. omega (arith, same, beyond, its_number.1)))) (holds.others t beyond);
      }

      pub set_logs : (payloads : List (List ℕ)) (old commits : ℕ → List Commit) → ((n : ℕ) → n ≢ table → commits n ≡ old n) → HoldsLogs store before payloads old → HoldsCommits new after (commits table) → HoldsLogs now after payloads commits
      set_logs payloads old commits others holds its = record {
        catalog = subst (IsReady store.catalog.gate payloads) (sym catalog_same) holds.catalog;
        tables = each_now (λ n def t. IsHeldAs n def t × HoldsCommits t before (old n)) (λ n def t. HoldsCommits t after (commits n))
            (λ n def t other was. subst (HoldsCommits t after) (sym (others n other))
            (holds_commits_kept t before after (old n) (same_files n other t.log.file (log_number n def t was.0)) was.1))
            (each-both IsHeldAs (λ n def t. HoldsCommits t before (old n)) 1 store.schema.catalog.tables store.tables.items at.within.tables holds.tables) its;
      }

    -- it has the room that the call on it leaves
    pub set_room : (was is : ℕ) → (HasRoomFor was held → HasRoomFor is new) → HasRoom was store table → HasRoom is now table
    set_room was is takes room = record {
      is_table = record { first = room.is_table.first; last = room.is_table.last };
      held = new;
      stands = ap (λ (ts : List Table). slice_get ts (table - 1)) items ∙ slice_get-set_same store.tables.items (table - 1) held new at.stands;
      room = takes (subst (HasRoomFor was) (same_Some room.held held (sym room.stands ∙ at.stands)) room.room);
    }

    -- and each other table has the room that it had
    pub set_rooms : (number count : ℕ) → number ≢ table → HasRoom count store number → HasRoom count now number
    set_rooms number count other room = record {
      is_table = record { first = room.is_table.first; last = room.is_table.last };
      held = room.held;
      stands = ap (λ (ts : List Table). slice_get ts (number - 1)) items
          ∙ slice_get-set_other store.tables.items (table - 1) (number - 1) new (λ same. other (omega (arith, same, room.is_table.first, its_number.0)))
          ∙ room.stands;
      room = room.room;
    }

    -- so all have what they had where it has what it had
    pub set_room-kept : ((count : ℕ) → HasRoomFor count held → HasRoomFor count new) → (number count : ℕ) → HasRoom count store number → HasRoom count now number
    set_room-kept takes number count room = elim (cases_eq number table) as (λ _. HasRoom count now number) [
      | inl same ↦ subst (HasRoom count now) (sym same) (set_room count count (takes count) (subst (HasRoom count store) same room))
      | inr other ↦ set_rooms number count other room
    ]

    -- it stands at its place
    pub set_stands : slice_get now.tables.items (table - 1) ≡ Some new
    set_stands = ap (λ (ts : List Table). slice_get ts (table - 1)) items ∙ slice_get-set_same store.tables.items (table - 1) held new at.stands
