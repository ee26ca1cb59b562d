-- How the rows and the parts of a table are told.
use Rattle.std.proofs.Common.{◌≡◌, ℕ, ◌-◌, Bool, true, false, if◌then◌else◌, List, [], ◌∷◌, ◌++◌, length, map, Ok, Err, Some, slice_get, pos, All, refl, sym, ap, ap₂, subst, ◌∙◌, arith}
use Rattle.std.specs.Prelude.{Result}
use Rattle.std.proofs.lemmas.List.{length-map}
use Rattle.std.proofs.lemmas.List.Elements.{All-head, All-tail, All-weaker}
use Rattle.std.proofs.lemmas.Option.{slice_get_within}
use Rattle.std.proofs.lemmas.Result.{on_ok_weaker}
use Rattle.chv_ast.specs.declared.refusal.Refusal.{Refusal}
use Rattle.chv_ast.specs.declared.refusal.Refusal.TheVariants.{DivisionByZero}
use Rattle.chv_ast.specs.declared.statement.Select.{Select}
use Rattle.chv_catalog.specs.declared.table_def.TableDef.{TableDef}
use Rattle.chv_commit.specs.Replays.{State, span_of}
use Rattle.chv_commit.specs.declared.part_row.PartRow.{PartRow}
use Rattle.chv_query.specs.Accepted.{catalog_payload}
use Rattle.chv_part.specs.Books.{TableForm, Book, normal_rows, part_rows, rows_in}
use Rattle.chv_part.specs.Forms.{form_of}
use Rattle.chv_part.specs.Standing.{IsPart}
use Rattle.chv_part.specs.declared.damage.Damage.{Damage}
use Rattle.chv_query.proofs.QueryLemmas.{asked_select-asked}
use Rattle.chv_query.specs.Queries.{Asked, asked_select, divides}
use Rattle.chv_site.specs.Effects.{OnlyReads}
use Rattle.chv_site.specs.Faults.{HasRisen}
use Rattle.chv_site.specs.Files.{FileState, IsFrontOf}
use Rattle.chv_site.specs.Images.{IsLeft, IsLeftSaying}
use Rattle.chv_site.specs.Outside.{Outside, bytes_in}
use Rattle.chv_site.specs.declared.file_id.FileId.{FileId}
use Rattle.chv_site.proofs.Images.{kept_image}
use Rattle.chv_site.proofs.Moments.{goes_on, weakened}
use Rattle.chv_store.specs.Holding.{HoldsBooks}
use Rattle.chv_store.specs.Stores.{IsTable, IsUsable, IsWithin, state_of}
use Rattle.chv_store.specs.declared.store.Store.{Store}
use Rattle.chv_store.proofs.PlaceLemmas.{its_book, its_form, its_state}
use Rattle.chv_table.specs.Damage.{ArePartsWhole, IsPartDamage}
use Rattle.chv_table.specs.Tables.{HoldsBook, held_form, held_state}
use Rattle.chv_table.specs.declared.fault.TableFault.{TableFault}
use Rattle.chv_table.specs.declared.fault.TableFault.TheVariants as table_fault
use Rattle.chv_table.specs.declared.table.Table.{Table}
use Rattle.chv_table.proofs.RowsLemmas.{part_damage_excludes, part_damage_unique}
use Rattle.chv_text.specs.Replies.{refused_line, rows_line}
use Rattle.chv_text.specs.Rows.{rows_text}
use Rattle.chv_types.specs.Steps.{and_then}
use Rattle.chv_types.specs.declared.value.Value.{Value}
use Rattle.chv_types.specs.declared.value.Value.TheVariants.{Whole}
use Rattle.chv_history.specs.Events.{Moment, Replied}
use Rattle.chv_history.specs.Histories.{book_of}
use Rattle.chv_history.specs.Tasks.{Task, TellParts, TellRows}
use Rattle.chv_history.specs.Told.{part_kinds, part_told, parts_text, query_text, shown_text, table_rows}
use Rattle.chv_history.proofs.KeptLemmas.{divides_may}
use Rattle.chv_history.proofs.LeftLemmas.{nothing_more}
use Rattle.chv_history.proofs.LookupLemmas.{IsNamed, asked_stands}
use Rattle.chv_flight.specs.Answers.{Answers, IsAt, IsOfStore, MeetsDamage, Replies, Wish, parts_wish}
use Rattle.chv_flight.specs.Faults.{CountsRun, table_fault_of}
use Rattle.chv_flight.specs.Parts.{row_told}
use Rattle.chv_flight.specs.declared.fault.RunFault.{RunFault}
use Rattle.chv_flight.specs.declared.fault.RunFault.TheVariants.{Disk, Damaged, NoMemory}
use Rattle.chv_flight.proofs.AnswerLemmas.{counts_read, damaged_answers, entries_held, failed_answers, held_at, holds_itself, replied_answers}

-- live parts that hold the rows of their entries are told as the book's
rows_told : (form : TableForm) (book : Book) (rows : List PartRow) → All (λ (row : PartRow). row.rows ≡ length (part_rows form book row.lo row.hi)) rows
    → map row_told rows ≡ map (part_told form book) (map span_of rows)
rows_told form book [] counted = refl
rows_told form book (row ∷ rows) counted =
    let P : PartRow → Type 0 = λ row. row.rows ≡ length (part_rows form book row.lo row.hi) in
    ap₂ (λ (count : ℕ) (rest : List (List Value)). (Whole (pos row.lo) ∷ (Whole (pos row.hi) ∷ (Whole (pos row.level) ∷ (Whole (pos count) ∷ [])))) ∷ rest)
    (All-head P row rows counted) (rows_told form book rows (All-tail P row rows counted))

-- what is told of live parts
abbrev pub told_text : ℕ → List PartRow → List ℕ
told_text client rows = rows_text part_kinds (map row_told rows) ++ rows_line client (length rows)

-- what is held of a table's parts tells its book's
parts_text-held : (client : ℕ) (table : Table) (files : FileId → FileState) (book : Book) → HoldsBook table files book
    → told_text client (held_state table).layout ≡ parts_text client (held_form table) book
parts_text-held client table files book held =
    let rows = (held_state table).layout in
    let form = held_form table in
    let told : map row_told rows ≡ map (part_told form book) book.layout =
    rows_told form book rows (All-weaker (IsPart (λ f. (files f).bytes) table.number form book) (λ (row : PartRow). row.rows ≡ length (part_rows form book row.lo row.hi)) (λ row is. is.counted) rows held.parts)
    ∙ ap (map (part_told form book)) (sym held.describes.layout) in
    ap₂ (λ (lines : List (List Value)) (count : ℕ). rows_text part_kinds lines ++ rows_line client count) told (sym (length-map rows span_of) ∙ sym (ap length held.describes.layout))

-- so what a store holds of a table's parts tells those of the moment at which it is
parts_at : (client table : ℕ) (def : TableDef) (store : Store) (outside : Outside) (before : List ℕ) (m : Moment) → IsWithin store → IsTable store table → slice_get store.schema.catalog.tables (table - 1) ≡ Some def
    → IsAt store outside before m → told_text client (state_of store table).layout ≡ parts_text client (form_of def) (book_of m.history table)
parts_at client table def store outside before m within is stands at =
    let held = held_at store table within is in
    let book = book_of m.history table in
    ap (λ (s : State). told_text client s.layout) (its_state store table held.0 held.1)
    ∙ parts_text-held client held.0 outside.files book (its_book store table held.0 held.1 outside.files (map catalog_payload m.history.schema) (book_of m.history) at.holds)
    ∙ ap (λ (form : TableForm). parts_text client form book) (its_form store table held.0 held.1 def stands)

other_task : (table : ℕ) (def : TableDef) (query : Asked) → ◌≡◌ {A = Result Task Refusal} (Ok (TellParts table def)) (Ok (TellRows query)) → ⊥
other_task table def query same = absurd (cc same)

-- the parts of the table of a name are told
pub parts_answers : (tells : Type 0) (client : ℕ) (name text : List ℕ) (parts : List PartRow) (number : ℕ) (result : Result Bool RunFault) (store : Store) (old new : Outside) → IsUsable tells store old
    → IsNamed store.schema.catalog name number → text ≡ told_text client parts → parts ≡ (state_of store number).layout → Replies tells text false result old new → Answers tells client (parts_wish name) result store store old new
parts_answers tells client name text parts number result store old new usable named text_is parts_are replies =
    let is : IsTable store number = record { first = named.first; last = named.last } in
    let asked : parts_wish name store.schema.catalog (entries_held store) ≡ Ok (TellParts number named.def) = ap (λ (found : Result (ℕ × TableDef) Refusal). and_then found (λ f. Ok (TellParts f.0 f.1))) named.is in
    replied_answers tells client (parts_wish name) (Ok (TellParts number named.def)) text false result store store old new usable (holds_itself store usable.within) (λ entries agree. asked) (λ kept. refl) refl
    (λ tell before m at. ap (λ (l : List ℕ). Replied l [] false ∷ []) (sym (text_is ∙ ap (told_text client) parts_are ∙ parts_at client number named.def store old before m usable.within is named.stands at)))
    (λ tell damage meets. other_task number named.def meets.query (sym asked ∙ meets.asks)) replies

-- what is said for a query: its rows, or that a divisor is zero
pub text_shown : (client : ℕ) (query : Asked) (rows : List (List Value)) → divides query rows ≡ false → query_text client query rows ≡ shown_text client query rows
unfolding query_text
text_shown client query rows is = ap (λ (b : Bool). if b then refused_line client DivisionByZero else shown_text client query rows) is

pub text_refused : (client : ℕ) (query : Asked) (rows : List (List Value)) → divides query rows ≡ true → query_text client query rows ≡ refused_line client DivisionByZero
unfolding query_text
text_refused client query rows is = ap (λ (b : Bool). if b then refused_line client DivisionByZero else shown_text client query rows) is

-- a query that no check refuses is of a table of the store
pub asked_of_store : (store : Store) (select : Select) (query : Asked) → asked_select store.schema.catalog select ≡ Ok query → IsOfStore store query
asked_of_store store select query asks = let found = asked_stands store.schema.catalog select query (asked_select-asked store.schema.catalog select query asks) in record { first = found.first; stands = found.stands }

-- the table of such a query stands
pub query_table : (store : Store) (query : Asked) (number : ℕ) → number ≡ query.table → IsOfStore store query → IsTable store number
query_table store query number same of_store =
    let last = slice_get_within store.schema.catalog.tables (query.table - 1) query.def of_store.stands in
    record { first = omega (arith, same, of_store.first); last = omega (arith, same, of_store.first, last) }

-- the rows of a query that no check refuses are asked for
abbrev pub rows_wish : Asked → Wish
rows_wish query catalog entries = Ok (TellRows query)

one_query : (a b : Asked) → ◌≡◌ {A = Result Task Refusal} (Ok (TellRows a)) (Ok (TellRows b)) → a ≡ b
one_query a b same = cc

-- calls that change nothing, and then a reply
module _ (tells failed : Type 0) (text : List ℕ) (mark : Bool) (result : Result Bool RunFault) (old mid new : Outside) (reads : OnlyReads tells failed old mid) (works : failed → ⊥) where
  disk_same : mid.disk_faults ≡ old.disk_faults
  disk_same = reads.counts.same works

  counts_after : CountsRun result mid new → CountsRun result old new
  counts_after counts = record {
    disk_keeps = omega (arith, counts.disk_keeps, disk_same);
    say_keeps = omega (arith, counts.say_keeps, reads.counts.other);
    disk = λ err. subst (λ (n : ℕ). HasRisen n new.disk_faults) disk_same (counts.disk err);
    say = λ err. subst (λ (n : ℕ). HasRisen n new.say_faults) reads.counts.other (counts.say err);
    disk_stays = λ other. counts.disk_stays other ∙ disk_same;
    say_stays = λ other. counts.say_stays other ∙ reads.counts.other;
  }

  pub reads_then_replies : Replies tells text mark result mid new → Replies tells text mark result old new
  reads_then_replies replies = record {
    answer = replies.answer;
    said = λ tell. on_ok_weaker result (λ added. added ∙ ap (λ (l : List ℕ). l ++ text) (reads.said tell)) (replies.said tell);
    files = λ tell f. replies.files tell f ∙ reads.files tell f;
    during = λ tell.
        goes_on old mid new (IsLeftSaying old.files old.said text) (IsLeftSaying mid.files mid.said text)
        (weakened old mid (IsLeft old.files old.said) (IsLeftSaying old.files old.said text) (reads.during tell) (λ image said left. (left.0, nothing_more text old.said said left.1)))
        (replies.during tell)
        (λ image said left. (kept_image old.files mid.files image (reads.files tell) left.0, subst (λ (s : List ℕ). IsFrontOf text s said) (reads.said tell) left.1));
    memory = replies.memory;
    undamaged = replies.undamaged;
    counts = counts_after replies.counts;
  }

-- the rows of a query are asked for, of the table of this number
module _ (tells failed : Type 0) (client : ℕ) (query : Asked) (number : ℕ) (store : Store) (old mid : Outside) (usable : IsUsable tells store old) (table_is : number ≡ query.table) (of_store : IsOfStore store query)
    (reads : OnlyReads tells failed old mid) where
  stands : slice_get store.schema.catalog.tables (number - 1) ≡ Some query.def
  stands = subst (λ (n : ℕ). slice_get store.schema.catalog.tables (n - 1) ≡ Some query.def) (sym table_is) of_store.stands

  -- a damage of its parts
  abbrev IsDamage : ℕ → Asked → Damage → Type 0
  IsDamage n q damage = IsPartDamage n (form_of q.def) (state_of store n).layout (bytes_in old) damage

  -- a damage that is met is one
  damage_there : (damage : Damage) → MeetsDamage (rows_wish query) store (bytes_in old) damage → IsDamage number query damage
  damage_there damage meets =
      subst (λ (n : ℕ). IsDamage n query damage) (sym table_is) (subst (λ (q : Asked). IsDamage q.table q damage) (sym (one_query query meets.query meets.asks)) meets.is)

  -- they are told, or the answer is that a divisor is zero
  pub rows_answers : (text : List ℕ) (mark : Bool) (rows : List (List Value)) (result : Result Bool RunFault) (new : Outside) → (failed → ⊥)
      → (tells → (def : TableDef) → slice_get store.schema.catalog.tables (number - 1) ≡ Some def → (payloads : List (List ℕ)) (books : ℕ → Book) → HoldsBooks store old.files payloads books → rows ≡ normal_rows (form_of def) (rows_in (books number)))
      → (tells → (def : TableDef) → slice_get store.schema.catalog.tables (number - 1) ≡ Some def → ArePartsWhole number (form_of def) (state_of store number).layout (bytes_in old))
      → text ≡ query_text client query rows → divides query rows ≡ mark → Replies tells text mark result mid new → Answers tells client (rows_wish query) result store store old new
  rows_answers text mark rows result new works read whole text_is mark_is replies =
      replied_answers tells client (rows_wish query) (Ok (TellRows query)) text mark result store store old new usable (holds_itself store usable.within) (λ entries agree. refl) (λ kept. refl)
      (λ refused. divides_may query rows (mark_is ∙ refused))
      (λ tell before m at.
      let here : rows ≡ table_rows (form_of query.def) (book_of m.history number) = read tell query.def stands (map catalog_payload m.history.schema) (book_of m.history) at.holds in
      let same : table_rows (form_of query.def) (book_of m.history query.table) ≡ rows = ap (λ (n : ℕ). table_rows (form_of query.def) (book_of m.history n)) (sym table_is) ∙ sym here in
      ap (λ (l : List (List Value)). Replied (query_text client query l) [] (divides query l) ∷ []) same ∙ ap₂ (λ (l : List ℕ) (b : Bool). Replied l [] b ∷ []) (sym text_is) mark_is)
      (λ tell damage meets. part_damage_excludes number (form_of query.def) (state_of store number).layout (bytes_in old) damage (damage_there damage meets) (whole tell query.def stands))
      (reads_then_replies tells failed text mark result old mid new reads works replies)

  -- or there is no memory to tell them
  pub untold_answers : (failed → ⊥) → Answers tells client (rows_wish query) (Err NoMemory) store store old mid
  untold_answers works =
      failed_answers tells client (rows_wish query) store store old mid usable.within reads.during NoMemory (λ damage same. absurd (cc same))
      (counts_read NoMemory failed old mid reads.counts (λ same. absurd (cc same)) (λ f. absurd (works f)) (λ same. absurd (cc same)))

  -- or they are not read
  pub unread_answers : (fault : TableFault) → (fault ≡ table_fault.Failed → failed) → (failed → fault ≡ table_fault.Failed)
      → (tells → (damage : Damage) → fault ≡ table_fault.Damaged damage → (def : TableDef) → slice_get store.schema.catalog.tables (number - 1) ≡ Some def → IsPartDamage number (form_of def) (state_of store number).layout (bytes_in old) damage)
      → Answers tells client (rows_wish query) (Err (table_fault_of fault)) store store old mid
  unread_answers table_fault.Failed to from damaged =
      failed_answers tells client (rows_wish query) store store old mid usable.within reads.during Disk (λ damage same. absurd (cc same))
      (counts_read Disk failed old mid reads.counts (λ same. to refl) (λ f. refl) (λ same. absurd (cc same)))
  unread_answers (table_fault.Damaged damage) to from damaged =
      damaged_answers tells client (rows_wish query) store store old mid usable.within reads.during damage
      (λ tell. record {
        meets = record { query = query; asks = refl; is = subst (λ (n : ℕ). IsDamage n query damage) table_is (damaged tell damage refl query.def stands) };
        same = refl;
        files = reads.files tell;
        said = reads.said tell;
      })
      (λ tell other meets. part_damage_unique number (form_of query.def) (state_of store number).layout (bytes_in old) damage other (damaged tell damage refl query.def stands) (damage_there other meets))
      (counts_read (Damaged damage) failed old mid reads.counts (λ same. absurd (cc same)) (λ f. absurd (cc (from f))) (λ same. absurd (cc same)))
  unread_answers table_fault.NoMemory to from damaged =
      failed_answers tells client (rows_wish query) store store old mid usable.within reads.during NoMemory (λ damage same. absurd (cc same))
      (counts_read NoMemory failed old mid reads.counts (λ same. absurd (cc same)) (λ f. absurd (cc (from f))) (λ same. absurd (cc same)))
