-- How a client is answered: by a reply alone, which refuses what it asks for or tells it; or not, where the call ends before.
use Rattle.std.proofs.Common.{◌≡◌, ℕ, ◌+◌, ◌-◌, ◌≤◌, Bool, true, List, [], ◌∷◌, ◌++◌, length, map, get_or, Ok, Err, IfOk, refl, sym, ap, subst, ◌∙◌, arith, append_assoc}
use Rattle.std.specs.Prelude.{Result}
use Rattle.std.proofs.Math.Path.{fun_ext}
use Rattle.std.proofs.lemmas.Result.{IfOk-weaker}
use Rattle.chv_ast.specs.declared.refusal.Refusal.{Refusal}
use Rattle.chv_catalog.proofs.SchemaLemmas.{same_tables}
use Rattle.chv_catalog.specs.Schemas.{Catalog}
use Rattle.chv_catalog.specs.declared.table_def.TableDef.{TableDef}
use Rattle.chv_commit.specs.Replays.{State, no_state}
use Rattle.chv_query.specs.Accepted.{catalog_of, catalog_payload}
use Rattle.chv_part.specs.Forms.{form_of}
use Rattle.chv_part.specs.Standing.{FilesStand}
use Rattle.chv_part.specs.declared.damage.Damage.{Damage}
use Rattle.chv_site.specs.During.{During}
use Rattle.chv_site.specs.Faults.{CountsDisk}
use Rattle.chv_site.specs.FileIds.{table_log}
use Rattle.chv_site.specs.Files.{FileState, IsFrontOf, KeepsFiles}
use Rattle.chv_site.specs.Images.{Image, IsImage, IsLeft, IsLeftSaying}
use Rattle.chv_site.specs.Outside.{Outside, bytes_in}
use Rattle.chv_site.specs.declared.file_id.FileId.{FileId}
use Rattle.chv_site.proofs.Moments.{started, weakened}
use Rattle.chv_store.specs.Calls.{HoldsSame}
use Rattle.chv_store.specs.Holding.{HoldsBooks, HoldsLogs}
use Rattle.chv_store.specs.Stores.{IsPlaced, IsTable, IsUsable, IsHeldAs, IsWithin, state_of}
use Rattle.chv_store.specs.declared.store.Store.{Store}
use Rattle.chv_store.proofs.EachTableLemmas.{each-at}
use Rattle.chv_store.proofs.PlaceLemmas.{TableOf, its_book, its_state}
use Rattle.chv_store.proofs.StoreLemmas.{image_stands}
use Rattle.chv_table.specs.declared.table.Table.{Table}
use Rattle.chv_text.specs.Replies.{refused_line}
use Rattle.chv_history.specs.Crashes.{IsLeftBy}
use Rattle.chv_history.specs.Events.{Event, Moment, Plan, Replied}
use Rattle.chv_history.specs.Histories.{Stands, book_of}
use Rattle.chv_history.specs.Kept.{Kept, IsRefused, kept_task}
use Rattle.chv_history.specs.Runs.{answer_events, entries_in}
use Rattle.chv_history.specs.Tasks.{Task}
use Rattle.chv_history.proofs.EntryLemmas.{length-entries}
use Rattle.chv_history.proofs.KeptLemmas.{Agree}
use Rattle.chv_history.proofs.LeftLemmas.{left_first, left_still}
use Rattle.chv_history.proofs.LookupLemmas.{table_at}
use Rattle.chv_flight.specs.Answers.{Answers, AnswersAs, EndsBy, HasMet, HoldsKept, IsAt, IsLogged, MeetsDamage, Replies, Wish, wish_events, wish_in}
use Rattle.chv_flight.specs.Faults.{CountsRun}
use Rattle.chv_flight.specs.declared.fault.RunFault.{RunFault}
use Rattle.chv_flight.specs.declared.fault.RunFault.TheVariants.{Disk, Say, Damaged, NoMemory}
use Rattle.chv_flight.proofs.ResultLemmas.{if_ok_is}

-- files of which each is as it was are the same
pub same_files : (old new : FileId → FileState) → KeepsFiles old new → old ≡ new
same_files old new kept = sym (fun_ext (λ f. kept f))

-- the text grows by a line
pub text_goes_on : (before said now text line : List ℕ) → said ≡ before ++ text → now ≡ said ++ line → now ≡ before ++ (text ++ line)
text_goes_on before said now text line is added = added ∙ ap (λ (l : List ℕ). l ++ line) is ∙ append_assoc before text line

-- a store holds what it holds
pub holds_itself : (store : Store) → IsWithin store → HoldsSame store store
holds_itself store within = record {
  schema = refl;
  states = refl;
  within = within;
  placed = λ files placed. placed;
  books = λ files payloads books held. held;
  logs = λ files payloads commits held. held;
}

-- how many entries are held of each table
abbrev pub entries_held : Store → ℕ → ℕ
entries_held store table = (state_of store table).entries

-- the table of a number is held
pub held_at : (store : Store) (table : ℕ) → IsWithin store → IsTable store table → (held : Table) × TableOf store table held
held_at store table within is =
    let def = table_at store.schema.catalog.tables (table - 1) (omega (arith, is.first, is.last)) in
    let there = each-at IsHeldAs 1 (table - 1) store.schema.catalog.tables store.tables.items def.0 within.tables def.1 in
    let number : 1 + (table - 1) ≡ table = omega (arith, is.first) in (
      there.table,
      record { within = within; def = def.0; defined = def.1; stands = there.stands; number = number; held_as = subst (λ (n : ℕ). IsHeldAs n def.0 there.table) number there.holds },
    )

-- a store that is at a moment
module _ (store : Store) (outside : Outside) (before : List ℕ) (m : Moment) (within : IsWithin store) (at : IsAt store outside before m) where
  -- what a crash leaves of its files stands for the moment's history
  pub moment_left : (image : Image) → IsImage outside.files image → Stands image m.history
  moment_left image is = record {
    lawful = at.lawful;
    files_stand =
        subst (λ (tables : List TableDef). FilesStand image (map catalog_payload m.history.schema) (map form_of tables) (book_of m.history)) (same_tables store.schema.catalog (catalog_of m.history.schema) at.catalog)
        (image_stands store outside.files (map catalog_payload m.history.schema) (book_of m.history) within at.holds image is);
  }

  -- its tables have as many entries as are held of them
  pub moment_entries : Agree store.schema.catalog.tables (entries_in m.history) (entries_held store)
  moment_entries table first last =
      let held = held_at store table within (record { first = first; last = last }) in
      let book = its_book store table held.0 held.1 outside.files (map catalog_payload m.history.schema) (book_of m.history) at.holds in
      sym (length-entries m.history table) ∙ sym book.describes.entries ∙ sym (ap (λ (s : State). s.entries) (its_state store table held.0 held.1))

-- beside what a store has defined and how many entries are held of them, this is what a client asks for
abbrev pub Asks : Wish → Store → Result Task Refusal → Type 0
Asks wish store asked = (entries : ℕ → ℕ) → Agree store.schema.catalog.tables entries (entries_held store) → wish store.schema.catalog entries ≡ asked

module _ (client : ℕ) (wish : Wish) (store : Store) (asked : Result Task Refusal) (asks : Asks wish store asked) where
  -- so its events are those of what it asks for
  pub asked_at : (outside : Outside) (before : List ℕ) (m : Moment) → IsWithin store → IsAt store outside before m → wish_events client wish m.history ≡ answer_events client asked m.history
  asked_at outside before m within at =
      ap (λ (a : Result Task Refusal). answer_events client a m.history)
      (ap (λ (catalog : Catalog). wish catalog (entries_in m.history)) (sym at.catalog) ∙ asks (entries_in m.history) (moment_entries store outside before m within at))

  pub asked_kept : (kept : Kept) → HoldsKept store kept → wish_in wish kept ≡ asked
  asked_kept kept has =
      ap (λ (catalog : Catalog). wish catalog (λ table. (kept.states table).entries)) (sym has.catalog)
      ∙ asks (λ table. (kept.states table).entries)
      (λ table first last. ap (λ (s : State). s.entries) (sym (has.states table first (omega (arith, last, ap (λ (catalog : Catalog). length catalog.tables) has.catalog)))))

-- a store that holds the same, beside files that are the same
module _ (was is : Store) (old new : FileId → FileState) (same : HoldsSame was is) (kept : KeepsFiles old new) where
  pub same_books : (m : Moment) → HoldsBooks was old (map catalog_payload m.history.schema) (book_of m.history) → HoldsBooks is new (map catalog_payload m.history.schema) (book_of m.history)
  same_books m held =
      subst (λ (files : FileId → FileState). HoldsBooks is files (map catalog_payload m.history.schema) (book_of m.history)) (same_files old new kept)
      (same.books old (map catalog_payload m.history.schema) (book_of m.history) held)

  pub same_logged : IsLogged was old → IsLogged is new
  same_logged logged = record {
    schema = logged.schema;
    lawful = logged.lawful;
    catalog = ap (λ s. s.catalog) same.schema ∙ logged.catalog;
    commits = logged.commits;
    holds =
        subst (λ (files : FileId → FileState). HoldsLogs is files (map catalog_payload logged.schema) logged.commits) (same_files old new kept)
        (same.logs old (map catalog_payload logged.schema) logged.commits logged.holds);
    others = λ table above.
        subst (λ (s : FileState). s.most ≤ 1) (sym (kept (table_log table)))
        (logged.others table (omega (arith, above, ap (λ s. length s.catalog.tables) same.schema)));
  }

  pub same_placed : IsPlaced was old → IsPlaced is new
  same_placed placed = subst (λ (files : FileId → FileState). IsPlaced is files) (same_files old new kept) (same.placed old placed)

pub same_kept : (was is : Store) (kept : Kept) → HoldsSame was is → HoldsKept was kept → HoldsKept is kept
same_kept was is kept same has = record {
  catalog = ap (λ s. s.catalog) same.schema ∙ has.catalog;
  states = λ table first last. ap (λ (states : List State). get_or states (table - 1) no_state) same.states ∙ has.states table first last;
}

-- a reply is said at a moment
pub moment_replied : (was is : Store) (old new : Outside) (before line : List ℕ) (plans : List Plan) (mark : Bool) (m : Moment) → HoldsSame was is → IsAt was old before m → KeepsFiles old.files new.files
    → new.said ≡ old.said ++ line → AnswersAs is new before mark (Replied line plans mark ∷ []) m
moment_replied was is old new before line plans mark m same at kept added = record {
  at = record {
    lawful = at.lawful;
    catalog = ap (λ s. s.catalog) (same.schema) ∙ at.catalog;
    holds = same_books was is old.files new.files same kept m at.holds;
    text = text_goes_on before old.said new.said m.said line at.text added;
  };
  mark = refl;
}

-- while it is said
pub moment_saying : (store : Store) (start old new : Outside) (before line : List ℕ) (plans : List Plan) (mark : Bool) (rest : List Event) (m : Moment) → IsWithin store → IsAt store old before m
    → During start new (IsLeftSaying old.files old.said line) → During start new (IsLeftBy (Replied line plans mark ∷ rest) before m)
moment_saying store start old new before line plans mark rest m within at during =
    weakened start new (IsLeftSaying old.files old.said line) (IsLeftBy (Replied line plans mark ∷ rest) before m) during
    (λ image text left.
    left_first (Replied line plans mark ∷ rest) before m image text (moment_left store old before m within at image left.0) (subst (λ (s : List ℕ). IsFrontOf line s text) at.text left.1))

-- while nothing is done
pub moment_still : (store : Store) (old new : Outside) (before : List ℕ) (events : List Event) (m : Moment) → IsWithin store → IsAt store old before m
    → During old new (IsLeft old.files old.said) → During old new (IsLeftBy events before m)
moment_still store old new before events m within at during =
    weakened old new (IsLeft old.files old.said) (IsLeftBy events before m) during
    (λ image text left. left_still events before m image text (moment_left store old before m within at image left.0) (left.1 ∙ at.text))

-- what is asked for changes nothing, and a reply says it, or refuses it
module _ (tells : Type 0) (client : ℕ) (wish : Wish) (asked : Result Task Refusal) (text : List ℕ) (mark : Bool) (result : Result Bool RunFault) (was is : Store) (old new : Outside)
    (usable : IsUsable tells was old) (same : HoldsSame was is) (asks : Asks wish was asked) (keeps : (kept : Kept) → kept_task asked kept ≡ kept) (marks : IsRefused asked mark)
    (says : tells → (before : List ℕ) (m : Moment) → IsAt was old before m → answer_events client asked m.history ≡ Replied text [] mark ∷ [])
    (unmet : tells → (damage : Damage) → MeetsDamage wish was (bytes_in old) damage → ⊥) (replies : Replies tells text mark result old new) where
  events : tells → (before : List ℕ) (m : Moment) → IsAt was old before m → wish_events client wish m.history ≡ Replied text [] mark ∷ []
  events tell before m at = asked_at client wish was asked asks old before m usable.within at ∙ says tell before m at

  answered : tells → IfOk result (λ refused. (before : List ℕ) (m : Moment) → IsAt was old before m → AnswersAs is new before refused (wish_events client wish m.history) m)
  answered tell =
      if_ok_is result (new.said ≡ old.said ++ text) mark (λ refused. (before : List ℕ) (m : Moment) → IsAt was old before m → AnswersAs is new before refused (wish_events client wish m.history) m)
      (λ added before m at.
      subst (λ (es : List Event). AnswersAs is new before mark es m) (sym (events tell before m at)) (moment_replied was is old new before text [] mark m same at (replies.files tell) added))
      (replies.said tell) replies.answer

  kept_so : IfOk result (λ refused. (kept : Kept) → HoldsKept was kept → HoldsKept is (kept_task (wish_in wish kept) kept) × IsRefused (wish_in wish kept) refused)
  kept_so =
      IfOk-weaker result (λ answer. answer ≡ mark) (λ refused. (kept : Kept) → HoldsKept was kept → HoldsKept is (kept_task (wish_in wish kept) kept) × IsRefused (wish_in wish kept) refused)
      (λ refused is_mark kept has.
      let so : wish_in wish kept ≡ asked = asked_kept client wish was asked asks kept has in
      let still : kept_task (wish_in wish kept) kept ≡ kept = ap (λ (a : Result Task Refusal). kept_task a kept) so ∙ keeps kept in
      (subst (HoldsKept is) (sym still) (same_kept was is kept same has), subst (λ (a : Result Task Refusal). IsRefused a refused) (sym so) (subst (IsRefused asked) (sym is_mark) marks)))
      replies.answer

  pub replied_answers : Answers tells client wish result was is old new
  replied_answers = record {
    answered = answered;
    during = λ tell before m at.
        subst (λ (es : List Event). During old new (IsLeftBy es before m)) (sym (events tell before m at)) (moment_saying was old old new before text [] mark [] m usable.within at (replies.during tell));
    kept = kept_so;
    refused = λ tell. IfOk-weaker result (λ answer. answer ≡ mark) (λ refused. refused ≡ true → KeepsFiles old.files new.files) (λ refused is_mark refuses. replies.files tell) replies.answer;
    logged = λ tell.
        IfOk-weaker result (λ answer. answer ≡ mark) (λ refused. IsLogged was old.files → IsLogged is new.files) (λ refused is_mark. same_logged was is old.files new.files same (replies.files tell)) replies.answer;
    usable =
        IfOk-weaker result (λ answer. answer ≡ mark) (λ refused. IsUsable tells is new)
        (λ refused is_mark. record { within = same.within; placed = λ tell. same_placed was is old.files new.files same (replies.files tell) (usable.placed tell) }) replies.answer;
    damaged = λ tell damage is. absurd (replies.undamaged damage is);
    met = λ tell damage meets. absurd (unmet tell damage meets);
    counts = replies.counts;
  }

-- what is refused asks for no rows
no_rows : (refuses : Refusal) (task : Task) (asked : Result Task Refusal) → asked ≡ Err refuses → asked ≡ Ok task → ⊥
no_rows refuses task asked is other = absurd (cc (sym is ∙ other))

-- a client is refused what it asks for
pub refused_answers : (tells : Type 0) (client : ℕ) (wish : Wish) (refuses : Refusal) (result : Result Bool RunFault) (was is : Store) (old new : Outside) → IsUsable tells was old → HoldsSame was is
    → Asks wish was (Err refuses) → Replies tells (refused_line client refuses) true result old new → Answers tells client wish result was is old new
refused_answers tells client wish refuses result was is old new usable same asks replies =
    replied_answers tells client wish (Err refuses) (refused_line client refuses) true result was is old new usable same asks (λ kept. refl) refl (λ tell before m at. refl)
    (λ tell damage meets. no_rows refuses _ _ (asks (entries_held was) (λ table first last. refl)) meets.asks) replies

-- a fault that is no damage ends a run whatever damage is met
ends_else : (damage : Damage) (fault : RunFault) → ((other : Damage) → fault ≡ Damaged other → ⊥) → EndsBy damage (Err fault)
ends_else damage Disk undamaged = tt
ends_else damage Say undamaged = tt
ends_else damage (Damaged other) undamaged = absurd (undamaged other refl)
ends_else damage NoMemory undamaged = tt

one_fault : (a b : RunFault) → ◌≡◌ {A = Result Bool RunFault} (Err a) (Err b) → a ≡ b
one_fault a b same = cc

one_damage : (a b : Damage) → Damaged a ≡ Damaged b → a ≡ b
one_damage a b same = cc

-- the call ends by a fault, and nothing was done
module _ (tells : Type 0) (client : ℕ) (wish : Wish) (was is : Store) (old new : Outside) (within : IsWithin was) (during : tells → During old new (IsLeft old.files old.said)) where
  pub failed_answers : (fault : RunFault) → ((damage : Damage) → fault ≡ Damaged damage → ⊥) → CountsRun {T = Bool} (Err fault) old new → Answers tells client wish (Err fault) was is old new
  failed_answers fault undamaged counts = record {
    answered = λ tell. tt;
    during = λ tell before m at. moment_still was old new before (wish_events client wish m.history) m within at (during tell);
    kept = tt;
    refused = λ tell. tt;
    logged = λ tell. tt;
    usable = tt;
    damaged = λ tell damage err. absurd (undamaged damage (one_fault fault (Damaged damage) err));
    met = λ tell damage meets. ends_else damage fault undamaged;
    counts = counts;
  }

  -- or by damage that is met
  pub damaged_answers : (damage : Damage) → (tells → HasMet wish damage was is old new) → (tells → (other : Damage) → MeetsDamage wish was (bytes_in old) other → damage ≡ other)
      → CountsRun {T = Bool} (Err (Damaged damage)) old new → Answers tells client wish (Err (Damaged damage)) was is old new
  damaged_answers damage met one counts = record {
    answered = λ tell. tt;
    during = λ tell before m at. moment_still was old new before (wish_events client wish m.history) m within at (during tell);
    kept = tt;
    refused = λ tell. tt;
    logged = λ tell. tt;
    usable = tt;
    damaged = λ tell other err. subst (λ (d : Damage). HasMet wish d was is old new) (one_damage damage other (one_fault (Damaged damage) (Damaged other) err)) (met tell);
    met = λ tell other meets. one tell other meets;
    counts = counts;
  }

-- the counts of a fault after calls that read alone
pub counts_read : (fault : RunFault) (failed : Type 0) (old new : Outside) → CountsDisk failed old new → (fault ≡ Disk → failed) → (failed → fault ≡ Disk) → (fault ≡ Say → ⊥) → CountsRun {T = Bool} (Err fault) old new
counts_read fault failed old new counts to from no_say = record {
  disk_keeps = counts.keeps;
  say_keeps = omega (arith, counts.other);
  disk = λ err. counts.cause (to (one_fault fault Disk err));
  say = λ err. absurd (no_say (one_fault fault Say err));
  disk_stays = λ other. counts.same (λ f. other (ap (λ (e : RunFault). Err e) (from f)));
  say_stays = λ other. counts.other;
}

-- no call was made, and so no count changes
pub counts_nothing : (fault : RunFault) (now : Outside) → (fault ≡ Disk → ⊥) → (fault ≡ Say → ⊥) → CountsRun {T = Bool} (Err fault) now now
counts_nothing fault now no_disk no_say = record {
  disk_keeps = omega arith;
  say_keeps = omega arith;
  disk = λ err. absurd (no_disk (one_fault fault Disk err));
  say = λ err. absurd (no_say (one_fault fault Say err));
  disk_stays = λ other. refl;
  say_stays = λ other. refl;
}

-- there was no memory, before any call
pub no_memory_answers : (tells : Type 0) (client : ℕ) (wish : Wish) (was is : Store) (now : Outside) → IsWithin was
    → (tells → (image : Image) (text : List ℕ) → now.left_since now.moment image text → IsLeft now.files now.said image text) → Answers tells client wish (Err NoMemory) was is now now
no_memory_answers tells client wish was is now within only_now =
    failed_answers tells client wish was is now now within (λ tell. started now (IsLeft now.files now.said) (only_now tell)) NoMemory (λ damage same. absurd (cc same))
    (counts_nothing NoMemory now (λ same. absurd (cc same)) (λ same. absurd (cc same)))

-- what is asked for is the same beside what a store has defined
module _ (tells : Type 0) (client : ℕ) (one two : Wish) (result : Result Bool RunFault) (was is : Store) (old new : Outside)
    (same : (entries : ℕ → ℕ) → one was.schema.catalog entries ≡ two was.schema.catalog entries) (answers : Answers tells client one result was is old new) where
  beside : (catalog : Catalog) (entries : ℕ → ℕ) → was.schema.catalog ≡ catalog → one catalog entries ≡ two catalog entries
  beside catalog entries is = subst (λ (c : Catalog). one c entries ≡ two c entries) is (same entries)

  same_events : (before : List ℕ) (m : Moment) → IsAt was old before m → wish_events client one m.history ≡ wish_events client two m.history
  same_events before m at = ap (λ (a : Result Task Refusal). answer_events client a m.history) (beside (catalog_of m.history.schema) (entries_in m.history) at.catalog)

  same_met : (damage : Damage) → HasMet one damage was is old new → HasMet two damage was is old new
  same_met damage met = record {
    meets = record { query = met.meets.query; asks = sym (same (entries_held was)) ∙ met.meets.asks; is = met.meets.is };
    same = met.same;
    files = met.files;
    said = met.said;
  }

  pub same_wish : Answers tells client two result was is old new
  same_wish = record {
    answered = λ tell.
        IfOk-weaker result (λ refused. (before : List ℕ) (m : Moment) → IsAt was old before m → AnswersAs is new before refused (wish_events client one m.history) m)
        (λ refused. (before : List ℕ) (m : Moment) → IsAt was old before m → AnswersAs is new before refused (wish_events client two m.history) m)
        (λ refused so before m at. subst (λ (es : List Event). AnswersAs is new before refused es m) (same_events before m at) (so before m at)) (answers.answered tell);
    during = λ tell before m at. subst (λ (es : List Event). During old new (IsLeftBy es before m)) (same_events before m at) (answers.during tell before m at);
    kept =
        IfOk-weaker result (λ refused. (kept : Kept) → HoldsKept was kept → HoldsKept is (kept_task (wish_in one kept) kept) × IsRefused (wish_in one kept) refused)
        (λ refused. (kept : Kept) → HoldsKept was kept → HoldsKept is (kept_task (wish_in two kept) kept) × IsRefused (wish_in two kept) refused)
        (λ refused so kept has.
        subst (λ (a : Result Task Refusal). HoldsKept is (kept_task a kept) × IsRefused a refused) (beside kept.catalog (λ table. (kept.states table).entries) has.catalog) (so kept has)) answers.kept;
    refused = answers.refused;
    logged = answers.logged;
    usable = answers.usable;
    damaged = λ tell damage err. same_met damage (answers.damaged tell damage err);
    met = λ tell damage meets.
        answers.met tell damage (record { query = meets.query; asks = same (entries_held was) ∙ meets.asks; is = meets.is });
    counts = answers.counts;
  }
