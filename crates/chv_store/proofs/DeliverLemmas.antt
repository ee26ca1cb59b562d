-- What a delivery to the table of a number does to the store, and what a crash meanwhile leaves.
use Rattle.std.proofs.Common.{◌≡◌, ◌≢◌, ◌⊎◌, inl, inr, ℕ, ◌+◌, ◌-◌, List, [], ◌∷◌, ◌++◌, slice_set, Result, Ok, Err, IfOk, OnOk, refl, sym, ap, subst, ◌∙◌}
use Rattle.std.specs.List.{Contains}
use Rattle.std.specs.Prelude.{◌↔◌}
use Rattle.std.specs.declared.alloc.Global.{Global}
use Rattle.std.specs.declared.vec.Vec.{Vec}
use Rattle.std.proofs.lemmas.Option.{same_Some}
use Rattle.std.proofs.lemmas.Result.{on_ok_weaker}
use Rattle.chv_commit.specs.Replays.{State, added}
use Rattle.chv_commit.specs.declared.commit.Commit.{Commit}
use Rattle.chv_commit.specs.declared.commit.Commit.TheVariants.{Add}
use Rattle.chv_part.specs.Books.{TableForm, Book, Entry, IsEntry, arrived}
use Rattle.chv_part.specs.Forms.{form_of}
use Rattle.chv_part.specs.Parts.{IsPartFile}
use Rattle.chv_part.specs.Standing.{FilesStand, TableStands}
use Rattle.chv_sip.specs.declared.block_id.BlockId.{BlockId}
use Rattle.chv_site.specs.FileIds.{part_of, table_log}
use Rattle.chv_site.specs.Files.{FileState}
use Rattle.chv_site.specs.Images.{Image, IsFileImage}
use Rattle.chv_site.specs.Outside.{Outside}
use Rattle.chv_site.specs.declared.file_id.FileId.{FileId}
use Rattle.chv_site.proofs.Moments.{weakened}
use Rattle.chv_table.specs.Delivering.{Brings, ChangesTable, DeliveryLeft, commits_after, state_after}
use Rattle.chv_table.specs.Delivering.{Turns as TableTurns}
use Rattle.chv_table.specs.Tables.{HasRoomFor, HoldsBook, HoldsCommits, held_form, held_state}
use Rattle.chv_table.specs.Tables.{IsPlaced as IsTablePlaced, IsWithin as IsTableWithin}
use Rattle.chv_table.specs.declared.table.Delivered.{Delivered}
use Rattle.chv_table.specs.declared.table.Delivered.TheVariants.{Written, Skipped}
use Rattle.chv_table.specs.declared.table.Table.{Table}
use Rattle.chv_store.specs.Calls.{BringsTo, EitherLeft, Notes, StandsFor, Turns, books_behind, commits_behind, states_behind}
use Rattle.chv_store.specs.Holding.{HoldsBooks, HoldsLogs}
use Rattle.chv_store.specs.Stores.{HasRoom, IsUsable, forms_of, states_of, state_of, window_of}
use Rattle.chv_store.specs.declared.store.Store.{Store}
use Rattle.chv_store.proofs.PlaceLemmas.{TableOf, its_form, its_state, its_window, now, set_books, set_logs, set_placed, set_room, set_rooms, set_states, set_states-same, set_within, stands_with, with_one-other, with_one-same}

-- where there is room for a delivery to the table of a number, there is for one to it
pub room_at : (store : Store) (table count : ℕ) (held : Table) → TableOf store table held → HasRoom count store table → HasRoomFor count held
room_at store table count held at room = subst (HasRoomFor count) (same_Some room.held held (sym room.stands ∙ at.stands)) room.room

-- what holds of an answer, with what holds of each
pub if_ok_with : {T E : Type 0} (r : Result T E) (A : Type 0) (P Q : T → Type 0) → ((x : T) → A → P x → Q x) → OnOk r A → IfOk r P → IfOk r Q
if_ok_with (Ok x) A P Q so a p = so x a p
if_ok_with (Err e) A P Q so a p = tt

module _ (store : Store) (table : ℕ) (held : Table) (at : TableOf store table held) where
  -- the call changes the table's log and its next part
  pub changes_of : (tells failed : Type 0) (old new : Outside) → ChangesTable tells failed held.number (held_state held).next_part old new → ChangesTable tells failed table (state_of store table).next_part old new
  changes_of tells failed old new changes =
      subst (λ (n : ℕ). ChangesTable tells failed n (state_of store table).next_part old new) at.held_as.1.number_is
      (subst (λ (s : State). ChangesTable tells failed held.number s.next_part old new) (sym (its_state store table held at)) changes)

  -- the files that it changes are those of the table
  pub elsewhere : (part : ℕ) (old new : FileId → FileState) → ((f : FileId) → f ≢ table_log held.number → f ≢ part_of held.number part → new f ≡ old f) → (f : FileId) → f.table ≢ table → new f ≡ old f
  elsewhere part old new others f other =
      let apart : f.table ≢ held.number = λ same. other (same ∙ at.held_as.1.number_is) in
      others f (λ log. apart (ap (λ (g : FileId). g.table) log)) (λ is_part. apart (ap (λ (g : FileId). g.table) is_part))

  -- what is brought to the number is brought to the table
  pub brings_it : (id : BlockId) (rows : ℕ) (encoded : List ℕ) (entry : Entry) → BringsTo store.schema.catalog.tables table id rows encoded entry → Brings held id rows encoded entry
  brings_it id rows encoded entry brings =
      let form : form_of brings.def ≡ held_form held = sym (its_form store table held at brings.def brings.stands) in
      record {
        lawful = subst (λ (f : TableForm). IsEntry f entry) form brings.lawful;
        id_is = brings.id_is;
        rows_are = brings.rows_are;
        encoded_is = subst (λ (f : TableForm). IsPartFile f entry.rows encoded) form brings.encoded_is;
      }

  -- the table's book behind the delivery is the one that is put among the books
  next_book : (entry : Entry) (books : ℕ → Book) → arrived (held_form held).window entry (books table) ≡ books_behind store table entry books table
  next_book entry books =
      ap (λ (window : ℕ). arrived window entry (books table)) (sym (its_window store table held at))
      ∙ sym (with_one-same table (arrived (window_of store table) entry (books table)) books)

  other_book : (entry : Entry) (books : ℕ → Book) (n : ℕ) → n ≢ table → books_behind store table entry books n ≡ books n
  other_book entry books n other = with_one-other table n (arrived (window_of store table) entry (books table)) books other

  -- what a crash leaves while it is made
  delivery_left : (files : FileId → FileState) (payloads : List (List ℕ)) (books : ℕ → Book) (entry : Entry) → HoldsBooks store files payloads books → (said : List ℕ) (image : Image) (text : List ℕ)
      → DeliveryLeft held (books table) (arrived (held_form held).window entry (books table)) files said image text
      → EitherLeft (StandsFor payloads (forms_of store) books) (StandsFor payloads (forms_of store) (books_behind store table entry books)) said image text
  delivery_left files payloads books entry holds said image text left =
      let others : (f : FileId) → f.table ≢ table → IsFileImage (files f) (image f) = λ f other. left.others f (λ is. other (is ∙ at.held_as.1.number_is)) in
      let of_def = (λ (b : Book) (is : TableStands image held.number (held_form held) b).
      subst (λ (n : ℕ). TableStands image n (form_of at.def) b) at.held_as.1.number_is (subst (λ (f : TableForm). TableStands image held.number f b) at.held_as.1.form_is is)) in
      record {
        stands = elim left.stands as (λ _. FilesStand image payloads (forms_of store) books ⊎ FilesStand image payloads (forms_of store) (books_behind store table entry books)) [
          | inl first ↦ inl (stands_with store table held at files payloads books books holds (λ n other. refl) image others (of_def (books table) first))
          | inr second ↦
              inr (stands_with store table held at files payloads books (books_behind store table entry books) holds (other_book entry books) image others
              (subst (TableStands image table (form_of at.def)) (next_book entry books) (of_def (arrived (held_form held).window entry (books table)) second)))
        ];
        text_left = left.text_left;
      }

  -- the table that stands there behind the delivery
  module _ (new : Table) (tables : Vec Table Global) (items : tables.items ≡ slice_set store.tables.items (table - 1) new) where
    -- the store turns with the table
    pub turns_with : {T E : Type 0} (result : Result T E) (old after : Outside) (payloads : List (List ℕ)) (books : ℕ → Book) (entry : Entry) → ((f : FileId) → f.table ≢ table → after.files f ≡ old.files f)
        → HoldsBooks store old.files payloads books → TableTurns result held new (books table) (arrived (held_form held).window entry (books table)) old after
        → Turns result (HoldsBooks (now store table held at new tables items) after.files payloads (books_behind store table entry books))
        (StandsFor payloads (forms_of store) books) (StandsFor payloads (forms_of store) (books_behind store table entry books)) old after
    turns_with result old after payloads books entry kept holds turns = record {
      done = on_ok_weaker result
          (λ its. set_books store table held at new tables items old.files after.files kept payloads books (books_behind store table entry books) (other_book entry books) holds
          (subst (HoldsBook new after.files) (next_book entry books) its))
          turns.done;
      during = weakened old after _ _ turns.during (delivery_left old.files payloads books entry holds old.said);
    }

    -- its log has the commit
    pub logs_with : (answer : Delivered) (rows : ℕ) (id : BlockId) (before after : FileId → FileState) (payloads : List (List ℕ)) (commits : ℕ → List Commit) → ((f : FileId) → f.table ≢ table → after f ≡ before f)
        → HoldsLogs store before payloads commits → HoldsCommits new after (commits_after answer held rows id (commits table))
        → HoldsLogs (now store table held at new tables items) after payloads (commits_behind answer store table rows id commits)
    logs_with answer rows id before after payloads commits kept holds its =
        set_logs store table held at new tables items before after kept payloads commits (commits_behind answer store table rows id commits) (others answer) holds
        (subst (HoldsCommits new after) (same answer) its)
      where
        others : (answer : Delivered) (n : ℕ) → n ≢ table → commits_behind answer store table rows id commits n ≡ commits n
        others Skipped n other = refl
        others Written n other = with_one-other table n (commits table ++ Add (state_of store table).next_part rows (id ∷ []) ∷ []) commits other

        same : (answer : Delivered) → commits_after answer held rows id (commits table) ≡ commits_behind answer store table rows id commits table
        same Skipped = refl
        same Written =
            ap (λ (s : State). commits table ++ Add s.next_part rows (id ∷ []) ∷ []) (sym (its_state store table held at))
            ∙ sym (with_one-same table (commits table ++ Add (state_of store table).next_part rows (id ∷ []) ∷ []) commits)

    -- and what is held of it is told
    states_with : (answer : Delivered) (rows : ℕ) (id : BlockId) → held_state new ≡ state_after answer held rows id
        → states_of (now store table held at new tables items) ≡ states_behind answer store table rows id
    states_with Skipped rows id is = set_states-same store table held at new tables items is
    states_with Written rows id is =
        set_states store table held at new tables items
        ∙ ap (slice_set (states_of store) (table - 1)) (is
        ∙ ap (λ (window : ℕ). added window (held_state held).next_part rows (id ∷ []) (held_state held)) (sym (its_window store table held at))
        ∙ ap (λ (s : State). added (window_of store table) s.next_part rows (id ∷ []) s) (sym (its_state store table held at)))

    pub notes_with : (answer : Delivered) (rows : ℕ) (id : BlockId) → ((answer ≡ Skipped) ↔ Contains (held_state held).ids id) → held_state new ≡ state_after answer held rows id
        → ((count : ℕ) → HasRoomFor (count + 1) held → HasRoomFor count new) → Notes answer store (now store table held at new tables items) table rows id
    notes_with answer rows id skipped state room = record {
      skipped = subst (λ (s : State). (answer ≡ Skipped) ↔ Contains s.ids id) (sym (its_state store table held at)) skipped;
      schema = refl;
      states = states_with answer rows id state;
      room = λ count. set_room store table held at new tables items (count + 1) count (room count);
      rooms = set_rooms store table held at new tables items;
    }

    -- and may be used
    pub usable_with : (tells : Type 0) (old after : Outside) → (new.number ≡ held.number) × (held_form new ≡ held_form held) → ((tells : tells) (f : FileId) → f.table ≢ table → after.files f ≡ old.files f) → IsUsable tells store old
        → IsTableWithin new × (tells → IsTablePlaced new after.files) → IsUsable tells (now store table held at new tables items) after
    usable_with tells old after same kept usable ready = record {
      within = set_within store table held at new tables items (ready.0, record { number_is = same.0 ∙ at.held_as.1.number_is; form_is = same.1 ∙ at.held_as.1.form_is });
      placed = λ t. set_placed store table held at new tables items old.files after.files (kept t) (usable.placed t) (ready.1 t);
    }
