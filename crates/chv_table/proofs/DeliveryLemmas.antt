-- What a delivery makes of its table's book.
use Rattle.std.proofs.Common.{◌≡◌, ◌⊎◌, inl, inr, ℕ, ◌+◌, ◌<◌, ◌^◌, List, [], ◌∷◌, Some, true, false, refl, sym, subst, arith}
use Rattle.std.specs.List.{Contains}
use Rattle.chv_site.specs.declared.file_id.FileId.{FileId}
use Rattle.chv_site.specs.Files.{FileState}
use Rattle.chv_site.specs.Images.{Image, IsLeft}
use Rattle.chv_commit.specs.Commits.{AreWords}
use Rattle.chv_commit.specs.Replays.{State, IsSound}
use Rattle.chv_commit.proofs.SoundLemmas.{IsSound-added}
use Rattle.chv_commit.proofs.TakenLemmas.{taken-add}
use Rattle.chv_part.specs.Books.{Entry, Book, is_recent, appended}
use Rattle.chv_part.proofs.BookLemmas.{is_recent-Contains, is_recent-lacks, IsLawfulBook-appended}
use Rattle.chv_sip.specs.declared.block_id.BlockId.{BlockId}
use Rattle.chv_table.specs.Delivering.{Brings, DeliveryLeft, state_after}
use Rattle.chv_table.specs.Tables.{IsWithin, HasRoomFor, HoldsBook, held_form, held_state}
use Rattle.chv_table.specs.Turning.{Fits, Becomes}
use Rattle.chv_table.specs.declared.table.Delivered.TheVariants.{Written}
use Rattle.chv_table.specs.declared.table.Table.{Table}
use Rattle.chv_table.proofs.EntryLemmas.{commit_of, IsCommit-commit_of, IsPayload-commit_of, Describes-added, parts-added}
use Rattle.chv_table.proofs.TableLemmas.{table_left}

-- an id that is held is a recent one
pub recent_held : (table : Table) (files : FileId → FileState) (book : Book) (entry : Entry) (id : BlockId) → HoldsBook table files book → id ≡ entry.id → Contains table.replay.state.ids id
    → is_recent table.replay.window entry.id book ≡ true
recent_held table files book entry id held same has =
    is_recent-Contains table.replay.window entry.id book (subst (λ (ids : List BlockId). Contains ids entry.id) held.describes.ids (subst (Contains table.replay.state.ids) same has))

pub recent_lacks : (table : Table) (files : FileId → FileState) (book : Book) (entry : Entry) (id : BlockId) → HoldsBook table files book → id ≡ entry.id → (Contains table.replay.state.ids id → ⊥)
    → is_recent table.replay.window entry.id book ≡ false
recent_lacks table files book entry id held same lacks =
    is_recent-lacks table.replay.window entry.id book (λ has. lacks (subst (Contains table.replay.state.ids) (sym same) (subst (λ (ids : List BlockId). Contains ids entry.id) (sym held.describes.ids) has)))

-- nothing is done: a crash leaves the table's book
pub skipped_left : (table : Table) (files : FileId → FileState) (said : List ℕ) (book next : Book) (image : Image) (text : List ℕ) → IsWithin table → HoldsBook table files book → IsLeft files said image text
    → DeliveryLeft table book next files said image text
skipped_left table files said book next image text within held left = record {
  others = λ f other. left.0 f;
  stands = inl (table_left table files image book within held (λ f own. left.0 f));
  text_left = left.1;
}

-- a block that is written: its table has room
pub record IsWritten (table : Table) (id : BlockId) (rows : ℕ) : Type 0 where
  pub within : IsWithin table
  pub room : HasRoomFor 1 table
  pub words : AreWords id
  pub few : rows < 2 ^ 64

module _ (table : Table) (id : BlockId) (rows : ℕ) (is : IsWritten table id rows) where
  -- its commit fits
  pub written_fits : Fits table (commit_of table.replay.state.next_part rows id) (state_after Written table rows id)
  written_fits = record {
    right = IsCommit-commit_of table.replay.state.next_part rows id (omega (arith, is.within.sound.counted, is.room.in_number)) is.few is.words;
    payload = IsPayload-commit_of table.replay.state.next_part rows id;
    taken_is = taken-add table.replay.window table.replay.state.next_part rows (id ∷ []) (held_state table) refl (omega arith) is.room.in_number;
  }

  pub written_sound : IsSound (state_after Written table rows id)
  written_sound = IsSound-added table.replay.window table.replay.state.next_part rows (id ∷ []) (held_state table) is.within.sound refl (omega arith) is.room.in_number

  -- and makes of the table's book that with the new entry
  pub written_becomes : (files : FileId → FileState) (book : Book) (entry : Entry) (encoded : List ℕ) → HoldsBook table files book → Brings table id rows encoded entry
      → is_recent table.replay.window entry.id book ≡ false
      → Becomes table book (appended entry book) (commit_of table.replay.state.next_part rows id) (state_after Written table rows id) encoded
  written_becomes files book entry encoded held brings new = record {
    fits = written_fits;
    lawful = IsLawfulBook-appended (held_form table) entry book brings.lawful (omega (arith, is.room.in_number, held.describes.entries)) new held.lawful;
    describes = Describes-added table.replay.window table.replay.state.next_part rows id entry (held_state table) book brings.id_is held.describes;
    parts = parts-added table rows id entry book encoded brings held.describes held.lawful.runs;
  }
