-- Files that stand for a history, by what they hold of its schema and its books.
use Rattle.std.proofs.Common.{◌≡◌, ℕ, ◌+◌, ◌≤◌, List, [], ◌∷◌, ◌++◌, length, map, sym, ap, subst, ◌∙◌}
use Rattle.std.proofs.lemmas.List.{append-nil, map_push}
use Rattle.std.proofs.lemmas.List.Elements.{All-weaker}
use Rattle.chv_commit.specs.Commits.{commit_spelling}
use Rattle.chv_query.specs.Accepted.{Accepted, catalog_payload, tables_in, tables_of}
use Rattle.chv_gate.specs.GateLog.{HasFrames}
use Rattle.chv_part.specs.Books.{TableForm, Book, arrived, part_rows}
use Rattle.chv_part.specs.Forms.{form_of}
use Rattle.chv_part.specs.Parts.{IsPartFile}
use Rattle.chv_part.specs.Standing.{FilesStand, IsPart, TableStands}
use Rattle.chv_query.specs.Arrivals.{Arrival, entry_in}
use Rattle.chv_site.specs.FileIds.{catalog_log, part_of, table_log}
use Rattle.chv_site.specs.Files.{FileState}
use Rattle.chv_site.specs.Images.{Image, IsFileImage, IsImage, IsLeft}
use Rattle.chv_site.specs.declared.file_id.FileId.{FileId}
use Rattle.chv_site.proofs.Images.{settled_image}
use Rattle.chv_history.specs.Crashes.{IsLeftBy}
use Rattle.chv_history.specs.Events.{Event, begins, with_commit}
use Rattle.chv_history.specs.Histories.{History, IsLawful, Settles, Stands, book_of, forms_of, put_at, window_at, with_accepted}
use Rattle.chv_history.proofs.CommitLemmas.{schema-with_commit}
use Rattle.chv_history.proofs.EntryLemmas.{books-accepted, books-arrived, with_new_book}
use Rattle.chv_history.proofs.LawfulLemmas.{forms_of-push}
use Rattle.chv_history.proofs.LeftLemmas.{left_still}

-- files stand for the same books, by whatever function they are given
pub FilesStand-books : (image : Image) (payloads : List (List ℕ)) (forms : List TableForm) (old new : ℕ → Book) → ((n : ℕ) → new n ≡ old n) → FilesStand image payloads forms old → FilesStand image payloads forms new
FilesStand-books image payloads forms old new same stand = record {
  catalog = stand.catalog;
  tables = λ place form at. subst (TableStands image (place + 1) form) (sym (same (place + 1))) (stand.tables place form at);
  others = stand.others;
}

-- files that stand for the books of a history stand for it
pub stands_by : (image : Image) (history : History) (payloads : List (List ℕ)) (forms : List TableForm) (books : ℕ → Book) → IsLawful history
    → payloads ≡ map catalog_payload history.schema → forms ≡ forms_of history.schema → ((n : ℕ) → book_of history n ≡ books n)
    → FilesStand image payloads forms books → Stands image history
stands_by image history payloads forms books lawful payloads_are forms_are same stand = record {
  lawful = lawful;
  files_stand =
      subst (λ (ps : List (List ℕ)). FilesStand image ps (forms_of history.schema) (book_of history)) payloads_are
      (subst (λ (fs : List TableForm). FilesStand image payloads fs (book_of history)) forms_are (FilesStand-books image payloads forms books (book_of history) same stand));
}

-- those of a history behind one block that arrives
pub stands_arrived : (image : Image) (table : ℕ) (arrival : Arrival) (history : History) → IsLawful (with_commit table (arrival ∷ []) history)
    → FilesStand image (map catalog_payload history.schema) (forms_of history.schema)
    (put_at table (arrived (window_at (tables_of history.schema) table) (entry_in arrival) (book_of history table)) (book_of history))
    → Stands image (with_commit table (arrival ∷ []) history)
stands_arrived image table arrival history lawful stand =
    let schema = schema-with_commit table (arrival ∷ []) history in
    stands_by image (with_commit table (arrival ∷ []) history) (map catalog_payload history.schema) (forms_of history.schema)
    (put_at table (arrived (window_at (tables_of history.schema) table) (entry_in arrival) (book_of history table)) (book_of history))
    lawful (ap (map catalog_payload) (sym schema)) (ap forms_of (sym schema)) (books-arrived table arrival history) stand

-- and behind a statement that is accepted
pub stands_accepted : (image : Image) (accepted : Accepted) (history : History) → IsLawful (with_accepted accepted history)
    → FilesStand image (map catalog_payload history.schema ++ catalog_payload accepted ∷ []) (forms_of history.schema ++ map form_of (tables_in accepted.definition))
    (with_new_book accepted.definition (length (tables_of history.schema) + 1) (book_of history))
    → Stands image (with_accepted accepted history)
stands_accepted image accepted history lawful stand =
    stands_by image (with_accepted accepted history) (map catalog_payload history.schema ++ catalog_payload accepted ∷ []) (forms_of history.schema ++ map form_of (tables_in accepted.definition))
    (with_new_book accepted.definition (length (tables_of history.schema) + 1) (book_of history))
    lawful (sym (map_push catalog_payload history.schema accepted)) (sym (forms_of-push history.schema accepted)) (books-accepted accepted history) stand

-- files with the same bytes stand for the same books
TableStands-same : (old new : Image) (table : ℕ) (form : TableForm) (book : Book) → ((f : FileId) → new f ≡ old f) → TableStands old table form book → TableStands new table form book
TableStands-same old new table form book same stands = record {
  lawful = stands.lawful;
  live = stands.live;
  live_is = stands.live_is;
  commits = stands.commits;
  right = stands.right;
  log = subst (HasFrames (map commit_spelling stands.commits)) (sym (same stands.live)) stands.log;
  state = stands.state;
  replays = stands.replays;
  describes = stands.describes;
  parts = All-weaker (IsPart old table form book) (IsPart new table form book)
      (λ row is. record {
        counted = is.counted;
        file = subst (IsPartFile form (part_rows form book row.lo row.hi)) (sym (same (part_of table row.part))) is.file;
      }) stands.state.layout stands.parts;
}

pub FilesStand-same : (old new : Image) (payloads : List (List ℕ)) (forms : List TableForm) (books : ℕ → Book) → ((f : FileId) → new f ≡ old f) → FilesStand old payloads forms books → FilesStand new payloads forms books
FilesStand-same old new payloads forms books same stand = record {
  catalog = subst (HasFrames payloads) (sym (same catalog_log)) stand.catalog;
  tables = λ place form at. TableStands-same old new (place + 1) form (books (place + 1)) same (stand.tables place form at);
  others = λ table beyond. subst (λ (bytes : List ℕ). length bytes ≤ 1) (sym (same (table_log table))) (stand.others table beyond);
}

-- of files that settle for a history, a crash leaves files that stand for it
pub settles_left : (history : History) (files : FileId → FileState) (image : Image) → Settles files history → IsImage files image → Stands image history
settles_left history files image settles is = record {
  lawful = settles.stands.lawful;
  files_stand = FilesStand-same (λ f. (files f).bytes) image (map catalog_payload history.schema) (forms_of history.schema) (book_of history)
      (λ f. settled_image (files f).bytes (image f) (subst (λ (s : FileState). IsFileImage s (image f)) (settles.settled_files f) (is f))) settles.stands.files_stand;
}

-- and before a run begins, that is its first moment
pub untouched_left : (history : History) (files : FileId → FileState) (said : List ℕ) (events : List Event) (image : Image) (text : List ℕ) → Settles files history → IsLeft files said image text
    → IsLeftBy events said (begins history) image text
untouched_left history files said events image text settles left =
    left_still events said (begins history) image text (settles_left history files image settles left.0) (left.1 ∙ sym (append-nil said))
