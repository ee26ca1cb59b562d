-- What a crash leaves of a store while a table is made.
use Rattle.std.proofs.Common.{◌≡◌, ◌≢◌, ◌⊎◌, inl, inr, ℕ, zero, suc, ◌+◌, ◌<◌, ◌≤◌, List, [], ◌∷◌, ◌++◌, length, slice_get, Some, Result, Err, OnOk, refl, sym, ap, subst, ◌∙◌, arith, length-append}
use Rattle.std.proofs.Math.Seq.{drop-nil}
use Rattle.std.proofs.lemmas.Bool.{cases_eq}
use Rattle.std.proofs.lemmas.List.Elements.{All-nil}
use Rattle.std.proofs.lemmas.Option.{same_Some, slice_get_within}
use Rattle.chv_catalog.specs.declared.table_def.TableDef.{TableDef}
use Rattle.chv_commit.specs.Commits.{IsCommit}
use Rattle.chv_commit.specs.Replays.{no_state}
use Rattle.chv_gate.specs.Crashes.{AsImages, HasFramesOrMore, IsLeftWith, Leaves}
use Rattle.chv_gate.specs.GateLog.{HasFrames, IsPayload, IsReady, begun, frame_of}
use Rattle.chv_gate.proofs.CrashLemmas.{ready_image}
use Rattle.chv_gate.proofs.GateLogLemmas.{begun_ready}
use Rattle.chv_part.specs.Books.{Book, TableForm, no_book}
use Rattle.chv_part.specs.Forms.{form_of}
use Rattle.chv_part.specs.Standing.{TableStands}
use Rattle.chv_part.proofs.BookLemmas.{IsLawfulBook-no_book}
use Rattle.chv_site.specs.declared.file_id.FileId.{FileId}
use Rattle.chv_site.specs.FileIds.{table_log}
use Rattle.chv_site.specs.Files.{FileState, KeepsOthers, settled}
use Rattle.chv_site.specs.Images.{HasLengths, Image, IsFileImage, IsLeft}
use Rattle.chv_site.specs.During.{During}
use Rattle.chv_site.specs.Outside.{Outside}
use Rattle.chv_site.proofs.Moments.{goes_on, started, weakened}
use Rattle.chv_store.specs.Calls.{EitherLeft, StandsFor, Turns}
use Rattle.chv_store.specs.Holding.{HoldsBooks, with_book}
use Rattle.chv_store.specs.Stores.{IsWithin, forms_of}
use Rattle.chv_store.specs.declared.store.Store.{Store}
use Rattle.chv_store.proofs.MadeLemmas.{begun_short}
use Rattle.chv_store.proofs.PlaceLemmas.{with_one-other, with_one-same}
use Rattle.chv_store.proofs.StoreLemmas.{catalog_apart, catalog_left, forms-length, image_stands, short_left, table_stands}

-- after an error there is nothing to hold
pub turns_err : {T E : Type 0} (result : Result T E) (err : E) (holds : Type 0) (was next : Image → Type 0) (old new : Outside) → result ≡ Err err → During old new (EitherLeft was next old.said) → Turns result holds was next old new
turns_err {T = T} {E = E} result err holds was next old new is during = record { done = subst (λ (r : Result T E). OnOk r holds) (sym is) tt; during = during }

-- what stands at a place of a list with an item more
slice_get-push : {X : Type 0} (xs : List X) (x y : X) (place : ℕ) → slice_get (xs ++ x ∷ []) place ≡ Some y → ((place < length xs) × (slice_get xs place ≡ Some y)) ⊎ ((place ≡ length xs) × (x ≡ y))
slice_get-push [] x y zero is = inr (refl, same_Some x y is)
slice_get-push [] x y (suc place) is = absurd (cc is)
slice_get-push (first ∷ xs) x y zero is = inl (omega arith, is)
slice_get-push (first ∷ xs) x y (suc place) is =
    elim (slice_get-push xs x y place is) as (λ _. ((suc place < length (first ∷ xs)) × (slice_get (first ∷ xs) (suc place) ≡ Some y)) ⊎ ((suc place ≡ length (first ∷ xs)) × (x ≡ y))) [
      | inl old ↦ inl (omega (arith, old.0), old.1)
      | inr new ↦ inr (omega (arith, new.0), new.1)
    ]

-- files of different tables are different
pub in_other : (f : FileId) (t : ℕ) → f.table ≢ t → f ≢ table_log t
in_other f t other same = other (ap (λ (g : FileId). g.table) same)

-- a new log that is begun has no frame
new_stands : (form : TableForm) (image : Image) (number : ℕ) (bytes : List ℕ) → length bytes ≤ 1 → IsFileImage (settled (begun bytes)) (image (table_log number)) → TableStands image number form no_book
new_stands form image number bytes short is = record {
  lawful = IsLawfulBook-no_book form;
  live = table_log number;
  live_is = refl;
  commits = [];
  right = All-nil IsCommit;
  log = ready_image 0 [] (settled (begun bytes)) (begun_ready bytes short) (image (table_log number)) is;
  state = no_state;
  replays = refl;
  describes = record { entries = refl; ids = sym (drop-nil _); layout = refl };
  parts = All-nil _;
}

module _ (store : Store) (old : Outside) (payloads : List (List ℕ)) (books : ℕ → Book) (text : List ℕ) (def : TableDef) (number : ℕ) (within : IsWithin store) (held : HoldsBooks store old.files payloads books)
    (is : number ≡ length store.schema.catalog.tables + 1) where
  abbrev log : FileId
  log = table_log number

  abbrev new_books : ℕ → Book
  new_books = with_book (length store.schema.catalog.tables + 1) no_book books

  -- what the files stand for, without the table and with it
  abbrev pub Was : Image → Type 0
  Was = StandsFor payloads (forms_of store) books

  abbrev pub Next : Image → Type 0
  Next = StandsFor (payloads ++ text ∷ []) (forms_of store ++ form_of def ∷ []) new_books

  -- the new number is behind those of the tables
  number_is : number ≡ length (forms_of store) + 1
  number_is = omega (arith, is, forms-length store)

  new_book : new_books number ≡ no_book
  new_book = subst (λ (n : ℕ). new_books n ≡ no_book) (sym is) (with_one-same (length store.schema.catalog.tables + 1) no_book books)

  old_book : (n : ℕ) → n ≢ number → new_books n ≡ books n
  old_book n other = with_one-other (length store.schema.catalog.tables + 1) n no_book books (λ same. other (same ∙ sym is))

  -- the new log is short before
  pub log_most : (old.files log).most ≤ 1
  log_most = held.others number (omega (arith, is))

  short_before : (image : Image) (t : ℕ) → length (forms_of store) < t → IsFileImage (old.files (table_log t)) (image (table_log t)) → length (image (table_log t)) ≤ 1
  short_before image t beyond left = short_left store old.files payloads books within held image t beyond left

  -- a fact of the logs behind those of the tables, from the new one's and those of the others
  each_log : (P : ℕ → Type 0) → P number → ((t : ℕ) → number < t → P t) → (t : ℕ) → length (forms_of store) < t → P t
  each_log P first later t beyond = elim (cases_eq t number) as (λ _. P t) [ inl one ↦ subst P (sym one) first | inr other ↦ later t (omega (arith, beyond, number_is, other)) ]

  -- the files stand for what they stood for in an image whose catalog and logs are so
  still : (image : Image) → HasFrames payloads (image store.catalog.file) → ((f : FileId) → 1 ≤ f.table → f.table < number → IsFileImage (old.files f) (image f))
      → ((t : ℕ) → length (forms_of store) < t → length (image (table_log t)) ≤ 1) → Was image
  still image frames tables shorts = record {
    catalog = subst (λ (f : FileId). HasFrames payloads (image f)) within.catalog frames;
    tables = λ place form at. table_stands store old.files payloads books within held image place form at
        (λ f same. tables f (omega (arith, same)) (omega (arith, same, number_is, slice_get_within (forms_of store) place form at)));
    others = shorts;
  }

  -- no call was made yet
  none_made : (image : Image) (text_now : List ℕ) → IsLeft old.files old.said image text_now → EitherLeft Was Next old.said image text_now
  none_made image text_now left = record { stands = inl (image_stands store old.files payloads books within held image left.0); text_left = left.1 }

  -- the table's log is begun
  log_begun : (image : Image) (text_now : List ℕ) → IsLeftWith log (λ bytes. length bytes ≤ 1) old.files old.said image text_now → EitherLeft Was Next old.said image text_now
  log_begun image text_now left = record {
    stands = inl (still image
        (catalog_left store old.files payloads books within held image (left.0 store.catalog.file (λ same. catalog_apart store log within (omega (arith, is)) (sym same))))
        (λ f some below. left.0 f (in_other f number (λ same. omega (arith, same, below))))
        (each_log (λ t. length (image (table_log t)) ≤ 1) left.1
        (λ t far. short_before image t (omega (arith, far, number_is)) (left.0 (table_log t) (in_other (table_log t) number (λ same. omega (arith, same, far)))))));
    text_left = left.2;
  }

  -- the catalog's log is ready as before once the table's is begun
  pub catalog_ready : (between : FileId → FileState) → KeepsOthers log old.files between → IsReady store.catalog.gate payloads (between store.catalog.file)
  catalog_ready between kept =
      subst (IsReady store.catalog.gate payloads) (sym (kept store.catalog.file (λ same. catalog_apart store log within (omega (arith, is)) (sym same)))) held.catalog

  module _ (between : FileId → FileState) (kept : KeepsOthers log old.files between) (begun_log : between log ≡ settled (begun (old.files log).bytes)) (short : length (old.files log).bytes ≤ 1) where
    old_tables : (image : Image) → AsImages store.catalog.file between image → (f : FileId) → 1 ≤ f.table → f.table < number → IsFileImage (old.files f) (image f)
    old_tables image others f some below =
        subst (λ (s : FileState). IsFileImage s (image f)) (kept f (in_other f number (λ same. omega (arith, same, below)))) (others f (catalog_apart store f within some))

    later_short : (image : Image) → AsImages store.catalog.file between image → (t : ℕ) → number < t → length (image (table_log t)) ≤ 1
    later_short image others t far = short_before image t (omega (arith, far, number_is))
        (subst (λ (s : FileState). IsFileImage s (image (table_log t))) (kept (table_log t) (in_other (table_log t) number (λ same. omega (arith, same, far))))
        (others (table_log t) (catalog_apart store (table_log t) within (omega (arith, far)))))

    log_left : (image : Image) → AsImages store.catalog.file between image → IsFileImage (settled (begun (old.files log).bytes)) (image log)
    log_left image others = subst (λ (s : FileState). IsFileImage s (image log)) begun_log (others log (catalog_apart store log within (omega (arith, is))))

    log_short : (image : Image) → AsImages store.catalog.file between image → length (image log) ≤ 1
    log_short image others = let long = (log_left image others).no_longer in omega (arith, long, begun_short (old.files log).bytes short)

    -- what stands for each table, the new one's being last
    made_table : (image : Image) → AsImages store.catalog.file between image → (place : ℕ) (form : TableForm) → slice_get (forms_of store ++ form_of def ∷ []) place ≡ Some form
        → TableStands image (place + 1) form (new_books (place + 1))
    made_table image others place form stands = elim (slice_get-push (forms_of store) (form_of def) form place stands) as (λ _. TableStands image (place + 1) form (new_books (place + 1))) [
      | inl there ↦ subst (TableStands image (place + 1) form) (sym (old_book (place + 1) (λ same. omega (arith, same, there.0, number_is))))
          (table_stands store old.files payloads books within held image place form there.1 (λ f same. old_tables image others f (omega (arith, same)) (omega (arith, same, there.0, number_is))))
      | inr last ↦
          let one : number ≡ place + 1 = omega (arith, last.0, number_is) in
          subst (λ (n : ℕ). TableStands image n form (new_books n)) one
          (subst (TableStands image number form) (sym new_book)
          (subst (λ (f : TableForm). TableStands image number f no_book) last.1 (new_stands (form_of def) image number (old.files log).bytes short (log_left image others))))
    ]

    -- the table stands where its text is in the catalog
    made : (image : Image) → HasFrames (payloads ++ text ∷ []) (image store.catalog.file) → AsImages store.catalog.file between image → Next image
    made image frames others = record {
      catalog = subst (λ (f : FileId). HasFrames (payloads ++ text ∷ []) (image f)) within.catalog frames;
      tables = made_table image others;
      others = λ t beyond. later_short image others t (omega (arith, beyond, number_is, length-append (forms_of store) (form_of def ∷ [])));
    }

    -- the text may be in the catalog or not
    text_appended : (image : Image) (text_now : List ℕ) → IsLeftWith store.catalog.file (HasFramesOrMore payloads text) between old.said image text_now → EitherLeft Was Next old.said image text_now
    text_appended image text_now left = record {
      stands = elim left.1 as (λ _. Was image ⊎ Next image) [
        | inl frames ↦ inl (still image frames (old_tables image left.0) (each_log (λ t. length (image (table_log t)) ≤ 1) (log_short image left.0) (later_short image left.0)))
        | inr frames ↦ inr (made image frames left.0)
      ];
      text_left = left.2;
    }

  -- while the table is made: before any call on the disk, while its log is begun, and while its text is appended
  pub none_during : ((image : Image) (text_now : List ℕ) → old.left_since old.moment image text_now → IsLeft old.files old.said image text_now) → During old old (EitherLeft Was Next old.said)
  none_during only = started old (EitherLeft Was Next old.said) (λ image text_now left. none_made image text_now (only image text_now left))

  pub log_during : (mid : Outside) → ((old.files log).most ≤ 1 → Leaves log (λ bytes. length bytes ≤ 1) old mid) → During old mid (EitherLeft Was Next old.said)
  log_during mid during = weakened old mid _ (EitherLeft Was Next old.said) (during log_most) log_begun

  pub made_during : (mid new : Outside) (frame : List ℕ) → KeepsOthers log old.files mid.files → mid.files log ≡ settled (begun (old.files log).bytes) → HasLengths (old.files log) → mid.said ≡ old.said
      → IsPayload text → frame ≡ frame_of text → ((old.files log).most ≤ 1 → Leaves log (λ bytes. length bytes ≤ 1) old mid)
      → ((ps : List (List ℕ)) (payload : List ℕ) → IsReady store.catalog.gate ps (mid.files store.catalog.file) → IsPayload payload → frame ≡ frame_of payload → Leaves store.catalog.file (HasFramesOrMore ps payload) mid new)
      → During old new (EitherLeft Was Next old.said)
  made_during mid new frame kept begun_log lengths same sized spelled first second =
      goes_on old mid new (EitherLeft Was Next old.said) (IsLeftWith store.catalog.file (HasFramesOrMore payloads text) mid.files mid.said) (log_during mid first)
      (second payloads text (catalog_ready mid.files kept) sized spelled)
      (λ image text_now left. text_appended mid.files kept begun_log (omega (arith, log_most, lengths.no_longer)) image text_now (left.0, left.1, left.2 ∙ same))
