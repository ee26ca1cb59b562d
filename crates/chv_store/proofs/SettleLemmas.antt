-- Files that stand for a store before it is opened: also while one of their logs is begun.
use Rattle.std.proofs.Common.{◌≡◌, ◌≢◌, ◌⊎◌, inl, inr, ℕ, ◌+◌, ◌-◌, ◌<◌, ◌≤◌, List, length, map, slice_get, Some, refl, sym, ◌∙◌, ap, ap₂, subst, arith}
use Rattle.std.proofs.lemmas.Bool.{cases_eq}
use Rattle.chv_commit.specs.Commits.{commit_spelling}
use Rattle.chv_commit.specs.Replays.{no_state}
use Rattle.chv_commit.proofs.SoundLemmas.{IsSound-no_state, IsSound-replayed}
use Rattle.chv_gate.specs.Crashes.{IsLeftWith, Leaves, LeavesFrames}
use Rattle.chv_gate.specs.GateLog.{HasFrames, IsReady}
use Rattle.chv_gate.proofs.GateLogLemmas.{has_frames-IsReady, unique}
use Rattle.chv_part.specs.Books.{Book, TableForm}
use Rattle.chv_part.specs.Standing.{FilesStand, TableStands}
use Rattle.chv_site.specs.declared.file_id.FileId.{FileId}
use Rattle.chv_site.specs.FileIds.{catalog_log, part_of, table_log}
use Rattle.chv_site.specs.Files.{FileState, KeepsOthers, settled}
use Rattle.chv_site.specs.Images.{Image, IsFileImage, IsLeft}
use Rattle.chv_site.specs.During.{During}
use Rattle.chv_site.specs.Outside.{Outside}
use Rattle.chv_site.proofs.Images.{settled_image}
use Rattle.chv_site.proofs.Moments.{goes_on, weakened}
use Rattle.chv_table.specs.Tables.{SettlesBook}
use Rattle.chv_table.proofs.TableLemmas.{IsPart-by}
use Rattle.chv_store.specs.Calls.{StandsLeft}
use Rattle.chv_store.specs.Holding.{FilesSettle}

-- two names of files are one or differ
pub file_cases : (f g : FileId) → (g ≡ f) ⊎ (g ≢ f)
file_cases f g = elim (cases_eq g.table f.table) as (λ _. (g ≡ f) ⊎ (g ≢ f)) [
  | inl table ↦ elim (cases_eq g.part f.part) as (λ _. (g ≡ f) ⊎ (g ≢ f)) [
    | inl part ↦ inl (ap₂ (λ (t p : ℕ). part_of t p) table part)
    | inr other ↦ inr (λ same. other (ap (λ (h : FileId). h.part) same))
  ]
  | inr other ↦ inr (λ same. other (ap (λ (h : FileId). h.table) same))
]

-- a file of another table, and a part, is no log of this table
pub other_table : (f : FileId) (table part : ℕ) → table ≢ f.table → part_of table part ≢ f
other_table f table part apart same = apart (ap (λ (g : FileId). g.table) same)

part_apart : (f : FileId) (table part : ℕ) → f.part ≡ 0 → 8 ≤ part → part_of table part ≢ f
part_apart f table part is_log behind same = absurd (omega (arith, is_log, behind, ap (λ (g : FileId). g.part) same))

-- of files of which nothing is pending, a crash leaves the bytes
settled_left : (files : FileId → FileState) (g : FileId) (image : List ℕ) → files g ≡ settled (files g).bytes → IsFileImage (files g) image → image ≡ (files g).bytes
settled_left files g image whole is = settled_image (files g).bytes image (subst (λ (s : FileState). IsFileImage s image) whole is)

settled_leaves : (files : FileId → FileState) (g : FileId) (payloads : List (List ℕ)) → files g ≡ settled (files g).bytes → HasFrames payloads (files g).bytes → LeavesFrames payloads (files g)
settled_leaves files g payloads whole has image is = subst (HasFrames payloads) (sym (settled_left files g image whole is)) has

-- payloads, forms and books, and one log of theirs
module _ (payloads : List (List ℕ)) (forms : List TableForm) (books : ℕ → Book) (f : FileId) (is_log : f.part ≡ 0) (stands_there : f.table ≤ length forms) where
  -- where the log is replaced by one with the same frames, and every other file is the same
  module _ (files image : FileId → List ℕ) (others : (g : FileId) → g ≢ f → image g ≡ files g) (frames : (ps : List (List ℕ)) → HasFrames ps (files f) → HasFrames ps (image f)) where
    -- each log has the frames from before
    frames_kept : (g : FileId) (ps : List (List ℕ)) → HasFrames ps (files g) → HasFrames ps (image g)
    frames_kept g ps has = elim (file_cases f g) as (λ _. HasFrames ps (image g)) [
      | inl same ↦ subst (λ (h : FileId). HasFrames ps (image h)) (sym same) (frames ps (subst (λ (h : FileId). HasFrames ps (files h)) same has))
      | inr apart ↦ subst (HasFrames ps) (sym (others g apart)) has
    ]

    -- a table's files stand for its book
    table_kept : (table : ℕ) (form : TableForm) (book : Book) → TableStands files table form book → TableStands image table form book
    table_kept table form book stands =
        let sound = IsSound-replayed form.window no_state stands.state stands.commits IsSound-no_state stands.replays in
        record {
          lawful = stands.lawful;
          live = stands.live;
          live_is = stands.live_is;
          commits = stands.commits;
          right = stands.right;
          log = frames_kept stands.live (map commit_spelling stands.commits) stands.log;
          state = stands.state;
          replays = stands.replays;
          describes = stands.describes;
          parts = IsPart-by table stands.state.next_part stands.state.layout sound.parts files image form book
              (λ part low high. others (part_of table part) (part_apart f table part is_log low)) stands.parts;
        }

    -- the files stand for the same
    stands_kept : FilesStand files payloads forms books → FilesStand image payloads forms books
    stands_kept stands = record {
      catalog = frames_kept catalog_log payloads stands.catalog;
      tables = λ place form at. table_kept (place + 1) form (books (place + 1)) (stands.tables place form at);
      others = λ table beyond.
          let same = others (table_log table) (other_table f table 0 (λ is. absurd (omega (arith, is, beyond, stands_there)))) in
          subst (λ (bytes : List ℕ). length bytes ≤ 1) (sym same) (stands.others table beyond);
    }

  module _ (files : FileId → FileState) (settles : FilesSettle files payloads forms books) (ps : List (List ℕ)) (has : HasFrames ps (files f).bytes) where
    same_frames : (bytes : List ℕ) → HasFrames ps bytes → (qs : List (List ℕ)) → HasFrames qs (files f).bytes → HasFrames qs bytes
    same_frames bytes now qs was = subst (λ (l : List (List ℕ)). HasFrames l bytes) (unique ps qs (files f).bytes has was) now

    -- while the log is written, it keeps its frames
    left_standing : (said : List ℕ) (image : Image) (text : List ℕ) → IsLeftWith f (HasFrames ps) files said image text → StandsLeft payloads forms books said image text
    left_standing said image text left = record {
      stands = stands_kept (λ g. (files g).bytes) image (λ g apart. settled_left files g (image g) (settles.settled_files g) (left.0 g apart)) (same_frames (image f) left.1) settles.stands;
      text_left = left.2;
    }

    -- once it is ready behind its frames, the files stand for the same
    pub settles_kept : (new : FileId → FileState) (gate : ℕ) → KeepsOthers f files new → IsReady gate ps (new f) → FilesSettle new payloads forms books
    settles_kept new gate others ready = record {
      settled_files = λ g. elim (file_cases f g) as (λ _. new g ≡ settled (new g).bytes) [
        | inl same ↦ subst (λ (h : FileId). new h ≡ settled (new h).bytes) (sym same) ready.whole
        | inr apart ↦ subst (λ (s : FileState). s ≡ settled s.bytes) (sym (others g apart)) (settles.settled_files g)
      ];
      stands = stands_kept (λ g. (files g).bytes) (λ g. (new g).bytes) (λ g apart. ap (λ (s : FileState). s.bytes) (others g apart))
          (same_frames (new f).bytes (has_frames-IsReady gate ps (new f) ready)) settles.stands;
    }

  -- while the log is begun and read, a crash leaves what stands for the same
  pub standing_during : (old new : Outside) → FilesSettle old.files payloads forms books → (ps : List (List ℕ)) → HasFrames ps (old.files f).bytes
      → ((qs : List (List ℕ)) → LeavesFrames qs (old.files f) → Leaves f (HasFrames qs) old new) → During old new (StandsLeft payloads forms books old.said)
  standing_during old new settles ps has during =
      weakened old new (IsLeftWith f (HasFrames ps) old.files old.said) (StandsLeft payloads forms books old.said)
      (during ps (settled_leaves old.files f ps (settles.settled_files f) has)) (left_standing old.files settles ps has old.said)

module _ (payloads : List (List ℕ)) (forms : List TableForm) (books : ℕ → Book) where
  -- one stretch, and then another
  pub then_during : (old mid new : Outside) → mid.said ≡ old.said → During old mid (StandsLeft payloads forms books old.said) → During mid new (StandsLeft payloads forms books mid.said)
      → During old new (StandsLeft payloads forms books old.said)
  then_during old mid new same first later =
      goes_on old mid new (StandsLeft payloads forms books old.said) (StandsLeft payloads forms books mid.said) first later
      (λ image text left. record { stands = left.stands; text_left = left.text_left ∙ same })

  -- whatever a crash leaves of files that are settled stands for what they stand for
  pub settles_left : (files : FileId → FileState) (said : List ℕ) (image : Image) (text : List ℕ) → FilesSettle files payloads forms books → IsLeft files said image text → StandsLeft payloads forms books said image text
  settles_left files said image text settles left = record {
    stands = stands_kept payloads forms books catalog_log refl (omega arith) (λ g. (files g).bytes) image (λ g apart. same g)
        (λ ps has. subst (HasFrames ps) (sym (same catalog_log)) has) settles.stands;
    text_left = left.1;
  }
    where
      same : (g : FileId) → image g ≡ (files g).bytes
      same g = settled_left files g (image g) (settles.settled_files g) (left.0 g)

  -- the log of a table that does not stand has at most one byte, whatever a crash leaves of it
  pub short_log : (files : FileId → FileState) → FilesSettle files payloads forms books → (table : ℕ) → length forms < table → (files (table_log table)).most ≤ 1
  short_log files settles table beyond =
      let whole = ap (λ (s : FileState). s.most) (settles.settled_files (table_log table)) in
      let short = settles.stands.others table beyond in
      omega (arith, whole, short)

  -- the files of one table settle for its book
  pub settles_book : (files : FileId → FileState) → FilesSettle files payloads forms books → (number : ℕ) (form : TableForm) → 1 ≤ number → slice_get forms (number - 1) ≡ Some form → SettlesBook number form files (books number)
  settles_book files settles number form some at =
      let here : number - 1 + 1 ≡ number = omega (arith, some) in
      record {
        settled_files = λ f its. settles.settled_files f;
        stands = subst (λ (n : ℕ). TableStands (λ f. (files f).bytes) n form (books n)) here (settles.stands.tables (number - 1) form at);
      }

  -- and its log has the frames of commits
  pub table_frames : (files : FileId → FileState) → FilesSettle files payloads forms books → (number : ℕ) (form : TableForm) → 1 ≤ number → slice_get forms (number - 1) ≡ Some form
      → (ps : List (List ℕ)) × HasFrames ps (files (table_log number)).bytes
  table_frames files settles number form some at =
      let stands = (settles_book files settles number form some at).stands in
      (map commit_spelling stands.commits, subst (λ (f : FileId). HasFrames (map commit_spelling stands.commits) (files f).bytes) stands.live_is stands.log)
