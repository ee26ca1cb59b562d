-- How commits that are read one after the other become a table.
use Rattle.std.proofs.Common.{◌≡◌, ◌≢◌, ℕ, ◌+◌, ◌<◌, ◌≤◌, List, [], ◌∷◌, ◌++◌, length, get_or, map, Some, refl, sym, ap, subst, ◌∙◌, arith}
use Rattle.std.specs.List.{All}
use Rattle.std.proofs.lemmas.List.{map_push}
use Rattle.std.proofs.lemmas.List.Elements.{All-nil, All-push}
use Rattle.chv_site.specs.declared.file_id.FileId.{FileId}
use Rattle.chv_site.specs.Effects.{ChangesOnly}
use Rattle.chv_site.specs.FileIds.{table_log, part_of}
use Rattle.chv_site.specs.Files.{FileState, settled, KeepsOthers}
use Rattle.chv_site.specs.Images.{Image, IsFileImage, IsLeft}
use Rattle.chv_site.specs.During.{During}
use Rattle.chv_site.specs.Outside.{Outside}
use Rattle.chv_site.proofs.Moments.{weakened}
use Rattle.chv_site.proofs.Images.{settled_image}
use Rattle.chv_catalog.specs.Schemas.{kinds_of}
use Rattle.chv_catalog.specs.declared.table_def.TableDef.{TableDef}
use Rattle.chv_commit.specs.Commits.{commit_spelling, IsCommit}
use Rattle.chv_commit.specs.Replays.{State, no_state, taken, replayed, IsSound, AreCommits}
use Rattle.chv_commit.specs.declared.commit.Commit.{Commit}
use Rattle.chv_commit.specs.declared.commit.Commit.TheVariants.{Add, Merge}
use Rattle.chv_commit.specs.declared.part_row.PartRow.{PartRow}
use Rattle.chv_commit.proofs.ReplayLemmas.{replayed-more}
use Rattle.chv_commit.proofs.ShortLemmas.{frames_size, replayed-short}
use Rattle.chv_commit.proofs.SoundLemmas.{IsSound-no_state, IsSound-replayed}
use Rattle.chv_commit.proofs.TakenLemmas.{taken-Some_add, taken-Some_merge, AreCommits-unique}
use Rattle.chv_gate.specs.Crashes.{IsLeftWith, Leaves, LeavesFrames}
use Rattle.chv_gate.specs.GateLog.{HasFrames, begun, IsReady}
use Rattle.chv_gate.specs.declared.log.Log.{Log}
use Rattle.chv_gate.specs.Reading.{IsOpen, IsReadUpTo}
use Rattle.chv_gate.proofs.DamageLaws.{frames_of_begun, damage_of_begun}
use Rattle.chv_gate.proofs.GateLogLemmas.{unique}
use Rattle.chv_gate.proofs.ReadingLaws.{reads_none, reads_more, reads_end, reads_ready}
use Rattle.chv_part.specs.Books.{AreColumns, TableForm, Book}
use Rattle.chv_part.specs.Forms.{form_of}
use Rattle.chv_part.specs.declared.damage.Damage.{Damage}
use Rattle.chv_table.specs.Damage.{IsLogDamage}
use Rattle.chv_table.specs.Opening.{OpeningLeft, ReadsCommit, TakesCommit, LacksCommit}
use Rattle.chv_table.specs.Tables.{held_state, IsTableOf, IsWithin, IsPlaced, IsSettledPart, HoldsCommits, HoldsBook, SettlesBook}
use Rattle.chv_table.specs.declared.table.Table.{Table}
use Rattle.chv_table.proofs.LogDamageLemmas.{lacks_damage}
use Rattle.chv_table.proofs.TableLemmas.{HoldsCommits-by, HoldsCommits-placed, HoldsBook-by, IsPart-by, IsSettledPart-by, parts_left}

-- on any site: these commits were taken, and their frames end where the next gate is
pub record HasTaken (gate window : ℕ) (state : State) : Type 0 where
  pub commits : List Commit
  pub replays : replayed window no_state commits ≡ Some state
  pub place : gate ≡ frames_size commits

pub took_none : (window : ℕ) → HasTaken 0 window no_state
took_none window = record { commits = []; replays = refl; place = refl }

frames_size-push : (commits : List Commit) (commit : Commit) → frames_size (commits ++ commit ∷ []) ≡ frames_size commits + length (commit_spelling commit) + 5
frames_size-push [] commit = omega arith
frames_size-push (c ∷ commits) commit = omega (arith, frames_size-push commits commit)

pub took_next : (gate window : ℕ) (old : State) (next : ℕ) (new : State) → HasTaken gate window old → TakesCommit gate window old next new → HasTaken next window new
took_next gate window old next new so_far took = record {
  commits = so_far.commits ++ took.commit ∷ [];
  replays = replayed-more window no_state old new so_far.commits took.commit so_far.replays took.fits;
  place = omega (arith, took.place, so_far.place, frames_size-push so_far.commits took.commit);
}

-- what was taken is sound
pub took_sound : (gate window : ℕ) (state : State) → HasTaken gate window state → IsSound state
took_sound gate window state so_far = IsSound-replayed window no_state state so_far.commits IsSound-no_state so_far.replays

module _ (window : ℕ) (old new : State) where
  -- each commit takes the number of the next part
  taken-next : (commit : Commit) → taken window old commit ≡ Some new → new.next_part ≡ old.next_part + 1
  taken-next (Add part rows ids) fits = ap (λ (s : State). s.next_part) (taken-Some_add window part rows ids old new fits).new_is
  taken-next (Merge lo hi part level rows) fits = ap (λ (s : State). s.next_part) (taken-Some_merge window lo hi part level rows old new fits).new_is

pub took_part : (gate window : ℕ) (old : State) (next : ℕ) (new : State) → TakesCommit gate window old next new → new.next_part ≡ old.next_part + 1
took_part gate window old next new took = taken-next window old new took.commit took.fits

-- a table that was opened is within what is held of it
pub opened_within : (number gate : ℕ) (def : TableDef) (state : State) (table : Table) → IsTableOf number def table → table.log ≡ record { file = table_log number; gate = gate } → held_state table ≡ state
    → AreColumns (kinds_of def) → HasTaken gate def.window state → IsWithin table
opened_within number gate def state table is log_is state_is columns so_far =
    let sound = took_sound gate def.window state so_far in
    let short = replayed-short def.window no_state state so_far.commits so_far.replays in
    let layout = ap (λ (s : State). length s.layout) state_is in
    let entries = ap (λ (s : State). s.entries) state_is in
    let place = ap (λ (l : Log). l.gate) log_is in
    record {
      log = ap (λ (l : Log). l.file) log_is ∙ ap table_log (sym is.number_is);
      columns = subst AreColumns (sym (ap (λ (f : TableForm). f.kinds) is.form_is)) columns;
      sound = subst IsSound (sym state_is) sound;
      gate = omega (arith, layout, entries, place, so_far.place, short, sound.counted, sound.next);
    }

-- these commits are read, and their gates are open
pub record HasRead (gate window : ℕ) (state : State) (file : List ℕ) : Type 0 where
  pub commits : List Commit
  pub right : All IsCommit commits
  pub read : IsReadUpTo gate (map commit_spelling commits) file
  pub replays : replayed window no_state commits ≡ Some state

-- no commit was read yet
pub read_none : (window : ℕ) (file : List ℕ) → HasRead 0 window no_state file
read_none window file = record { commits = []; right = All-nil IsCommit; read = reads_none file; replays = refl }

-- one commit more was read
pub read_next : (gate window : ℕ) (old new : State) (file : List ℕ) (next : ℕ) → HasRead gate window old file → ReadsCommit gate window old file (Some next) new → HasRead next window new file
read_next gate window old new file next so_far read =
    let commit = read.1.0 in record {
      commits = so_far.commits ++ commit ∷ [];
      right = All-push IsCommit so_far.commits commit so_far.right read.1.1;
      read = subst (λ (ps : List (List ℕ)). IsReadUpTo next ps file) (sym (map_push commit_spelling so_far.commits commit))
          (reads_more gate (map commit_spelling so_far.commits) file (commit_spelling commit) next so_far.read read.0 read.1.2);
      replays = replayed-more window no_state old new so_far.commits commit so_far.replays read.1.3;
    }

-- the commits that were read are those of a log
abbrev pub AreCommits-read : (gate window : ℕ) (state : State) (file : List ℕ) (so_far : HasRead gate window state file) → AreCommits window (map commit_spelling so_far.commits)
AreCommits-read gate window state file so_far = record { commits = so_far.commits; right = so_far.right; are = refl; state = state; replays = so_far.replays }

-- no commit that fits follows: the log is damaged, and was before it was begun
pub read_damage : (number gate window : ℕ) (state : State) (bytes : List ℕ) (damage : Damage) → HasRead gate window state (begun bytes)
    → (damage ≡ Damage.Log number (gate + 1)) × LacksCommit gate window state (begun bytes) → IsLogDamage number window bytes damage
read_damage number gate window state bytes damage so_far told =
    subst (IsLogDamage number window bytes) (sym told.0) (
      refl,
      damage_of_begun (AreCommits window) (gate + 1) bytes
          (lacks_damage window gate state (begun bytes) so_far.commits so_far.right so_far.replays so_far.read told.1),
    )

-- a part's file is no log
part_apart : (number part : ℕ) → 8 ≤ part → part_of number part ≢ table_log number
part_apart number part low same = let e : part ≡ 0 = ap (λ (f : FileId). f.part) same in omega (arith, e, low)

-- where nothing is pending of a table's files, nothing is of its parts
settled_parts : (number : ℕ) (files : FileId → FileState) (layout : List PartRow) → ((f : FileId) → f.table ≡ number → files f ≡ settled (files f).bytes) → All (IsSettledPart files number) layout
settled_parts number files layout whole = λ k d below. whole (part_of number (get_or layout k d).part) refl

-- a table whose log is begun, and then read up to a gate where it ends
pub record HasOpened (number gate : ℕ) (def : TableDef) (state : State) (old new : FileId → FileState) (table : Table) : Type 0 where
  pub is : IsTableOf number def table
  pub log : table.log ≡ record { file = table_log number; gate = gate }
  pub state_is : held_state table ≡ state
  pub begun_now : new (table_log number) ≡ settled (begun (old (table_log number)).bytes)
  pub others : KeepsOthers (table_log number) old new
  pub read : HasRead gate def.window state (begun (old (table_log number)).bytes)
  pub ended : IsOpen gate (begun (old (table_log number)).bytes) → ⊥

module _ (number gate : ℕ) (def : TableDef) (state : State) (old new : FileId → FileState) (table : Table) (opened : HasOpened number gate def state old new table) where
  abbrev commits : List Commit
  commits = opened.read.commits

  -- it is ready behind the commits that were read
  opened_ready : IsReady table.log.gate (map commit_spelling commits) (new table.log.file)
  opened_ready =
      subst (λ (l : Log). IsReady l.gate (map commit_spelling commits) (new l.file)) (sym opened.log)
      (subst (λ (s : FileState). IsReady gate (map commit_spelling commits) s) (sym opened.begun_now)
      (reads_ready gate (map commit_spelling commits) (old (table_log number)).bytes opened.read.read opened.ended))

  pub opened_commits : HoldsCommits table new commits
  opened_commits = HoldsCommits-by table new commits (form_of def) state opened.is.form_is opened.state_is opened.read.right opened_ready opened.read.replays

  pub opened_placed : IsPlaced table new
  opened_placed = HoldsCommits-placed table new commits opened_commits

  -- and had these before it was begun
  pub opened_frames : HasFrames (map commit_spelling commits) (old (table_log number)).bytes
  opened_frames =
      frames_of_begun (map commit_spelling commits) (old (table_log number)).bytes
      (reads_end gate (map commit_spelling commits) (begun (old (table_log number)).bytes) opened.read.read opened.ended)

  -- the table stands for the book for which its files stood
  pub opened_book : (book : Book) → SettlesBook number (form_of def) old book → HoldsBook table new book
  opened_book book stood =
      let stands = stood.stands in
      let frames = subst (λ (f : FileId). HasFrames (map commit_spelling stands.commits) (old f).bytes) stands.live_is stands.log in
      let payloads : map commit_spelling stands.commits ≡ map commit_spelling commits =
      unique (map commit_spelling stands.commits) (map commit_spelling commits) (old (table_log number)).bytes frames opened_frames in
      let same = AreCommits-unique def.window (map commit_spelling commits)
      (AreCommits-read gate def.window state (begun (old (table_log number)).bytes) opened.read)
      (record { commits = stands.commits; right = stands.right; are = sym payloads; state = stands.state; replays = stands.replays }) in
      let numbered = (IsSound-replayed def.window no_state stands.state stands.commits IsSound-no_state stands.replays).parts in
      let kept : (part : ℕ) → 8 ≤ part → part < stands.state.next_part → new (part_of number part) ≡ old (part_of number part) = λ part low high. opened.others (part_of number part) (part_apart number part low) in
      HoldsBook-by table new book number (form_of def) stands.state commits opened.is.number_is opened.is.form_is (opened.state_is ∙ same.1) opened_commits stands.lawful stands.describes
      (IsPart-by number stands.state.next_part stands.state.layout numbered (λ f. (old f).bytes) (λ f. (new f).bytes) (form_of def) book
      (λ part low high. ap (λ (s : FileState). s.bytes) (kept part low high)) stands.parts)
      (IsSettledPart-by number stands.state.next_part stands.state.layout numbered old new kept (settled_parts number old stands.state.layout stood.settled_files))

-- a crash that leaves the frames of the log leaves the book for which the files stood
pub book_opening : (number : ℕ) (form : TableForm) (book : Book) (files : FileId → FileState) (said : List ℕ) (image : Image) (text : List ℕ) → (stood : SettlesBook number form files book)
    → IsLeftWith (table_log number) (HasFrames (map commit_spelling stood.stands.commits)) files said image text → OpeningLeft number form book files said image text
book_opening number form book files said image text stood left =
    let stands = stood.stands in
    let numbered = (IsSound-replayed form.window no_state stands.state stands.commits IsSound-no_state stands.replays).parts in
    record {
      others = left.0;
      stands = record {
        lawful = stands.lawful;
        live = table_log number;
        live_is = refl;
        commits = stands.commits;
        right = stands.right;
        log = left.1;
        state = stands.state;
        replays = stands.replays;
        describes = stands.describes;
        parts = parts_left number stands.state.next_part stands.state.layout numbered files image form book
            (λ part low high. left.0 (part_of number part) (part_apart number part low)) (settled_parts number files stands.state.layout stood.settled_files) stands.parts;
      };
      text_left = left.2;
    }

-- before an opening, a crash leaves the frames of the log
pub settled_frames : (number : ℕ) (form : TableForm) (book : Book) (files : FileId → FileState) → (stood : SettlesBook number form files book)
    → LeavesFrames (map commit_spelling stood.stands.commits) (files (table_log number))
settled_frames number form book files stood image is =
    let log : FileId = table_log number in
    let left : image ≡ (files log).bytes = settled_image (files log).bytes image (subst (λ (s : FileState). IsFileImage s image) (stood.settled_files log refl) is) in
    let frames = subst (λ (f : FileId). HasFrames (map commit_spelling stood.stands.commits) (files f).bytes) stood.stands.live_is stood.stands.log in
    subst (HasFrames (map commit_spelling stood.stands.commits)) (sym left) frames

-- so does one before the first call
pub unopened_left : (number : ℕ) (form : TableForm) (book : Book) (files : FileId → FileState) (said : List ℕ) (image : Image) (text : List ℕ) → SettlesBook number form files book
    → IsLeft files said image text → OpeningLeft number form book files said image text
unopened_left number form book files said image text stood left =
    book_opening number form book files said image text stood
    (λ g apart. left.0 g, settled_frames number form book files stood (image (table_log number)) (left.0 (table_log number)), left.1)

-- where a crash leaves the frames of the log, whatever they are, it leaves the book for which the files stood
pub opening_left : (number : ℕ) (form : TableForm) (book : Book) (old new : Outside) → SettlesBook number form old.files book
    → ((payloads : List (List ℕ)) → LeavesFrames payloads (old.files (table_log number)) → Leaves (table_log number) (HasFrames payloads) old new)
    → During old new (OpeningLeft number form book old.files old.said)
opening_left number form book old new stood leaves =
    let payloads = map commit_spelling stood.stands.commits in
    weakened old new (IsLeftWith (table_log number) (HasFrames payloads) old.files old.said) (OpeningLeft number form book old.files old.said)
    (leaves payloads (settled_frames number form book old.files stood)) (λ image text left. book_opening number form book old.files old.said image text stood left)

-- a log of two bytes or more is begun
pub begun_long : (bytes : List ℕ) → 2 ≤ length bytes → begun bytes ≡ bytes
begun_long [] long = absurd (omega (arith, long))
begun_long (gate ∷ []) long = absurd (omega (arith, long))
begun_long (gate ∷ next ∷ behind) long = refl

-- a call that did not fail changes one file
pub changes_well : (tells failed : Type 0) (f : FileId) (old new : Outside) → (failed → ⊥) → ChangesOnly tells failed f old new → ChangesOnly tells ⊥ f old new
changes_well tells failed f old new well changes = record {
  others = changes.others;
  said = changes.said;
  counts = record { keeps = changes.counts.keeps; cause = λ none. absurd none; same = λ none. changes.counts.same well; other = changes.counts.other };
}
