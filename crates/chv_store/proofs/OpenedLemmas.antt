-- A store that is opened, table by table, and one that is not.
use Rattle.std.proofs.Common.{◌≡◌, ◌≢◌, ℕ, zero, suc, ◌+◌, ◌-◌, ◌<◌, ◌≤◌, ◌⊎◌, inl, inr, List, [], ◌∷◌, ◌++◌, length, map, take, get_or, slice_get, Bool, true, false, nat_lt, if◌then◌else◌, Result, Ok, Err, Some, refl, sym, ◌∙◌, ap, subst, arith}
use Rattle.std.specs.List.{All}
use Rattle.std.specs.Option.{option_map}
use Rattle.std.specs.Result.{is_err, is_ok}
use Rattle.std.proofs.lemmas.Bool.{ltb-true, ltb-false}
use Rattle.std.proofs.lemmas.List.{length-map, length-take-le, take_all}
use Rattle.std.proofs.lemmas.Option.{get_or_from_slice_get, same_Some, slice_get-map, slice_get_within}
use Rattle.chv_catalog.specs.declared.table_def.TableDef.{TableDef}
use Rattle.chv_commit.specs.Commits.{commit_spelling}
use Rattle.chv_commit.specs.Replays.{no_state, replayed}
use Rattle.chv_commit.specs.declared.commit.Commit.{Commit}
use Rattle.chv_commit.specs.declared.part_row.PartRow.{PartRow}
use Rattle.chv_gate.specs.Crashes.{Leaves, LeavesFrames}
use Rattle.chv_gate.specs.GateLog.{HasFrames, IsReady}
use Rattle.chv_part.specs.Books.{Book, TableForm, part_rows}
use Rattle.chv_part.specs.Forms.{form_of}
use Rattle.chv_part.specs.Parts.{IsPartFile}
use Rattle.chv_part.specs.Standing.{IsPart}
use Rattle.chv_part.specs.declared.damage.Damage.{Damage}
use Rattle.chv_site.specs.declared.file_id.FileId.{FileId}
use Rattle.chv_site.specs.FileIds.{catalog_log, part_of, table_log}
use Rattle.chv_site.specs.Files.{FileState, KeepsOthers, settled}
use Rattle.chv_site.specs.During.{During}
use Rattle.chv_site.specs.Outside.{Outside}
use Rattle.chv_table.specs.Damage.{IsLogDamage}
use Rattle.chv_table.specs.Tables.{HoldsBook, HoldsCommits, SettlesBook, held_state}
use Rattle.chv_table.specs.Tables.{IsPlaced as IsTablePlaced}
use Rattle.chv_table.specs.declared.table.Table.{Table}
use Rattle.chv_table.proofs.TableLemmas.{holds_commits_kept}
use Rattle.chv_store.specs.Calls.{StandsLeft}
use Rattle.chv_store.specs.Damage.{HasCommits, IsFirstDamage, IsLogWhole}
use Rattle.chv_store.specs.Holding.{FilesSettle}
use Rattle.chv_store.specs.Openings.{OpensTable}
use Rattle.chv_store.specs.Stores.{EachTable, IsHeldAs}
use Rattle.chv_store.proofs.EachTableLemmas.{each-all, each-more, each-weaker}
use Rattle.chv_store.proofs.SettleLemmas.{settles_book, settles_kept, standing_during, table_frames, then_during}
use Rattle.chv_store.proofs.StoreLemmas.{book_kept, log_number, placed_kept}

-- a fact of each table, where its definition is known by its place
pub each-known : (P Q : ℕ → TableDef → Table → Type 0) (number : ℕ) (defs : List TableDef) (tables : List Table)
    → ((place : ℕ) (def : TableDef) (table : Table) → slice_get defs place ≡ Some def → P (number + place) def table → Q (number + place) def table)
    → EachTable P number defs tables → EachTable Q number defs tables
each-known P Q number [] [] known each = tt
each-known P Q number [] (table ∷ tables) known each = absurd each
each-known P Q number (def ∷ defs) [] known each = absurd each
each-known P Q number (def ∷ defs) (table ∷ tables) known each =
    let first : number + 0 ≡ number = omega arith in (
      subst (λ (n : ℕ). Q n def table) first (known 0 def table refl (subst (λ (n : ℕ). P n def table) (sym first) each.0)),
      each-known P Q (number + 1) defs tables (λ place d t at p.
          let next : number + suc place ≡ number + 1 + place = omega arith in
          subst (λ (n : ℕ). Q n d t) next (known (suc place) d t at (subst (λ (n : ℕ). P n d t) (sym next) p))) each.1,
    )

-- what holds of each definition holds of the one at a place
pub def_has : (P : TableDef → Type 0) (defs : List TableDef) (place : ℕ) (def : TableDef) → All P defs → slice_get defs place ≡ Some def → P def
def_has P defs place def all at = subst P (get_or_from_slice_get defs place def def at) (all place def (slice_get_within defs place def at))

-- a push that is no error put its table behind the others
pub pushed : {T E : Type 0} (r : Result T E) (old more new : List Table) (test : Bool) → test ≡ is_err r → test ≡ false → new ≡ (if is_ok r then more else old) → new ≡ more
pushed (Ok value) old more new test is no_error now = now
pushed (Err error) old more new test is no_error now = absurd (cc (sym is ∙ no_error))

-- the definition at a place is one more of the first
take-more : (defs : List TableDef) (place : ℕ) (def : TableDef) → slice_get defs place ≡ Some def → take (suc place) defs ≡ take place defs ++ def ∷ []
take-more [] place def at = cc
take-more (first ∷ defs) zero def at = let same : first ≡ def = cc in ap (λ (d : TableDef). d ∷ []) same
take-more (first ∷ defs) (suc place) def at = ap (λ (ds : List TableDef). first ∷ ds) (take-more defs place def at)

-- the form at a place is that of the definition there
pub form_there : (defs : List TableDef) (place : ℕ) (def : TableDef) → slice_get defs place ≡ Some def → slice_get (map form_of defs) place ≡ Some (form_of def)
form_there defs place def at = slice_get-map form_of defs place ∙ ap (option_map form_of) at

-- a book for which a table's files stand, where they are as they were
settles_same : (number : ℕ) (old new : FileId → FileState) (form : TableForm) (book : Book) → ((f : FileId) → f.table ≡ number → new f ≡ old f) → SettlesBook number form old book → SettlesBook number form new book
settles_same number old new form book same settles =
    let stands = settles.stands in
    record {
      settled_files = λ f here. subst (λ (s : FileState). s ≡ settled s.bytes) (sym (same f here)) (settles.settled_files f here);
      stands = record {
        lawful = stands.lawful;
        live = stands.live;
        live_is = stands.live_is;
        commits = stands.commits;
        right = stands.right;
        log = subst (λ (s : FileState). HasFrames (map commit_spelling stands.commits) s.bytes) (sym (same stands.live (ap (λ (f : FileId). f.table) stands.live_is))) stands.log;
        state = stands.state;
        replays = stands.replays;
        describes = stands.describes;
        parts = λ k d below. part_same (get_or stands.state.layout k d) (stands.parts k d below);
      };
    }
  where
    part_same : (row : PartRow) → IsPart (λ f. (old f).bytes) number form book row → IsPart (λ f. (new f).bytes) number form book row
    part_same row part = record {
      counted = part.counted;
      file = subst (λ (s : FileState). IsPartFile form (part_rows form book row.lo row.hi) s.bytes) (sym (same (part_of number row.part) refl)) part.file;
    }

-- a table that was opened: what is held of it, and that it holds the book for which its files stood
pub record IsOpened (old new : FileId → FileState) (number : ℕ) (def : TableDef) (table : Table) : Type 0 where
  pub held : IsHeldAs number def table
  pub placed : IsTablePlaced table new
  pub opens : OpensTable (λ f. (old f).bytes) new number def table
  pub holds : (book : Book) → SettlesBook number (form_of def) old book → HoldsBook table new book

-- it stays so while the log of another table is begun
opened_kept : (old mid new : FileId → FileState) (other number : ℕ) (def : TableDef) (table : Table) → number ≢ other → KeepsOthers (table_log other) mid new → IsOpened old mid number def table → IsOpened old new number def table
opened_kept old mid new other number def table apart kept opened =
    let same : (f : FileId) → f.table ≡ number → new f ≡ mid f = λ f is. kept f (λ log. apart (sym is ∙ ap (λ (g : FileId). g.table) log)) in
    record {
      held = opened.held;
      placed = placed_kept mid new number def table same opened.held opened.placed;
      opens = record {
        commits = opened.opens.commits;
        holds = holds_commits_kept table mid new opened.opens.commits (same table.log.file (log_number number def table opened.held)) opened.opens.holds;
        frames = opened.opens.frames;
      };
      holds = λ book settles. book_kept mid new number def table book same opened.held (opened.holds book settles);
    }

-- the files of other tables than those below a number, and the parts of all, are as they were
abbrev pub KeepsLater : ℕ → (FileId → FileState) → (FileId → FileState) → Type 0
KeepsLater number old new = (f : FileId) → ((n : ℕ) → 1 ≤ n → n < number → f ≢ table_log n) → new f ≡ old f

-- those of a table from the number on are
later_same : (number table : ℕ) (f : FileId) → number ≤ table → f.table ≡ table → (n : ℕ) → 1 ≤ n → n < number → f ≢ table_log n
later_same number table f later here n some below is = absurd (omega (arith, later, here, below, ap (λ (g : FileId). g.table) is))

-- the tables below a number are opened
pub record AreOpened (old new : FileId → FileState) (defs : List TableDef) (number : ℕ) (tables : List Table) : Type 0 where
  pub each : EachTable (IsOpened old new) 1 (take (number - 1) defs) tables
  pub kept : KeepsLater number old new
  pub whole : (p : ℕ) (before : TableDef) → p + 1 < number → slice_get defs p ≡ Some before → IsLogWhole (λ f. (old f).bytes) (p + 1) before.window

pub opened_none : (files : FileId → FileState) (defs : List TableDef) → AreOpened files files defs 1 []
opened_none files defs = record { each = tt; kept = λ f apart. refl; whole = λ p before below. absurd (omega (arith, below)) }

-- the catalog's log is as it was
pub catalog_kept : (old new : FileId → FileState) (defs : List TableDef) (number : ℕ) (tables : List Table) → AreOpened old new defs number tables → new catalog_log ≡ old catalog_log
catalog_kept old new defs number tables opened = opened.kept catalog_log (λ n some below is. absurd (omega (arith, some, ap (λ (f : FileId). f.table) is)))

-- once all tables are opened, the logs of others are as they were
pub others_kept : (old new : FileId → FileState) (defs : List TableDef) (number : ℕ) → number ≡ length defs + 1 → (tables : List Table) → AreOpened old new defs number tables → (table : ℕ) → length defs < table
    → new (table_log table) ≡ old (table_log table)
others_kept old new defs number last tables opened table beyond = opened.kept (table_log table) (later_same number table (table_log table) (omega (arith, last, beyond)) refl)

-- one table more
module _ (old mid new : FileId → FileState) (defs : List TableDef) (number : ℕ) (some : 1 ≤ number) (def : TableDef) (at : slice_get defs (number - 1) ≡ Some def)
    (tables : List Table) (so_far : AreOpened old mid defs number tables) (table : Table) (held : IsHeldAs number def table) (placed : IsTablePlaced table new) (others : KeepsOthers (table_log number) mid new)
    (commits : List Commit) (has : HoldsCommits table new commits) (log : HasFrames (map commit_spelling commits) (mid (table_log number)).bytes)
    (holds : (book : Book) → SettlesBook number (form_of def) mid book → HoldsBook table new book) where
  same : (f : FileId) → f.table ≡ number → mid f ≡ old f
  same f here = so_far.kept f (later_same number number f (omega arith) here)

  its_frames : HasFrames (map commit_spelling commits) (old (table_log number)).bytes
  its_frames = subst (λ (s : FileState). HasFrames (map commit_spelling commits) s.bytes) (same (table_log number) refl) log

  its_commits : HasCommits (λ f. (old f).bytes) number def.window (held_state table)
  its_commits = record {
    payloads = map commit_spelling commits;
    right = record {
      commits = commits;
      right = has.right;
      are = refl;
      state = held_state table;
      replays = subst (λ (window : ℕ). replayed window no_state commits ≡ Some (held_state table)) (ap (λ (form : TableForm). form.window) held.1.form_is) has.replays;
    };
    log = its_frames;
    state_is = refl;
  }

  it : IsOpened old new number def table
  it = record {
    held = held;
    placed = placed;
    opens = record { commits = commits; holds = has; frames = its_frames };
    holds = λ book settles. holds book (settles_same number old mid (form_of def) book same settles);
  }

  pub opened_more : AreOpened old new defs (number + 1) (tables ++ table ∷ [])
  opened_more =
      let first = take (number - 1) defs in
      let inside = slice_get_within defs (number - 1) def at in
      let many : length first ≡ number - 1 = length-take-le (number - 1) defs (omega (arith, inside)) in
      let place : 1 + length first ≡ number = omega (arith, many, some) in
      let next : number + 1 - 1 ≡ suc (number - 1) = omega (arith, some) in
      let front : take (number + 1 - 1) defs ≡ first ++ def ∷ [] = ap (λ (n : ℕ). take n defs) next ∙ take-more defs (number - 1) def at in
      record {
        each = subst (λ (ds : List TableDef). EachTable (IsOpened old new) 1 ds (tables ++ table ∷ [])) (sym front)
            (each-more (IsOpened old new) 1 first tables def table
            (each-weaker (IsOpened old mid) (IsOpened old new) 1 first tables (λ n d t low high. opened_kept old mid new number n d t (λ is. absurd (omega (arith, is, high, place))) others) so_far.each)
            (subst (λ (n : ℕ). IsOpened old new n def table) (sym place) it));
        kept = λ f apart. others f (apart number some (omega arith)) ∙ so_far.kept f (λ n low below. apart n low (omega (arith, below)));
        whole = λ p before below there. elim (below_or p below) as (λ _. IsLogWhole (λ f. (old f).bytes) (p + 1) before.window) [
          | inl less ↦ so_far.whole p before less there
          | inr last ↦
              let here : slice_get defs (number - 1) ≡ Some before = ap (λ (n : ℕ). slice_get defs n) (omega (arith, last)) ∙ there in
              let one : def ≡ before = same_Some def before (sym at ∙ here) in
              subst (λ (n : ℕ). IsLogWhole (λ f. (old f).bytes) n before.window) (sym last)
              (subst (λ (d : TableDef). IsLogWhole (λ f. (old f).bytes) number d.window) one (held_state table, its_commits))
        ];
      }
    where
      below_or : (p : ℕ) → p + 1 < number + 1 → (p + 1 < number) ⊎ (p + 1 ≡ number)
      below_or p below = elim (nat_lt (p + 1) number) as (λ b. nat_lt (p + 1) number ≡ b → (p + 1 < number) ⊎ (p + 1 ≡ number)) [
        | true ↦ λ h. inl (ltb-true (p + 1) number h)
        | false ↦ λ h. inr (omega (arith, below, ltb-false (p + 1) number h))
      ] refl

-- what is held of one table more
pub held_more : (defs : List TableDef) (number : ℕ) (some : 1 ≤ number) (def : TableDef) → slice_get defs (number - 1) ≡ Some def → (tables : List Table) (table : Table)
    → EachTable IsHeldAs 1 (take (number - 1) defs) tables → IsHeldAs number def table → EachTable IsHeldAs 1 (take (number + 1 - 1) defs) (tables ++ table ∷ [])
held_more defs number some def at tables table each held =
    let first = take (number - 1) defs in
    let inside = slice_get_within defs (number - 1) def at in
    let many : length first ≡ number - 1 = length-take-le (number - 1) defs (omega (arith, inside)) in
    let place : 1 + length first ≡ number = omega (arith, many, some) in
    let next : number + 1 - 1 ≡ suc (number - 1) = omega (arith, some) in
    subst (λ (ds : List TableDef). EachTable IsHeldAs 1 ds (tables ++ table ∷ [])) (sym (ap (λ (n : ℕ). take n defs) next ∙ take-more defs (number - 1) def at))
    (each-more IsHeldAs 1 first tables def table each (subst (λ (n : ℕ). IsHeldAs n def table) (sym place) held))

-- all of them are opened
module _ (old new : FileId → FileState) (defs : List TableDef) (number : ℕ) (last : number ≡ length defs + 1) (tables : List Table) (opened : AreOpened old new defs number tables) where
  all_opened : EachTable (IsOpened old new) 1 defs tables
  all_opened = subst (λ (ds : List TableDef). EachTable (IsOpened old new) 1 ds tables) (take_all (number - 1) defs (omega (arith, last))) opened.each

  pub all_placed : All (λ (table : Table). IsTablePlaced table new) tables
  all_placed = each-all (IsOpened old new) (λ (table : Table). IsTablePlaced table new) 1 defs tables (λ n def table is. is.placed) all_opened

  pub all_open : EachTable (OpensTable (λ f. (old f).bytes) new) 1 defs tables
  all_open = each-weaker (IsOpened old new) (OpensTable (λ f. (old f).bytes) new) 1 defs tables (λ n def table low high is. is.opens) all_opened

  -- they hold the books for which the files stood
  pub all_hold : (payloads : List (List ℕ)) (books : ℕ → Book) → FilesSettle old payloads (map form_of defs) books → EachTable (λ n def table. HoldsBook table new (books n)) 1 defs tables
  all_hold payloads books settles =
      each-known (IsOpened old new) (λ n def table. HoldsBook table new (books n)) 1 defs tables
      (λ place def table at is.
      let here : slice_get defs (1 + place - 1) ≡ Some def = ap (slice_get defs) (omega arith) ∙ at in
      is.holds (books (1 + place)) (settles_book payloads (map form_of defs) books old settles (1 + place) (form_of def) (omega arith) (form_there defs (1 + place - 1) def here)))
      all_opened

-- of the tables that are left, the first is damaged
pub first_damaged : (old mid : FileId → FileState) (defs : List TableDef) (number : ℕ) (some : 1 ≤ number) (def : TableDef) → slice_get defs (number - 1) ≡ Some def → (tables : List Table) → AreOpened old mid defs number tables
    → (damage : Damage) → IsLogDamage number def.window (mid (table_log number)).bytes damage → IsFirstDamage defs (λ f. (old f).bytes) damage
first_damaged old mid defs number some def at tables so_far damage is =
    let here : number ≡ number - 1 + 1 = omega (arith, some) in
    record {
      place = number - 1;
      def = def;
      stands = at;
      earlier = λ p before below. so_far.whole p before (omega (arith, below, some));
      is = subst (λ (n : ℕ). IsLogDamage n def.window (old (table_log n)).bytes damage) here
          (subst (λ (s : FileState). IsLogDamage number def.window s.bytes damage) (so_far.kept (table_log number) (later_same number number (table_log number) (omega arith) refl)) is);
    }

-- while the log of one table more is begun and read
module _ (payloads : List (List ℕ)) (defs : List TableDef) (books : ℕ → Book) (number : ℕ) (some : 1 ≤ number) (def : TableDef) (at : slice_get defs (number - 1) ≡ Some def) where
  stands_there : number ≤ length (map form_of defs)
  stands_there = omega (arith, some, slice_get_within defs (number - 1) def at, length-map defs form_of)

  -- a crash leaves files that stand for the same
  pub table_during : (old mid new : Outside) → FilesSettle mid.files payloads (map form_of defs) books → mid.said ≡ old.said → During old mid (StandsLeft payloads (map form_of defs) books old.said)
      → ((ps : List (List ℕ)) → LeavesFrames ps (mid.files (table_log number)) → Leaves (table_log number) (HasFrames ps) mid new) → During old new (StandsLeft payloads (map form_of defs) books old.said)
  table_during old mid new settles same first during =
      let log = table_frames payloads (map form_of defs) books mid.files settles number (form_of def) some (form_there defs (number - 1) def at) in
      then_during payloads (map form_of defs) books old mid new same first
      (standing_during payloads (map form_of defs) books (table_log number) refl stands_there mid new settles log.0 log.1 during)

  -- and they are settled once it is ready
  pub table_settles : (mid new : FileId → FileState) (table : Table) (commits : List Commit) → FilesSettle mid payloads (map form_of defs) books → IsHeldAs number def table → KeepsOthers (table_log number) mid new
      → HoldsCommits table new commits → HasFrames (map commit_spelling commits) (mid (table_log number)).bytes → FilesSettle new payloads (map form_of defs) books
  table_settles mid new table commits settles held others has log =
      settles_kept payloads (map form_of defs) books (table_log number) refl stands_there mid settles (map commit_spelling commits) log new table.log.gate others
      (subst (λ (f : FileId). IsReady table.log.gate (map commit_spelling commits) (new f)) (held.0.log ∙ ap table_log held.1.number_is) has.log)
