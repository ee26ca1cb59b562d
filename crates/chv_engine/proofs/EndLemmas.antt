-- How a run ends: from what opening a store says, and what was done with it.
use Rattle.std.proofs.Common.{◌≡◌, ◌≢◌, ◌⊎◌, inl, inr, ◌++◌, ℕ, List, [], ◌∷◌, Bool, Err, IfOk, IsErrOf, map, refl, sym, ap, subst, ◌∙◌, arith}
use Rattle.std.specs.Prelude.{Result}
use Rattle.std.proofs.lemmas.List.{append-nil}
use Rattle.std.proofs.lemmas.Result.{IfOk-weaker}
use Rattle.chv_catalog.specs.declared.table_def.TableDef.{TableDef}
use Rattle.chv_query.specs.Accepted.{catalog_of, catalog_payload, tables_of}
use Rattle.chv_history.specs.Crashes.{IsLeftBy}
use Rattle.chv_history.specs.Events.{begins, behind}
use Rattle.chv_history.specs.Histories.{History, Settles, book_of}
use Rattle.chv_history.specs.Kept.{Kept, Refuses}
use Rattle.chv_history.specs.Runs.{run_events}
use Rattle.chv_history.specs.Script.{Request}
use Rattle.chv_history.proofs.LeftLemmas.{left_still}
use Rattle.chv_history.proofs.StandingLemmas.{untouched_left}
use Rattle.chv_part.specs.Forms.{form_of}
use Rattle.chv_part.specs.declared.damage.Damage.{Damage}
use Rattle.chv_site.specs.declared.file_id.FileId.{FileId}
use Rattle.chv_site.specs.During.{During}
use Rattle.chv_site.specs.Faults.{CountsDisk}
use Rattle.chv_site.specs.Files.{FileState}
use Rattle.chv_site.specs.Images.{Image, HasLengths, IsLeft}
use Rattle.chv_site.specs.Outside.{Outside, bytes_in}
use Rattle.chv_site.proofs.Images.{reads_images}
use Rattle.chv_site.proofs.Moments.{goes_on, started, weakened}
use Rattle.chv_store.specs.Calls.{StandsLeft}
use Rattle.chv_store.specs.Holding.{FilesSettle, HoldsBooks}
use Rattle.chv_store.specs.Openings.{IsOpeningFault, OpensAs}
use Rattle.chv_store.specs.Stores.{IsWithin, state_of}
use Rattle.chv_store.specs.declared.fault.OpenFault.{OpenFault}
use Rattle.chv_store.specs.declared.store.Store.{Store}
use Rattle.chv_table.specs.declared.fault.TableFault.{TableFault}
use Rattle.chv_table.specs.declared.fault.TableFault.TheVariants as table
use Rattle.chv_flight.specs.Answers.{AnswersAs, FirstAsks, IsAt, IsLogged}
use Rattle.chv_flight.specs.Faults.{CountsFault, table_fault_of}
use Rattle.chv_flight.specs.declared.fault.RunFault.{RunFault}
use Rattle.chv_flight.specs.declared.fault.RunFault.TheVariants.{Disk, Say, Damaged, NoMemory}
use Rattle.chv_flight.proofs.AnswerLemmas.{moment_left}
use Rattle.chv_flight.proofs.ResultLemmas.{if_ok_with}
use Rattle.chv_flight.proofs.RunLemmas.{counts_then}
use Rattle.chv_engine.specs.Damage.{FirstMeets, HasKept, HasNoStrays, IsOpeningDamaged, line_of}
use Rattle.chv_engine.specs.Ends.{EndsAt, SaysDamage}
use Rattle.chv_engine.specs.Telling.{RunsAll, TellsFault, TellsHeld, TellsOrFails}
use Rattle.chv_engine.proofs.OpenedLemmas.{logged_live, opened_kept, opened_meets, opened_undamaged}
use Rattle.chv_engine.proofs.OpeningLemmas.{IsOpening, kept_undamaged, opening_unique, standing_undamaged}

module _ (requests : List Request) (history : History) where
  abbrev Left : Outside → Image → List ℕ → Type 0
  Left old = IsLeftBy (run_events requests (begins history)) old.said (begins history)

  -- files that settle for a history do so for what it has
  pub settles_files : (files : FileId → FileState) → Settles files history → FilesSettle files (map catalog_payload history.schema) (map form_of (tables_of history.schema)) (book_of history)
  settles_files files settles = record { settled_files = settles.settled_files; stands = settles.stands.files_stand }

  -- no call was made so far
  pub untouched_during : (old : Outside) → Settles old.files history → ((image : Image) (text : List ℕ) → old.left_since old.moment image text → IsLeft old.files old.said image text) → During old old (Left old)
  untouched_during old settles only = started old (Left old) (λ image text left. untouched_left history old.files old.said (run_events requests (begins history)) image text settles (only image text left))

  -- while the store is opened
  pub opening_during : (old mid : Outside) → Settles old.files history
      → During old mid (StandsLeft (map catalog_payload history.schema) (map form_of (tables_of history.schema)) (book_of history) old.said) → During old mid (Left old)
  opening_during old mid settles during =
      weakened old mid (StandsLeft (map catalog_payload history.schema) (map form_of (tables_of history.schema)) (book_of history) old.said) (Left old) during
      (λ image text left.
      left_still (run_events requests (begins history)) old.said (begins history) image text (record { lawful = settles.stands.lawful; files_stand = left.stands }) (left.text_left ∙ sym (append-nil old.said)))

  -- a store that is opened is at the first moment
  pub begins_at : (store : Store) (old mid : Outside) → Settles old.files history
      → HoldsBooks store mid.files (map catalog_payload history.schema) (book_of history) × (store.schema.catalog ≡ catalog_of history.schema) → mid.said ≡ old.said → IsAt store mid old.said (begins history)
  begins_at store old mid settles holds same = record { lawful = settles.stands.lawful; catalog = holds.1; holds = holds.0; text = same ∙ sym (append-nil old.said) }

  -- and ends at the last
  pub ends_at : (store : Store) (old new : Outside) (refused : Bool) → IsWithin store → ((f : FileId) → HasLengths (new.files f)) → AnswersAs store new old.said refused (run_events requests (begins history)) (begins history)
      → EndsAt requests history old new refused
  ends_at store old new refused within lengths end = record {
    text = end.at.text;
    stands = moment_left store new old.said (behind (run_events requests (begins history)) (begins history)) within end.at (bytes_in new) (reads_images new.files lengths);
    mark = end.mark;
  }

-- damage of a part that was told is told of a live part, where the store was logged
pub says_held : (was is : Store) (damage : Damage) (old mid new : Outside) → (HasNoStrays old.files → IsLogged was mid.files) → TellsHeld was is damage mid new → SaysDamage old new
says_held was is damage old mid new logged told = record {
  text = told.text;
  line = line_of is.schema.catalog.tables damage;
  ends = told.ends;
  damaged = inr (record {
    tables = is.schema.catalog.tables;
    table = told.held.table;
    def = told.held.def;
    stands = told.held.stands;
    layout = (state_of is told.held.table).layout;
    damage = damage;
    is = told.held.is;
    live = λ none. logged_live is new.files told.held.table told.held.def told.held.within (told.logged (logged none)) told.held.first told.held.stands;
    told = refl;
  });
}

-- what is asked for first is damaged where no log is
first_undamaged : (files : Image) (requests : List Request) (line : List ℕ) → FirstMeets files requests line → (tables : List TableDef) (damage : Damage) → IsOpening files tables damage → ⊥
first_undamaged files [] line meets = absurd meets
first_undamaged files (request ∷ requests) line meets = kept_undamaged files meets.kept meets.has

-- an error tells a line, or fails
err_tells : (ends : RunFault) (before said line : List ℕ) → ((damage : Damage) → ends ≡ Damaged damage → said ≡ before ++ line) → TellsOrFails (Err ends) before said line
err_tells Disk before said line told = tt
err_tells Say before said line told = tt
err_tells (Damaged damage) before said line told = told damage refl
err_tells NoMemory before said line told = tt

-- a fault of opening is damage where the run's is
fault_damaged : (why : TableFault) (damage : Damage) → table_fault_of why ≡ Damaged damage → why ≡ table.Damaged damage
fault_damaged table.Failed damage is = absurd (cc is)
fault_damaged (table.Damaged other) damage is = let same : other ≡ damage = cc in ap table.Damaged same
fault_damaged table.NoMemory damage is = absurd (cc is)

-- the counts of a fault of opening that is no damage
counts_open : (why : TableFault) (old mid : Outside) → ((damage : Damage) → table_fault_of why ≡ Damaged damage → ⊥) → CountsDisk (why ≡ table.Failed) old mid → CountsFault (table_fault_of why) old mid
counts_open (table.Damaged damage) old mid none counts = absurd (none damage refl)
counts_open table.Failed old mid none counts = record {
  disk_keeps = counts.keeps;
  say_keeps = omega (arith, counts.other);
  disk = λ is. counts.cause refl;
  say = λ is. absurd (cc is);
  disk_stays = λ other. absurd (other refl);
  say_stays = λ other. counts.other;
}
counts_open table.NoMemory old mid none counts = record {
  disk_keeps = counts.keeps;
  say_keeps = omega (arith, counts.other);
  disk = λ is. absurd (cc is);
  say = λ is. absurd (cc is);
  disk_stays = λ other. counts.same (λ is. absurd (cc is));
  say_stays = λ other. counts.other;
}

-- and of one that was told
module _ (tells still : Type 0) (tables : List TableDef) (ends : RunFault) (old mid new : Outside) (as_was : still → new ≡ mid) where
  counts_untold : (why : TableFault) → ((damage : Damage) → table_fault_of why ≡ Damaged damage → ⊥) → CountsDisk (why ≡ table.Failed) old mid → TellsFault tells still tables (table_fault_of why) ends mid new
      → CountsFault ends old new
  counts_untold why none first told =
      let same = told.other none in
      subst (CountsFault ends old) (sym (as_was same.1)) (subst (λ (fault : RunFault). CountsFault fault old mid) (sym same.0) (counts_open why old mid none first))

  pub counts_told : (why : TableFault) → CountsDisk (why ≡ table.Failed) old mid → TellsFault tells still tables (table_fault_of why) ends mid new → CountsFault ends old new
  counts_told (table.Damaged damage) first told = counts_then (Err ends) old mid new (first.same (λ is. cc is)) first.other (told.counts damage refl)
  counts_told table.Failed first told = counts_untold table.Failed (λ damage is. absurd (cc is)) first told
  counts_told table.NoMemory first told = counts_untold table.NoMemory (λ damage is. absurd (cc is)) first told

-- a store was not opened, and the fault was told
module _ (tells still : Type 0) (why : OpenFault) (ends : RunFault) (old mid new : Outside) (as_was : still → new ≡ mid) (t : tells) (opening : IsOpeningFault (bytes_in old) why) (same : mid.said ≡ old.said)
    (told : TellsFault tells still why.schema.catalog.tables (table_fault_of why.fault) ends mid new) where
  its_damage : (damage : Damage) → table_fault_of why.fault ≡ Damaged damage → IsOpening (bytes_in old) why.schema.catalog.tables damage
  its_damage damage is = opening damage (fault_damaged why.fault damage is)

  told_line : (damage : Damage) → ends ≡ Damaged damage → IsOpening (bytes_in old) why.schema.catalog.tables damage × (new.said ≡ old.said ++ line_of why.schema.catalog.tables damage)
  told_line damage is =
      let said = told.told t damage is in
      (its_damage damage said.0, said.1 ∙ ap (λ (text : List ℕ). text ++ line_of why.schema.catalog.tables damage) same)

  -- the line is the last
  pub says_opening : (damage : Damage) → IsErrOf {T = Bool} (Err ends) (Damaged damage) → SaysDamage old new
  says_opening damage ended =
      let is : ends ≡ Damaged damage = cc in
      let line = told_line damage is in
      record {
        text = old.said;
        line = line_of why.schema.catalog.tables damage;
        ends = line.1;
        damaged = inl (record { tables = why.schema.catalog.tables; damage = damage; is = line.0; told = refl });
      }

  -- it is the one that tells the damage of the logs
  pub tells_opening : (requests : List Request) (line : List ℕ) → IsOpeningDamaged (bytes_in old) line ⊎ FirstMeets (bytes_in old) requests line → TellsOrFails (Err ends) old.said new.said line
  tells_opening requests line damaged =
      err_tells ends old.said new.said line
      (λ damage is.
      let mine = told_line damage is in
      elim damaged as (λ _. new.said ≡ old.said ++ line) [
        | inl other ↦ mine.1 ∙ ap (λ (l : List ℕ). old.said ++ l) (opening_unique (bytes_in old) why.schema.catalog.tables other.tables damage other.damage mine.0 other.is ∙ sym other.told)
        | inr meets ↦ absurd (first_undamaged (bytes_in old) requests line meets why.schema.catalog.tables damage mine.0)
      ])

  -- where the files stand for a history, nothing was told
  module _ (history : History) (settles : Settles old.files history) where
    undamaged : (damage : Damage) → IsOpening (bytes_in old) why.schema.catalog.tables damage → ⊥
    undamaged = standing_undamaged (bytes_in old) history settles.stands why.schema.catalog.tables

    pub never_told : (damage : Damage) → IsErrOf {T = Bool} (Err ends) (Damaged damage) → ⊥
    never_told damage ended = let is : ends ≡ Damaged damage = cc in undamaged damage (told_line damage is).0

    pub untold_during : (P : Image → List ℕ → Type 0) → During old mid P → During old new P
    untold_during P during =
        let kept = told.other (λ damage is. undamaged damage (its_damage damage is)) in
        subst (λ (now : Outside). During old now P) (sym (as_was kept.1)) during

-- a store was opened, and the requests were answered
pub tells_met : (store : Store) (old mid new : Outside) (result : Result Bool RunFault) (requests : List Request) (line : List ℕ) → IsWithin store → OpensAs store (bytes_in old) mid.files
    → ((f : FileId) → f.part ≢ 0 → mid.files f ≡ old.files f) → mid.said ≡ old.said → IsOpeningDamaged (bytes_in old) line ⊎ FirstMeets (bytes_in old) requests line
    → ((damage : Damage) → FirstAsks requests store (bytes_in mid) damage → TellsOrFails result mid.said new.said (line_of store.schema.catalog.tables damage)) → TellsOrFails result old.said new.said line
tells_met store old mid new result requests line within opens parts same damaged met =
    elim damaged as (λ _. TellsOrFails result old.said new.said line) [
      | inl opening ↦ absurd (opened_undamaged store (bytes_in old) mid.files within opens opening.tables opening.damage opening.is)
      | inr meets ↦
          let asks = opened_meets store (bytes_in old) (bytes_in mid) mid.files requests line within opens (λ f part. ap (λ (s : FileState). s.bytes) (parts f part)) meets in
          subst (λ (said : List ℕ). TellsOrFails result said new.said line) same
          (subst (TellsOrFails result mid.said new.said) (sym asks.2) (met asks.0 asks.1))
    ]

module _ (tells : Type 0) (requests : List Request) (result : Result Bool RunFault) (store is : Store) (old mid new : Outside) (t : tells) (runs : RunsAll tells requests result store is mid new) where
  -- whether one is refused follows from what the logs say
  pub run_refused : IsWithin store → OpensAs store (bytes_in old) mid.files → IfOk result (λ refused. (kept : Kept) → HasKept (bytes_in old) kept → Refuses requests kept refused)
  run_refused within opens = IfOk-weaker result _ _ (λ refused says kept has. says kept (opened_kept store (bytes_in old) mid.files kept within opens has)) runs.kept

  -- where the files stood for a history, the run goes through its events
  module _ (history : History) (settles : Settles old.files history)
      (holds : HoldsBooks store mid.files (map catalog_payload history.schema) (book_of history) × (store.schema.catalog ≡ catalog_of history.schema)) (same : mid.said ≡ old.said) where
    start : IsAt store mid old.said (begins history)
    start = begins_at requests history store old mid settles holds same

    pub run_ends : ((f : FileId) → HasLengths (new.files f)) → IfOk result (EndsAt requests history old new)
    run_ends lengths =
        if_ok_with result (IsWithin is) (λ refused. (before : List ℕ) (first : History) → IsAt store mid before (begins first) → AnswersAs is new before refused (run_events requests (begins first)) (begins first)) (EndsAt requests history old new)
        (λ refused within answers. ends_at requests history is old new refused within lengths (answers old.said history start)) runs.within (runs.answered t)

    pub run_during : During old mid (StandsLeft (map catalog_payload history.schema) (map form_of (tables_of history.schema)) (book_of history) old.said)
        → During old new (IsLeftBy (run_events requests (begins history)) old.said (begins history))
    run_during during =
        let P = IsLeftBy (run_events requests (begins history)) old.said (begins history) in
        goes_on old mid new P P (opening_during requests history old mid settles during) (runs.during t old.said history start) (λ image text left. left)

    pub run_undamaged : (damage : Damage) → IsErrOf result (Damaged damage) → ⊥
    run_undamaged damage ended = runs.undamaged t old.said history damage start ended
