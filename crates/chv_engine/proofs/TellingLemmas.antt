-- How a run on an open store is told: to its end, or to the fault that ended it.
use Rattle.std.proofs.Common.{◌≡◌, ◌⊎◌, inl, inr, ℕ, List, ◌++◌, Bool, ◌||◌, true, Ok, Err, IfOk, IsErrOf, replicate, refl, sym, ap, subst, ◌∙◌, arith}
use Rattle.std.specs.Prelude.{Result}
use Rattle.std.proofs.lemmas.Result.{IfOk-weaker}
use Rattle.chv_catalog.specs.declared.table_def.TableDef.{TableDef}
use Rattle.chv_history.specs.Crashes.{IsLeftBy}
use Rattle.chv_history.specs.Events.{Event, begins}
use Rattle.chv_history.specs.Histories.{History}
use Rattle.chv_history.specs.Kept.{Kept, Refuses}
use Rattle.chv_history.specs.KeptTurns.{TurnsRefuse}
use Rattle.chv_history.specs.Machine.{Next}
use Rattle.chv_history.specs.Runs.{run_events}
use Rattle.chv_history.specs.Script.{Request, requests_of}
use Rattle.chv_history.specs.Traces.{control_in}
use Rattle.chv_history.proofs.InOrderLemmas.{trace_in_order}
use Rattle.chv_history.proofs.LeftLemmas.{left_still, nothing_more}
use Rattle.chv_history.proofs.RefusalLemmas.{refuses_in_order}
use Rattle.chv_part.specs.declared.damage.Damage.{Damage}
use Rattle.chv_site.specs.During.{During}
use Rattle.chv_site.specs.Images.{Image, IsLeft, IsLeftSaying}
use Rattle.chv_site.specs.Outside.{Outside, bytes_in}
use Rattle.chv_site.proofs.Moments.{started}
use Rattle.chv_store.specs.Stores.{IsWithin}
use Rattle.chv_store.specs.declared.store.Store.{Store}
use Rattle.chv_flight.specs.Answers.{AnswersAs, FirstAsks, HoldsKept, IsAt, IsHeldDamage, IsLogged, Replies}
use Rattle.chv_flight.specs.Faults.{CountsRun}
use Rattle.chv_flight.specs.Flights.{IsBegun}
use Rattle.chv_flight.specs.Turns.{Drains, EndsFirst}
use Rattle.chv_flight.specs.declared.fault.RunFault.{RunFault}
use Rattle.chv_flight.specs.declared.fault.RunFault.TheVariants.{Disk, Say, Damaged, NoMemory}
use Rattle.chv_flight.specs.declared.flight.Flight.{Flight}
use Rattle.chv_flight.proofs.AnswerLemmas.{moment_left}
use Rattle.chv_flight.proofs.BeginLemmas.{begun_kept, begun_meets, begun_under_way}
use Rattle.chv_flight.proofs.RunLemmas.{counts_then, damage_kept, logged_kept, no_error, same_error}
use Rattle.chv_engine.specs.Damage.{line_of}
use Rattle.chv_engine.specs.Telling.{RunsAll, TellsFault, TellsOrFails}

-- there was no memory, and no call was made
no_counts : (outside : Outside) → CountsRun {T = Bool} (Err NoMemory) outside outside
no_counts outside = record {
  disk_keeps = omega arith;
  say_keeps = omega arith;
  disk = λ ends. absurd (cc ends);
  say = λ ends. absurd (cc ends);
  disk_stays = λ none. refl;
  say_stays = λ none. refl;
}

-- there was no memory to begin
pub not_begun : (tells : Type 0) (requests : List Request) (store : Store) (outside : Outside) → IsWithin store
    → ((image : Image) (text : List ℕ) → outside.left_since outside.moment image text → IsLeft outside.files outside.said image text)
    → RunsAll tells requests (Err NoMemory) store store outside outside
not_begun tells requests store outside within now = record {
  answered = λ t. tt;
  during = λ t before history at.
      let events = run_events requests (begins history) in
      started outside (IsLeftBy events before (begins history))
      (λ image text left.
      let is = now image text left in
      left_still events before (begins history) image text (moment_left store outside before (begins history) within at image is.0) (is.1 ∙ at.text));
  kept = tt;
  damaged = λ t damage ends. absurd (cc ends);
  undamaged = λ t before history damage at ends. cc ends;
  met = λ t damage asks. tt;
  within = tt;
  counts = no_counts outside;
}

-- a run began, and went on to its end or to a fault
module _ (tells : Type 0) (store : Store) (script : List ℕ) (flight is : Flight) (result : Result Bool RunFault) (old new : Outside)
    (begun : IsBegun store script flight) (drains : Drains tells result flight is old new) where
  abbrev requests : List Request
  requests = requests_of script

  abbrev events : History → List Event
  events history = run_events requests (begins history)

  run_answered : tells → IfOk result (λ refused. (before : List ℕ) (history : History) → IsAt store old before (begins history) → AnswersAs is.store new before refused (events history) (begins history))
  run_answered t =
      IfOk-weaker result _ _
      (λ refused so before history at.
      let end = so before (begins history) (control_in script) (events history) (begun_under_way store script flight begun old before history at) (trace_in_order script history) in
      record { at = end.0; mark = sym end.1 })
      (drains.drained t)

  run_during : tells → (before : List ℕ) (history : History) → IsAt store old before (begins history) → During old new (IsLeftBy (events history) before (begins history))
  run_during t before history at =
      drains.during t before (begins history) (control_in script) (events history) (begun_under_way store script flight begun old before history at) (trace_in_order script history)

  run_kept : IfOk result (λ refused. (kept : Kept) → HoldsKept store kept → Refuses requests kept refused)
  run_kept =
      IfOk-weaker result _ _
      (λ refused so kept holds.
      let rest = so kept (control_in script) (begun_kept store script flight begun kept holds) in
      let later : refused ≡ rest.later = rest.marks ∙ ap (λ (b : Bool). b || rest.later) begun.refused in
      refuses_in_order script kept refused (record {
        rest = rest.rest;
        ends = rest.ends;
        refuses = subst (TurnsRefuse (replicate rest.rest Next) kept (control_in script)) (sym later) rest.refuses;
      }))
      drains.kept

  run_undamaged : tells → (before : List ℕ) (history : History) (damage : Damage) → IsAt store old before (begins history) → IsErrOf result (Damaged damage) → ⊥
  run_undamaged t before history damage at ends = drains.undamaged t before (begins history) (control_in script) damage (begun_under_way store script flight begun old before history at) ends

  run_met : tells → (damage : Damage) → FirstAsks requests store (bytes_in old) damage → EndsFirst damage result flight is old new
  run_met t damage asks =
      let first = begun_meets store script flight begun (bytes_in old) damage asks in
      drains.met t damage first.number first.first first.meets

  run_damaged : tells → (damage : Damage) → IsErrOf result (Damaged damage) → IsHeldDamage is.store new damage × (IsLogged store old.files → IsLogged is.store new.files)
  run_damaged t damage ends =
      let held = drains.damaged t damage ends in
      (held.0, λ logged. held.1 (subst (λ (s : Store). IsLogged s old.files) (sym begun.held) logged))

-- it came to its end: no damage was met
pub end_told : (tells : Type 0) (store : Store) (script : List ℕ) (flight is : Flight) (refused : Bool) (old new : Outside) → IsBegun store script flight → Drains tells (Ok refused) flight is old new
    → RunsAll tells (requests_of script) (Ok refused) store is.store old new
end_told tells store script flight is refused old new begun drains = record {
  answered = run_answered tells store script flight is (Ok refused) old new begun drains;
  during = run_during tells store script flight is (Ok refused) old new begun drains;
  kept = run_kept tells store script flight is (Ok refused) old new begun drains;
  damaged = λ t damage ends. absurd (no_error refused (Damaged damage) ends);
  undamaged = λ t before history damage at ends. no_error refused (Damaged damage) ends;
  met = run_met tells store script flight is (Ok refused) old new begun drains;
  within = drains.within;
  counts = drains.counts;
}

-- damage ends a run, or another fault does
not_disk : (damage : Damage) → Disk ≡ Damaged damage → ⊥
not_disk damage same = cc

not_say : (damage : Damage) → Say ≡ Damaged damage → ⊥
not_say damage same = cc

not_memory : (damage : Damage) → NoMemory ≡ Damaged damage → ⊥
not_memory damage same = cc

same_damage : (a b : Damage) → Damaged a ≡ Damaged b → a ≡ b
same_damage a b same = cc

damaged_or_not : (fault : RunFault) → ((damage : Damage) × (fault ≡ Damaged damage)) ⊎ ((damage : Damage) → fault ≡ Damaged damage → ⊥)
damaged_or_not Disk = inr not_disk
damaged_or_not Say = inr not_say
damaged_or_not (Damaged damage) = inl (damage, refl)
damaged_or_not NoMemory = inr not_memory

-- a fault ended the run, and was told
module _ (tells same : Type 0) (store : Store) (script : List ℕ) (fault ends : RunFault) (flight is : Flight) (old between new : Outside) (begun : IsBegun store script flight)
    (drains : Drains tells (Err fault) flight is old between) (told : TellsFault tells same is.store.schema.catalog.tables fault ends between new) (as_was : same → new ≡ between) where
  told_met : (t : tells) (damage : Damage) (f : RunFault) → ends ≡ f → EndsFirst damage (Err fault) flight is old between → TellsOrFails (Err f) old.said new.said (line_of store.schema.catalog.tables damage)
  told_met t damage Disk same met = tt
  told_met t damage Say same met = tt
  told_met t damage NoMemory same met = tt
  told_met t damage (Damaged other) same met =
      let line = told.told t other same in
      let first : EndsFirst damage (Err (Damaged other)) flight is old between = subst (λ (f : RunFault). EndsFirst damage (Err f) flight is old between) line.0 met in
      line.1
      ∙ ap (λ (said : List ℕ). said ++ line_of is.store.schema.catalog.tables other) first.2
      ∙ ap (λ (s : Store). old.said ++ line_of s.schema.catalog.tables other) (first.1 ∙ begun.held)
      ∙ ap (λ (d : Damage). old.said ++ line_of store.schema.catalog.tables d) first.0

  told_counts : CountsRun {T = Bool} (Err ends) old new
  told_counts = elim (damaged_or_not fault) as (λ _. CountsRun {T = Bool} (Err ends) old new) [
    | inl damaged ↦
        counts_then (Err ends) old between new
        (drains.counts.disk_stays (λ is. not_disk damaged.0 (sym (same_error fault Disk is) ∙ damaged.1)))
        (drains.counts.say_stays (λ is. not_say damaged.0 (sym (same_error fault Say is) ∙ damaged.1)))
        (told.counts damaged.0 damaged.1)
    | inr other ↦
        let still = told.other other in
        subst (λ (f : RunFault). CountsRun {T = Bool} (Err f) old new) (sym still.0) (subst (λ (o : Outside). CountsRun {T = Bool} (Err fault) old o) (sym (as_was still.1)) drains.counts)
  ]

  pub fault_told : RunsAll tells (requests_of script) (Err ends) store is.store old new
  fault_told = record {
    answered = λ t. tt;
    during = λ t before history at.
        let still = told.other (λ damage ended. run_undamaged tells store script flight is (Err fault) old between begun drains t before history damage at (ap Err ended)) in
        subst (λ (o : Outside). During old o (IsLeftBy (run_events (requests_of script) (begins history)) before (begins history))) (sym (as_was still.1))
        (run_during tells store script flight is (Err fault) old between begun drains t before history at);
    kept = tt;
    damaged = λ t damage ended.
        let line = told.told t damage (same_error ends (Damaged damage) ended) in
        let held = run_damaged tells store script flight is (Err fault) old between begun drains t damage (ap Err line.0) in
        record {
          held = damage_kept is.store between new damage (told.files t) held.0;
          logged = λ logged. logged_kept is.store between.files new.files (told.files t) (held.1 logged);
          text = between.said;
          ends = line.1;
        };
    undamaged = λ t before history damage at ended.
        run_undamaged tells store script flight is (Err fault) old between begun drains t before history damage at (ap Err (told.told t damage (same_error ends (Damaged damage) ended)).0);
    met = λ t damage asks. told_met t damage ends refl (run_met tells store script flight is (Err fault) old between begun drains t damage asks);
    within = tt;
    counts = told_counts;
  }

-- a line that tells damage was said
pub line_said : (tells same : Type 0) (tables : List TableDef) (damage : Damage) (line : List ℕ) (said : Bool) (old new : Outside) → Replies tells line true (Ok said) old new
    → line ≡ line_of tables damage → TellsFault tells same tables (Damaged damage) (Damaged damage) old new
line_said tells same tables damage line said old new replies is = record {
  told = λ t other ends. (ends, replies.said t ∙ ap (λ (text : List ℕ). old.said ++ text) (is ∙ ap (line_of tables) (same_damage damage other ends)));
  other = λ none. absurd (none damage refl);
  files = replies.files;
  during = λ t other ends.
      subst (λ (text : List ℕ). During old new (IsLeftSaying old.files old.said text)) (is ∙ ap (line_of tables) (same_damage damage other ends)) (replies.during t);
  counts = λ other ends. record {
    disk_keeps = replies.counts.disk_keeps;
    say_keeps = replies.counts.say_keeps;
    disk = λ fails. absurd (not_disk damage (sym (same_error (Damaged damage) Disk fails)));
    say = λ fails. absurd (not_say damage (sym (same_error (Damaged damage) Say fails)));
    disk_stays = λ none. replies.counts.disk_stays (no_error said Disk);
    say_stays = λ none. replies.counts.say_stays (no_error said Say);
  };
}

-- it was not, or a front of it
pub line_failed : (tells same : Type 0) (tables : List TableDef) (damage : Damage) (line : List ℕ) (fault : RunFault) (old new : Outside) → Replies tells line true (Err fault) old new
    → line ≡ line_of tables damage → TellsFault tells same tables (Damaged damage) fault old new
line_failed tells same tables damage line fault old new replies is = record {
  told = λ t other ends. absurd (replies.undamaged other (ap Err ends));
  other = λ none. absurd (none damage refl);
  files = replies.files;
  during = λ t other ends.
      subst (λ (text : List ℕ). During old new (IsLeftSaying old.files old.said text)) (is ∙ ap (line_of tables) (same_damage damage other ends)) (replies.during t);
  counts = λ other ends. replies.counts;
}

-- there was no memory for the line
pub no_line : (tells same : Type 0) (tables : List TableDef) (damage : Damage) (outside : Outside)
    → ((image : Image) (text : List ℕ) → outside.left_since outside.moment image text → IsLeft outside.files outside.said image text)
    → TellsFault tells same tables (Damaged damage) NoMemory outside outside
no_line tells same tables damage outside now = record {
  told = λ t other ends. absurd (not_memory other ends);
  other = λ none. absurd (none damage refl);
  files = λ t f. refl;
  during = λ t other ends.
      started outside (IsLeftSaying outside.files outside.said (line_of tables other))
      (λ image text left.
      let is = now image text left in
      (is.0, nothing_more (line_of tables other) outside.said text is.1));
  counts = λ other ends. no_counts outside;
}
