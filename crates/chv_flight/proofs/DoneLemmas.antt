-- What is asked for is done, and then a reply says it; or a fault ends it before.
use Rattle.std.proofs.Common.{◌≡◌, ℕ, Bool, true, false, ◌||◌, List, [], ◌∷◌, ◌++◌, Ok, Err, IfOk, refl, sym, ap, subst, ◌∙◌, arith}
use Rattle.std.specs.Prelude.{Result}
use Rattle.std.proofs.lemmas.Bool.{false≢true}
use Rattle.std.proofs.lemmas.Result.{IfOk-weaker}
use Rattle.chv_ast.specs.declared.refusal.Refusal.{Refusal}
use Rattle.chv_part.specs.declared.damage.Damage.{Damage}
use Rattle.chv_query.specs.Queries.{Asked}
use Rattle.chv_site.specs.During.{During}
use Rattle.chv_site.specs.Faults.{HasRisen}
use Rattle.chv_site.specs.Files.{KeepsFiles}
use Rattle.chv_site.specs.Images.{IsLeftSaying}
use Rattle.chv_site.specs.Outside.{Outside, bytes_in}
use Rattle.chv_site.proofs.Moments.{goes_on, weakened}
use Rattle.chv_store.specs.Stores.{IsUsable}
use Rattle.chv_store.specs.declared.store.Store.{Store}
use Rattle.chv_table.specs.declared.fault.PutFault.{PutFault}
use Rattle.chv_table.specs.declared.fault.PutFault.TheVariants as put
use Rattle.chv_history.specs.Crashes.{IsLeftBy}
use Rattle.chv_history.specs.Events.{Event, Moment, Plan, Replied, behind}
use Rattle.chv_history.specs.Histories.{History}
use Rattle.chv_history.specs.Kept.{Kept, IsRefused, kept_task}
use Rattle.chv_history.specs.Runs.{task_events}
use Rattle.chv_history.specs.Tasks.{Task, Bring, Make, TellParts, TellRows}
use Rattle.chv_history.proofs.LeftLemmas.{behind-append, early, onward}
use Rattle.chv_flight.specs.Answers.{Answers, AnswersAs, HoldsKept, IsAt, IsLogged, MeetsDamage, Replies, Wish, wish_events, wish_in}
use Rattle.chv_flight.specs.Faults.{CountsRun, put_fault_of}
use Rattle.chv_flight.specs.declared.fault.RunFault.{RunFault}
use Rattle.chv_flight.specs.declared.fault.RunFault.TheVariants.{Damaged}
use Rattle.chv_flight.proofs.AnswerLemmas.{Asks, asked_at, asked_kept, entries_held, holds_itself, moment_replied, moment_saying, same_logged, same_placed}
use Rattle.chv_flight.proofs.ResultLemmas.{if_ok_is}

-- a task is done, but for its reply, which is this line
pub record Done (tells : Type 0) (client : ℕ) (task : Task) (line : List ℕ) (was is : Store) (old new : Outside) : Type 0 where
  pub events : History → List Event
  pub text : History → List ℕ
  pub plans : List Plan
  pub are : (history : History) → task_events client task history ≡ events history ++ Replied (text history) plans false ∷ []
  pub at : tells → (before : List ℕ) (m : Moment) → IsAt was old before m → IsAt is new before (behind (events m.history) m)
  pub says : tells → (before : List ℕ) (m : Moment) → IsAt was old before m → line ≡ text m.history
  pub mark : (m : Moment) → (behind (events m.history) m).refused ≡ m.refused
  pub during : tells → (before : List ℕ) (m : Moment) → IsAt was old before m → During old new (IsLeftBy (events m.history) before m)
  pub kept : (kept : Kept) → HoldsKept was kept → HoldsKept is (kept_task (Ok task) kept)
  pub logged : tells → IsLogged was old.files → IsLogged is new.files
  pub usable : IsUsable tells is new
  pub disk : new.disk_faults ≡ old.disk_faults
  pub say : new.say_faults ≡ old.say_faults

-- counts of faults behind calls that did not fail
pub counts_behind : {T : Type 0} (result : Result T RunFault) (old mid new : Outside) → mid.disk_faults ≡ old.disk_faults → mid.say_faults ≡ old.say_faults → CountsRun result mid new → CountsRun result old new
counts_behind result old mid new disk say counts = record {
  disk_keeps = omega (arith, disk, counts.disk_keeps);
  say_keeps = omega (arith, say, counts.say_keeps);
  disk = λ err. subst (λ (n : ℕ). HasRisen n new.disk_faults) disk (counts.disk err);
  say = λ err. subst (λ (n : ℕ). HasRisen n new.say_faults) say (counts.say err);
  disk_stays = λ none. counts.disk_stays none ∙ disk;
  say_stays = λ none. counts.say_stays none ∙ say;
}

-- it is not asked that rows are told
abbrev pub TellsNone : Task → Type 0
TellsNone task = (query : Asked) → ◌≡◌ {A = Result Task Refusal} (Ok task) (Ok (TellRows query)) → ⊥

-- a task that no check refuses may be answered without refusal
pub not_refused : (task : Task) → IsRefused (Ok task) false
not_refused (Make accepted) = refl
not_refused (Bring plan) = refl
not_refused (TellRows query) = λ refused. absurd (false≢true refused)
not_refused (TellParts table def) = refl

module _ (tells : Type 0) (client : ℕ) (wish : Wish) (task : Task) (none : TellsNone task) (was is : Store) (old : Outside) (usable : IsUsable tells was old) (asks : Asks wish was (Ok task)) where
  unmet : (damage : Damage) → MeetsDamage wish was (bytes_in old) damage → ⊥
  unmet damage meets = none meets.query (sym (asks (entries_held was) (λ table first last. refl)) ∙ meets.asks)

  module _ (line : List ℕ) (result : Result Bool RunFault) (between new : Outside) (done : Done tells client task line was is old between) (replies : Replies tells line false result between new) where
    -- the events of what is asked for are what was done, and its reply
    abbrev replied : History → List Event
    replied history = Replied (done.text history) done.plans false ∷ []

    events_are : (before : List ℕ) (m : Moment) → IsAt was old before m → wish_events client wish m.history ≡ done.events m.history ++ replied m.history
    events_are before m at = asked_at client wish was (Ok task) asks old before m usable.within at ∙ done.are m.history

    answers_at : tells → new.said ≡ between.said ++ line → (before : List ℕ) (m : Moment) → IsAt was old before m → AnswersAs is new before false (wish_events client wish m.history) m
    answers_at tell added before m at =
        let events = done.events m.history in
        let last = behind events m in
        let says : new.said ≡ between.said ++ done.text m.history = added ∙ ap (λ (l : List ℕ). between.said ++ l) (done.says tell before m at) in
        let answers = moment_replied is is between new before (done.text m.history) done.plans false last (holds_itself is done.usable.within) (done.at tell before m at) (replies.files tell) says in
        let same : behind (events ++ replied m.history) m ≡ behind (replied m.history) last = behind-append events (replied m.history) m in
        subst (λ (es : List Event). AnswersAs is new before false es m) (sym (events_are before m at)) (record {
          at = subst (IsAt is new before) (sym same) answers.at;
          mark = ap (λ (n : Moment). n.refused) same ∙ answers.mark ∙ ap (λ (b : Bool). b || false) (done.mark m);
        })

    during_at : tells → (before : List ℕ) (m : Moment) → IsAt was old before m → During old new (IsLeftBy (wish_events client wish m.history) before m)
    during_at tell before m at =
        let events = done.events m.history in
        let rest = replied m.history in
        let saying = subst (λ (l : List ℕ). During between new (IsLeftSaying between.files between.said l)) (done.says tell before m at) (replies.during tell) in
        subst (λ (es : List Event). During old new (IsLeftBy es before m)) (sym (events_are before m at))
        (goes_on old between new (IsLeftBy (events ++ rest) before m) (IsLeftBy rest before (behind events m))
        (weakened old between (IsLeftBy events before m) (IsLeftBy (events ++ rest) before m) (done.during tell before m at) (λ image text left. early events rest before m image text left))
        (moment_saying is between between new before (done.text m.history) done.plans false [] (behind events m) done.usable.within (done.at tell before m at) saying)
        (λ image text left. onward events rest before m image text left))

    kept_at : IfOk result (λ refused. (kept : Kept) → HoldsKept was kept → HoldsKept is (kept_task (wish_in wish kept) kept) × IsRefused (wish_in wish kept) refused)
    kept_at =
        IfOk-weaker result (λ answer. answer ≡ false) (λ refused. (kept : Kept) → HoldsKept was kept → HoldsKept is (kept_task (wish_in wish kept) kept) × IsRefused (wish_in wish kept) refused)
        (λ refused is_false kept has.
        let so : wish_in wish kept ≡ Ok task = asked_kept client wish was (Ok task) asks kept has in
        (subst (λ (a : Result Task Refusal). HoldsKept is (kept_task a kept)) (sym so) (done.kept kept has), subst (λ (a : Result Task Refusal). IsRefused a refused) (sym so) (subst (IsRefused (Ok task)) (sym is_false) (not_refused task))))
        replies.answer

    -- a client is answered what it asks for
    pub done_answers : Answers tells client wish result was is old new
    done_answers = record {
      answered = λ tell.
          if_ok_is result (new.said ≡ between.said ++ line) false (λ refused. (before : List ℕ) (m : Moment) → IsAt was old before m → AnswersAs is new before refused (wish_events client wish m.history) m)
          (answers_at tell) (replies.said tell) replies.answer;
      during = during_at;
      kept = kept_at;
      refused = λ tell. IfOk-weaker result (λ answer. answer ≡ false) (λ refused. refused ≡ true → KeepsFiles old.files new.files) (λ refused is_false yes. absurd (false≢true (sym is_false ∙ yes))) replies.answer;
      logged = λ tell.
          IfOk-weaker result (λ answer. answer ≡ false) (λ refused. IsLogged was old.files → IsLogged is new.files)
          (λ refused is_false logged. same_logged is is between.files new.files (holds_itself is done.usable.within) (replies.files tell) (done.logged tell logged)) replies.answer;
      usable =
          IfOk-weaker result (λ answer. answer ≡ false) (λ refused. IsUsable tells is new)
          (λ refused is_false. record {
            within = done.usable.within;
            placed = λ tell. same_placed is is between.files new.files (holds_itself is done.usable.within) (replies.files tell) (done.usable.placed tell);
          }) replies.answer;
      damaged = λ tell damage err. absurd (replies.undamaged damage err);
      met = λ tell damage meets. absurd (unmet damage meets);
      counts = counts_behind result old between new done.disk done.say replies.counts;
    }

-- a fault of what is put is no damage
put_undamaged : (fault : PutFault) (damage : Damage) → ◌≡◌ {A = Result Bool RunFault} (Err (put_fault_of fault)) (Err (Damaged damage)) → ⊥
put_undamaged put.Failed damage same = cc same
put_undamaged put.NoMemory damage same = cc same

-- some of what is asked for is done, and then a fault ends it
pub ended_answers : (tells : Type 0) (client : ℕ) (wish : Wish) (fault : PutFault) (was is : Store) (old new : Outside)
    → (tells → (before : List ℕ) (m : Moment) → IsAt was old before m → During old new (IsLeftBy (wish_events client wish m.history) before m))
    → (tells → (damage : Damage) → MeetsDamage wish was (bytes_in old) damage → ⊥) → CountsRun {T = Bool} (Err (put_fault_of fault)) old new → Answers tells client wish (Err (put_fault_of fault)) was is old new
ended_answers tells client wish fault was is old new during unmet counts = record {
  answered = λ tell. tt;
  during = during;
  kept = tt;
  refused = λ tell. tt;
  logged = λ tell. tt;
  usable = tt;
  damaged = λ tell damage err. absurd (put_undamaged fault damage err);
  met = λ tell damage meets. absurd (unmet tell damage meets);
  counts = counts;
}

-- so it is with a task that tells no rows, of whose events some are done
pub ended_task : (tells : Type 0) (client : ℕ) (wish : Wish) (task : Task) (fault : PutFault) (was is : Store) (old new : Outside) → TellsNone task → IsUsable tells was old → Asks wish was (Ok task)
    → (tells → (before : List ℕ) (m : Moment) → IsAt was old before m → During old new (IsLeftBy (task_events client task m.history) before m)) → CountsRun {T = Bool} (Err (put_fault_of fault)) old new
    → Answers tells client wish (Err (put_fault_of fault)) was is old new
ended_task tells client wish task fault was is old new none usable asks during counts =
    ended_answers tells client wish fault was is old new
    (λ tell before m at. subst (λ (es : List Event). During old new (IsLeftBy es before m)) (sym (asked_at client wish was (Ok task) asks old before m usable.within at)) (during tell before m at))
    (λ tell. unmet tells client wish task none was is old usable asks) counts
