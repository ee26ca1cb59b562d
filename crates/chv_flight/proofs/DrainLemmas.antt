-- The rest of a run: a turn of the first client that has something to do, and then the rest.
use Rattle.std.proofs.Common.{◌≡◌, ◌⊎◌, inl, inr, ℕ, zero, suc, ◌<◌, Bool, true, false, ◌||◌, List, [], ◌∷◌, ◌++◌, length, slice_get, slice_set, Option, None, Some, Ok, Err, IfOk, IsErrOf, refl, sym, ap, subst, ◌∙◌, arith}
use Rattle.std.specs.Prelude.{Result, replicate}
use Rattle.std.proofs.lemmas.Bool.{cases_eq, cases_lt}
use Rattle.std.proofs.lemmas.Option.{slice_get_within}
use Rattle.chv_ast.specs.declared.refusal.Refusal.{Refusal}
use Rattle.chv_ast.specs.declared.statement.Statement.{Statement}
use Rattle.chv_history.specs.Crashes.{IsLeftBy}
use Rattle.chv_history.specs.Events.{Event, Moment, Plan, behind}
use Rattle.chv_history.specs.Kept.{Kept}
use Rattle.chv_history.specs.KeptTurns.{IsRefusedBy, IsStatementRefused, IsTurnRefused, TurnsRefuse, answer_kept, kept_by, kept_statement, kept_turn, left_by, left_turns, written_kept}
use Rattle.chv_history.specs.Machine.{Of, Next, Client as Work, Control, act_control, act_events, behind_delivery, behind_statement, behind_turn, client_of, first_with_work, has_work}
use Rattle.chv_history.specs.Tasks.{Task}
use Rattle.chv_history.specs.Traces.{IsRest}
use Rattle.chv_history.proofs.LeftLemmas.{behind-append, early, left_still, onward}
use Rattle.chv_history.proofs.RequestLemmas.{or_assoc, or_false}
use Rattle.chv_history.proofs.TraceLemmas.{GoesOn, first_goes_on, none_goes_on}
use Rattle.chv_history.proofs.TurnLemmas.{acts_idle, client_of-Next, client_of-there}
use Rattle.chv_part.specs.declared.damage.Damage.{Damage}
use Rattle.chv_query.specs.Plans.{Delivery}
use Rattle.chv_site.specs.During.{During}
use Rattle.chv_site.specs.Files.{FileState, KeepsFiles}
use Rattle.chv_site.specs.Images.{Image, IsLeft}
use Rattle.chv_site.specs.Outside.{Outside, bytes_in}
use Rattle.chv_site.specs.declared.file_id.FileId.{FileId}
use Rattle.chv_site.proofs.Moments.{goes_on, started, weakened}
use Rattle.chv_store.specs.Stores.{IsUsable, IsWithin}
use Rattle.chv_store.specs.declared.store.Store.{Store}
use Rattle.chv_flight.specs.Answers.{IsAt, IsHeldDamage, IsLogged}
use Rattle.chv_flight.specs.Faults.{CountsRun}
use Rattle.chv_flight.specs.Flights.{HoldsControl, HoldsWork, IsUnderWay, KeepsRun, asks_behind, left_of}
use Rattle.chv_flight.specs.Turns.{Acts, Drains, EndsFirst, HasNothing, IsFirst, IsIdle, RestRefuses, TurnEndsBy, TurnHasMet, TurnMeets}
use Rattle.chv_flight.specs.declared.client.Client.{Client}
use Rattle.chv_flight.specs.declared.fault.RunFault.{RunFault}
use Rattle.chv_flight.specs.declared.fault.RunFault.TheVariants.{Disk, Say, Damaged, NoMemory}
use Rattle.chv_flight.specs.declared.flight.Flight.{Flight}
use Rattle.chv_flight.specs.declared.turned.Turned.{Turned}
use Rattle.chv_flight.specs.declared.turned.Turned.TheVariants.{Moved, Idle}
use Rattle.chv_flight.proofs.AnswerLemmas.{moment_left, same_files}
use Rattle.chv_flight.proofs.EachLemmas.{each-at}
use Rattle.chv_flight.proofs.IdleLemmas.{AreIdle, all_idle, first_busy, more_none, works_none}
use Rattle.chv_flight.proofs.RunLemmas.{counts_then, damage_kept, logged_kept, meets_held, no_error, none_damaged}

-- an item that is put where it stands
set_back : {A : Type 0} (xs : List A) (place : ℕ) (x : A) → slice_get xs place ≡ Some x → slice_set xs place x ≡ xs
set_back {A} [] place x stands = absurd (cc stands)
set_back {A} (y ∷ xs) zero x stands = let same : x ≡ y = cc stands in ap (λ (a : A). a ∷ xs) same
set_back {A} (y ∷ xs) (suc place) x stands = ap (λ (l : List A). y ∷ l) (set_back xs place x stands)

abbrev Answer : Type 0
Answer = Option Statement → Result Task Refusal

-- of a client without work a turn changes nothing
module _ (answer : Answer) (work : Work) (none : work.left ≡ []) (asks : work.asks ≡ []) where
  kept_idle : (kept : Kept) → kept_turn answer work.left work kept ≡ kept
  kept_idle kept = ap (λ (l : Plan). kept_turn answer l work kept) none ∙ ap (λ (a : List (Option Statement)). kept_statement answer a kept) asks

  work_idle : (wrote : Delivery → ℕ) → behind_turn answer wrote work ≡ work
  work_idle wrote = ap (λ (l : Plan). behind_delivery answer wrote l work) none ∙ ap (λ (a : List (Option Statement)). behind_statement answer a work) asks

  refused_idle : (refused : Bool) → IsTurnRefused answer work.left work refused → refused ≡ false
  refused_idle refused is =
      subst (λ (a : List (Option Statement)). IsStatementRefused answer a refused) asks (subst (λ (l : Plan). IsTurnRefused answer l work refused) none is)

-- a client whose turn it is: it is there, and those below are idle
pub record HasTurn (flight : Flight) (number : ℕ) : Type 0 where
  pub client : Client
  pub stands : slice_get flight.clients.items number ≡ Some client
  pub below : AreIdle flight number

-- it has work and is the first, or it has none
pub record Rests (control : Control) (number : ℕ) : Type 0 where
  pub work : Work
  pub stands : slice_get control.clients number ≡ Some work
  pub none : work.left ≡ []
  pub asks : work.asks ≡ []

work_cases : (left : Plan) (asks : List (Option Statement)) → ((left ≡ []) × (asks ≡ [])) ⊎ ((left ≡ []) × (asks ≡ []) → ⊥)
work_cases [] [] = inl (refl, refl)
work_cases [] (asked ∷ asks) = inr (λ both. cc both.1)
work_cases (d ∷ left) asks = inr (λ both. cc both.0)

module _ (flight : Flight) (control : Control) (holds : HoldsControl flight control) (number : ℕ) (turn : HasTurn flight number) where
  whose_turn : Rests control number ⊎ (first_with_work control ≡ Some number)
  whose_turn =
      let Holds : ℕ → Client → Work → Type 0 = HoldsWork flight.script flight.pieces flight.store.schema.catalog in
      let at = each-at Holds 0 number flight.clients.items control.clients turn.client holds turn.stands in
      let its : Holds number turn.client at.work = subst (λ (n : ℕ). Holds n turn.client at.work) (omega arith) at.holds in
      elim (work_cases at.work.left at.work.asks) as (λ _. Rests control number ⊎ (first_with_work control ≡ Some number)) [
        | inl none ↦ inl (record { work = at.work; stands = at.stands; none = none.0; asks = none.1 })
        | inr busy ↦ inr (first_busy flight control holds number turn.client turn.stands turn.below (λ nothing. busy (more_none at.work.left at.work.asks (works_none flight number turn.client at.work its nothing))))
      ]

  -- the rest of a run is its turn and then the rest
  goes : (m : Moment) (all : List Event) → IsRest [] m control all → GoesOn [] (act_events (Of number) m.history control) m (act_control (Of number) m.history control) all
  goes m all rest = elim whose_turn as (λ _. GoesOn [] (act_events (Of number) m.history control) m (act_control (Of number) m.history control) all) [
    | inl idle ↦
        let acts = acts_idle (Of number) m.history control number idle.work (client_of-there number control idle.work idle.stands) idle.none idle.asks in
        subst (λ (events : List Event). GoesOn [] events m (act_control (Of number) m.history control) all) (sym acts.events_are)
        (subst (λ (c : Control). GoesOn [] [] m c all) (sym acts.control_is) (record { later = all; split = refl; rest = rest }))
    | inr first ↦ first_goes_on number m control all first rest
  ]

  -- what refuses the rest refuses this turn, or the rest behind it
  refuses_on : (kept : Kept) (before mid after first : Bool) → mid ≡ (before || first) → IsRefusedBy (client_of (Of number) control) kept control first
      → RestRefuses (kept_by (client_of (Of number) control) kept control) (left_by (client_of (Of number) control) kept control) mid after → RestRefuses kept control before after
  refuses_on kept before mid after first marks refuses rest = elim whose_turn as (λ _. RestRefuses kept control before after) [
    | inl idle ↦
        let who : client_of (Of number) control ≡ Some (number, idle.work) = client_of-there number control idle.work idle.stands in
        let answer = answer_kept kept control in
        let held : kept_by (client_of (Of number) control) kept control ≡ kept = ap (λ (w : Option (ℕ × Work)). kept_by w kept control) who ∙ kept_idle answer idle.work idle.none idle.asks kept in
        let left : left_by (client_of (Of number) control) kept control ≡ control =
        ap (λ (w : Option (ℕ × Work)). left_by w kept control) who
        ∙ ap (λ (w : Work). record { clients = slice_set control.clients number w }) (work_idle answer idle.work idle.none idle.asks (written_kept kept))
        ∙ ap (λ (l : List Work). record { clients = l }) (set_back control.clients number idle.work idle.stands) in
        let none : first ≡ false = refused_idle answer idle.work idle.none idle.asks first (subst (λ (w : Option (ℕ × Work)). IsRefusedBy w kept control first) who refuses) in
        let same : mid ≡ before = marks ∙ ap (λ (b : Bool). before || b) none ∙ sym (or_false before) in
        subst (λ (b : Bool). RestRefuses kept control b after) same
        (subst (λ (c : Control). RestRefuses kept c mid after) left (subst (λ (k : Kept). RestRefuses k (left_by (client_of (Of number) control) kept control) mid after) held rest))
    | inr busy ↦
        let who : client_of (Of number) control ≡ client_of Next control = sym (client_of-Next number control busy) in
        record {
          rest = suc rest.rest;
          ends = subst (λ (w : Option (ℕ × Work)). first_with_work (left_turns (replicate rest.rest Next) (kept_by w kept control) (left_by w kept control)) ≡ None) who rest.ends;
          later = first || rest.later;
          marks = rest.marks ∙ ap (λ (b : Bool). b || rest.later) marks ∙ or_assoc before first rest.later;
          refuses = (
            first,
            rest.later,
            refl,
            subst (λ (w : Option (ℕ × Work)). IsRefusedBy w kept control first) who refuses,
            subst (λ (w : Option (ℕ × Work)). TurnsRefuse (replicate rest.rest Next) (kept_by w kept control) (left_by w kept control) rest.later) who rest.refuses,
          );
        }
  ]

-- a turn that answers is no error
no_fault : (turned : Turned) (fault : RunFault) → ◌≡◌ {A = Result Turned RunFault} (Ok turned) (Err fault) → ⊥
no_fault turned fault same = cc

same_fault : (a b : RunFault) → ◌≡◌ {A = Result Turned RunFault} (Err a) (Err b) → a ≡ b
same_fault a b same = cc

same_end : (a b : RunFault) → ◌≡◌ {A = Result Bool RunFault} (Err a) (Err b) → a ≡ b
same_end a b same = cc

if_ok : (r : Result Bool RunFault) (P Q : Bool → Type 0) → ((refused : Bool) → P refused → Q refused) → IfOk r P → IfOk r Q
if_ok (Ok refused) P Q so holds = so refused holds
if_ok (Err fault) P Q so holds = tt

-- with no statement left there is no next one
idle_asks : {asks : List (Option Statement)} {asked : Option Statement} {later : List (Option Statement)} → asks ≡ [] → asks ≡ asked ∷ later → ⊥
idle_asks none next = cc (none, next)

-- damage that the turn met ends the run
ends_here : (damage : Damage) (fault : RunFault) (was is : Flight) (old new : Outside) → TurnEndsBy damage (Err fault) → ((other : Damage) → fault ≡ Damaged other → (is.store ≡ was.store) × (new.said ≡ old.said))
    → EndsFirst damage (Err fault) was is old new
ends_here damage Disk was is old new ends same = tt
ends_here damage Say was is old new ends same = tt
ends_here damage (Damaged other) was is old new ends same = let here = same other refl in (ends, here.0, here.1)
ends_here damage NoMemory was is old new ends same = tt

-- and damage that it can't meet does not
ends_never : (damage : Damage) (fault : RunFault) (was is : Flight) (old new : Outside) → ((other : Damage) → fault ≡ Damaged other → ⊥) → EndsFirst damage (Err fault) was is old new
ends_never damage Disk was is old new never = tt
ends_never damage Say was is old new never = tt
ends_never damage (Damaged other) was is old new never = absurd (never other refl)
ends_never damage NoMemory was is old new never = tt

-- the first that has something to do is the one whose turn it is, or one behind it
first_cases : (flight : Flight) (number first : ℕ) → HasTurn flight number → IsFirst flight first → (first ≡ number) ⊎ (number < first)
first_cases flight number first turn is = elim (cases_eq first number) as (λ _. (first ≡ number) ⊎ (number < first)) [
  | inl same ↦ inl same
  | inr other ↦
      elim (cases_lt first number) as (λ _. (first ≡ number) ⊎ (number < first)) [
        | inl less ↦ absurd (is.works (turn.below first less))
        | inr more ↦ inr (omega (arith, more, other))
      ]
]

-- damage ends the rest as it ends what is left of it
ends_on : (damage : Damage) (r : Result Bool RunFault) (was mid is : Flight) (old between new : Outside) → mid ≡ was → between.said ≡ old.said → EndsFirst damage r mid is between new → EndsFirst damage r was is old new
ends_on damage (Ok refused) was mid is old between new same said ends = ends
ends_on damage (Err Disk) was mid is old between new same said ends = tt
ends_on damage (Err Say) was mid is old between new same said ends = tt
ends_on damage (Err (Damaged other)) was mid is old between new same said ends = (ends.0, ends.1 ∙ ap (λ (f : Flight). f.store) same, ends.2 ∙ said)
ends_on damage (Err NoMemory) was mid is old between new same said ends = tt

-- a client had a turn, and then the rest is done
module _ (tells : Type 0) (number : ℕ) (turned : Turned) (r : Result Bool RunFault) (was mid is : Flight) (old between new : Outside) (turn : HasTurn was number)
    (first : Acts tells number (Ok turned) was mid old between) (then : Drains tells r mid is between new) where
  abbrev events : Moment → Control → List Event
  events m control = act_events (Of number) m.history control

  abbrev next : Moment → Control → Moment
  next m control = behind (events m control) m

  both_drained : tells → IfOk r (λ refused. (before : List ℕ) (m : Moment) (control : Control) (all : List Event) → IsUnderWay was old before m control → IsRest [] m control all
      → IsAt is.store new before (behind all m) × (refused ≡ (behind all m).refused))
  both_drained t =
      if_ok r (λ refused. (before : List ℕ) (m : Moment) (control : Control) (all : List Event) → IsUnderWay mid between before m control → IsRest [] m control all → IsAt is.store new before (behind all m) × (refused ≡ (behind all m).refused))
      (λ refused. (before : List ℕ) (m : Moment) (control : Control) (all : List Event) → IsUnderWay was old before m control → IsRest [] m control all → IsAt is.store new before (behind all m) × (refused ≡ (behind all m).refused))
      (λ refused so before m control all under rest.
      let on = goes was control under.clients number turn m all rest in
      let last : behind all m ≡ behind on.later (next m control) = ap (λ (es : List Event). behind es m) on.split ∙ behind-append (events m control) on.later m in
      subst (λ (n : Moment). IsAt is.store new before n × (refused ≡ n.refused)) (sym last)
      (so before (next m control) (act_control (Of number) m.history control) on.later (first.turned t before m control under) on.rest))
      (then.drained t)

  both_during : tells → (before : List ℕ) (m : Moment) (control : Control) (all : List Event) → IsUnderWay was old before m control → IsRest [] m control all → During old new (IsLeftBy all before m)
  both_during t before m control all under rest =
      let on = goes was control under.clients number turn m all rest in
      let here = events m control in
      subst (λ (es : List Event). During old new (IsLeftBy es before m)) (sym on.split)
      (goes_on old between new (IsLeftBy (here ++ on.later) before m) (IsLeftBy on.later before (next m control))
      (weakened old between (IsLeftBy here before m) (IsLeftBy (here ++ on.later) before m) (first.during t before m control under) (λ image text left. early here on.later before m image text left))
      (then.during t before (next m control) (act_control (Of number) m.history control) on.later (first.turned t before m control under) on.rest)
      (λ image text left. onward here on.later before m image text left))

  both_kept : IfOk r (λ refused. (kept : Kept) (control : Control) → KeepsRun was kept control → RestRefuses kept control was.refused refused)
  both_kept =
      if_ok r (λ refused. (kept : Kept) (control : Control) → KeepsRun mid kept control → RestRefuses kept control mid.refused refused)
      (λ refused. (kept : Kept) (control : Control) → KeepsRun was kept control → RestRefuses kept control was.refused refused)
      (λ refused so kept control keeps.
      let who = client_of (Of number) control in
      let here = first.kept kept control keeps in
      refuses_on was control keeps.clients number turn kept was.refused mid.refused refused here.1.0 here.1.1 here.1.2
      (so (kept_by who kept control) (left_by who kept control) here.0))
      then.kept

  both_met : tells → (damage : Damage) (other : ℕ) → IsFirst was other → TurnMeets was other (bytes_in old) damage → EndsFirst damage r was is old new
  both_met t damage other busy meets = elim (first_cases was number other turn busy) as (λ _. EndsFirst damage r was is old new) [
    | inl same ↦ absurd (first.met t damage (subst (λ (n : ℕ). TurnMeets was n (bytes_in old) damage) same meets))
    | inr behind ↦
        let still = first.still (first.idle.1 (busy.idle number behind)) in
        let files : between.files ≡ old.files = sym (same_files old.files between.files (still.1 t).0) in
        ends_on damage r was mid is old between new still.0 (still.1 t).1
        (then.met t damage other (subst (λ (f : Flight). IsFirst f other) (sym still.0) busy)
        (subst (λ (files : FileId → FileState). TurnMeets mid other (λ f. (files f).bytes) damage) (sym files) (subst (λ (f : Flight). TurnMeets f other (bytes_in old) damage) (sym still.0) meets)))
  ]

  pub turn_then : Drains tells r was is old new
  turn_then = record {
    drained = both_drained;
    during = both_during;
    kept = both_kept;
    damaged = λ t damage ends. let held = then.damaged t damage ends in (held.0, λ logged. held.1 (first.logged t logged));
    undamaged = λ t before m control damage under ends.
        then.undamaged t before (next m control) (act_control (Of number) m.history control) damage (first.turned t before m control under) ends;
    met = both_met;
    within = then.within;
    counts = counts_then r old between new (first.counts.disk_stays (no_fault turned Disk)) (first.counts.say_stays (no_fault turned Say)) then.counts;
  }

-- a turn ended the run
module _ (tells : Type 0) (number : ℕ) (fault : RunFault) (was is : Flight) (old new : Outside) (turn : HasTurn was number) (within : IsWithin was.store) (first : Acts tells number (Err fault) was is old new) where
  failed_during : tells → (before : List ℕ) (m : Moment) (control : Control) (all : List Event) → IsUnderWay was old before m control → IsRest [] m control all → During old new (IsLeftBy all before m)
  failed_during t before m control all under rest =
      let on = goes was control under.clients number turn m all rest in
      let here = act_events (Of number) m.history control in
      subst (λ (es : List Event). During old new (IsLeftBy es before m)) (sym on.split)
      (weakened old new (IsLeftBy here before m) (IsLeftBy (here ++ on.later) before m) (first.during t before m control under) (λ image text left. early here on.later before m image text left))

  has_met : tells → (damage : Damage) → fault ≡ Damaged damage → TurnHasMet number damage was is old new
  has_met t damage is = first.damaged t damage (ap (λ (f : RunFault). Err f) is)

  held_damage : tells → (damage : Damage) → fault ≡ Damaged damage → IsHeldDamage was.store old damage
  held_damage t damage is = let met = has_met t damage is in meets_held met.meets.request was.store old damage within met.meets.meets

  damaged_now : tells → (damage : Damage) → fault ≡ Damaged damage → IsHeldDamage is.store new damage × (IsLogged was.store old.files → IsLogged is.store new.files)
  damaged_now t damage ends =
      let met = has_met t damage ends in (
        subst (λ (s : Store). IsHeldDamage s new damage) (sym met.same) (damage_kept was.store old new damage met.files (held_damage t damage ends)),
        λ logged. subst (λ (s : Store). IsLogged s new.files) (sym met.same) (logged_kept was.store old.files new.files met.files logged),
      )

  failed_met : tells → (damage : Damage) (other : ℕ) → IsFirst was other → TurnMeets was other (bytes_in old) damage → EndsFirst damage (Err fault) was is old new
  failed_met t damage other busy meets = elim (first_cases was number other turn busy) as (λ _. EndsFirst damage (Err fault) was is old new) [
    | inl same ↦
        ends_here damage fault was is old new (first.met t damage (subst (λ (n : ℕ). TurnMeets was n (bytes_in old) damage) same meets))
        (λ some is_some. let met = has_met t some is_some in (met.same, met.said))
    | inr behind ↦
        ends_never damage fault was is old new
        (λ some is_some. let met = (has_met t some is_some).meets in idle_asks (busy.idle number behind met.client met.is).answered met.next)
  ]

  pub turn_failed : Drains tells (Err fault) was is old new
  turn_failed = record {
    drained = λ t. tt;
    during = failed_during;
    kept = tt;
    damaged = λ t damage ends. damaged_now t damage (same_end fault (Damaged damage) ends);
    undamaged = λ t before m control damage under ends. none_damaged was.store old before m damage under.at (held_damage t damage (same_end fault (Damaged damage) ends));
    met = failed_met;
    within = tt;
    counts = record {
      disk_keeps = first.counts.disk_keeps;
      say_keeps = first.counts.say_keeps;
      disk = λ is. first.counts.disk (ap (λ (f : RunFault). Err f) (same_end fault Disk is));
      say = λ is. first.counts.say (ap (λ (f : RunFault). Err f) (same_end fault Say is));
      disk_stays = λ none. first.counts.disk_stays (λ is. none (ap (λ (f : RunFault). Err f) (same_fault fault Disk is)));
      say_stays = λ none. first.counts.say_stays (λ is. none (ap (λ (f : RunFault). Err f) (same_fault fault Say is)));
    };
  }

-- all clients are idle: nothing is left
pub nothing_left : (tells : Type 0) (flight : Flight) (outside : Outside) (many : ℕ) → length flight.clients.items ≡ many → AreIdle flight many → IsUsable tells flight.store outside
    → (tells → (image : Image) (text : List ℕ) → outside.left_since outside.moment image text → IsLeft outside.files outside.said image text)
    → Drains tells (Ok flight.refused) flight flight outside outside
nothing_left tells flight outside many is idle usable now = record {
  drained = λ t before m control all under rest.
      let none = none_goes_on m control all (all_idle flight control under.clients many is idle) rest in
      subst (λ (es : List Event). IsAt flight.store outside before (behind es m) × (flight.refused ≡ (behind es m).refused)) (sym none) (under.at, under.mark);
  during = λ t before m control all under rest.
      let none = none_goes_on m control all (all_idle flight control under.clients many is idle) rest in
      subst (λ (es : List Event). During outside outside (IsLeftBy es before m)) (sym none)
      (started outside (IsLeftBy [] before m)
      (λ image text left. let here = now t image text left in left_still [] before m image text (moment_left flight.store outside before m usable.within under.at image here.0) (here.1 ∙ under.at.text)));
  kept = λ kept control keeps. record { rest = 0; ends = all_idle flight control keeps.clients many is idle; later = false; marks = or_false flight.refused; refuses = refl };
  damaged = λ t damage ends. absurd (no_error flight.refused (Damaged damage) ends);
  undamaged = λ t before m control damage under ends. no_error flight.refused (Damaged damage) ends;
  met = λ t damage other busy meets.
      absurd (busy.works (idle other (omega (arith, is, slice_get_within flight.clients.items other meets.client meets.is))));
  within = usable.within;
  counts = record {
    disk_keeps = omega arith;
    say_keeps = omega arith;
    disk = λ ends. absurd (no_error flight.refused Disk ends);
    say = λ ends. absurd (no_error flight.refused Say ends);
    disk_stays = λ none. refl;
    say_stays = λ none. refl;
  };
}

-- whatever comes of the rest, comes of all, where turns were had before it
abbrev pub LeadsOn : {S : Type 0} → Type 0 → (S → Outside) → Flight → Flight → S → S → Type 0
LeadsOn {S = S} tells outside was mid old between =
    (r : Result Bool RunFault) (is : Flight) (new : S) → Drains tells r mid is (outside between) (outside new) → Drains tells r was is (outside old) (outside new)

pub leads_next : {S : Type 0} (tells : Type 0) (outside : S → Outside) (number : ℕ) (turned : Turned) (was mid now : Flight) (old between new : S) → LeadsOn tells outside was mid old between → HasTurn mid number
    → Acts tells number (Ok turned) mid now (outside between) (outside new) → LeadsOn tells outside was now old new
leads_next tells outside number turned was mid now old between new leads turn acts = λ r is last then.
    leads r is last (turn_then tells number turned r mid now is (outside between) (outside new) (outside last) turn acts then)
