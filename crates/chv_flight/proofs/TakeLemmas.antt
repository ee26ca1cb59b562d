-- What comes of a statement that is taken: it is answered, or refused, or planned, or memory runs out.
use Rattle.std.proofs.Common.{◌≡◌, ℕ, ◌+◌, ◌-◌, ◌<◌, ◌≤◌, inl, inr, Bool, true, false, not, List, [], ◌∷◌, ◌++◌, length, map, Option, None, Some, Ok, Err, OnOk, refl, sym, ap, subst, ◌∙◌, arith}
use Rattle.std.specs.Prelude.{Result, IsErrOf}
use Rattle.std.proofs.lemmas.List.{append-nil}
use Rattle.chv_ast.specs.declared.refusal.Refusal.{Refusal}
use Rattle.chv_ast.specs.declared.refusal.Refusal.TheVariants.{LimitPassed}
use Rattle.chv_ast.specs.declared.statement.Statement.{Statement}
use Rattle.chv_catalog.specs.Schemas.{Catalog}
use Rattle.chv_commit.specs.Replays.{MAX_ENTRIES, State}
use Rattle.chv_plan.specs.Deliveries.{DeliversAll}
use Rattle.chv_plan.specs.declared.delivery.Delivery.{Delivery as HeldDelivery}
use Rattle.chv_part.specs.declared.damage.Damage.{Damage}
use Rattle.chv_query.specs.Accepted.{catalog_of}
use Rattle.chv_query.specs.Queries.{Asked}
use Rattle.chv_site.specs.During.{During}
use Rattle.chv_site.specs.Images.{Image, IsLeft}
use Rattle.chv_site.specs.Outside.{Outside}
use Rattle.chv_site.proofs.Moments.{started}
use Rattle.chv_store.specs.Calls.{HoldsSame}
use Rattle.chv_store.specs.Stores.{HasRoom, IsTable, IsUsable, IsWithin, state_of}
use Rattle.chv_store.specs.declared.store.Store.{Store}
use Rattle.chv_text.specs.Replies.{refused_line}
use Rattle.chv_types.specs.Steps.{refuse_if}
use Rattle.chv_catalog.proofs.StepLemmas.{refuse_if-Ok}
use Rattle.chv_history.specs.Crashes.{IsLeftBy}
use Rattle.chv_history.specs.Events.{Event, Moment, Plan}
use Rattle.chv_history.specs.Histories.{History}
use Rattle.chv_history.specs.Kept.{Kept, IsRefused}
use Rattle.chv_history.specs.KeptTurns.{kept_taken}
use Rattle.chv_history.specs.Machine.{taken_events}
use Rattle.chv_history.specs.Runs.{answer_events, entries_in}
use Rattle.chv_history.specs.Tasks.{Task, Bring, TellRows, deliveries_to, has_room}
use Rattle.chv_history.proofs.KeptLemmas.{Agree}
use Rattle.chv_history.proofs.RequestLemmas.{or_false}
use Rattle.chv_history.proofs.TurnLemmas.{BringsNothing}
use Rattle.chv_flight.specs.Answers.{Answers, AnswersAs, EndsBy, HasMet, HoldsKept, IsAt, MeetsDamage, Replies, plan_wish, statement_wish, wish_in}
use Rattle.chv_flight.specs.Faults.{CountsRun}
use Rattle.chv_flight.specs.Flights.{left_in}
use Rattle.chv_flight.specs.Rooms.{HasRooms, LacksRoom, deliveries_held}
use Rattle.chv_flight.specs.Takes.{AsksFor, KeepsPlans, TakeEndsBy, Takes, plan_in, take_events, taken_wish, told_of, with_left}
use Rattle.chv_flight.specs.declared.client.Client.{Client}
use Rattle.chv_flight.specs.declared.fault.RunFault.{RunFault}
use Rattle.chv_flight.specs.declared.fault.RunFault.TheVariants.{Disk, Say, Damaged, NoMemory}
use Rattle.chv_flight.specs.declared.take.Taken.{Taken}
use Rattle.chv_flight.proofs.AnswerLemmas.{Asks, entries_held, holds_itself, moment_entries, moment_still, refused_answers, same_kept, same_logged, same_wish}
use Rattle.chv_flight.proofs.EachLemmas.{held-append}
use Rattle.chv_flight.proofs.InsertLemmas.{same_at}
use Rattle.chv_flight.proofs.KeepLemmas.{keeps_on, keeps_same}
use Rattle.chv_flight.proofs.RoomLemmas.{delivers-numbered, delivers-to, has_room-all, has_room-none, held_numbered, room_entries, same_entries}
use Rattle.chv_flight.proofs.TaskLemmas.{IsNoInsert, events_alone, kept_alone, plain_nothing, plain_same, plan_alone, tells_same}

-- faults of results
fault_same : {A : Type 0} (a b : RunFault) → ◌≡◌ {A = Result A RunFault} (Err a) (Err b) → a ≡ b
fault_same {A} a b same = cc

no_fault : {A : Type 0} (x : A) (fault : RunFault) → ◌≡◌ {A = Result A RunFault} (Ok x) (Err fault) → ⊥
no_fault {A} x fault same = absurd (cc same)

counts_told : (r : Result Bool RunFault) (old new : Outside) → CountsRun r old new → CountsRun (told_of r) old new
counts_told (Ok refused) old new counts = record {
  disk_keeps = counts.disk_keeps;
  say_keeps = counts.say_keeps;
  disk = λ err. absurd (no_fault _ Disk err);
  say = λ err. absurd (no_fault _ Say err);
  disk_stays = λ none. counts.disk_stays (λ err. no_fault refused Disk err);
  say_stays = λ none. counts.say_stays (λ err. no_fault refused Say err);
}
counts_told (Err fault) old new counts = record {
  disk_keeps = counts.disk_keeps;
  say_keeps = counts.say_keeps;
  disk = λ err. counts.disk (ap Err (fault_same fault Disk err));
  say = λ err. counts.say (ap Err (fault_same fault Say err));
  disk_stays = λ none. counts.disk_stays (λ err. none (ap Err (fault_same fault Disk err)));
  say_stays = λ none. counts.say_stays (λ err. none (ap Err (fault_same fault Say err)));
}

ends_told : (damage : Damage) (fault : RunFault) → EndsBy damage (Err fault) → TakeEndsBy damage (Err fault)
ends_told damage Disk ends = tt
ends_told damage Say ends = tt
ends_told damage (Damaged other) ends = ends
ends_told damage NoMemory ends = tt

-- where no call was made, no count changes
counts_still : (r : Result Taken RunFault) (now : Outside) → (IsErrOf r Disk → ⊥) → (IsErrOf r Say → ⊥) → CountsRun r now now
counts_still r now no_disk no_say = record {
  disk_keeps = omega arith;
  say_keeps = omega arith;
  disk = λ err. absurd (no_disk err);
  say = λ err. absurd (no_say err);
  disk_stays = λ none. refl;
  say_stays = λ none. refl;
}

-- what is held of the entries
pub kept_agree : (store : Store) (kept : Kept) → HoldsKept store kept → Agree store.schema.catalog.tables (λ table. (kept.states table).entries) (entries_held store)
kept_agree store kept has table first last =
    ap (λ (s : State). s.entries) (sym (has.states table first (omega (arith, last, ap (λ (catalog : Catalog). length catalog.tables) has.catalog))))

module _ (tells : Type 0) (number : ℕ) (clients : List Client) (asked : Option Statement) (was : Store) where
  abbrev Answer : Type 0
  Answer = Result Task Refusal

  -- what is asked for, beside what the store has
  abbrev answer_with : (ℕ → ℕ) → Answer
  answer_with entries = taken_wish clients asked was.schema.catalog entries

  abbrev answer_at : Moment → Answer
  answer_at m = taken_wish clients asked (catalog_of m.history.schema) (entries_in m.history)

  abbrev answer_by : Kept → Answer
  answer_by kept = wish_in (taken_wish clients asked) kept

  -- so it is at a moment, and by what is held
  module _ (Is : Answer → Type 0) (each : (entries : ℕ → ℕ) → Agree was.schema.catalog.tables entries (entries_held was) → Is (answer_with entries)) where
    so_at : (outside : Outside) (before : List ℕ) (m : Moment) → IsWithin was → IsAt was outside before m → Is (answer_at m)
    so_at outside before m within at =
        subst (λ (c : Catalog). Is (taken_wish clients asked c (entries_in m.history))) at.catalog (each (entries_in m.history) (moment_entries was outside before m within at))

    so_by : (kept : Kept) → HoldsKept was kept → Is (answer_by kept)
    so_by kept has =
        subst (λ (c : Catalog). Is (taken_wish clients asked c (λ table. (kept.states table).entries))) has.catalog (each (λ table. (kept.states table).entries) (kept_agree was kept has))

  -- damage is met where rows are asked for
  meets_too : (files : Image) (damage : Damage) → MeetsDamage (statement_wish asked) was files damage → MeetsDamage (taken_wish clients asked) was files damage
  meets_too files damage meets = record {
    query = meets.query;
    asks = tells_same was.schema.catalog (entries_held was) (with_left clients (entries_held was)) asked meets.query meets.asks;
    is = meets.is;
  }

  meets_first : (files : Image) (damage : Damage) → MeetsDamage (taken_wish clients asked) was files damage → MeetsDamage (statement_wish asked) was files damage
  meets_first files damage meets = record {
    query = meets.query;
    asks = tells_same was.schema.catalog (with_left clients (entries_held was)) (entries_held was) asked meets.query meets.asks;
    is = meets.is;
  }

  -- a statement that brings nothing is answered
  module _ (is : Store) (old new : Outside) (within : IsWithin was) (rooms : HasRooms (left_in clients) was)
      (alone : (entries : ℕ → ℕ) → Agree was.schema.catalog.tables entries (entries_held was) → BringsNothing (answer_with entries)) where
    alone_at : (before : List ℕ) (m : Moment) → IsAt was old before m → take_events number clients asked m.history ≡ answer_events number (answer_at m) m.history
    alone_at before m at = events_alone number (answer_at m) m.history (so_at BringsNothing alone old before m within at)

    pub told_takes : (r : Result Bool RunFault) → OnOk r (KeepsPlans was is) → Answers tells number (taken_wish clients asked) r was is old new → Takes tells number clients asked (told_of r) was is old new
    told_takes (Ok refused) keeps answers = record {
      taken = λ tell before m at. subst (λ (es : List Event). AnswersAs is new before refused es m) (sym (alone_at before m at)) (answers.answered tell before m at);
      during = λ tell before m at. subst (λ (es : List Event). During old new (IsLeftBy es before m)) (sym (alone_at before m at)) (answers.during tell before m at);
      kept = λ kept has.
          let both = answers.kept kept has in
          (subst (HoldsKept is) (sym (kept_alone (answer_by kept) kept (so_by BringsNothing alone kept has))) both.0, both.1);
      planned = λ entries agree. subst (DeliversAll is.schema.catalog []) (sym (plan_alone (answer_with entries) (alone entries agree))) tt;
      rooms = subst (λ (l : List HeldDelivery). HasRooms l is) (sym (append-nil (left_in clients))) (λ table some. keeps.rooms table (deliveries_held table (left_in clients)) (rooms table some));
      keeps = keeps;
      logged = answers.logged;
      usable = answers.usable;
      damaged = λ tell damage err. absurd (no_fault _ (Damaged damage) err);
      met = λ tell damage meets. answers.met tell damage (meets_too _ damage meets);
      counts = counts_told (Ok refused) old new answers.counts;
    }
    told_takes (Err fault) keeps answers = record {
      taken = λ tell. tt;
      during = λ tell before m at. subst (λ (es : List Event). During old new (IsLeftBy es before m)) (sym (alone_at before m at)) (answers.during tell before m at);
      kept = tt;
      planned = tt;
      rooms = tt;
      keeps = tt;
      logged = λ tell. tt;
      usable = tt;
      damaged = λ tell damage err.
          let has = answers.damaged tell damage (ap Err (fault_same fault (Damaged damage) err)) in
          record { meets = meets_first _ damage has.meets; same = has.same; files = has.files; said = has.said };
      met = λ tell damage meets. ends_told damage fault (answers.met tell damage (meets_too _ damage meets));
      counts = counts_told (Err fault) old new answers.counts;
    }

  -- so it is with one that is refused
  pub refused_takes : (refuses : Refusal) (r : Result Bool RunFault) (is : Store) (old new : Outside) → IsUsable tells was old → HasRooms (left_in clients) was → HoldsSame was is
      → ((table count : ℕ) → HasRoom count was table → HasRoom count is table) → Asks (taken_wish clients asked) was (Err refuses) → Replies tells (refused_line number refuses) true r old new
      → Takes tells number clients asked (told_of r) was is old new
  refused_takes refuses r is old new usable rooms same kept asks replies =
      told_takes is old new usable.within rooms (λ entries agree. subst BringsNothing (sym (asks entries agree)) tt) r (keeps_on r was is (keeps_same was is same kept))
      (refused_answers tells number (taken_wish clients asked) refuses r was is old new usable same asks replies)

  -- and with each statement but an INSERT
  pub plain_takes : (r : Result Bool RunFault) (is : Store) (old new : Outside) → IsUsable tells was old → HasRooms (left_in clients) was → IsNoInsert asked → OnOk r (KeepsPlans was is)
      → Answers tells number (statement_wish asked) r was is old new → Takes tells number clients asked (told_of r) was is old new
  plain_takes r is old new usable rooms none keeps answers =
      told_takes is old new usable.within rooms (λ entries agree. plain_nothing was.schema.catalog (with_left clients entries) asked none) r keeps
      (same_wish tells number (statement_wish asked) (taken_wish clients asked) r was is old new (λ entries. plain_same was.schema.catalog entries (with_left clients entries) asked none) answers)

  -- there was no memory, before any call
  pub nothing_takes : (is : Store) (now : Outside) → IsWithin was → (tells → (image : Image) (text : List ℕ) → now.left_since now.moment image text → IsLeft now.files now.said image text)
      → Takes tells number clients asked (Err NoMemory) was is now now
  nothing_takes is now within only_now = record {
    taken = λ tell. tt;
    during = λ tell before m at. moment_still was now now before (take_events number clients asked m.history) m within at (started now (IsLeft now.files now.said) (only_now tell));
    kept = tt;
    planned = tt;
    rooms = tt;
    keeps = tt;
    logged = λ tell. tt;
    usable = tt;
    damaged = λ tell damage err. absurd (cc (fault_same NoMemory (Damaged damage) err));
    met = λ tell damage meets. tt;
    counts = counts_still (Err NoMemory) now (λ err. absurd (cc (fault_same NoMemory Disk err))) (λ err. absurd (cc (fault_same NoMemory Say err)));
  }

-- deliveries, by what is held of them, beside others
module _ (store : Store) (left held : List HeldDelivery) (plan : Plan) (delivers : DeliversAll store.schema.catalog held plan) where
  abbrev with_others : (ℕ → ℕ) → ℕ → ℕ
  with_others entries table = entries table + deliveries_held table left

  -- they go to tables that stand
  stands : (table : ℕ) → 1 ≤ deliveries_held table held → IsTable store table
  stands table some =
      let numbered = held_numbered (length store.schema.catalog.tables) held table (delivers-numbered store.schema.catalog held plan delivers) some in
      record { first = numbered.0; last = numbered.1 }

  held_of : (table : ℕ) → 1 ≤ deliveries_to table plan → 1 ≤ deliveries_held table held
  held_of table some = omega (arith, some, delivers-to store.schema.catalog held plan table delivers)

  -- they are planned where each table to which one goes has room for all
  rooms_ask : (mid : Store) → HoldsSame store mid → HasRooms (left ++ held) mid → (entries : ℕ → ℕ) → Agree store.schema.catalog.tables entries (entries_held store)
      → plan_wish plan store.schema.catalog (with_others entries) ≡ Ok (Bring plan)
  rooms_ask mid same rooms entries agree =
      let room : (table : ℕ) → 1 ≤ deliveries_to table plan → with_others entries table + deliveries_to table plan ≤ MAX_ENTRIES =
      λ table some.
      let there = held_of table some in
      let is = stands table there in
      let all = held-append table left held in
      omega (
        arith,
        agree table is.first is.last,
        same_entries store mid table same,
        delivers-to store.schema.catalog held plan table delivers,
        all,
        room_entries mid table (deliveries_held table (left ++ held)) (rooms table (omega (arith, there, all))),
      ) in
      ap (λ (b : Bool). refuse_if (not b) LimitPassed (Ok (Bring plan))) (has_room-all (with_others entries) plan room)

  -- and refused where one has none
  lacks_ask : LacksRoom left held store → (entries : ℕ → ℕ) → Agree store.schema.catalog.tables entries (entries_held store) → plan_wish plan store.schema.catalog (with_others entries) ≡ Err LimitPassed
  lacks_ask lacks entries agree =
      let many = delivers-to store.schema.catalog held plan lacks.table delivers in
      let is = stands lacks.table lacks.some in
      ap (λ (b : Bool). refuse_if (not b) LimitPassed (Ok (Bring plan)))
      (has_room-none (with_others entries) plan lacks.table (omega (arith, lacks.some, many)) (omega (arith, lacks.more, many, agree lacks.table is.first is.last)))

-- an INSERT is planned
module _ (tells : Type 0) (number : ℕ) (clients : List Client) (asked : Option Statement) (was mid : Store) (held : List HeldDelivery) (all : Plan) (delivers : DeliversAll was.schema.catalog held all) (asks : AsksFor was.schema.catalog asked all) where
  -- or it is refused for want of room
  pub lacks_takes : (r : Result Bool RunFault) (old new : Outside) → IsUsable tells was old → HasRooms (left_in clients) was → HoldsSame was mid → ((table count : ℕ) → HasRoom count was table → HasRoom count mid table)
      → LacksRoom (left_in clients) held was → Replies tells (refused_line number LimitPassed) true r old new → Takes tells number clients asked (told_of r) was mid old new
  lacks_takes r old new usable rooms same kept lacks replies =
      refused_takes tells number clients asked was LimitPassed r mid old new usable rooms same kept (λ entries agree. asks (with_left clients entries) ∙ lacks_ask was (left_in clients) held all delivers lacks entries agree) replies

  pub planned_takes : (now : Outside) → IsUsable tells was now → HoldsSame was mid → ((table count : ℕ) → HasRoom count was table → HasRoom count mid table) → HasRooms (left_in clients ++ held) mid
      → (tells → (image : Image) (text : List ℕ) → now.left_since now.moment image text → IsLeft now.files now.said image text)
      → Takes tells number clients asked (Ok (record { refused = false; plan = held })) was mid now now
  planned_takes now usable same kept rooms only_now =
      let brings : (entries : ℕ → ℕ) → Agree was.schema.catalog.tables entries (entries_held was) → taken_wish clients asked was.schema.catalog entries ≡ Ok (Bring all) =
      λ entries agree. asks (with_left clients entries) ∙ rooms_ask was (left_in clients) held all delivers mid same rooms entries agree in
      let Is : Result Task Refusal → Type 0 = λ (t : Result Task Refusal). t ≡ Ok (Bring all) in
      let keeps = keeps_same was mid same kept in
      record {
        taken = λ tell before m at.
            subst (λ (t : Result Task Refusal). AnswersAs mid now before false (taken_events number t m.history) m) (sym (so_at tells number clients asked was Is brings now before m usable.within at))
            (record { at = same_at was mid now before m same at; mark = or_false m.refused });
        during = λ tell before m at. moment_still was now now before (take_events number clients asked m.history) m usable.within at (started now (IsLeft now.files now.said) (only_now tell));
        kept = λ kept has.
            subst (λ (t : Result Task Refusal). HoldsKept mid (kept_taken t kept) × IsRefused t false) (sym (so_by tells number clients asked was Is brings kept has)) (same_kept was mid kept same has, refl);
        planned = λ entries agree. subst (λ (t : Result Task Refusal). DeliversAll mid.schema.catalog held (plan_in t)) (sym (brings entries agree)) (keeps.plans held all delivers);
        rooms = rooms;
        keeps = keeps;
        logged = λ tell logged. same_logged was mid now.files now.files same (λ f. refl) logged;
        usable = record { within = same.within; placed = λ tell. same.placed now.files (usable.placed tell) };
        damaged = λ tell damage err. absurd (no_fault _ (Damaged damage) err);
        met = λ tell damage meets.
            let room = refuse_if-Ok (not (has_room all (entries_held was))) LimitPassed (Ok (Bring all)) (TellRows meets.query) (sym (asks (entries_held was)) ∙ meets.asks) in
            absurd (cc room.1);
        counts = counts_still (Ok (record { refused = false; plan = held })) now (λ err. no_fault _ Disk err) (λ err. no_fault _ Say err);
      }
