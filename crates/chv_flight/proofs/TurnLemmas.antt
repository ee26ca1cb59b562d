-- What a turn does that takes a statement, and one that finds nothing to do.
use Rattle.std.proofs.Common.{◌≡◌, ◌≢◌, ℕ, zero, suc, ◌+◌, ◌-◌, ◌<◌, ◌≤◌, Bool, true, false, ◌||◌, List, [], ◌∷◌, ◌++◌, length, drop, map, Option, None, Some, Ok, Err, slice_get, slice_set, refl, sym, ap, subst, ◌∙◌, arith}
use Rattle.std.specs.Prelude.{Result, IsErrOf}
use Rattle.std.specs.List.{All, Contains}
use Rattle.std.proofs.Math.Path.{fun_ext}
use Rattle.std.specs.declared.alloc.Global.{Global}
use Rattle.std.specs.declared.vec.Vec.{Vec}
use Rattle.std.proofs.lemmas.List.Elements.{All-cons, All-contains, All-head, All-nil, All-tail, All-weaker}
use Rattle.chv_ast.specs.declared.refusal.Refusal.{Refusal}
use Rattle.chv_ast.specs.declared.statement.Statement.{Statement}
use Rattle.chv_catalog.specs.Schemas.{Catalog}
use Rattle.chv_lex.specs.Scripts.{IsPieceOf}
use Rattle.chv_lex.specs.declared.piece.Piece.{Piece}
use Rattle.chv_plan.specs.Deliveries.{DeliversAll}
use Rattle.chv_plan.specs.declared.delivery.Delivery.{Delivery as HeldDelivery}
use Rattle.chv_part.specs.declared.damage.Damage.{Damage}
use Rattle.chv_query.proofs.GrowthLemmas.{All-at}
use Rattle.chv_query.specs.Accepted.{catalog_of}
use Rattle.chv_site.specs.During.{During}
use Rattle.chv_site.specs.Images.{Image, IsLeft}
use Rattle.chv_site.specs.Outside.{Outside, bytes_in}
use Rattle.chv_site.proofs.Moments.{started}
use Rattle.chv_store.specs.Stores.{HasRoom}
use Rattle.chv_store.specs.declared.store.Store.{Store}
use Rattle.chv_history.specs.Crashes.{IsLeftBy}
use Rattle.chv_history.specs.Events.{Event, Moment, Plan, behind}
use Rattle.chv_history.specs.Kept.{Kept, IsRefused, entries_kept}
use Rattle.chv_history.specs.KeptTurns.{IsRefusedBy, IsStatementRefused, IsTurnRefused, answer_kept, kept_by, kept_statement, kept_taken, kept_turn, left_by, written_kept}
use Rattle.chv_history.specs.Machine.{Of, Client as Work, Control, act_control, act_events, answer_in, behind_answer, behind_delivery, behind_statement, client_of, deliveries_left, with_planned}
use Rattle.chv_history.specs.Runs.{entries_in}
use Rattle.chv_history.specs.Script.{Request, of_client, request_of, requests_in}
use Rattle.chv_history.specs.Tasks.{Task, deliveries_to, task_of}
use Rattle.chv_history.proofs.RequestLemmas.{or_false}
use Rattle.chv_history.proofs.TurnLemmas.{Acts as TurnActs, acts_idle, acts_taken, client_of-there, with_client}
use Rattle.chv_flight.specs.Answers.{AnswersAs, HoldsKept, IsAt, MeetsDamage, request_wish, statement_wish, wish_in}
use Rattle.chv_flight.specs.Faults.{CountsRun}
use Rattle.chv_flight.specs.Flights.{HoldsControl, HoldsEach, HoldsInsert, HoldsWork, IsReady, IsSound, IsUnderWay, KeepsRun, asks_behind, left_in, left_of}
use Rattle.chv_flight.specs.Rooms.{HasRooms, deliveries_held}
use Rattle.chv_flight.specs.Takes.{KeepsPlans, TakeEndsBy, Takes, TakesPiece, plan_in, take_events, taken_wish, with_left}
use Rattle.chv_flight.specs.Turns.{Acts, HasDelivery, HasNothing, IsIdle, Moves, TurnEndsBy, TurnHasMet, TurnMeets}
use Rattle.chv_flight.specs.declared.client.Client.{Client}
use Rattle.chv_flight.specs.declared.fault.RunFault.{RunFault}
use Rattle.chv_flight.specs.declared.fault.RunFault.TheVariants.{Disk, Say, Damaged, NoMemory}
use Rattle.chv_flight.specs.declared.flight.Flight.{Flight}
use Rattle.chv_flight.specs.declared.take.Taken.{Taken}
use Rattle.chv_flight.specs.declared.turned.Turned.{Turned}
use Rattle.chv_flight.specs.declared.turned.Turned.TheVariants.{Moved, Idle}
use Rattle.chv_flight.proofs.AnswerLemmas.{entries_held, moment_entries, moment_still}
use Rattle.chv_flight.proofs.EachLemmas.{WorkAt, control-left, each-at, each-set, held-append, left-beside}
use Rattle.chv_flight.proofs.PlanLemmas.{delivers-length}
use Rattle.chv_flight.proofs.TakeLemmas.{kept_agree}
use Rattle.chv_flight.proofs.TaskLemmas.{behind_is}

-- a list of which one item is another
all_set : {A : Type 0} (P : A → Type 0) (xs : List A) (place : ℕ) (x : A) → All P xs → P x → All P (slice_set xs place x)
all_set {A} P [] place x all is = All-nil P
all_set {A} P (first ∷ xs) zero x all is = All-cons P x xs is (All-tail P first xs all)
all_set {A} P (first ∷ xs) (suc place) x all is = All-cons P first (slice_set xs place x) (All-head P first xs all) (all_set P xs place x (All-tail P first xs all) is)

length_set : {A : Type 0} (xs : List A) (place : ℕ) (x : A) → length (slice_set xs place x) ≡ length xs
length_set {A} [] place x = refl
length_set {A} (first ∷ xs) zero x = refl
length_set {A} (first ∷ xs) (suc place) x = ap suc (length_set xs place x)

set_there : {A : Type 0} (xs : List A) (place : ℕ) (old new now : A) → slice_get xs place ≡ Some old → slice_get (slice_set xs place new) place ≡ Some now → now ≡ new
set_there {A} [] place old new now was is = absurd (cc was)
set_there {A} (first ∷ xs) zero old new now was is = cc
set_there {A} (first ∷ xs) (suc place) old new now was is = set_there xs place old new now was is

set_other : {A : Type 0} (xs : List A) (place other : ℕ) (new : A) → other ≢ place → slice_get (slice_set xs place new) other ≡ slice_get xs other
set_other {A} [] place other new apart = refl
set_other {A} (first ∷ xs) zero zero new apart = absurd (apart refl)
set_other {A} (first ∷ xs) zero (suc other) new apart = refl
set_other {A} (first ∷ xs) (suc place) zero new apart = refl
set_other {A} (first ∷ xs) (suc place) (suc other) new apart = set_other xs place other new (λ same. apart (ap suc same))

set_back : {A : Type 0} (xs : List A) (place : ℕ) (x : A) → slice_get xs place ≡ Some x → slice_set xs place x ≡ xs
set_back {A} [] place x is = absurd (cc is)
set_back {A} (first ∷ xs) zero x is = let same : x ≡ first = cc is in ap (λ (a : A). a ∷ xs) same
set_back {A} (first ∷ xs) (suc place) x is = ap (λ (l : List A). first ∷ l) (set_back xs place x is)

one_there : {A : Type 0} (found : Option A) (one two : A) → found ≡ Some one → found ≡ Some two → one ≡ two
one_there {A} found one two first second = cc

-- a plan of which nothing is held has no deliveries
delivers_none : (catalog : Catalog) (held : List HeldDelivery) (plan : Plan) → held ≡ [] → DeliversAll catalog held plan → plan ≡ []
delivers_none catalog [] [] none delivers = refl
delivers_none catalog [] (d ∷ plan) none delivers = absurd delivers
delivers_none catalog (first ∷ held) plan none delivers = absurd (cc none)

-- a fault of a turn
turn_fault : {A B : Type 0} (a b : RunFault) → ◌≡◌ {A = Result A RunFault} (Err a) (Err b) → ◌≡◌ {A = Result B RunFault} (Err a) (Err b)
turn_fault {A} {B} a b same = let is : a ≡ b = cc in ap Err is

no_turn_fault : {A : Type 0} (x : A) (fault : RunFault) → ◌≡◌ {A = Result A RunFault} (Ok x) (Err fault) → ⊥
no_turn_fault {A} x fault same = absurd (cc same)

counts_turn : (taken : Taken) (old new : Outside) → CountsRun {T = Taken} (Ok taken) old new → CountsRun {T = Turned} (Ok Moved) old new
counts_turn taken old new counts = record {
  disk_keeps = counts.disk_keeps;
  say_keeps = counts.say_keeps;
  disk = λ err. absurd (no_turn_fault Moved Disk err);
  say = λ err. absurd (no_turn_fault Moved Say err);
  disk_stays = λ none. counts.disk_stays (λ err. no_turn_fault taken Disk err);
  say_stays = λ none. counts.say_stays (λ err. no_turn_fault taken Say err);
}

counts_ended : (fault : RunFault) (old new : Outside) → CountsRun {T = Taken} (Err fault) old new → CountsRun {T = Turned} (Err fault) old new
counts_ended fault old new counts = record {
  disk_keeps = counts.disk_keeps;
  say_keeps = counts.say_keeps;
  disk = λ err. counts.disk (turn_fault fault Disk err);
  say = λ err. counts.say (turn_fault fault Say err);
  disk_stays = λ none. counts.disk_stays (λ err. none (turn_fault fault Disk err));
  say_stays = λ none. counts.say_stays (λ err. none (turn_fault fault Say err));
}

counts_idle : (turned : Turned) (now : Outside) → CountsRun {T = Turned} (Ok turned) now now
counts_idle turned now = record {
  disk_keeps = omega arith;
  say_keeps = omega arith;
  disk = λ err. absurd (no_turn_fault turned Disk err);
  say = λ err. absurd (no_turn_fault turned Say err);
  disk_stays = λ none. refl;
  say_stays = λ none. refl;
}

turn_ends : (damage : Damage) (fault : RunFault) → TakeEndsBy damage (Err fault) → TurnEndsBy damage (Err fault)
turn_ends damage Disk ends = tt
turn_ends damage Say ends = tt
turn_ends damage (Damaged other) ends = ends
turn_ends damage NoMemory ends = tt

-- the client whose turn it is, which has no delivery left
module _ (number : ℕ) (was : Flight) (client : Client) (stands : slice_get was.clients.items number ≡ Some client) (delivered : left_of client ≡ []) where
  abbrev catalog_was : Catalog
  catalog_was = was.store.schema.catalog

  abbrev asks_are : List (Option Statement)
  asks_are = asks_behind was.script was.pieces number client.place

  -- what it has to do
  record Has (control : Control) : Type 0 where
    pub work : Work
    pub there : slice_get control.clients number ≡ Some work
    pub none : work.left ≡ []
    pub asks : work.asks ≡ asks_are

  has_work : (control : Control) → HoldsControl was control → Has control
  has_work control holds =
      let at = each-at (HoldsWork was.script was.pieces catalog_was) 0 number was.clients.items control.clients client holds stands in
      let is : HoldsWork was.script was.pieces catalog_was number client at.work = subst (λ (n : ℕ). HoldsWork was.script was.pieces catalog_was n client at.work) (omega arith) at.holds in
      record { work = at.work; there = at.stands; none = delivers_none catalog_was (left_of client) at.work.left delivered is.insert.left; asks = is.asks }

  -- what is held behind its turn, by what it asks for
  abbrev KeptBy : Flight → Kept → Control → Option (ℕ × Work) → Type 0
  KeptBy is kept control found =
      KeepsRun is (kept_by found kept control) (left_by found kept control) × ((refused : Bool) × (is.refused ≡ (was.refused || refused)) × IsRefusedBy found kept control refused)

  abbrev KeptOf : Flight → Kept → Control → Work → List (Option Statement) → Type 0
  KeptOf is kept control work asks =
      KeepsRun is (kept_statement (answer_kept kept control) asks kept) (with_client control number (behind_statement (answer_kept kept control) asks work))
      × ((refused : Bool) × (is.refused ≡ (was.refused || refused)) × IsStatementRefused (answer_kept kept control) asks refused)

  kept_from : (is : Flight) (kept : Kept) (control : Control) (has : Has control) (asks : List (Option Statement)) → has.work.asks ≡ asks → KeptOf is kept control has.work asks → KeptBy is kept control (client_of (Of number) control)
  kept_from is kept control has asks same of =
      let here : KeptOf is kept control has.work has.work.asks = subst (KeptOf is kept control has.work) (sym same) of in
      let turn : KeptBy is kept control (Some (number, has.work)) =
      subst
      (λ (left : Plan).
      KeepsRun is (kept_turn (answer_kept kept control) left has.work kept) (with_client control number (behind_delivery (answer_kept kept control) (written_kept kept) left has.work))
      × ((refused : Bool) × (is.refused ≡ (was.refused || refused)) × IsTurnRefused (answer_kept kept control) left has.work refused))
      (sym has.none) here in
      subst (KeptBy is kept control) (sym (client_of-there number control has.work has.there)) turn

  no_delivery : HasDelivery was number → ⊥
  no_delivery some = some.2 (subst (λ (c : Client). left_of c ≡ []) (one_there (slice_get was.clients.items number) client some.0 stands some.1) delivered)

  -- nothing is left for it to do
  module _ (nothing : asks_are ≡ []) where
    is_idle : IsIdle was number
    is_idle other is =
        subst (λ (c : Client). HasNothing was number c) (one_there (slice_get was.clients.items number) client other stands is) (record { delivered = delivered; answered = nothing })

    unmet : (files : Image) (damage : Damage) → TurnMeets was number files damage → ⊥
    unmet files damage meets =
        let same : meets.client ≡ client = one_there (slice_get was.clients.items number) meets.client client meets.is stands in
        let none : asks_behind was.script was.pieces number meets.client.place ≡ [] = subst (λ (c : Client). asks_behind was.script was.pieces number c.place ≡ []) (sym same) nothing in
        absurd (cc (sym none ∙ meets.next))

    pub idle_acts : (tells : Type 0) (now : Outside) → IsReady tells was now → (tells → (image : Image) (text : List ℕ) → now.left_since now.moment image text → IsLeft now.files now.said image text)
        → Acts tells number (Ok Idle) was was now now
    idle_acts tells now ready only_now = record {
      turned = λ tell before m control under.
          let has = has_work control under.clients in
          let acts = acts_idle (Of number) m.history control number has.work (client_of-there number control has.work has.there) has.none (has.asks ∙ nothing) in
          subst (λ (events : List Event). IsUnderWay was now before (behind events m) (act_control (Of number) m.history control)) (sym acts.events_are)
          (subst (λ (c : Control). IsUnderWay was now before m c) (sym acts.control_is) under);
      during = λ tell before m control under.
          moment_still was.store now now before (act_events (Of number) m.history control) m ready.usable.within under.at (started now (IsLeft now.files now.said) (only_now tell));
      idle = (λ same. is_idle, λ idle. refl);
      kept = λ kept control keeps.
          let has = has_work control keeps.clients in
          let back : with_client control number has.work ≡ control = ap (λ (works : List Work). record { clients = works }) (set_back control.clients number has.work has.there) in
          kept_from was kept control has [] (has.asks ∙ nothing) (subst (λ (c : Control). KeepsRun was kept c) (sym back) keeps, (false, or_false was.refused, refl));
      logged = λ tell logged. logged;
      ready = ready;
      delivers = λ some. absurd (no_delivery some);
      damaged = λ tell damage err. absurd (no_turn_fault Idle (Damaged damage) err);
      met = λ tell damage meets. absurd (unmet _ damage meets);
      counts = counts_idle Idle now;
      moved = λ same. absurd (cc same);
      still = λ same. (refl, λ tell. (λ file. refl, refl));
    }

-- a statement is taken
module _ (number behind_at : ℕ) (was : Flight) (piece : Piece) (takes : TakesPiece was number piece behind_at) where
  abbrev client : Client
  client = takes.client

  abbrev clients : List Client
  clients = was.clients.items

  abbrev asked : Option Statement
  asked = (request_of was.script piece).statement

  abbrev later : List (Option Statement)
  later = asks_behind was.script was.pieces number behind_at

  next_is : asks_behind was.script was.pieces number client.place ≡ asked ∷ later
  next_is = ap (λ (pieces : List Piece). map (λ (request : Request). request.statement) (requests_in was.script pieces)) takes.next

  works : (control : Control) → HoldsControl was control → Has number was client takes.is takes.delivered control
  works control holds = has_work number was client takes.is takes.delivered control holds

  asks_next : (control : Control) (holds : HoldsControl was control) → (works control holds).work.asks ≡ asked ∷ later
  asks_next control holds = (works control holds).asks ∙ next_is

  -- the answer at a moment, and by what is held
  abbrev task_at : Moment → Result Task Refusal
  task_at m = taken_wish clients asked (catalog_of m.history.schema) (entries_in m.history)

  task_same : (m : Moment) (control : Control) → HoldsControl was control → answer_in m.history control asked ≡ task_at m
  task_same m control holds =
      ap (λ (entries : ℕ → ℕ). task_of (catalog_of m.history.schema) entries asked) (fun_ext (λ (table : ℕ). ap (λ (n : ℕ). entries_in m.history table + n) (control-left was control holds table)))

  kept_same : (kept : Kept) (control : Control) → HoldsControl was control → answer_kept kept control asked ≡ wish_in (taken_wish clients asked) kept
  kept_same kept control holds =
      ap (λ (entries : ℕ → ℕ). task_of kept.catalog entries asked) (fun_ext (λ (table : ℕ). ap (λ (n : ℕ). entries_kept kept table + n) (control-left was control holds table)))

  -- so it does this
  taken_acts : (m : Moment) (control : Control) → HoldsControl was control
      → TurnActs (Of number) m.history control (take_events number clients asked m.history) (with_client control number (behind_answer later (task_at m)))
  taken_acts m control holds =
      let has = works control holds in
      acts_taken (Of number) m.history control number has.work (client_of-there number control has.work has.there) has.none asked later (asks_next control holds) (task_at m) (task_same m control holds)

  -- damage that is met
  met_first : (store : Store) (old new : Outside) (damage : Damage) → MeetsDamage (statement_wish asked) was.store (bytes_in old) damage → TurnMeets was number (bytes_in old) damage
  met_first store old new damage meets = record {
    client = client;
    is = takes.is;
    delivered = takes.delivered;
    request = request_of was.script piece;
    later = requests_in was.script (of_client (drop behind_at was.pieces) number);
    next = next_is;
    meets = meets;
  }

  met_so : (files : Image) (damage : Damage) → TurnMeets was number files damage → MeetsDamage (statement_wish asked) was.store files damage
  met_so files damage meets =
      let same : meets.client ≡ client = one_there (slice_get clients number) meets.client client meets.is takes.is in
      let asks : meets.request.statement ∷ map (λ (other : Request). other.statement) meets.later ≡ asked ∷ later =
      sym meets.next ∙ ap (λ (c : Client). asks_behind was.script was.pieces number c.place) same ∙ next_is in
      let first : meets.request.statement ≡ asked = cc asks in
      subst (λ (s : Option Statement). MeetsDamage (statement_wish s) was.store files damage) first meets.meets

  never : HasDelivery was number → ⊥
  never = no_delivery number was client takes.is takes.delivered

  module _ (tells : Type 0) (old new : Outside) (ready : IsReady tells was old) (store : Store) where
    -- the call ends by a fault
    pub ended_acts : (fault : RunFault) → Takes tells number clients asked (Err fault) was.store store old new → Acts tells number (Err fault) was (record was { store = store }) old new
    ended_acts fault made = record {
      turned = λ tell. tt;
      during = λ tell before m control under. subst (λ (events : List Event). During old new (IsLeftBy events before m)) (sym (taken_acts m control under.clients).events_are) (made.during tell before m under.at);
      idle = tt;
      kept = tt;
      logged = λ tell. tt;
      ready = tt;
      delivers = λ some. absurd (never some);
      damaged = λ tell damage err.
          let has = made.damaged tell damage (turn_fault fault (Damaged damage) err) in
          record { meets = met_first store old new damage has.meets; same = has.same; files = has.files; said = has.said };
      met = λ tell damage meets. turn_ends damage fault (made.met tell damage (met_so (bytes_in old) damage meets));
      counts = counts_ended fault old new made.counts;
      moved = tt;
      still = tt;
    }

    module _ (taken : Taken) (made : Takes tells number clients asked (Ok taken) was.store store old new) (held : Vec Client Global) (mark : Bool) (mark_is : mark ≡ (was.refused || taken.refused)) where
      abbrev next_client : Client
      next_client = record { place = behind_at; plan = taken.plan; made = 0; written = 0 }

      abbrev flight : Flight
      flight = record was { store = store; clients = held; refused = mark }

      module _ (set : held.items ≡ slice_set clients number next_client) where
        -- what the clients have to do
        control_taken : (control : Control) → HoldsControl was control → (task : Result Task Refusal) → DeliversAll store.schema.catalog taken.plan (plan_in task) → HoldsControl flight (with_client control number (behind_answer later task))
        control_taken control holds task planned =
            let P = HoldsWork was.script was.pieces was.store.schema.catalog in
            let Q = HoldsWork was.script was.pieces store.schema.catalog in
            let work = behind_answer later task in
            let is = behind_is later task in
            let insert : HoldsInsert store.schema.catalog next_client work = record {
              left = subst (DeliversAll store.schema.catalog taken.plan) (sym is.left_are) planned;
              many = λ some. ap length is.plan_is ∙ delivers-length store.schema.catalog taken.plan (plan_in task) planned;
              written = λ some. is.none_written;
            } in
            let now : Q number next_client work = record { asks = is.asks_are; insert = insert } in
            subst (λ (items : List Client). HoldsEach Q 0 items (slice_set control.clients number work)) (sym set)
            (each-set P Q 0 number clients control.clients client next_client work
            (λ n c w has. record { asks = has.asks; insert = record { left = made.keeps.plans (left_of c) w.left has.insert.left; many = has.insert.many; written = has.insert.written } })
            takes.is holds (subst (λ (n : ℕ). Q n next_client work) (omega arith) now))

        planned_at : (before : List ℕ) (m : Moment) → IsAt was.store old before m → DeliversAll store.schema.catalog taken.plan (plan_in (task_at m))
        planned_at before m at =
            subst (λ (c : Catalog). DeliversAll store.schema.catalog taken.plan (plan_in (taken_wish clients asked c (entries_in m.history)))) at.catalog
            (made.planned (entries_in m.history) (moment_entries was.store old before m ready.usable.within at))

        planned_by : (kept : Kept) → HoldsKept was.store kept → DeliversAll store.schema.catalog taken.plan (plan_in (wish_in (taken_wish clients asked) kept))
        planned_by kept has =
            subst (λ (c : Catalog). DeliversAll store.schema.catalog taken.plan (plan_in (taken_wish clients asked c (λ table. (kept.states table).entries)))) has.catalog
            (made.planned (λ table. (kept.states table).entries) (kept_agree was.store kept has))

        turned_at : tells → (before : List ℕ) (m : Moment) (control : Control) → IsUnderWay was old before m control
            → IsUnderWay flight new before (behind (act_events (Of number) m.history control) m) (act_control (Of number) m.history control)
        turned_at tell before m control under =
            let acts = taken_acts m control under.clients in
            let so = made.taken tell before m under.at in
            subst (λ (events : List Event). IsUnderWay flight new before (behind events m) (act_control (Of number) m.history control)) (sym acts.events_are)
            (subst (λ (c : Control). IsUnderWay flight new before (behind (take_events number clients asked m.history) m) c) (sym acts.control_is)
            (record {
              at = so.at;
              clients = control_taken control under.clients (task_at m) (planned_at before m under.at);
              mark = mark_is ∙ ap (λ (b : Bool). b || taken.refused) under.mark ∙ sym so.mark;
            }))

        kept_at : (kept : Kept) (control : Control) → KeepsRun was kept control → KeptBy number was client takes.is takes.delivered flight kept control (client_of (Of number) control)
        kept_at kept control keeps =
            let has = works control keeps.clients in
            let task = wish_in (taken_wish clients asked) kept in
            let so = made.kept kept keeps.store in
            let run : KeepsRun flight (kept_taken task kept) (with_client control number (behind_answer later task)) = record {
              store = so.0;
              clients = control_taken control keeps.clients task (planned_by kept keeps.store);
            } in
            kept_from number was client takes.is takes.delivered flight kept control has (asked ∷ later) (asks_next control keeps.clients)
            (subst
            (λ (t : Result Task Refusal).
            KeepsRun flight (kept_taken t kept) (with_client control number (behind_answer later t)) × ((refused : Bool) × (mark ≡ (was.refused || refused)) × IsRefused t refused))
            (sym (kept_same kept control keeps.clients)) (run, (taken.refused, mark_is, so.1)))

        -- the flight may go on
        sound_next : All (IsSound was.pieces store.schema.catalog) held.items
        sound_next =
            let Is = IsSound was.pieces store.schema.catalog in
            let each = All-weaker (IsSound was.pieces was.store.schema.catalog) Is
            (λ c is. record { place = is.place; made = is.made; written = is.written; planned = (is.planned.0, made.keeps.plans (left_of c) is.planned.0 is.planned.1) }) clients ready.clients in
            let plan = made.planned (entries_held was.store) (λ table first last. refl) in
            subst (All Is) (sym set)
            (all_set Is clients number next_client each (record { place = takes.within; made = omega arith; written = omega arith; planned = (plan_in (taken_wish clients asked was.store.schema.catalog (entries_held was.store)), plan) }))

        rooms_next : HasRooms (left_in held.items) store
        rooms_next table some =
            let beside = left-beside number clients client takes.is in
            let none : deliveries_held table (left_of client) ≡ 0 = ap (deliveries_held table) takes.delivered in
            let all = held-append table (left_in clients) taken.plan in
            let now : deliveries_held table (left_in held.items) ≡ deliveries_held table taken.plan + beside.others table =
            ap (λ (items : List Client). deliveries_held table (left_in items)) set ∙ beside.behind next_client table in
            let same : deliveries_held table (left_in clients ++ taken.plan) ≡ deliveries_held table (left_in held.items) = omega (arith, all, now, none, beside.before table) in
            subst (λ (n : ℕ). HasRoom n store table) same (made.rooms table (omega (arith, some, same)))

        moves : Moves number was flight
        moves = record {
          script = refl;
          pieces = refl;
          others = λ other apart. ap (λ (items : List Client). slice_get items other) set ∙ set_other clients number other next_client apart;
          made = λ before after stood stands some. absurd (some (subst (λ (c : Client). left_of c ≡ []) (one_there (slice_get clients number) client before takes.is stood) takes.delivered));
          taken = λ before after stood stands none.
              let first : before.place ≡ client.place = ap (λ (c : Client). c.place) (one_there (slice_get clients number) before client stood takes.is) in
              let there : slice_get (slice_set clients number next_client) number ≡ Some after = ap (λ (items : List Client). slice_get items number) (sym set) ∙ stands in
              let last : after.place ≡ behind_at = ap (λ (c : Client). c.place) (set_there clients number client next_client after takes.is there) in
              omega (arith, first, last, takes.later);
        }

        pub taken_turn : Acts tells number (Ok Moved) was flight old new
        taken_turn = record {
          turned = turned_at;
          during = λ tell before m control under. subst (λ (events : List Event). During old new (IsLeftBy events before m)) (sym (taken_acts m control under.clients).events_are) (made.during tell before m under.at);
          idle = (λ same. absurd (cc same), λ idle. absurd (cc (sym (idle client takes.is).answered ∙ next_is)));
          kept = kept_at;
          logged = made.logged;
          ready = record {
            usable = made.usable;
            pieces = ready.pieces;
            many = ap length set ∙ length_set clients number next_client ∙ ready.many;
            clients = sound_next;
            rooms = rooms_next;
          };
          delivers = λ some. absurd (never some);
          damaged = λ tell damage err. absurd (no_turn_fault Moved (Damaged damage) err);
          met = λ tell damage meets. made.met tell damage (met_so (bytes_in old) damage meets);
          counts = counts_turn taken old new made.counts;
          moved = λ same. moves;
          still = λ same. absurd (cc same);
        }

none_left : (plan : List HeldDelivery) → ((plan ≡ [] → ⊥) → ⊥) → plan ≡ []
none_left [] none = refl
none_left (d ∷ plan) none = absurd (none (λ same. cc same))

-- the client whose turn it is
module _ (tells : Type 0) (number : ℕ) (was : Flight) (old : Outside) (client : Client) (ready : IsReady tells was old) (stands : slice_get was.clients.items number ≡ Some client) (none : HasDelivery was number → ⊥) where
  pub its_place : client.place ≤ length was.pieces
  its_place = (All-at (IsSound was.pieces was.store.schema.catalog) was.clients.items number client ready.clients stands).place

  none_held : left_of client ≡ []
  none_held = none_left (left_of client) (λ some. none (client, stands, some))

  -- it takes its next piece
  pub takes_piece : (piece : Piece) (behind : ℕ) → of_client (drop client.place was.pieces) number ≡ piece ∷ of_client (drop behind was.pieces) number → client.place < behind → Contains was.pieces piece → behind ≤ length was.pieces
      → TakesPiece was number piece behind
  takes_piece piece behind next later among within = record {
    client = client;
    is = stands;
    delivered = none_held;
    next = next;
    sound = All-contains (IsPieceOf was.script) was.pieces piece ready.pieces among;
    later = later;
    within = within;
  }

  -- or it has none
  pub idle_turn : of_client (drop client.place was.pieces) number ≡ [] → (tells → (image : Image) (text : List ℕ) → old.left_since old.moment image text → IsLeft old.files old.said image text) → Acts tells number (Ok Idle) was was old old
  idle_turn nothing only_now =
      idle_acts number was client stands none_held (ap (λ (pieces : List Piece). map (λ (request : Request). request.statement) (requests_in was.script pieces)) nothing) tells old ready only_now
