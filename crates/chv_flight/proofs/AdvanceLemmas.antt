-- What the next delivery of a client does: to the client, and to what it has to do.
use Rattle.std.proofs.Common.{◌≡◌, ◌≢◌, inl, inr, ℕ, ◌+◌, ◌-◌, ◌<◌, ◌≤◌, Bool, false, List, [], ◌∷◌, ◌++◌, length, drop, get_or, slice_get, Some, Ok, Err, IsErr, refl, sym, ap, ap₂, subst, ◌∙◌, arith}
use Rattle.std.specs.Prelude.{Result, IsErrOf}
use Rattle.std.proofs.lemmas.Bool.{cases_eq, eq-eqb, ne_eqb}
use Rattle.std.proofs.lemmas.List.{drop_all, length-drop}
use Rattle.std.proofs.lemmas.Option.{slice_get_read}
use Rattle.chv_catalog.specs.Schemas.{Catalog}
use Rattle.chv_catalog.specs.declared.schema.Schema.{Schema}
use Rattle.chv_query.specs.Plans.{Delivery}
use Rattle.chv_plan.specs.Deliveries.{Delivers as IsHeldDelivery, DeliversAll}
use Rattle.chv_plan.specs.declared.delivery.Delivery.{Delivery as HeldDelivery}
use Rattle.chv_site.specs.During.{During}
use Rattle.chv_site.specs.Faults.{CountsDisk}
use Rattle.chv_site.specs.Outside.{Outside}
use Rattle.chv_site.specs.declared.fault.Failed.{Failed}
use Rattle.chv_site.proofs.Moments.{goes_on, weakened}
use Rattle.chv_store.specs.Stores.{HasRoom, IsUsable}
use Rattle.chv_store.specs.declared.store.Store.{Store}
use Rattle.chv_text.specs.Replies.{insert_line}
use Rattle.chv_history.specs.Crashes.{IsLeftBy}
use Rattle.chv_history.specs.Events.{Event, Replied, Plan, Moment, behind}
use Rattle.chv_history.specs.Histories.{History}
use Rattle.chv_history.specs.Kept.{Kept, kept_delivery}
use Rattle.chv_history.specs.KeptTurns.{kept_turn, written_kept}
use Rattle.chv_history.specs.Machine.{Client as Work, behind_delivery, behind_turn, end_events, turn_events, written_by}
use Rattle.chv_history.specs.Runs.{delivery_event}
use Rattle.chv_history.proofs.LeftLemmas.{early, onward}
use Rattle.chv_flight.specs.Answers.{HoldsKept, IsAt, IsLogged, Replies}
use Rattle.chv_flight.specs.ClientTurns.{Advances, Answer, IsPlanned}
use Rattle.chv_flight.specs.Deliveries.{Delivers}
use Rattle.chv_flight.specs.Faults.{CountsRun}
use Rattle.chv_flight.specs.Flights.{HoldsInsert, left_of}
use Rattle.chv_flight.specs.Rooms.{HasRooms, deliveries_held}
use Rattle.chv_flight.specs.declared.client.Client.{Client}
use Rattle.chv_flight.specs.declared.fault.RunFault.{RunFault}
use Rattle.chv_flight.specs.declared.fault.RunFault.TheVariants.{Damaged, Disk, NoMemory, Say}
use Rattle.chv_flight.proofs.AnswerLemmas.{holds_itself, moment_replied, moment_saying, same_logged, same_placed}
use Rattle.chv_flight.proofs.DoneLemmas.{counts_behind}
use Rattle.chv_flight.proofs.RoomLemmas.{drop-there, held_first, one_if, rooms_first}

-- what is left begins with the delivery that is held first
pub record FirstOf (catalog : Catalog) (held : HeldDelivery) (later : List HeldDelivery) (left : Plan) : Type 0 where
  pub delivery : Delivery
  pub rest : Plan
  pub is : left ≡ delivery ∷ rest
  pub delivers : IsHeldDelivery catalog held delivery
  pub others : DeliversAll catalog later rest

pub first-of : (catalog : Catalog) (held : HeldDelivery) (later : List HeldDelivery) (left : Plan) → DeliversAll catalog (held ∷ later) left → FirstOf catalog held later left
first-of catalog held later [] delivers = absurd delivers
first-of catalog held later (delivery ∷ rest) delivers = record { delivery = delivery; rest = rest; is = refl; delivers = delivers.0; others = delivers.1 }

-- none is left where none is held, and only there
pub delivers-none : (catalog : Catalog) (rest : Plan) → DeliversAll catalog [] rest → rest ≡ []
delivers-none catalog [] delivers = refl
delivers-none catalog (delivery ∷ rest) delivers = absurd delivers

pub delivers-some : (catalog : Catalog) (later : List HeldDelivery) (rest : Plan) → DeliversAll catalog later rest → (later ≡ [] → ⊥) → rest ≡ [] → ⊥
delivers-some catalog [] rest delivers some none = some refl
delivers-some catalog (held ∷ later) [] delivers some none = delivers
delivers-some catalog (held ∷ later) (delivery ∷ rest) delivers some none = cc none

-- some are left behind a place before the end
pub drop-some : (place : ℕ) (plan : List HeldDelivery) → place < length plan → drop place plan ≡ [] → ⊥
drop-some place plan below none = absurd (omega (arith, below, length-drop place plan, ap (λ (l : List HeldDelivery). length l) none))

-- an insert is acknowledged with its last delivery
no_end : (number : ℕ) (plan : Plan) (written : ℕ) (rest : Plan) → (rest ≡ [] → ⊥) → end_events number plan written rest ≡ []
no_end number plan written [] some = absurd (some refl)
no_end number plan written (delivery ∷ rest) some = refl

-- what stands at the place of the next delivery
pub next_there : (items plan : List HeldDelivery) (made : ℕ) (held : HeldDelivery) → items ≡ plan → made < length plan → held ≡ get_or items made held → slice_get plan made ≡ Some held
next_there items plan made held same below is =
    subst (λ (l : List HeldDelivery). slice_get l made ≡ Some held) same (slice_get_read items (length items) made held refl (omega (arith, below, ap (λ (l : List HeldDelivery). length l) same)) is)

-- which has room
pub room_there : (client : Client) (held : HeldDelivery) (store : Store) → slice_get client.plan client.made ≡ Some held → HasRooms (left_of client) store → HasRoom 1 store held.table
room_there client held store there rooms =
    rooms_first store held (drop (client.made + 1) client.plan) (subst (λ (l : List HeldDelivery). HasRooms l store) (drop-there client.plan client.made held there) rooms)

-- the same fault in another result
pub same_fault : {A B : Type 0} (a b : RunFault) → ◌≡◌ {A = Result A RunFault} (Err a) (Err b) → ◌≡◌ {A = Result B RunFault} (Err a) (Err b)
same_fault a b same = let one : a ≡ b = cc same in ap (λ (e : RunFault). Err e) one

-- counts of faults go by the fault alone
pub counts_like : {A B : Type 0} (r : Result A RunFault) (s : Result B RunFault) (old new : Outside) → ((fault : RunFault) → IsErrOf s fault → IsErrOf r fault)
    → ((fault : RunFault) → IsErrOf r fault → IsErrOf s fault) → CountsRun r old new → CountsRun s old new
counts_like r s old new to from counts = record {
  disk_keeps = counts.disk_keeps;
  say_keeps = counts.say_keeps;
  disk = λ err. counts.disk (to Disk err);
  say = λ err. counts.say (to Say err);
  disk_stays = λ none. counts.disk_stays (λ err. none (from Disk err));
  say_stays = λ none. counts.say_stays (λ err. none (from Say err));
}

pub counts_err : {A B : Type 0} (fault : RunFault) (old new : Outside) → CountsRun {T = A} (Err fault) old new → CountsRun {T = B} (Err fault) old new
counts_err {A} {B} fault old new counts =
    counts_like {A = A} {B = B} (Err fault) (Err fault) old new (λ other err. same_fault {A = B} {B = A} fault other err) (λ other err. same_fault {A = A} {B = B} fault other err) counts

pub counts_ok : {A B : Type 0} (a : A) (b : B) (old new : Outside) → CountsRun (Ok a) old new → CountsRun (Ok b) old new
counts_ok {A} {B} a b old new counts = counts_like {A = A} {B = B} (Ok a) (Ok b) old new (λ other err. absurd (cc err)) (λ other err. absurd (cc err)) counts

-- no fault came
pub counts_same : {A : Type 0} (a : A) (old new : Outside) → new.disk_faults ≡ old.disk_faults → new.say_faults ≡ old.say_faults → CountsRun (Ok a) old new
counts_same a old new disk say = record {
  disk_keeps = omega (arith, disk);
  say_keeps = omega (arith, say);
  disk = λ err. absurd (cc err);
  say = λ err. absurd (cc err);
  disk_stays = λ none. disk;
  say_stays = λ none. say;
}

-- a call on files failed
counts_disk : {A : Type 0} (failed : Type 0) (old new : Outside) → failed → CountsDisk failed old new → CountsRun {T = A} (Err Disk) old new
counts_disk failed old new is counts = record {
  disk_keeps = counts.keeps;
  say_keeps = omega (arith, counts.other);
  disk = λ err. counts.cause is;
  say = λ err. absurd (cc err);
  disk_stays = λ none. absurd (none refl);
  say_stays = λ none. counts.other;
}

-- the room of one delivery is used up
pub rooms_used : (held : HeldDelivery) (later : List HeldDelivery) (was is : Store) → ((count : ℕ) → HasRoom (count + 1) was held.table → HasRoom count is held.table)
    → ((other count : ℕ) → other ≢ held.table → HasRoom count was other → HasRoom count is other)
    → (table others : ℕ) → HasRoom (deliveries_held table (held ∷ later) + others) was table → HasRoom (deliveries_held table later + others) is table
rooms_used held later was is takes keeps table others room = elim (cases_eq table held.table) as (λ _. HasRoom (deliveries_held table later + others) is table) [
  | inl same ↦
      let one : deliveries_held table (held ∷ later) + others ≡ deliveries_held table later + others + 1 = omega (arith, held_first table held later, ap one_if (eq-eqb held.table table (sym same))) in
      subst (HasRoom (deliveries_held table later + others) is) (sym same)
      (takes (deliveries_held table later + others) (subst (HasRoom (deliveries_held table later + others + 1) was) same (subst (λ (n : ℕ). HasRoom n was table) one room)))
  | inr other ↦
      let none : deliveries_held table (held ∷ later) + others ≡ deliveries_held table later + others = omega (arith, held_first table held later, ap one_if (ne_eqb held.table table (λ same. other (sym same)))) in
      keeps table (deliveries_held table later + others) other (subst (λ (n : ℕ). HasRoom n was table) none room)
]

-- a client that has a delivery left
module _ (tells : Type 0) (number : ℕ) (client : Client) (held : HeldDelivery) (there : slice_get client.plan client.made ≡ Some held) (was mid : Store) (old between : Outside) where
  abbrev later : List HeldDelivery
  later = drop (client.made + 1) client.plan

  is_left : left_of client ≡ held ∷ later
  is_left = drop-there client.plan client.made held there

  first_left : (left : Plan) → DeliversAll was.schema.catalog (left_of client) left → FirstOf was.schema.catalog held later left
  first_left left delivers = first-of was.schema.catalog held later left (subst (λ (l : List HeldDelivery). DeliversAll was.schema.catalog l left) is_left delivers)

  -- it is the first of what the client has to do
  module _ (work : Work) (answer : Answer) (has : HoldsInsert was.schema.catalog client work) where
    first : FirstOf was.schema.catalog held later work.left
    first = first_left work.left has.left

    some : work.left ≡ [] → ⊥
    some none = cc (sym none ∙ first.is)

    events_are : (history : History)
        → turn_events number answer work.left work history ≡ delivery_event first.delivery ∷ end_events number work.plan (work.written + written_by history first.delivery) first.rest
    events_are history = ap (λ (l : Plan). turn_events number answer l work history) first.is

    behind_is : (wrote : Delivery → ℕ) → behind_turn answer wrote work ≡ record work { left = first.rest; written = work.written + wrote first.delivery }
    behind_is wrote = ap (λ (l : Plan). behind_delivery answer wrote l work) first.is

    kept_is : (kept : Kept) → kept_turn answer work.left work kept ≡ kept_delivery first.delivery kept
    kept_is kept = ap (λ (l : Plan). kept_turn answer l work kept) first.is

  -- while it is made, or not
  module _ (r : Result ℕ Failed) (makes : (planned : Delivery) → IsHeldDelivery was.schema.catalog held planned → Delivers tells (planned ∷ []) r was mid old between) where
    made_during : tells → (before : List ℕ) (m : Moment) (work : Work) (answer : Answer) → IsAt was old before m → HoldsInsert was.schema.catalog client work
        → During old between (IsLeftBy (turn_events number answer work.left work m.history) before m)
    made_during tell before m work answer at has =
        let f = first work answer has in
        let made = delivery_event f.delivery ∷ [] in
        let ends = end_events number work.plan (work.written + written_by m.history f.delivery) f.rest in
        subst (λ (es : List Event). During old between (IsLeftBy es before m)) (sym (events_are work answer has m.history))
        (weakened old between (IsLeftBy made before m) (IsLeftBy (made ++ ends) before m) ((makes f.delivery f.delivers).during tell before m at) (λ image text left. early made ends before m image text left))

    -- it failed
    pub advance_failed : {T : Type 0} (client_is : Client) → IsErr r → CountsDisk (IsErr r) old between → Advances {T = T} tells number (Err Disk) client client_is was mid old between
    advance_failed client_is err counts = record {
      turned = λ tell. tt;
      during = made_during;
      kept = tt;
      advanced = tt;
      schema = tt;
      rooms = tt;
      logged = λ tell. tt;
      usable = tt;
      memory = λ is. cc is;
      undamaged = λ damage is. cc is;
      counts = counts_disk (IsErr r) old between err counts;
    }

  -- it was made
  module _ (planned : IsPlanned was client) (written : ℕ) (makes : (planned : Delivery) → IsHeldDelivery was.schema.catalog held planned → Delivers tells (planned ∷ []) (Ok written) was mid old between)
      (noted : (planned : Delivery) → IsHeldDelivery was.schema.catalog held planned → (kept : Kept) → HoldsKept was kept → written ≡ written_kept kept planned)
      (schema : mid.schema ≡ was.schema) (usable : IsUsable tells mid between) (disk : between.disk_faults ≡ old.disk_faults) (say : between.say_faults ≡ old.say_faults)
      (rooms : (table others : ℕ) → HasRoom (deliveries_held table (held ∷ later) + others) was table → HasRoom (deliveries_held table later + others) mid table) where
    abbrev next : Client
    next = record client { made = client.made + 1; written = client.written + written }

    rooms_next : (table others : ℕ) → HasRoom (deliveries_held table (left_of client) + others) was table → HasRoom (deliveries_held table later + others) mid table
    rooms_next table others room = rooms table others (subst (λ (l : List HeldDelivery). HasRoom (deliveries_held table l + others) was table) is_left room)

    -- a client with so much left holds what is to do behind it
    module _ (work : Work) (answer : Answer) (has : HoldsInsert was.schema.catalog client work) (wrote : Delivery → ℕ) where
      abbrev after : Work
      after = record work { left = (first work answer has).rest; written = work.written + wrote (first work answer has).delivery }

      holds_after : (client_is : Client) → left_of client_is ≡ later → ((after.left ≡ [] → ⊥) → client_is ≡ next) → written ≡ wrote (first work answer has).delivery
          → HoldsInsert mid.schema.catalog client_is (behind_turn answer wrote work)
      holds_after client_is left_is same counted =
          subst (HoldsInsert mid.schema.catalog client_is) (sym (behind_is work answer has wrote)) (record {
            left =
                subst (λ (s : Schema). DeliversAll s.catalog (left_of client_is) after.left) (sym schema)
                (subst (λ (l : List HeldDelivery). DeliversAll was.schema.catalog l after.left) (sym left_is) (first work answer has).others);
            many = λ more. has.many (some work answer has) ∙ ap (λ (c : Client). length c.plan) (sym (same more));
            written = λ more. ap₂ (λ (a b : ℕ). a + b) (has.written (some work answer has)) (sym counted) ∙ ap (λ (c : Client). c.written) (sym (same more));
          })

    made_at : tells → (before : List ℕ) (m : Moment) (work : Work) (answer : Answer) → IsAt was old before m → (has : HoldsInsert was.schema.catalog client work)
        → IsAt mid between before (behind (delivery_event (first work answer has).delivery ∷ []) m) × (written ≡ written_by m.history (first work answer has).delivery)
    made_at tell before m work answer at has =
        let f = first work answer has in
        let made = (makes f.delivery f.delivers).delivered tell before m at in
        (made.0, omega (arith, made.1))

    kept_at : (kept : Kept) (work : Work) (answer : Answer) → HoldsKept was kept → HoldsInsert was.schema.catalog client work → HoldsKept mid (kept_turn answer work.left work kept)
    kept_at kept work answer held_so has =
        let f = first work answer has in
        subst (HoldsKept mid) (sym (kept_is work answer has kept)) ((makes f.delivery f.delivers).kept kept held_so)

    logged_on : tells → IsLogged was old.files → IsLogged mid between.files
    logged_on tell logged = let f = first_left planned.0 planned.1 in (makes f.delivery f.delivers).logged tell logged

    -- others are left
    module _ (more : client.made + 1 < length client.plan) (few : next.written ≤ next.made) where
      no_reply : (work : Work) (answer : Answer) (has : HoldsInsert was.schema.catalog client work) (history : History) → turn_events number answer work.left work history ≡ delivery_event (first work answer has).delivery ∷ []
      no_reply work answer has history =
          let f = first work answer has in
          events_are work answer has history
          ∙ ap (λ (es : List Event). delivery_event f.delivery ∷ es)
          (no_end number work.plan (work.written + written_by history f.delivery) f.rest (delivers-some was.schema.catalog later f.rest f.others (drop-some (client.made + 1) client.plan more)))

      pub advance_on : Advances tells number (Ok (tt {0})) client next was mid old between
      advance_on = record {
        turned = λ tell before m work answer at has.
            let one = made_at tell before m work answer at has in (
              subst (λ (es : List Event). IsAt mid between before (behind es m)) (sym (no_reply work answer has m.history)) one.0,
              holds_after work answer has (written_by m.history) next refl (λ some. refl) one.1,
            );
        during = made_during (Ok written) makes;
        kept = λ kept work answer held_so has. (
          kept_at kept work answer held_so has,
          holds_after work answer has (written_kept kept) next refl (λ some. refl) (noted (first work answer has).delivery (first work answer has).delivers kept held_so),
        );
        advanced = record { place = refl; made = omega (arith, more); written = few; left = sym (ap (drop 1) is_left) };
        schema = schema;
        rooms = rooms_next;
        logged = logged_on;
        usable = usable;
        memory = λ is. cc is;
        undamaged = λ damage is. cc is;
        counts = counts_same (tt {0}) old between disk say;
      }

    -- it was the last one
    module _ (all : client.made + 1 ≡ length client.plan) (new : Outside) where
      abbrev line : List ℕ
      line = insert_line number next.written (next.made - next.written)

      none_later : later ≡ []
      none_later = drop_all (client.made + 1) client.plan (omega (arith, all))

      none_left : (work : Work) (answer : Answer) (has : HoldsInsert was.schema.catalog client work) → (first work answer has).rest ≡ []
      none_left work answer has =
          let f = first work answer has in
          delivers-none was.schema.catalog f.rest (subst (λ (l : List HeldDelivery). DeliversAll was.schema.catalog l f.rest) none_later f.others)

      with_reply : (work : Work) (answer : Answer) (has : HoldsInsert was.schema.catalog client work) (history : History) → written ≡ written_by history (first work answer has).delivery
          → turn_events number answer work.left work history ≡ delivery_event (first work answer has).delivery ∷ (Replied line (work.plan ∷ []) false ∷ [])
      with_reply work answer has history counted =
          let f = first work answer has in
          let some = some work answer has in
          let written_is : work.written + written_by history f.delivery ≡ next.written = omega (arith, has.written some, counted) in
          let many : length work.plan ≡ next.made = has.many some ∙ sym all in
          events_are work answer has history
          ∙ ap (λ (rest : Plan). delivery_event f.delivery ∷ end_events number work.plan (work.written + written_by history f.delivery) rest) (none_left work answer has)
          ∙ ap₂ (λ (n w : ℕ). delivery_event f.delivery ∷ (Replied (insert_line number w (n - w)) (work.plan ∷ []) false ∷ [])) many written_is

      -- while the reply is said
      last_during : (r : Result Bool RunFault) → Replies tells line false r between new → tells → (before : List ℕ) (m : Moment) (work : Work) (answer : Answer) → IsAt was old before m
          → HoldsInsert was.schema.catalog client work → During old new (IsLeftBy (turn_events number answer work.left work m.history) before m)
      last_during r replies tell before m work answer at has =
          let one = made_at tell before m work answer at has in
          let made = delivery_event (first work answer has).delivery ∷ [] in
          let reply = Replied line (work.plan ∷ []) false ∷ [] in
          let turn = turn_events number answer work.left work m.history in
          goes_on old between new (IsLeftBy turn before m) (IsLeftBy reply before (behind made m)) (made_during (Ok written) makes tell before m work answer at has)
          (moment_saying mid between between new before line (work.plan ∷ []) false [] (behind made m) usable.within one.0 (replies.during tell))
          (λ image text left. subst (λ (es : List Event). IsLeftBy es before m image text) (sym (with_reply work answer has m.history one.1)) (onward made reply before m image text left))

      -- which failed
      pub advance_unsaid : {T : Type 0} (fault : RunFault) (client_is : Client) → Replies tells line false (Err fault) between new → Advances {T = T} tells number (Err fault) client client_is was mid old new
      advance_unsaid {T} fault client_is replies = record {
        turned = λ tell. tt;
        during = last_during (Err fault) replies;
        kept = tt;
        advanced = tt;
        schema = tt;
        rooms = tt;
        logged = λ tell. tt;
        usable = tt;
        memory = λ is. replies.memory (same_fault {A = T} {B = Bool} fault NoMemory is);
        undamaged = λ damage is. replies.undamaged damage (same_fault {A = T} {B = Bool} fault (Damaged damage) is);
        counts = counts_behind (Err fault) old between new disk say (counts_err {A = Bool} {B = T} fault between new replies.counts);
      }

      -- and the insert is forgotten
      module _ (answered : Bool) (replies : Replies tells line false (Ok answered) between new) (client_is : Client) (place : client_is.place ≡ client.place) (plan : client_is.plan ≡ []) (made : client_is.made ≡ 0)
          (written_is : client_is.written ≡ 0) where
        forgotten : left_of client_is ≡ later
        forgotten = ap₂ (λ (n : ℕ) (l : List HeldDelivery). drop n l) made plan ∙ sym none_later

        holds_none : (work : Work) (answer : Answer) (has : HoldsInsert was.schema.catalog client work) (wrote : Delivery → ℕ) → written ≡ wrote (first work answer has).delivery
            → HoldsInsert mid.schema.catalog client_is (behind_turn answer wrote work)
        holds_none work answer has wrote counted = holds_after work answer has wrote client_is forgotten (λ some. absurd (some (none_left work answer has))) counted

        last_at : tells → (before : List ℕ) (m : Moment) (work : Work) (answer : Answer) → IsAt was old before m → HoldsInsert was.schema.catalog client work
            → IsAt mid new before (behind (turn_events number answer work.left work m.history) m)
        last_at tell before m work answer at has =
            let one = made_at tell before m work answer at has in
            let made = delivery_event (first work answer has).delivery ∷ [] in
            let says = moment_replied mid mid between new before line (work.plan ∷ []) false (behind made m) (holds_itself mid usable.within) one.0 (replies.files tell) (replies.said tell) in
            subst (λ (es : List Event). IsAt mid new before (behind es m)) (sym (with_reply work answer has m.history one.1)) says.at

        pub advance_end : Advances tells number (Ok (tt {0})) client client_is was mid old new
        advance_end = record {
          turned = λ tell before m work answer at has. (
            last_at tell before m work answer at has,
            holds_none work answer has (written_by m.history) (made_at tell before m work answer at has).1,
          );
          during = last_during (Ok answered) replies;
          kept = λ kept work answer held_so has. (
            kept_at kept work answer held_so has,
            holds_none work answer has (written_kept kept) (noted (first work answer has).delivery (first work answer has).delivers kept held_so),
          );
          advanced = record { place = place; made = omega (arith, made); written = omega (arith, made, written_is); left = forgotten ∙ sym (ap (drop 1) is_left) };
          schema = schema;
          rooms = λ table others room. subst (λ (l : List HeldDelivery). HasRoom (deliveries_held table l + others) mid table) (sym forgotten) (rooms_next table others room);
          logged = λ tell logged. same_logged mid mid between.files new.files (holds_itself mid usable.within) (replies.files tell) (logged_on tell logged);
          usable = record {
            within = usable.within;
            placed = λ tell. same_placed mid mid between.files new.files (holds_itself mid usable.within) (replies.files tell) (usable.placed tell);
          };
          memory = λ is. cc is;
          undamaged = λ damage is. cc is;
          counts = counts_behind (Ok (tt {0})) old between new disk say (counts_ok answered (tt {0}) between new replies.counts);
        }
