-- The turn of a client that has a delivery left: what the delivery does to the client it does to the run.
use Rattle.std.proofs.Common.{◌≡◌, ◌≢◌, ℕ, zero, suc, ◌+◌, ◌<◌, ◌≤◌, Bool, true, false, nat_lt, ◌||◌, List, [], ◌∷◌, length, drop, slice_get, slice_set, Option, Some, Ok, Err, refl, sym, ap, subst, ◌∙◌, arith}
use Rattle.std.specs.Prelude.{Result}
use Rattle.std.specs.List.{All}
use Rattle.std.proofs.lemmas.Bool.{ltb-false, ltb-true}
use Rattle.std.proofs.lemmas.List.{drop_all, length-set}
use Rattle.std.proofs.lemmas.List.Elements.{All-set}
use Rattle.std.proofs.lemmas.Option.{get_or_from_slice_get, slice_get_within}
use Rattle.chv_ast.specs.declared.refusal.Refusal.{Refusal}
use Rattle.chv_ast.specs.declared.statement.Statement.{Statement}
use Rattle.chv_catalog.specs.Schemas.{Catalog}
use Rattle.chv_catalog.specs.declared.schema.Schema.{Schema}
use Rattle.chv_lex.specs.Scripts.{IsPieceOf}
use Rattle.chv_lex.specs.declared.piece.Piece.{Piece}
use Rattle.chv_part.specs.declared.damage.Damage.{Damage}
use Rattle.chv_plan.specs.Deliveries.{DeliversAll}
use Rattle.chv_plan.specs.declared.delivery.Delivery.{Delivery as HeldDelivery}
use Rattle.chv_query.specs.Plans.{Delivery}
use Rattle.chv_site.specs.During.{During}
use Rattle.chv_site.specs.Outside.{Outside, bytes_in}
use Rattle.chv_store.specs.Stores.{HasRoom}
use Rattle.chv_store.specs.declared.store.Store.{Store}
use Rattle.chv_history.specs.Crashes.{IsLeftBy}
use Rattle.chv_history.specs.Events.{Plan, Moment, behind}
use Rattle.chv_history.specs.Kept.{Kept}
use Rattle.chv_history.specs.KeptTurns.{IsRefusedBy, IsTurnRefused, answer_kept, kept_by, left_by, written_kept}
use Rattle.chv_history.specs.Machine.{Of, Client as Work, Control, act_control, act_events, answer_in, behind_delivery, behind_turn, client_of, control_by, events_by, turn_events, written_by}
use Rattle.chv_history.specs.Tasks.{Task}
use Rattle.chv_history.proofs.RequestLemmas.{or_false}
use Rattle.chv_history.proofs.TurnLemmas.{client_of-there}
use Rattle.chv_flight.specs.ClientTurns.{Advances}
use Rattle.chv_flight.specs.Flights.{HoldsControl, HoldsEach, HoldsInsert, HoldsWork, IsReady, IsSound, IsUnderWay, KeepsRun, asks_behind, left_in, left_of}
use Rattle.chv_flight.specs.Rooms.{HasRooms, deliveries_held}
use Rattle.chv_flight.specs.Turns.{Acts, HasDelivery, TurnMeets}
use Rattle.chv_flight.specs.declared.client.Client.{Client}
use Rattle.chv_flight.specs.declared.fault.RunFault.{RunFault}
use Rattle.chv_flight.specs.declared.fault.RunFault.TheVariants.{Damaged, NoMemory}
use Rattle.chv_flight.specs.declared.flight.Flight.{Flight}
use Rattle.chv_flight.specs.declared.turned.Turned.TheVariants.{Moved}
use Rattle.chv_flight.proofs.AdvanceLemmas.{counts_err, counts_ok, delivers-some, drop-some, same_fault}
use Rattle.chv_flight.proofs.EachLemmas.{WorkAt, each-at, each-set, left-beside}
use Rattle.chv_flight.proofs.RoomLemmas.{held_first, room_less}

-- the answer to what is asked for, and how many blocks of a delivery are written
abbrev Answering : Type 0
Answering = Option Statement → Result Task Refusal

-- a list with another item at a place
pub get-set : (xs : List Client) (place : ℕ) (old new : Client) → slice_get xs place ≡ Some old → slice_get (slice_set xs place new) place ≡ Some new
get-set [] place old new is = absurd (cc is)
get-set (x ∷ xs) zero old new is = refl
get-set (x ∷ xs) (suc place) old new is = get-set xs place old new is

pub get-set_other : (xs : List Client) (place other : ℕ) (new : Client) → other ≢ place → slice_get (slice_set xs place new) other ≡ slice_get xs other
get-set_other [] place other new apart = refl
get-set_other (x ∷ xs) zero zero new apart = absurd (apart refl)
get-set_other (x ∷ xs) zero (suc other) new apart = refl
get-set_other (x ∷ xs) (suc place) zero new apart = refl
get-set_other (x ∷ xs) (suc place) (suc other) new apart = get-set_other xs place other new (λ same. apart (ap suc same))

-- what is left of a plan, with one delivery fewer
pub delivers-rest : (catalog : Catalog) (held : List HeldDelivery) (left : Plan) → DeliversAll catalog held left → DeliversAll catalog (drop 1 held) (drop 1 left)
delivers-rest catalog [] [] delivers = tt
delivers-rest catalog [] (delivery ∷ left) delivers = absurd delivers
delivers-rest catalog (first ∷ held) [] delivers = absurd delivers
delivers-rest catalog (first ∷ held) (delivery ∷ left) delivers = delivers.1

held-rest : (table : ℕ) (held : List HeldDelivery) → deliveries_held table (drop 1 held) ≤ deliveries_held table held
held-rest table [] = omega arith
held-rest table (first ∷ held) = omega (arith, held_first table first held)

-- where some is left of a plan, not all of it is made
pub left-more : (plan : List HeldDelivery) (made : ℕ) → (drop made plan ≡ [] → ⊥) → made < length plan
left-more [] zero some = absurd (some refl)
left-more [] (suc made) some = absurd (some refl)
left-more (first ∷ plan) zero some = omega arith
left-more (first ∷ plan) (suc made) some = omega (arith, left-more plan made some)

-- a delivery asks for nothing, and refuses nothing
module _ (answer : Answering) (work : Work) where
  keeps_asks : (wrote : Delivery → ℕ) (left : Plan) → (left ≡ [] → ⊥) → (behind_delivery answer wrote left work).asks ≡ work.asks
  keeps_asks wrote [] some = absurd (some refl)
  keeps_asks wrote (delivery ∷ left) some = refl

  no_mark : (number : ℕ) (m : Moment) (left : Plan) → (left ≡ [] → ⊥) → (behind (turn_events number answer left work m.history) m).refused ≡ m.refused
  no_mark number m [] some = absurd (some refl)
  no_mark number m (delivery ∷ []) some = sym (or_false m.refused)
  no_mark number m (delivery ∷ (next ∷ left)) some = refl

  none_refused : (left : Plan) → (left ≡ [] → ⊥) → IsTurnRefused answer left work false
  none_refused [] some = absurd (some refl)
  none_refused (delivery ∷ left) some = refl

-- what is held of a client of a flight that is ready
pub sound-at : (tells : Type 0) (flight : Flight) (outside : Outside) (number : ℕ) (client : Client) → IsReady tells flight outside → slice_get flight.clients.items number ≡ Some client
    → IsSound flight.pieces flight.store.schema.catalog client
sound-at tells flight outside number client ready stands =
    subst (IsSound flight.pieces flight.store.schema.catalog) (get_or_from_slice_get flight.clients.items number client client stands)
    (ready.clients number client (slice_get_within flight.clients.items number client stands))

-- there is room for what one client has left
pub rooms-of : (number : ℕ) (clients : List Client) (client : Client) (store : Store) → slice_get clients number ≡ Some client → HasRooms (left_in clients) store → HasRooms (left_of client) store
rooms-of number clients client store stands rooms table some =
    let all = (left-beside number clients client stands).before table in
    room_less store (deliveries_held table (left_of client)) (deliveries_held table (left_in clients)) table (omega (arith, all)) (rooms table (omega (arith, some, all)))

-- a client that stands there has a delivery left
pub some-left : (flight : Flight) (number : ℕ) (client : Client) → slice_get flight.clients.items number ≡ Some client → HasDelivery flight number → left_of client ≡ [] → ⊥
some-left flight number client stands has none = let same : has.0 ≡ client = cc (sym has.1 ∙ stands) in has.2 (ap left_of same ∙ none)

-- whether a delivery is left, by a test
pub has-delivery : (flight : Flight) (number : ℕ) (client : Client) (test : Bool) → slice_get flight.clients.items number ≡ Some client → test ≡ nat_lt client.made (length client.plan) → test ≡ true → HasDelivery flight number
has-delivery flight number client test stands is left =
    (client, stands, drop-some client.made client.plan (ltb-true client.made (length client.plan) (sym is ∙ left)))

pub has-none : (flight : Flight) (number : ℕ) (client : Client) (test : Bool) → slice_get flight.clients.items number ≡ Some client → test ≡ nat_lt client.made (length client.plan) → test ≡ false → HasDelivery flight number → ⊥
has-none flight number client test stands is none has =
    some-left flight number client stands has (drop_all client.made client.plan (ltb-false client.made (length client.plan) (sym is ∙ none)))

-- the client of a number has a delivery left
module _ (tells : Type 0) (number : ℕ) (was is : Flight) (old new : Outside) (client client_is : Client) (stands : slice_get was.clients.items number ≡ Some client) (some : left_of client ≡ [] → ⊥) where
  abbrev HoldsWas : ℕ → Client → Work → Type 0
  HoldsWas = HoldsWork was.script was.pieces was.store.schema.catalog

  -- no query is its next
  unmet : (damage : Damage) → TurnMeets was number (bytes_in old) damage → ⊥
  unmet damage meets = let same : client ≡ meets.client = cc (sym stands ∙ meets.is) in some (ap left_of same ∙ meets.delivered)

  module _ (control : Control) (holds : HoldsControl was control) where
    its : WorkAt HoldsWas 0 number client control.clients
    its = each-at HoldsWas 0 number was.clients.items control.clients client holds stands

    turn_is : client_of (Of number) control ≡ Some (number, its.work)
    turn_is = client_of-there number control its.work its.stands

    left_some : its.work.left ≡ [] → ⊥
    left_some = delivers-some was.store.schema.catalog (left_of client) its.work.left its.holds.insert.left some

  module _ {T : Type 0} (result : Result T RunFault) (advances : Advances tells number result client client_is was.store is.store old new) where
    turn_during : tells → (before : List ℕ) (m : Moment) (control : Control) → IsUnderWay was old before m control → During old new (IsLeftBy (act_events (Of number) m.history control) before m)
    turn_during tell before m control under =
        let at = its control under.clients in
        subst (λ (found : Option (ℕ × Work)). During old new (IsLeftBy (events_by found m.history control) before m)) (sym (turn_is control under.clients))
        (advances.during tell before m at.work (answer_in m.history control) under.at at.holds.insert)

  -- the turn failed
  pub turn_failed : (fault : RunFault) → Advances {T = Unit {0}} tells number (Err fault) client client_is was.store is.store old new → Acts tells number (Err fault) was is old new
  turn_failed fault advances = record {
    turned = λ tell. tt;
    during = turn_during (Err fault) advances;
    idle = tt;
    kept = tt;
    logged = λ tell. tt;
    ready = tt;
    delivers = λ has. (λ err. advances.memory (same_fault fault NoMemory err), λ damage err. advances.undamaged damage (same_fault fault (Damaged damage) err));
    damaged = λ tell damage err. absurd (advances.undamaged damage (same_fault fault (Damaged damage) err));
    met = λ tell damage meets. absurd (unmet damage meets);
    counts = counts_err fault old new advances.counts;
    moved = tt;
    still = tt;
  }

  -- the turn was made
  module _ (ready : IsReady tells was old) (script : is.script ≡ was.script) (pieces : is.pieces ≡ was.pieces) (refused : is.refused ≡ was.refused)
      (clients : is.clients.items ≡ slice_set was.clients.items number client_is) (advances : Advances {T = Unit {0}} tells number (Ok (tt {0})) client client_is was.store is.store old new) where
    abbrev HoldsIs : ℕ → Client → Work → Type 0
    HoldsIs = HoldsWork is.script is.pieces is.store.schema.catalog

    -- what was held of a client is held of it
    same_work : (n : ℕ) (c : Client) (w : Work) → HoldsWas n c w → HoldsIs n c w
    same_work n c w has =
        subst (λ (s : List ℕ). HoldsWork s is.pieces is.store.schema.catalog n c w) (sym script)
        (subst (λ (p : List Piece). HoldsWork was.script p is.store.schema.catalog n c w) (sym pieces)
        (subst (λ (s : Schema). HoldsWork was.script was.pieces s.catalog n c w) (sym advances.schema) has))

    same_sound : (c : Client) → IsSound was.pieces was.store.schema.catalog c → IsSound is.pieces is.store.schema.catalog c
    same_sound c sound =
        subst (λ (p : List Piece). IsSound p is.store.schema.catalog c) (sym pieces) (subst (λ (s : Schema). IsSound was.pieces s.catalog c) (sym advances.schema) sound)

    -- the client holds what it has to do behind the delivery, and each other one what it had
    module _ (control : Control) (holds : HoldsControl was control) (answer : Answering) (wrote : Delivery → ℕ) where
      abbrev work_is : Work
      work_is = behind_turn answer wrote (its control holds).work

      holds_next : HoldsInsert is.store.schema.catalog client_is work_is → HoldsControl is (record { clients = slice_set control.clients number work_is })
      holds_next insert =
          let at = its control holds in
          let had = same_work (0 + number) client at.work at.holds in
          let asks : work_is.asks ≡ asks_behind is.script is.pieces (0 + number) client_is.place =
          keeps_asks answer at.work wrote at.work.left (left_some control holds) ∙ had.asks ∙ ap (asks_behind is.script is.pieces (0 + number)) (sym advances.advanced.place) in
          subst (λ (cs : List Client). HoldsEach HoldsIs 0 cs (slice_set control.clients number work_is)) (sym clients)
          (each-set HoldsWas HoldsIs 0 number was.clients.items control.clients client client_is work_is same_work stands holds (record { asks = asks; insert = insert }))

    under_way : tells → (before : List ℕ) (m : Moment) (control : Control) → IsUnderWay was old before m control
        → IsUnderWay is new before (behind (act_events (Of number) m.history control) m) (act_control (Of number) m.history control)
    under_way tell before m control under =
        let at = its control under.clients in
        let answer = answer_in m.history control in
        let turned = advances.turned tell before m at.work answer under.at at.holds.insert in
        subst (λ (found : Option (ℕ × Work)). IsUnderWay is new before (behind (events_by found m.history control) m) (control_by found m.history control)) (sym (turn_is control under.clients))
        (record {
          at = turned.0;
          clients = holds_next control under.clients answer (written_by m.history) turned.1;
          mark = refused ∙ under.mark ∙ sym (no_mark answer at.work number m at.work.left (left_some control under.clients));
        })

    keeps_run : (kept : Kept) (control : Control) → KeepsRun was kept control
        → KeepsRun is (kept_by (client_of (Of number) control) kept control) (left_by (client_of (Of number) control) kept control)
        × ((refuses : Bool) × (is.refused ≡ (was.refused || refuses)) × IsRefusedBy (client_of (Of number) control) kept control refuses)
    keeps_run kept control keeps =
        let at = its control keeps.clients in
        let answer = answer_kept kept control in
        let held = advances.kept kept at.work answer keeps.store at.holds.insert in
        subst
        (λ (found : Option (ℕ × Work)). KeepsRun is (kept_by found kept control) (left_by found kept control)
        × ((refuses : Bool) × (is.refused ≡ (was.refused || refuses)) × IsRefusedBy found kept control refuses)) (sym (turn_is control keeps.clients)) (
          record { store = held.0; clients = holds_next control keeps.clients answer (written_kept kept) held.1 },
          (false, refused ∙ or_false was.refused, none_refused answer at.work at.work.left (left_some control keeps.clients)),
        )

    sound_next : IsSound is.pieces is.store.schema.catalog client_is
    sound_next =
        let sound = same_sound client (sound-at tells was old number client ready stands) in
        record {
          place = omega (arith, sound.place, advances.advanced.place);
          made = advances.advanced.made;
          written = advances.advanced.written;
          planned = (
            drop 1 sound.planned.0,
            subst (λ (held : List HeldDelivery). DeliversAll is.store.schema.catalog held (drop 1 sound.planned.0)) (sym advances.advanced.left)
                (delivers-rest is.store.schema.catalog (left_of client) sound.planned.0 sound.planned.1),
          );
        }

    -- there is room for what is left
    rooms_next : HasRooms (left_in is.clients.items) is.store
    rooms_next table more =
        let beside = left-beside number was.clients.items client stands in
        let now : deliveries_held table (left_in is.clients.items) ≡ deliveries_held table (left_of client_is) + beside.others table =
        ap (λ (cs : List Client). deliveries_held table (left_in cs)) clients ∙ beside.behind client_is table in
        let fewer : deliveries_held table (left_of client_is) ≤ deliveries_held table (left_of client) =
        omega (arith, held-rest table (left_of client), ap (deliveries_held table) advances.advanced.left) in
        subst (λ (n : ℕ). HasRoom n is.store table) (sym now)
        (advances.rooms table (beside.others table) (subst (λ (n : ℕ). HasRoom n was.store table) (beside.before table) (ready.rooms table (omega (arith, more, now, beside.before table, fewer)))))

    ready_next : IsReady tells is new
    ready_next = record {
      usable = advances.usable;
      pieces = subst (λ (s : List ℕ). All (IsPieceOf s) is.pieces) (sym script) (subst (λ (p : List Piece). All (IsPieceOf was.script) p) (sym pieces) ready.pieces);
      many = ap (λ (cs : List Client). length cs) clients ∙ length-set was.clients.items number client_is ∙ ready.many;
      clients =
          subst (λ (cs : List Client). All (IsSound is.pieces is.store.schema.catalog) cs) (sym clients)
          (All-set (IsSound is.pieces is.store.schema.catalog) was.clients.items number client_is sound_next (λ k d below. same_sound _ (ready.clients k d below)));
      rooms = rooms_next;
    }

    -- the client is the one that it was, and then the one that it is
    one_before : (before : Client) → slice_get was.clients.items number ≡ Some before → before ≡ client
    one_before before at = cc (sym at ∙ stands)

    one_after : (after : Client) → slice_get is.clients.items number ≡ Some after → after ≡ client_is
    one_after after at = cc (sym at ∙ ap (λ (cs : List Client). slice_get cs number) clients ∙ get-set was.clients.items number client client_is stands)

    pub turn_made : Acts tells number (Ok Moved) was is old new
    turn_made = record {
      turned = under_way;
      during = turn_during (Ok (tt {0})) advances;
      idle = (λ same. absurd (cc same), λ idle. absurd (some (idle client stands).delivered));
      kept = keeps_run;
      logged = advances.logged;
      ready = ready_next;
      delivers = λ has. (λ err. cc err, λ damage err. cc err);
      damaged = λ tell damage err. absurd (cc err);
      met = λ tell damage meets. absurd (unmet damage meets);
      counts = counts_ok (tt {0}) Moved old new advances.counts;
      moved = λ same. record {
        script = script;
        pieces = pieces;
        others = λ other apart. ap (λ (cs : List Client). slice_get cs other) clients ∙ get-set_other was.clients.items number other client_is apart;
        made = λ before after was_at is_at more. (
          ap (λ (c : Client). c.place) (one_after after is_at) ∙ advances.advanced.place ∙ ap (λ (c : Client). c.place) (sym (one_before before was_at)),
          ap left_of (one_after after is_at) ∙ advances.advanced.left ∙ ap (λ (c : Client). drop 1 (left_of c)) (sym (one_before before was_at)),
        );
        taken = λ before after was_at is_at none. absurd (some (ap left_of (sym (one_before before was_at)) ∙ none));
      };
      still = λ same. absurd (cc same);
    }
