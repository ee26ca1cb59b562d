-- What is held of each client, and what all clients have left, at a place and where the client there changes.
use Rattle.std.proofs.Common.{◌≡◌, ℕ, zero, suc, ◌+◌, Bool, List, [], ◌∷◌, ◌++◌, length, nat_eq, slice_get, slice_set, Some, refl, ap, subst, ◌∙◌, arith}
use Rattle.std.specs.List.{filter, flat_map}
use Rattle.std.proofs.lemmas.List.{length-append}
use Rattle.std.proofs.lemmas.List.Elements.{filter-append}
use Rattle.chv_catalog.specs.Schemas.{Catalog}
use Rattle.chv_plan.specs.Deliveries.{DeliversAll}
use Rattle.chv_plan.specs.declared.delivery.Delivery.{Delivery}
use Rattle.chv_history.specs.Machine.{Client as Work, Control, deliveries_left}
use Rattle.chv_history.specs.Tasks.{deliveries_to}
use Rattle.chv_history.proofs.TurnLemmas.{deliveries_to-append}
use Rattle.chv_flight.specs.Flights.{HoldsControl, HoldsEach, HoldsWork, left_in, left_of}
use Rattle.chv_flight.specs.Rooms.{deliveries_held}
use Rattle.chv_flight.specs.declared.client.Client.{Client}
use Rattle.chv_flight.specs.declared.flight.Flight.{Flight}
use Rattle.chv_flight.proofs.RoomLemmas.{delivers-to}

-- what the client at a place has to do
pub record WorkAt (P : ℕ → Client → Work → Type 0) (number place : ℕ) (client : Client) (works : List Work) : Type 0 where
  pub work : Work
  pub stands : slice_get works place ≡ Some work
  pub holds : P (number + place) client work

-- there are as many
pub each-length : (P : ℕ → Client → Work → Type 0) (number : ℕ) (clients : List Client) (works : List Work) → HoldsEach P number clients works → length works ≡ length clients
each-length P number [] [] each = refl
each-length P number [] (work ∷ works) each = absurd each
each-length P number (client ∷ clients) [] each = absurd each
each-length P number (client ∷ clients) (work ∷ works) each = omega (arith, each-length P (number + 1) clients works each.1)

pub each-at : (P : ℕ → Client → Work → Type 0) (number place : ℕ) (clients : List Client) (works : List Work) (client : Client) → HoldsEach P number clients works → slice_get clients place ≡ Some client
    → WorkAt P number place client works
each-at P number place [] works client each stands = cc
each-at P number place (first ∷ clients) [] client each stands = absurd each
each-at P number zero (first ∷ clients) (work ∷ works) client each stands = record {
  work = work;
  stands = refl;
  holds = subst (λ (c : Client). P (number + 0) c work) (cc) (subst (λ (n : ℕ). P n first work) (omega arith) each.0);
}
each-at P number (suc place) (first ∷ clients) (work ∷ works) client each stands =
    let at = each-at P (number + 1) place clients works client each.1 stands in
    record { work = at.work; stands = at.stands; holds = subst (λ (n : ℕ). P n client at.work) (omega arith) at.holds }

-- and the other way round: whose it is
pub record ClientAt (P : ℕ → Client → Work → Type 0) (number place : ℕ) (work : Work) (clients : List Client) : Type 0 where
  pub client : Client
  pub stands : slice_get clients place ≡ Some client
  pub holds : P (number + place) client work

pub each-of : (P : ℕ → Client → Work → Type 0) (number place : ℕ) (clients : List Client) (works : List Work) (work : Work) → HoldsEach P number clients works → slice_get works place ≡ Some work
    → ClientAt P number place work clients
each-of P number place [] [] work each stands = cc
each-of P number place [] (first ∷ works) work each stands = absurd each
each-of P number place (client ∷ clients) [] work each stands = absurd each
each-of P number zero (client ∷ clients) (first ∷ works) work each stands = record {
  client = client;
  stands = refl;
  holds = subst (λ (w : Work). P (number + 0) client w) (cc) (subst (λ (n : ℕ). P n client first) (omega arith) each.0);
}
each-of P number (suc place) (client ∷ clients) (first ∷ works) work each stands =
    let at = each-of P (number + 1) place clients works work each.1 stands in
    record { client = at.client; stands = at.stands; holds = subst (λ (n : ℕ). P n at.client work) (omega arith) at.holds }

pub each-weaker : (P Q : ℕ → Client → Work → Type 0) (number : ℕ) (clients : List Client) (works : List Work) → ((n : ℕ) (client : Client) (work : Work) → P n client work → Q n client work)
    → HoldsEach P number clients works → HoldsEach Q number clients works
each-weaker P Q number [] [] weaker each = tt
each-weaker P Q number [] (work ∷ works) weaker each = absurd each
each-weaker P Q number (client ∷ clients) [] weaker each = absurd each
each-weaker P Q number (client ∷ clients) (work ∷ works) weaker each = (weaker number client work each.0, each-weaker P Q (number + 1) clients works weaker each.1)

-- the client at a place is another, with other things to do; of each other client what was so gives what is so
pub each-set : (P Q : ℕ → Client → Work → Type 0) (number place : ℕ) (clients : List Client) (works : List Work) (old new : Client) (work : Work)
    → ((n : ℕ) (client : Client) (w : Work) → P n client w → Q n client w) → slice_get clients place ≡ Some old → HoldsEach P number clients works → Q (number + place) new work
    → HoldsEach Q number (slice_set clients place new) (slice_set works place work)
each-set P Q number place [] works old new work others stands each now = cc
each-set P Q number place (first ∷ clients) [] old new work others stands each now = absurd each
each-set P Q number zero (first ∷ clients) (was ∷ works) old new work others stands each now =
    (subst (λ (n : ℕ). Q n new work) (omega arith) now, each-weaker P Q (number + 1) clients works others each.1)
each-set P Q number (suc place) (first ∷ clients) (was ∷ works) old new work others stands each now = (
  others number first was each.0,
  each-set P Q (number + 1) place clients works old new work others stands each.1 (subst (λ (n : ℕ). Q n new work) (omega arith) now),
)

-- the deliveries to a table of two lists
pub held-append : (table : ℕ) (xs ys : List Delivery) → deliveries_held table (xs ++ ys) ≡ deliveries_held table xs + deliveries_held table ys
held-append table xs ys =
    let here : Delivery → Bool = λ (d : Delivery). nat_eq d.table table in
    ap length (filter-append here xs ys) ∙ length-append (filter here xs) (filter here ys)

-- how many deliveries the other clients have left to each table
pub record LeftBeside (place : ℕ) (clients : List Client) (client : Client) : Type 0 where
  pub others : ℕ → ℕ
  pub before : (table : ℕ) → deliveries_held table (left_in clients) ≡ deliveries_held table (left_of client) + others table
  pub behind : (new : Client) (table : ℕ) → deliveries_held table (left_in (slice_set clients place new)) ≡ deliveries_held table (left_of new) + others table

pub left-beside : (place : ℕ) (clients : List Client) (client : Client) → slice_get clients place ≡ Some client → LeftBeside place clients client
left-beside place [] client stands = absurd (cc stands)
left-beside zero (first ∷ clients) client stands = record {
  others = λ table. deliveries_held table (left_in clients);
  before = λ table.
      let same : first ≡ client = cc stands in
      omega (arith, held-append table (left_of first) (left_in clients), ap (λ (c : Client). deliveries_held table (left_of c)) same);
  behind = λ new table. held-append table (left_of new) (left_in clients);
}
left-beside (suc place) (first ∷ clients) client stands =
    let rest = left-beside place clients client stands in
    record {
      others = λ table. deliveries_held table (left_of first) + rest.others table;
      before = λ table. omega (arith, held-append table (left_of first) (left_in clients), rest.before table);
      behind = λ new table. omega (arith, held-append table (left_of first) (left_in (slice_set clients place new)), rest.behind new table);
    }

-- the deliveries that all clients have left go to the tables to which those go that are held
pub each-left : (P : ℕ → Client → Work → Type 0) (catalog : Catalog) (number : ℕ) (clients : List Client) (works : List Work)
    → ((n : ℕ) (client : Client) (work : Work) → P n client work → DeliversAll catalog (left_of client) work.left)
    → HoldsEach P number clients works → (table : ℕ) → deliveries_to table (flat_map (λ (work : Work). work.left) works) ≡ deliveries_held table (left_in clients)
each-left P catalog number [] [] held each table = refl
each-left P catalog number [] (work ∷ works) held each table = absurd each
each-left P catalog number (client ∷ clients) [] held each table = absurd each
each-left P catalog number (client ∷ clients) (work ∷ works) held each table =
    omega (
      arith,
      deliveries_to-append table work.left (flat_map (λ (w : Work). w.left) works),
      held-append table (left_of client) (left_in clients),
      delivers-to catalog (left_of client) work.left table (held number client work each.0),
      each-left P catalog (number + 1) clients works held each.1 table,
    )

pub control-left : (flight : Flight) (control : Control) → HoldsControl flight control → (table : ℕ) → deliveries_to table (deliveries_left control) ≡ deliveries_held table (left_in flight.clients.items)
control-left flight control holds table =
    let catalog = flight.store.schema.catalog in
    each-left (HoldsWork flight.script flight.pieces catalog) catalog 0 flight.clients.items control.clients (λ n client work is. is.insert.left) holds table
