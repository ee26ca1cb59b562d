-- Which clients have something left to do, and which is the first.
use Rattle.std.proofs.Common.{◌≡◌, ℕ, zero, suc, ◌+◌, ◌<◌, Bool, true, false, not, cond, nat_lt, List, [], ◌∷◌, length, slice_get, Option, None, Some, refl, sym, ap, ap₂, subst, ◌∙◌, arith}
use Rattle.std.specs.List.{position, position_or_len}
use Rattle.std.proofs.lemmas.Bool.{false≢true, lt-ltb, ltb-true}
use Rattle.std.proofs.lemmas.Option.{slice_get_within}
use Rattle.chv_ast.specs.declared.statement.Statement.{Statement}
use Rattle.chv_catalog.specs.Schemas.{Catalog}
use Rattle.chv_plan.specs.Deliveries.{DeliversAll}
use Rattle.chv_plan.specs.declared.delivery.Delivery.{Delivery}
use Rattle.chv_history.specs.Events.{Plan}
use Rattle.chv_history.specs.Machine.{Client as Work, Control, first_with_work, has_more, has_work}
use Rattle.chv_flight.specs.Flights.{HoldsControl, HoldsEach, HoldsWork, asks_behind, left_of}
use Rattle.chv_flight.specs.Turns.{HasNothing, IsIdle}
use Rattle.chv_flight.specs.declared.client.Client.{Client}
use Rattle.chv_flight.specs.declared.flight.Flight.{Flight}
use Rattle.chv_flight.proofs.EachLemmas.{each-at, each-length, each-of}

-- of no deliveries nothing is held
delivers-nothing : (catalog : Catalog) (held : List Delivery) (plan : Plan) → DeliversAll catalog held plan → held ≡ [] → plan ≡ []
delivers-nothing catalog [] [] delivers none = refl
delivers-nothing catalog [] (d ∷ plan) delivers none = absurd delivers
delivers-nothing catalog (h ∷ held) plan delivers none = absurd (cc none)

nothing-delivers : (catalog : Catalog) (held : List Delivery) (plan : Plan) → DeliversAll catalog held plan → plan ≡ [] → held ≡ []
nothing-delivers catalog [] plan delivers none = refl
nothing-delivers catalog (h ∷ held) [] delivers none = absurd delivers
nothing-delivers catalog (h ∷ held) (d ∷ plan) delivers none = absurd (cc none)

-- with no work there is neither a delivery nor a statement
pub more_none : (left : Plan) (asks : List (Option Statement)) → has_more left asks ≡ false → (left ≡ []) × (asks ≡ [])
more_none [] [] none = (refl, refl)
more_none [] (asked ∷ asks) none = absurd (false≢true (sym none))
more_none (d ∷ left) asks none = absurd (false≢true (sym none))

module _ (flight : Flight) (number : ℕ) (client : Client) (work : Work) (holds : HoldsWork flight.script flight.pieces flight.store.schema.catalog number client work) where
  -- a client with nothing left has no work, and the other way round
  pub works_none : HasNothing flight number client → has_work work ≡ false
  works_none nothing =
      ap₂ has_more (delivers-nothing flight.store.schema.catalog (left_of client) work.left holds.insert.left nothing.delivered) (holds.asks ∙ nothing.answered)

  pub none_works : has_work work ≡ false → HasNothing flight number client
  none_works none =
      let both = more_none work.left work.asks none in
      record { delivered = nothing-delivers flight.store.schema.catalog (left_of client) work.left holds.insert.left both.0; answered = sym holds.asks ∙ both.1 }

-- the place of the first of some that has work
first_place : (works : List Work) (place : ℕ) (work : Work) → slice_get works place ≡ Some work → has_work work ≡ true
    → ((k : ℕ) (w : Work) → k < place → slice_get works k ≡ Some w → has_work w ≡ false) → position_or_len has_work works ≡ place
first_place [] place work stands works below = absurd (cc stands)
first_place (w ∷ rest) zero work stands works below =
    let same : w ≡ work = cc stands in
    ap (λ (b : Bool). cond (not b) (1 + position_or_len has_work rest) 0) (ap has_work same ∙ works)
first_place (w ∷ rest) (suc place) work stands works below =
    ap (λ (b : Bool). cond (not b) (1 + position_or_len has_work rest) 0) (below 0 w (omega arith) refl)
    ∙ ap (λ (n : ℕ). 1 + n) (first_place rest place work stands works (λ k v less is. below (suc k) v (omega (arith, less)) is))
    ∙ omega arith

no_place : (works : List Work) → ((k : ℕ) (w : Work) → slice_get works k ≡ Some w → has_work w ≡ false) → position_or_len has_work works ≡ length works
no_place [] none = refl
no_place (w ∷ rest) none =
    ap (λ (b : Bool). cond (not b) (1 + position_or_len has_work rest) 0) (none 0 w refl)
    ∙ ap (λ (n : ℕ). 1 + n) (no_place rest (λ k v is. none (suc k) v is))
    ∙ omega arith

not_below : (a : ℕ) → nat_lt a a ≡ false
not_below a = elim (nat_lt a a) as (λ (c : Bool). nat_lt a a ≡ c → nat_lt a a ≡ false) [
  | true ↦ λ is. absurd (omega (arith, ltb-true a a is))
  | false ↦ λ is. is
] refl

-- the first client with work
pub first_is : (control : Control) (place : ℕ) (work : Work) → slice_get control.clients place ≡ Some work → has_work work ≡ true
    → ((k : ℕ) (w : Work) → k < place → slice_get control.clients k ≡ Some w → has_work w ≡ false) → first_with_work control ≡ Some place
first_is control place work stands works below =
    let at = first_place control.clients place work stands works below in
    ap (λ (n : ℕ). cond (nat_lt n (length control.clients)) (Some n) None) at
    ∙ ap (λ (b : Bool). cond b (Some place) None) (lt-ltb place (length control.clients) (slice_get_within control.clients place work stands))

pub none_is : (control : Control) → ((k : ℕ) (w : Work) → slice_get control.clients k ≡ Some w → has_work w ≡ false) → first_with_work control ≡ None
none_is control none =
    let many = length control.clients in
    let at = no_place control.clients none in
    ap (λ (n : ℕ). cond (nat_lt n many) (Some n) None) at ∙ ap (λ (b : Bool). cond b (Some many) None) (not_below many)

-- the clients below a number are idle
abbrev pub AreIdle : Flight → ℕ → Type 0
AreIdle flight number = (other : ℕ) → other < number → IsIdle flight other

module _ (flight : Flight) (control : Control) (holds : HoldsControl flight control) where
  abbrev Holds : ℕ → Client → Work → Type 0
  Holds = HoldsWork flight.script flight.pieces flight.store.schema.catalog

  -- of an idle client no work is left
  pub idle_works : (number : ℕ) (work : Work) → IsIdle flight number → slice_get control.clients number ≡ Some work → has_work work ≡ false
  idle_works number work idle stands =
      let at = each-of Holds 0 number flight.clients.items control.clients work holds stands in
      works_none flight number at.client work (subst (λ (n : ℕ). Holds n at.client work) (omega arith) at.holds) (idle at.client at.stands)

  -- so where all clients are idle, none has work
  pub all_idle : (many : ℕ) → length flight.clients.items ≡ many → AreIdle flight many → first_with_work control ≡ None
  all_idle many is idle =
      none_is control (λ k w stands. idle_works k w (idle k (omega (arith, is, each-length Holds 0 flight.clients.items control.clients holds, slice_get_within control.clients k w stands))) stands)

  -- and behind idle ones the first that is not is the first with work
  pub first_busy : (number : ℕ) (client : Client) → slice_get flight.clients.items number ≡ Some client → AreIdle flight number → (HasNothing flight number client → ⊥) → first_with_work control ≡ Some number
  first_busy number client stands idle busy =
      let at = each-at Holds 0 number flight.clients.items control.clients client holds stands in
      let its : Holds number client at.work = subst (λ (n : ℕ). Holds n client at.work) (omega arith) at.holds in
      let works : has_work at.work ≡ true = elim (has_work at.work) as (λ (b : Bool). has_work at.work ≡ b → has_work at.work ≡ true) [
        | true ↦ λ is. is
        | false ↦ λ is. absurd (busy (none_works flight number client at.work its is))
      ] refl in
      first_is control number at.work at.stands works (λ k w less there. idle_works k w (idle k less) there)
