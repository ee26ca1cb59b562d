-- Deliveries that are made one after the other.
use Rattle.std.proofs.Common.{◌≡◌, ℕ, zero, suc, ◌+◌, List, [], ◌∷◌, ◌++◌, length, map, take, drop, slice_get, Some, Ok, Err, IsErr, refl, sym, ap, ap₂, subst, ◌∙◌, arith}
use Rattle.std.specs.Prelude.{Result}
use Rattle.std.proofs.lemmas.List.{map-append, take-append-drop}
use Rattle.chv_catalog.specs.Schemas.{Catalog}
use Rattle.chv_query.specs.Plans.{Delivery}
use Rattle.chv_plan.specs.Deliveries.{Delivers as IsHeldDelivery, DeliversAll}
use Rattle.chv_plan.specs.declared.delivery.Delivery.{Delivery as HeldDelivery}
use Rattle.chv_site.specs.During.{During}
use Rattle.chv_site.specs.Images.{Image, IsLeft}
use Rattle.chv_site.specs.Outside.{Outside}
use Rattle.chv_site.specs.declared.fault.Failed.{Failed}
use Rattle.chv_site.proofs.Moments.{goes_on, started, weakened}
use Rattle.chv_store.specs.Stores.{IsWithin}
use Rattle.chv_store.specs.declared.store.Store.{Store}
use Rattle.chv_history.specs.Crashes.{IsLeftBy}
use Rattle.chv_history.specs.Events.{Event, Moment, Plan, behind, happen, written_in}
use Rattle.chv_history.specs.Kept.{Kept, kept_delivery, kept_plan}
use Rattle.chv_history.specs.Runs.{delivery_event, written_of}
use Rattle.chv_history.proofs.LeftLemmas.{behind-append, early, onward}
use Rattle.chv_flight.specs.Answers.{HoldsKept, IsAt}
use Rattle.chv_flight.specs.Deliveries.{Delivers}
use Rattle.chv_flight.proofs.AnswerLemmas.{moment_still}
use Rattle.chv_flight.proofs.DeliverLemmas.{no_answer, nothing_ok}

-- there are as many deliveries as are held
pub delivers-length : (catalog : Catalog) (plan : List HeldDelivery) (all : List Delivery) → DeliversAll catalog plan all → length all ≡ length plan
delivers-length catalog [] [] delivers = refl
delivers-length catalog [] (delivery ∷ all) delivers = absurd delivers
delivers-length catalog (held ∷ plan) [] delivers = absurd delivers
delivers-length catalog (held ∷ plan) (delivery ∷ all) delivers = omega (arith, delivers-length catalog plan all delivers.1)

-- what is held at a place is that of the delivery there, which is the last of those up to it
pub record DeliversAt (catalog : Catalog) (held : HeldDelivery) (place : ℕ) (all : List Delivery) : Type 0 where
  pub delivery : Delivery
  pub delivers : IsHeldDelivery catalog held delivery
  pub next : take (place + 1) all ≡ take place all ++ delivery ∷ []

pub delivers-at : (catalog : Catalog) (plan : List HeldDelivery) (all : List Delivery) (place : ℕ) (held : HeldDelivery) → DeliversAll catalog plan all → slice_get plan place ≡ Some held → DeliversAt catalog held place all
delivers-at catalog [] all place held delivers there = absurd (cc there)
delivers-at catalog (first ∷ plan) [] place held delivers there = absurd delivers
delivers-at catalog (first ∷ plan) (delivery ∷ all) zero held delivers there = record {
  delivery = delivery;
  delivers = let same : first ≡ held = cc there in subst (λ (h : HeldDelivery). IsHeldDelivery catalog h delivery) same delivers.0;
  next = refl;
}
delivers-at catalog (first ∷ plan) (delivery ∷ all) (suc place) held delivers there =
    let at = delivers-at catalog plan all place held delivers.1 there in
    let same : suc place + 1 ≡ suc (place + 1) = omega arith in
    record {
      delivery = at.delivery;
      delivers = at.delivers;
      next = ap (λ (n : ℕ). take n (delivery ∷ all)) same ∙ ap (λ (l : List Delivery). delivery ∷ l) at.next;
    }

-- the events of some deliveries and then of others, and what is held and counted behind them
pub behind_plan : (xs ys : Plan) (m : Moment) → behind (map delivery_event (xs ++ ys)) m ≡ behind (map delivery_event ys) (behind (map delivery_event xs) m)
behind_plan xs ys m = ap (λ (events : List Event). behind events m) (map-append delivery_event xs ys) ∙ behind-append (map delivery_event xs) (map delivery_event ys) m

pub kept_plan-append : (xs ys : Plan) (kept : Kept) → kept_plan (xs ++ ys) kept ≡ kept_plan ys (kept_plan xs kept)
kept_plan-append [] ys kept = refl
kept_plan-append (x ∷ xs) ys kept = kept_plan-append xs ys (kept_delivery x kept)

pub written_of-append : (xs ys : Plan) (m : Moment) → written_of (xs ++ ys) m.history ≡ written_of xs m.history + written_of ys (behind (map delivery_event xs) m).history
written_of-append [] ys m = omega arith
written_of-append (x ∷ xs) ys m =
    let first = length (written_in x.table (x.entry ∷ []) m.history) in
    let later = happen (delivery_event x) m in
    let rest : written_of (xs ++ ys) later.history ≡ written_of xs later.history + written_of ys (behind (map delivery_event xs) later).history = written_of-append xs ys later in
    ap (λ (n : ℕ). first + n) rest ∙ omega arith

-- no delivery was made yet
pub delivers_none : (tells : Type 0) (was : Store) (old : Outside) → IsWithin was → (tells → (image : Image) (text : List ℕ) → old.left_since old.moment image text → IsLeft old.files old.said image text)
    → Delivers tells [] (Ok 0) was was old old
delivers_none tells was old within only_now = record {
  delivered = λ tell before m at. (at, refl);
  during = λ tell before m at. moment_still was old old before [] m within at (started old (IsLeft old.files old.said) (only_now tell));
  kept = λ kept has. has;
  logged = λ tell logged. logged;
  said = λ tell. refl;
}

-- after an error, whatever it is
pub delivers_err : (tells : Type 0) (plan : Plan) (one other : Result ℕ Failed) (was is : Store) (old new : Outside) → IsErr other → Delivers tells plan one was is old new → Delivers tells plan other was is old new
delivers_err tells plan one other was is old new err made = record {
  delivered = λ tell. no_answer other _ err;
  during = made.during;
  kept = nothing_ok other _ err;
  logged = λ tell. nothing_ok other _ err;
  said = made.said;
}

-- so many more were written
abbrev pub and_more : ℕ → Result ℕ Failed → Result ℕ Failed
and_more written (Ok more) = Ok (written + more)
and_more written (Err failed) = Err failed

module _ (tells : Type 0) (xs ys : Plan) (was mid is : Store) (old between new : Outside) (written : ℕ) (first : Delivers tells xs (Ok written) was mid old between) where
  events_are : map delivery_event xs ++ map delivery_event ys ≡ map delivery_event (xs ++ ys)
  events_are = sym (map-append delivery_event xs ys)

  -- what a crash leaves of others behind them
  both_during : (before : List ℕ) (m : Moment) → During old between (IsLeftBy (map delivery_event xs) before m) → During between new (IsLeftBy (map delivery_event ys) before (behind (map delivery_event xs) m))
      → During old new (IsLeftBy (map delivery_event (xs ++ ys)) before m)
  both_during before m one two =
      let start = map delivery_event xs in
      let rest = map delivery_event ys in
      subst (λ (events : List Event). During old new (IsLeftBy events before m)) events_are
      (goes_on old between new (IsLeftBy (start ++ rest) before m) (IsLeftBy rest before (behind start m))
      (weakened old between (IsLeftBy start before m) (IsLeftBy (start ++ rest) before m) one (λ image text left. early start rest before m image text left)) two
      (λ image text left. onward start rest before m image text left))

  all_at : (before : List ℕ) (m : Moment) (more : ℕ) → IsAt mid between before (behind (map delivery_event xs) m) × (written ≡ written_of xs m.history)
      → IsAt is new before (behind (map delivery_event ys) (behind (map delivery_event xs) m)) × (more ≡ written_of ys (behind (map delivery_event xs) m).history)
      → IsAt is new before (behind (map delivery_event (xs ++ ys)) m) × (written + more ≡ written_of (xs ++ ys) m.history)
  all_at before m more one two =
      (subst (IsAt is new before) (sym (behind_plan xs ys m)) two.0, ap₂ (λ (a b : ℕ). a + b) one.1 two.1 ∙ sym (written_of-append xs ys m))

  -- deliveries were made, and then others, or not
  pub delivers_then : (result : Result ℕ Failed) → Delivers tells ys result mid is between new → Delivers tells (xs ++ ys) (and_more written result) was is old new
  delivers_then (Ok more) second = record {
    delivered = λ tell before m at. let one = first.delivered tell before m at in all_at before m more one (second.delivered tell before (behind (map delivery_event xs) m) one.0);
    during = λ tell before m at. both_during before m (first.during tell before m at) (second.during tell before (behind (map delivery_event xs) m) (first.delivered tell before m at).0);
    kept = λ kept has. subst (HoldsKept is) (sym (kept_plan-append xs ys kept)) (second.kept (kept_plan xs kept) (first.kept kept has));
    logged = λ tell logged. second.logged tell (first.logged tell logged);
    said = λ tell. second.said tell ∙ first.said tell;
  }
  delivers_then (Err failed) second = record {
    delivered = λ tell. tt;
    during = λ tell before m at. both_during before m (first.during tell before m at) (second.during tell before (behind (map delivery_event xs) m) (first.delivered tell before m at).0);
    kept = tt;
    logged = λ tell. tt;
    said = λ tell. second.said tell ∙ first.said tell;
  }

-- a delivery that was not made ends them all
pub delivers_early : (tells : Type 0) (xs ys : Plan) (result : Result ℕ Failed) (was is : Store) (old new : Outside) → IsErr result → Delivers tells xs result was is old new → Delivers tells (xs ++ ys) result was is old new
delivers_early tells xs ys result was is old new err made = record {
  delivered = λ tell. no_answer result _ err;
  during = λ tell before m at.
      subst (λ (events : List Event). During old new (IsLeftBy events before m)) (sym (map-append delivery_event xs ys))
      (weakened old new (IsLeftBy (map delivery_event xs) before m) (IsLeftBy (map delivery_event xs ++ map delivery_event ys) before m) (made.during tell before m at)
      (λ image text left. early (map delivery_event xs) (map delivery_event ys) before m image text left));
  kept = nothing_ok result _ err;
  logged = λ tell. nothing_ok result _ err;
  said = made.said;
}

-- the next delivery at a place is made, or not
module _ (tells : Type 0) (catalog : Catalog) (held : HeldDelivery) (place : ℕ) (all : Plan) (next : DeliversAt catalog held place all) (was mid is : Store) (old between new : Outside) (written : ℕ)
    (first : Delivers tells (take place all) (Ok written) was mid old between) where
  pub delivers_next : (more : ℕ) → Delivers tells (next.delivery ∷ []) (Ok more) mid is between new → Delivers tells (take (place + 1) all) (Ok (written + more)) was is old new
  delivers_next more one =
      subst (λ (plan : Plan). Delivers tells plan (Ok (written + more)) was is old new) (sym next.next)
      (delivers_then tells (take place all) (next.delivery ∷ []) was mid is old between new written first (Ok more) one)

  pub delivers_ended : (result ends : Result ℕ Failed) → IsErr ends → Delivers tells (next.delivery ∷ []) result mid is between new → Delivers tells all ends was is old new
  delivers_ended result ends err one =
      let both = delivers_then tells (take place all) (next.delivery ∷ []) was mid is old between new written first result one in
      let some : Delivers tells (take (place + 1) all) ends was is old new =
      subst (λ (plan : Plan). Delivers tells plan ends was is old new) (sym next.next) (delivers_err tells (take place all ++ next.delivery ∷ []) (and_more written result) ends was is old new err both) in
      subst (λ (plan : Plan). Delivers tells plan ends was is old new) (take-append-drop (place + 1) all)
      (delivers_early tells (take (place + 1) all) (drop (place + 1) all) ends was is old new err some)
