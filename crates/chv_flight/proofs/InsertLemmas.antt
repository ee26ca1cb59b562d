-- What comes of an insert: it is refused for want of room; or its deliveries are made, and a reply says how many were written.
use Rattle.std.proofs.Common.{◌≡◌, ℕ, ◌+◌, ◌-◌, ◌≤◌, Bool, false, not, List, [], ◌∷◌, length, map, Ok, Err, IsErr, refl, sym, ap, subst, ◌∙◌, arith}
use Rattle.std.specs.Prelude.{Result}
use Rattle.chv_ast.specs.declared.refusal.Refusal.{Refusal}
use Rattle.chv_ast.specs.declared.refusal.Refusal.TheVariants.{LimitPassed}
use Rattle.chv_ast.specs.declared.statement.Insert.{Insert}
use Rattle.chv_catalog.specs.Schemas.{Catalog}
use Rattle.chv_query.specs.Plans.{planned}
use Rattle.chv_site.specs.Faults.{CountsDisk}
use Rattle.chv_site.specs.Outside.{Outside}
use Rattle.chv_site.specs.declared.fault.Failed.{Failed}
use Rattle.chv_site.proofs.Moments.{weakened}
use Rattle.chv_store.specs.Calls.{HoldsSame}
use Rattle.chv_store.specs.Stores.{IsUsable}
use Rattle.chv_store.specs.declared.store.Store.{Store}
use Rattle.chv_table.specs.declared.fault.PutFault.TheVariants as put
use Rattle.chv_text.specs.Replies.{insert_line}
use Rattle.chv_types.specs.Steps.{and_then, refuse_if}
use Rattle.chv_history.specs.Crashes.{IsLeftBy}
use Rattle.chv_history.specs.Events.{Moment, Plan}
use Rattle.chv_history.specs.Runs.{delivery_event, task_events, written_of}
use Rattle.chv_history.specs.Tasks.{Bring}
use Rattle.chv_history.proofs.LeftLemmas.{early}
use Rattle.chv_history.proofs.RequestLemmas.{deliveries_refused}
use Rattle.chv_flight.specs.Answers.{Answers, IsAt, Replies, insert_wish, plan_wish}
use Rattle.chv_flight.specs.Deliveries.{Delivers}
use Rattle.chv_flight.specs.declared.fault.RunFault.{RunFault}
use Rattle.chv_flight.specs.declared.fault.RunFault.TheVariants.{Disk}
use Rattle.chv_flight.proofs.AnswerLemmas.{Asks, counts_read, same_kept, same_logged}
use Rattle.chv_flight.proofs.DoneLemmas.{Done, TellsNone, done_answers, ended_task}

-- what is planned is what an insert asks for
pub insert_asks : (catalog : Catalog) (insert : Insert) (plan : Plan) (entries : ℕ → ℕ) → planned catalog insert ≡ Ok plan → plan_wish plan catalog entries ≡ insert_wish insert catalog entries
insert_asks catalog insert plan entries is = sym (ap (λ (r : Result Plan Refusal). and_then r (λ p. plan_wish p catalog entries)) is)

-- what is not planned is refused
pub insert_refused : (store : Store) (insert : Insert) (refuses : Refusal) → planned store.schema.catalog insert ≡ Err refuses → Asks (insert_wish insert) store (Err refuses)
insert_refused store insert refuses is entries agree = ap (λ (r : Result Plan Refusal). and_then r (λ p. plan_wish p store.schema.catalog entries)) is

-- deliveries ask for no rows
bring_tells_none : (plan : Plan) → TellsNone (Bring plan)
bring_tells_none plan query same = cc same

-- a store that holds the same is at the same moment
pub same_at : (was is : Store) (old : Outside) (before : List ℕ) (m : Moment) → HoldsSame was is → IsAt was old before m → IsAt is old before m
same_at was is old before m same at = record { lawful = at.lawful; catalog = ap (λ s. s.catalog) same.schema ∙ at.catalog; holds = same.books old.files _ _ at.holds; text = at.text }

-- room was made for them, and they were made
module _ (tells : Type 0) (client : ℕ) (plan : Plan) (was mid is : Store) (old new : Outside) (same : HoldsSame was mid) where
  module _ (written : ℕ) (made : Delivers tells plan (Ok written) mid is old new) (ready : IsUsable tells is new) (disk : new.disk_faults ≡ old.disk_faults) (say : new.say_faults ≡ old.say_faults) where
    bring_done : Done tells client (Bring plan) (insert_line client written (length plan - written)) was is old new
    bring_done = record {
      events = λ history. map delivery_event plan;
      text = λ history. insert_line client (written_of plan history) (length plan - written_of plan history);
      plans = plan ∷ [];
      are = λ history. refl;
      at = λ tell before m at. (made.delivered tell before m (same_at was mid old before m same at)).0;
      says = λ tell before m at. ap (λ (n : ℕ). insert_line client n (length plan - n)) (made.delivered tell before m (same_at was mid old before m same at)).1;
      mark = deliveries_refused plan;
      during = λ tell before m at. made.during tell before m (same_at was mid old before m same at);
      kept = λ kept has. made.kept kept (same_kept was mid kept same has);
      logged = λ tell logged. made.logged tell (same_logged was mid old.files old.files same (λ f. refl) logged);
      usable = ready;
      disk = disk;
      say = say;
    }

    pub bring_answers : IsUsable tells was old → Asks (plan_wish plan) was (Ok (Bring plan)) → (line : List ℕ) → line ≡ insert_line client written (length plan - written) → (answer : Result Bool RunFault) (end : Outside)
        → Replies tells line false answer new end → Answers tells client (plan_wish plan) answer was is old end
    bring_answers usable asks line same_line answer end replies =
        done_answers tells client (plan_wish plan) (Bring plan) (bring_tells_none plan) was is old usable asks (insert_line client written (length plan - written)) answer new end bring_done
        (subst (λ (l : List ℕ). Replies tells l false answer new end) same_line replies)

  -- or not all of them
  pub bring_ended : (r : Result ℕ Failed) → IsErr r → Delivers tells plan r mid is old new → CountsDisk (IsErr r) old new → IsUsable tells was old → Asks (plan_wish plan) was (Ok (Bring plan))
      → Answers tells client (plan_wish plan) (Err Disk) was is old new
  bring_ended r err made counts usable asks =
      ended_task tells client (plan_wish plan) (Bring plan) put.Failed was is old new (bring_tells_none plan) usable asks
      (λ tell before m at.
      weakened old new (IsLeftBy (map delivery_event plan) before m) (IsLeftBy (task_events client (Bring plan) m.history) before m) (made.during tell before m (same_at was mid old before m same at))
      (λ image text left. early (map delivery_event plan) _ before m image text left))
      (counts_read Disk (IsErr r) old new counts (λ is. err) (λ is. refl) (λ is. cc is))
