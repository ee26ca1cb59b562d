-- What the clients of a script have to do as a run begins, and what holds at each of its moments.
use Rattle.std.proofs.Common.{◌≡◌, ℕ, List, [], ◌∷◌, ◌++◌, Option, All, get_or, map, replicate, refl, sym, ◌∙◌}
use Rattle.std.specs.List.{flat_map, range_with_len}
use Rattle.std.proofs.lemmas.List.Elements.{All-map}
use Rattle.chv_ast.specs.declared.statement.Statement.{Statement}
use Rattle.chv_query.specs.Accepted.{IsSchema}
use Rattle.chv_history.specs.Events.{Event, Moment, begins, behind}
use Rattle.chv_history.specs.Histories.{History, IsLawful}
use Rattle.chv_history.specs.Machine.{Turn, Next, Client, asking, deliveries_left, turns_events}
use Rattle.chv_history.specs.Traces.{IsTrace, asks_in, control_in}
use Rattle.chv_history.proofs.MadeLemmas.{AreGoing, AreMade, IsGoing, going_begun, made_kept, made_none}
use Rattle.chv_history.proofs.RoomLemmas.{LawfulMade, RoomyGoing, lawful_kept, room_none}
use Rattle.chv_history.proofs.ScriptLemmas.{asks_formed}
use Rattle.chv_history.proofs.TurnWhileLemmas.{turns_behind}

-- each asks for what is well formed, and has no insert under way
pub script_going : (script : List ℕ) (done : List Event) (history : History) → All (IsGoing done history) (control_in script).clients
unfolding control_in
script_going script done history =
    let clients = range_with_len 0 16 in
    All-map (IsGoing done history) (λ (client : ℕ). asking (asks_in script client)) clients
    (λ k client within. let number = get_or clients k client in going_begun done history (asks_in script number) (asks_formed script number))

-- so no delivery is left
nothing_asked : (asks : ℕ → List (Option Statement)) (numbers : List ℕ) → flat_map (λ (work : Client). work.left) (map (λ client. asking (asks client)) numbers) ≡ []
nothing_asked asks [] = refl
nothing_asked asks (number ∷ numbers) = nothing_asked asks numbers

pub script_none : (script : List ℕ) → deliveries_left (control_in script) ≡ []
unfolding control_in
script_none script = nothing_asked (asks_in script) (range_with_len 0 16)

-- and there is room
pub script_roomy : (script : List ℕ) (done : List Event) (m : Moment) → RoomyGoing done m (control_in script)
script_roomy script done m = (script_going script done m.history, room_none m.history (control_in script) (script_none script))

-- at each moment of a run each delivery of what is acknowledged is made
pub run_made : (script : List ℕ) (turns : List Turn) (history : History) (done left : List Event) → IsSchema history.schema → turns_events turns (begins history) (control_in script) ≡ done ++ left → AreMade done (behind done (begins history))
run_made script turns history done left schema split =
    turns_behind AreMade AreGoing made_kept turns (begins history) (control_in script) done left (made_none history schema) (script_going script [] history) split

-- and the history is lawful, where it was
pub run_lawful : (script : List ℕ) (turns : List Turn) (history : History) (done left : List Event) → IsLawful history → turns_events turns (begins history) (control_in script) ≡ done ++ left → LawfulMade done (behind done (begins history))
run_lawful script turns history done left lawful split =
    turns_behind LawfulMade RoomyGoing lawful_kept turns (begins history) (control_in script) done left (made_none history lawful.schema, lawful) (script_roomy script [] (begins history)) split

-- so it is with the events of a whole run
pub trace_made : (script : List ℕ) (turns : List Turn) (history : History) (events done left : List Event) → IsSchema history.schema → IsTrace script turns history events → events ≡ done ++ left → AreMade done (behind done (begins history))
trace_made script turns history events done left schema trace split = run_made script (turns ++ replicate trace.rest Next) history done left schema (sym trace.is ∙ split)

pub trace_lawful : (script : List ℕ) (turns : List Turn) (history : History) (events done left : List Event) → IsLawful history → IsTrace script turns history events → events ≡ done ++ left → LawfulMade done (behind done (begins history))
trace_lawful script turns history events done left lawful trace split = run_lawful script (turns ++ replicate trace.rest Next) history done left lawful (sym trace.is ∙ split)
