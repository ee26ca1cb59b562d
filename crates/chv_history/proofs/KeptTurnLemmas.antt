-- What is held stays that of the history over turns, which refuse a statement as what is held says.
use Rattle.std.proofs.Common.{◌≡◌, ℕ, ◌+◌, ◌-◌, ◌≤◌, Bool, true, false, ◌||◌, if◌then◌else◌, List, [], ◌∷◌, ◌++◌, length, replicate, Option, None, Some, Result, Ok, Err, slice_get, All, refl, sym, ap, subst, ◌∙◌, arith}
use Rattle.std.specs.List.{list_any}
use Rattle.std.proofs.lemmas.List.Elements.{All-head}
use Rattle.chv_ast.specs.declared.refusal.Refusal.{Refusal}
use Rattle.chv_ast.specs.declared.statement.Statement.{Statement}
use Rattle.chv_catalog.specs.Schemas.{Catalog}
use Rattle.chv_catalog.specs.declared.table_def.TableDef.{TableDef}
use Rattle.chv_query.specs.Accepted.{IsSchema, catalog_of, tables_of}
use Rattle.chv_query.specs.Plans.{Delivery}
use Rattle.chv_query.proofs.ArrivalLemmas.{ArrivesIn}
use Rattle.chv_sip.specs.BlockIds.{id_eq, last_ids}
use Rattle.chv_history.specs.Events.{Event, Plan, Moment, begins, behind}
use Rattle.chv_history.specs.Histories.{History, ids_in, window_at, window_in}
use Rattle.chv_history.specs.Kept.{Kept, IsKeptOf, IsRefused, entries_kept, kept_delivery}
use Rattle.chv_history.specs.KeptTurns.{IsRefusedBy, IsStatementRefused, IsTurnRefused, RunRefuses, TurnsRefuse, answer_kept, kept_by, kept_statement, kept_taken, kept_turn, kept_turns, left_by, left_turns, written_kept}
use Rattle.chv_history.specs.Machine.{Turn, Next, Client, Control, act_control, act_events, answer_in, behind_answer, behind_delivery, behind_statement, client_of, deliveries_left, end_events, events_by, control_by, first_with_work, statement_events, taken_events, turn_events, turns_control, turns_events, with_planned, written_by}
use Rattle.chv_history.specs.Runs.{delivered, entries_in}
use Rattle.chv_history.specs.Tasks.{Task, Bring, Make, TellParts, TellRows, deliveries_to, task_of}
use Rattle.chv_history.specs.Traces.{IsTrace, control_in}
use Rattle.chv_history.proofs.CommitLemmas.{is_skipped}
use Rattle.chv_history.proofs.KeptLemmas.{Agree, kept_agrees, kept_answered, kept_delivered, kept_tables, refused_answered, task_agrees}
use Rattle.chv_history.proofs.LeftLemmas.{behind-append}
use Rattle.chv_history.proofs.LookupLemmas.{AreFilling, schema-filling, table_at}
use Rattle.chv_history.proofs.MadeLemmas.{AreGoing, AreMade, at_client, known_table, made_kept, made_none}
use Rattle.chv_history.proofs.RequestLemmas.{or_assoc, or_false}
use Rattle.chv_history.proofs.StartLemmas.{script_going}
use Rattle.chv_history.proofs.TurnLemmas.{whose, with_client}
use Rattle.chv_history.proofs.WhileLemmas.{while_last}

-- a delivery goes to a table that stands
abbrev Known : Catalog → Delivery → Type 0
Known catalog d = (1 ≤ d.table) × (d.table ≤ length catalog.tables)

-- a block is written or skipped by what is held as it is by the history
module _ (kept : Kept) (history : History) (is : IsKeptOf kept history) (d : Delivery) (known : Known kept.catalog d) where
  abbrev place : ℕ
  place = d.table - 1

  abbrev found : (def : TableDef) × (slice_get kept.catalog.tables place ≡ Some def)
  found = table_at kept.catalog.tables place (omega (arith, known.0, known.1))

  skips_same : list_any (id_eq d.entry.id) (kept.states d.table).ids ≡ is_skipped d.table d.entry history
  skips_same =
      let number : place + 1 ≡ d.table = omega (arith, known.0) in
      let ids : (kept.states d.table).ids ≡ last_ids found.0.window (ids_in (history.arrivals d.table)) =
      subst (λ (n : ℕ). (kept.states n).ids ≡ last_ids found.0.window (ids_in (history.arrivals n))) number (is.ids place found.0 found.1) in
      let window : window_at (tables_of history.schema) d.table ≡ found.0.window =
      ap (λ (tables : List TableDef). window_at tables d.table) (sym (kept_tables kept history is)) ∙ ap window_in found.1 in
      ap (list_any (id_eq d.entry.id)) ids ∙ ap (λ (w : ℕ). list_any (id_eq d.entry.id) (last_ids w (ids_in (history.arrivals d.table)))) (sym window)

  written_same : written_by history d ≡ written_kept kept d
  written_same =
      elim (is_skipped d.table d.entry history) as (λ (b : Bool). length (if b then [] else d.entry ∷ []) ≡ (if b then 0 else 1)) [
        | true ↦ refl
        | false ↦ refl
      ]
      ∙ ap (λ (b : Bool). if b then 0 else 1) (sym skips_same)

-- of a turn
module _ (kept : Kept) (done : List Event) (m : Moment) (control : Control) (made : AreMade done m) (going : AreGoing done m control) (is : IsKeptOf kept m.history) where
  answer_same : (asked : Option Statement) → answer_in m.history control asked ≡ answer_kept kept control asked
  answer_same asked =
      let here = with_planned (entries_in m.history) control in
      let held = with_planned (entries_kept kept) control in
      let agree : Agree kept.catalog.tables held here = λ table first last. ap (λ (n : ℕ). n + deliveries_to table (deliveries_left control)) (kept_agrees kept m.history is table first last) in
      ap (λ (catalog : Catalog). task_of catalog here asked) (sym is.catalog)
      ∙ sym (task_agrees kept.catalog held here asked (subst AreFilling (sym is.catalog) (schema-filling m.history.schema made.0)) agree)

  -- what the client has to do behind its turn
  asks_same : (asks : List (Option Statement)) (work : Client) → behind_statement (answer_kept kept control) asks work ≡ behind_statement (answer_in m.history control) asks work
  asks_same [] work = refl
  asks_same (asked ∷ asks) work = ap (behind_answer asks) (sym (answer_same asked))

  left_same : (left : Plan) (work : Client) → All (ArrivesIn (catalog_of m.history.schema)) left
      → behind_delivery (answer_kept kept control) (written_kept kept) left work ≡ behind_delivery (answer_in m.history control) (written_by m.history) left work
  left_same [] work arrive = asks_same work.asks work
  left_same (d ∷ left) work arrive =
      let known : Known kept.catalog d =
      subst (λ (catalog : Catalog). Known catalog d) (sym is.catalog) (known_table (catalog_of m.history.schema) d (All-head (ArrivesIn (catalog_of m.history.schema)) d left arrive)) in
      ap (λ (n : ℕ). record work { left = left; written = work.written + n }) (sym (written_same kept m.history is d known))

  control_by_same : (found : Option (ℕ × Client)) (turn : Turn) → client_of turn control ≡ found → left_by found kept control ≡ control_by found m.history control
  control_by_same None turn at = refl
  control_by_same (Some (client, work)) turn at =
      ap (with_client control client) (left_same work.left work (at_client done m control made going client work (whose turn control client work at)).under_way.are_left)

  pub control_same : (turn : Turn) → left_by (client_of turn control) kept control ≡ act_control turn m.history control
  control_same turn = control_by_same (client_of turn control) turn refl

  -- what is held behind it
  taken_held : (client : ℕ) (task : Result Task Refusal) → IsKeptOf (kept_taken task kept) (behind (taken_events client task m.history) m).history
  taken_held client (Ok (Bring plan)) = is
  taken_held client (Ok (Make accepted)) = kept_answered client (Ok (Make accepted)) kept m is
  taken_held client (Ok (TellRows query)) = kept_answered client (Ok (TellRows query)) kept m is
  taken_held client (Ok (TellParts table def)) = kept_answered client (Ok (TellParts table def)) kept m is
  taken_held client (Err refuses) = kept_answered client (Err refuses) kept m is

  asks_held : (client : ℕ) (asks : List (Option Statement)) → IsKeptOf (kept_statement (answer_kept kept control) asks kept) (behind (statement_events client (answer_in m.history control) asks m.history) m).history
  asks_held client [] = is
  asks_held client (asked ∷ asks) =
      subst (λ (task : Result Task Refusal). IsKeptOf (kept_taken (answer_kept kept control asked) kept) (behind (taken_events client task m.history) m).history) (sym (answer_same asked))
      (taken_held client (answer_kept kept control asked))

  end_held : (client : ℕ) (plan : Plan) (written : ℕ) (left : Plan) (next : Moment) → (behind (end_events client plan written left) next).history ≡ next.history
  end_held client plan written [] next = refl
  end_held client plan written (d ∷ left) next = refl

  left_held : (client : ℕ) (left : Plan) (work : Client)
      → IsKeptOf (kept_turn (answer_kept kept control) left work kept) (behind (turn_events client (answer_in m.history control) left work m.history) m).history
  left_held client [] work = asks_held client work.asks
  left_held client (d ∷ left) work =
      subst (IsKeptOf (kept_delivery d kept)) (sym (end_held client work.plan (work.written + written_by m.history d) left (record m { history = delivered d m.history }))) (kept_delivered d kept m.history is)

  held_by : (found : Option (ℕ × Client)) → IsKeptOf (kept_by found kept control) (behind (events_by found m.history control) m).history
  held_by None = is
  held_by (Some (client, work)) = left_held client work.left work

  pub turn_held : (turn : Turn) → IsKeptOf (kept_by (client_of turn control) kept control) (behind (act_events turn m.history control) m).history
  turn_held turn = held_by (client_of turn control)

  -- whether the moment behind it is marked
  abbrev Marks : (Bool → Type 0) → List Event → Type 0
  Marks Is events = (first : Bool) × ((behind events m).refused ≡ (m.refused || first)) × Is first

  taken_marks : (client : ℕ) (task : Result Task Refusal) → Marks (IsRefused task) (taken_events client task m.history)
  taken_marks client (Ok (Bring plan)) = (false, or_false m.refused, refl)
  taken_marks client (Ok (Make accepted)) = let marks = refused_answered client (Ok (Make accepted)) m in (marks.first, marks.marks, marks.is)
  taken_marks client (Ok (TellRows query)) = let marks = refused_answered client (Ok (TellRows query)) m in (marks.first, marks.marks, marks.is)
  taken_marks client (Ok (TellParts table def)) = let marks = refused_answered client (Ok (TellParts table def)) m in (marks.first, marks.marks, marks.is)
  taken_marks client (Err refuses) = let marks = refused_answered client (Err refuses) m in (marks.first, marks.marks, marks.is)

  asks_marks : (client : ℕ) (asks : List (Option Statement)) → Marks (IsStatementRefused (answer_kept kept control) asks) (statement_events client (answer_in m.history control) asks m.history)
  asks_marks client [] = (false, or_false m.refused, refl)
  asks_marks client (asked ∷ asks) =
      subst (λ (task : Result Task Refusal). Marks (IsRefused (answer_kept kept control asked)) (taken_events client task m.history)) (sym (answer_same asked))
      (taken_marks client (answer_kept kept control asked))

  end_marks : (client : ℕ) (plan : Plan) (written : ℕ) (left : Plan) (next : Moment) → (behind (end_events client plan written left) next).refused ≡ (next.refused || false)
  end_marks client plan written [] next = refl
  end_marks client plan written (d ∷ left) next = or_false next.refused

  left_marks : (client : ℕ) (left : Plan) (work : Client) → Marks (IsTurnRefused (answer_kept kept control) left work) (turn_events client (answer_in m.history control) left work m.history)
  left_marks client [] work = asks_marks client work.asks
  left_marks client (d ∷ left) work = (false, end_marks client work.plan (work.written + written_by m.history d) left (record m { history = delivered d m.history }), refl)

  marks_by : (found : Option (ℕ × Client)) → Marks (IsRefusedBy found kept control) (events_by found m.history control)
  marks_by None = (false, or_false m.refused, refl)
  marks_by (Some (client, work)) = left_marks client work.left work

  pub turn_marks : (turn : Turn) → Marks (IsRefusedBy (client_of turn control) kept control) (act_events turn m.history control)
  turn_marks turn = marks_by (client_of turn control)

-- over turns: what all clients have to do is the same, what is held is that of the history, and the mark is what it says
pub record StaysKept (turns : List Turn) (kept : Kept) (m : Moment) (before after : Control) : Type 0 where
  pub control : left_turns turns kept before ≡ turns_control turns m after
  pub held : IsKeptOf (kept_turns turns kept before) (behind (turns_events turns m after) m).history
  pub later : Bool
  pub marks : (behind (turns_events turns m after) m).refused ≡ (m.refused || later)
  pub refuses : TurnsRefuse turns kept before later

pub stays_kept : (turns : List Turn) (kept : Kept) (done : List Event) (m : Moment) (control : Control) → AreMade done m → AreGoing done m control → IsKeptOf kept m.history → StaysKept turns kept m control control
stays_kept [] kept done m control made going is = record { control = refl; held = is; later = false; marks = or_false m.refused; refuses = refl }
stays_kept (turn ∷ turns) kept done m control made going is =
    let events = act_events turn m.history control in
    let next = behind events m in
    let after = act_control turn m.history control in
    let follows = kept_by (client_of turn control) kept control in
    let mark = turn_marks kept done m control made going is turn in
    let kept_on = made_kept turn done m control made going in
    let rest : StaysKept turns follows next (left_by (client_of turn control) kept control) after =
    subst (λ (c : Control). StaysKept turns follows next c after) (sym (control_same kept done m control made going is turn))
    (stays_kept turns follows (done ++ events) next after (while_last AreMade events done m kept_on.0) kept_on.1 (turn_held kept done m control made going is turn)) in
    let all : behind (turns_events turns next after) next ≡ behind (turns_events (turn ∷ turns) m control) m = sym (behind-append events (turns_events turns next after) m) in
    record {
      control = rest.control;
      held = subst (λ (n : Moment). IsKeptOf (kept_turns (turn ∷ turns) kept control) n.history) all rest.held;
      later = mark.0 || rest.later;
      marks = ap (λ (n : Moment). n.refused) (sym all) ∙ rest.marks ∙ ap (λ (b : Bool). b || rest.later) mark.1 ∙ or_assoc m.refused mark.0 rest.later;
      refuses = (mark.0, rest.later, refl, mark.2, rest.refuses);
    }

-- so it is in a run of a script that begins with nothing refused
module _ (script : List ℕ) (kept : Kept) (history : History) (schema : IsSchema history.schema) (is : IsKeptOf kept history) where
  abbrev Stays : List Turn → Type 0
  Stays turns = StaysKept turns kept (begins history) (control_in script) (control_in script)

  stays : (turns : List Turn) → Stays turns
  stays turns = stays_kept turns kept [] (begins history) (control_in script) (made_none history schema) (script_going script [] history) is

  pub turns_kept : (turns : List Turn)
      → (left_turns turns kept (control_in script) ≡ turns_control turns (begins history) (control_in script))
      × IsKeptOf (kept_turns turns kept (control_in script)) (behind (turns_events turns (begins history) (control_in script)) (begins history)).history
      × TurnsRefuse turns kept (control_in script) (behind (turns_events turns (begins history) (control_in script)) (begins history)).refused
  turns_kept turns = let all = stays turns in (all.control, all.held, subst (TurnsRefuse turns kept (control_in script)) (sym all.marks) all.refuses)

  -- so does a whole run
  pub run_refuses : (turns : List Turn) (events : List Event) → IsTrace script turns history events → RunRefuses script turns kept (behind events (begins history)).refused
  run_refuses turns events trace =
      let all = turns_kept (turns ++ replicate trace.rest Next) in
      record {
        rest = trace.rest;
        ends = ap first_with_work all.0 ∙ trace.ends;
        refuses = subst (λ (es : List Event). TurnsRefuse (turns ++ replicate trace.rest Next) kept (control_in script) (behind es (begins history)).refused) (sym trace.is) all.2;
      }
