-- What a run does, request by request.
use Rattle.std.specs.Prelude.{ℕ, ◌+◌, ◌-◌, true, false, List, [], ◌∷◌, ◌++◌, length, map, Result, Ok, Err}
use Rattle.chv_ast.specs.declared.refusal.Refusal.{Refusal}
use Rattle.chv_query.specs.Accepted.{catalog_of}
use Rattle.chv_part.specs.Forms.{form_of}
use Rattle.chv_query.specs.Plans.{Delivery}
use Rattle.chv_query.specs.Queries.{divides}
use Rattle.chv_text.specs.Replies.{ok_line, insert_line, refused_line}
use Rattle.chv_history.specs.Events.{Plan, Event, Created, Committed, Replied, Moment, written_in, with_commit, behind}
use Rattle.chv_history.specs.Histories.{History, book_of}
use Rattle.chv_history.specs.Script.{Request}
use Rattle.chv_history.specs.Tasks.{Task, Make, Bring, TellRows, TellParts, task_of}
use Rattle.chv_history.specs.Told.{parts_text, query_text, table_rows}

-- a delivery is one commit
abbrev pub delivery_event : Delivery → Event
delivery_event delivery = Committed delivery.table (delivery.entry ∷ [])

-- the history behind a delivery
abbrev pub delivered : Delivery → History → History
delivered delivery history = with_commit delivery.table (delivery.entry ∷ []) history

-- how many of some deliveries are written, where they are made one after the other
abbrev pub written_of : Plan → History → ℕ
written_of [] history = 0
written_of (delivery ∷ plan) history = length (written_in delivery.table (delivery.entry ∷ []) history) + written_of plan (delivered delivery history)

-- an insert's deliveries are made, and it is acknowledged, with the numbers of those that were written and skipped
abbrev pub insert_events : ℕ → Plan → History → List Event
insert_events client plan history =
    let written = written_of plan history in
    map delivery_event plan ++ Replied (insert_line client written (length plan - written)) (plan ∷ []) false ∷ []

-- the events of a task
abbrev pub task_events : ℕ → Task → History → List Event
task_events client (Make accepted) history = Created accepted ∷ Replied (ok_line client) [] false ∷ []
task_events client (Bring plan) history = insert_events client plan history
task_events client (TellRows query) history =
    let rows = table_rows (form_of query.def) (book_of history query.table) in
    Replied (query_text client query rows) [] (divides query rows) ∷ []
task_events client (TellParts table def) history = Replied (parts_text client (form_of def) (book_of history table)) [] false ∷ []

-- the events of a client's statement: those of its task, or its refusal
abbrev pub answer_events : ℕ → Result Task Refusal → History → List Event
answer_events client (Ok task) history = task_events client task history
answer_events client (Err refuses) history = Replied (refused_line client refuses) [] true ∷ []

-- how many entries each table has
abbrev pub entries_in : History → ℕ → ℕ
entries_in history table = length (history.arrivals table)

-- the events of a request
abbrev pub request_events : Request → History → List Event
request_events request history =
    answer_events request.client (task_of (catalog_of history.schema) (entries_in history) request.statement) history

-- the events of requests that are answered in order
abbrev pub run_events : List Request → Moment → List Event
run_events [] m = []
run_events (request ∷ requests) m =
    let events = request_events request m.history in
    events ++ run_events requests (behind events m)
