-- What is acknowledged stands whole.
use Rattle.std.proofs.Common.{◌≡◌, inl, inr, ℕ, ◌+◌, ◌-◌, ◌≤◌, Bool, true, false, Option, List, [], ◌∷◌, ◌++◌, length, map, Some, Result, Ok, Err, IfOk, All, Contains, refl, sym, ap, ap₂, subst, ◌∙◌, arith, if◌then◌else◌, ◌==◌, eq-eqb, append_assoc}
use Rattle.std.proofs.lemmas.Bool.{cases_eq}
use Rattle.std.proofs.lemmas.List.{append-nil, get_or-map, length-map}
use Rattle.std.proofs.lemmas.List.Elements.{All-cons, All-contains, All-contains_itself, All-map, All-nil, All-push, All-weaker, Contains-append_cases, Contains-append_left, Contains-append_right, Contains-push}
use Rattle.chv_ast.specs.declared.refusal.Refusal.{Refusal}
use Rattle.chv_block.specs.Spellings.{AllAreOf}
use Rattle.chv_block.proofs.LawLemmas.{one_block}
use Rattle.chv_catalog.specs.Schemas.{Catalog, kinds_of}
use Rattle.chv_catalog.specs.declared.table_def.TableDef.{TableDef}
use Rattle.chv_query.specs.Accepted.{Accepted, IsSchema, catalog_of, tables_of}
use Rattle.chv_query.specs.Derived.{def_at}
use Rattle.chv_query.proofs.AcceptedLemmas.{IsSchema-push, catalog_of-push}
use Rattle.chv_query.proofs.ArrivalLemmas.{ArrivesIn}
use Rattle.chv_query.proofs.GrowthLemmas.{IsArrival-more, def_at-more}
use Rattle.chv_part.specs.Arriving.{fresh}
use Rattle.chv_part.specs.Books.{Entry, MAX_ROWS}
use Rattle.chv_part.specs.Forms.{form_of}
use Rattle.chv_part.specs.Naming.{Names}
use Rattle.chv_part.proofs.BookLemmas.{All-fresh}
use Rattle.chv_query.specs.Arrivals.{Arrival, Contribution, IsArrival, arrival_in, entry_in}
use Rattle.chv_query.specs.Plans.{Delivery}
use Rattle.chv_query.specs.Queries.{divides}
use Rattle.chv_sip.specs.BlockIds.{SourceKey, Content, Token}
use Rattle.chv_sip.specs.declared.block_id.BlockId.{BlockId}
use Rattle.chv_text.specs.Replies.{ok_line, refused_line}
use Rattle.chv_types.specs.declared.kind.Kind.{Kind}
use Rattle.chv_types.specs.declared.value.Value.{Value}
use Rattle.chv_history.specs.Acknowledged.{AreApart, IdsNameOne, IsDelivered, IsHeld, IsWhole, IsWholeInBooks, SameTokenSameBlock, brought_by, known}
use Rattle.chv_history.specs.Events.{Event, Created, Committed, Replied, Plan, Moment, begins, behind, happen, with_commit, written_in}
use Rattle.chv_history.specs.Histories.{History, IsLawful, book_of, ids_in, window_at, with_accepted, with_none}
use Rattle.chv_history.specs.Runs.{answer_events, delivery_event, entries_in, request_events, run_events, task_events}
use Rattle.chv_history.specs.Script.{Request, AreFormed, IsFormed}
use Rattle.chv_history.specs.Tasks.{Task, Bring, Make, TellParts, TellRows, task_of}
use Rattle.chv_history.specs.Told.{parts_text, query_text, table_rows}
use Rattle.chv_history.proofs.AcknowledgedLemmas.{Holding}
use Rattle.chv_history.proofs.ArrivingLemmas.{with_none-among}
use Rattle.chv_history.proofs.CommitLemmas.{arrivals-with_commit, arrivals-other, schema-with_commit}
use Rattle.chv_history.proofs.RunLemmas.{Lawful, TaskSound, lawful_request, sound_task}
use Rattle.chv_history.proofs.WhileLemmas.{While, while_behind, while_both, while_last, while_run, while-append}

-- what is in a list's image is the image of one of its items, and the other way round
Contains-from_map : {X Y : Type 0} (f : X → Y) (xs : List X) (y : Y) → Contains (map f xs) y → (x : X) × Contains xs x × (f x ≡ y)
Contains-from_map {X} {Y} f xs y is =
    All-contains (λ (z : Y). (x : X) × Contains xs x × (f x ≡ z)) (map f xs) y
    (All-map (λ (z : Y). (x : X) × Contains xs x × (f x ≡ z)) f xs (All-weaker (Contains xs) (λ (x : X). (x' : X) × Contains xs x' × (f x' ≡ f x)) (λ x in'. (x, in', refl)) xs (All-contains_itself xs))) is

Contains-map : {X Y : Type 0} (f : X → Y) (xs : List X) (x : X) → Contains xs x → Contains (map f xs) (f x)
Contains-map {X} {Y} f xs x is = (is.0, omega (arith, length-map xs f, is.1), get_or-map f xs is.0 x (f x) is.1 ∙ ap f is.2)

-- an item of a list that is left of a test is one of the list
fresh_among : (window : ℕ) (ids : List BlockId) (arrivals : List Arrival) (a : Arrival) → Contains (fresh (λ (b : Arrival). b.id) window ids arrivals) a → Contains arrivals a
fresh_among window ids arrivals a is =
    All-contains (Contains arrivals) (fresh (λ (b : Arrival). b.id) window ids arrivals) a
    (All-fresh (Contains arrivals) (λ (b : Arrival). b.id) window ids arrivals (All-contains_itself arrivals)) is

-- what a commit brings to a table, where it is its own
pub brought_here : (b : Bool) (old arrivals brought : List Arrival) (a : Arrival) → Contains (old ++ (arrivals ++ brought)) a → b ≡ true → Contains (old ++ (if b then arrivals ++ brought else brought)) a
brought_here true old arrivals brought a is same = is
brought_here false old arrivals brought a is same = absurd (cc same)

brought_other : (b : Bool) (old arrivals brought : List Arrival) (a : Arrival) → Contains (old ++ brought) a → Contains (old ++ (if b then arrivals ++ brought else brought)) a
brought_other true old arrivals brought a is =
    elim (Contains-append_cases old brought a is) as (λ _. Contains (old ++ (arrivals ++ brought)) a) [
      | inl there ↦ Contains-append_left old (arrivals ++ brought) a there
      | inr later ↦ Contains-append_right old (arrivals ++ brought) a (Contains-append_right arrivals brought a later)
    ]
brought_other false old arrivals brought a is = is

-- what arrived behind an event, and is brought by those behind it, is what had arrived and is brought by all
known_created : (accepted : Accepted) (history : History) (table : ℕ) (brought : List Arrival) (a : Arrival) → Contains ((with_accepted accepted history).arrivals table ++ brought) a → Contains (history.arrivals table ++ brought) a
known_created accepted history table brought a is =
    let number = length (tables_of history.schema) + 1 in
    let old = history.arrivals table in
    elim (Contains-append_cases (with_none accepted.definition number history.arrivals table) brought a is) as (λ _. Contains (old ++ brought) a) [
      | inl before ↦ Contains-append_left old brought a (with_none-among accepted.definition number table history.arrivals a before)
      | inr later ↦ Contains-append_right old brought a later
    ]

known_committed : (other : ℕ) (arrivals : List Arrival) (history : History) (table : ℕ) (brought : List Arrival) (a : Arrival) → Contains ((with_commit other arrivals history).arrivals table ++ brought) a
    → Contains (history.arrivals table ++ (if table == other then arrivals ++ brought else brought)) a
known_committed other arrivals history table brought a is =
    elim (cases_eq table other) as (λ _. Contains (history.arrivals table ++ (if table == other then arrivals ++ brought else brought)) a) [
      | inl same ↦
          let old = history.arrivals table in
          let new = written_in other arrivals history in
          let all : (with_commit other arrivals history).arrivals table ≡ old ++ new =
          subst (λ (n : ℕ). (with_commit other arrivals history).arrivals n ≡ history.arrivals n ++ new) (sym same) (arrivals-with_commit other arrivals history) in
          let there : Contains (old ++ (new ++ brought)) a = subst (λ (l : List Arrival). Contains l a) (ap (λ (l : List Arrival). l ++ brought) all ∙ append_assoc old new brought) is in
          brought_here (table == other) old arrivals brought a
          (elim (Contains-append_cases old (new ++ brought) a there) as (λ _. Contains (old ++ (arrivals ++ brought)) a) [
            | inl before ↦ Contains-append_left old (arrivals ++ brought) a before
            | inr behind ↦
                Contains-append_right old (arrivals ++ brought) a
                (elim (Contains-append_cases new brought a behind) as (λ _. Contains (arrivals ++ brought) a) [
                  | inl here ↦ Contains-append_left arrivals brought a (fresh_among (window_at (tables_of history.schema) other) (ids_in (history.arrivals other)) arrivals a here)
                  | inr later ↦ Contains-append_right arrivals brought a later
                ])
          ])
          (eq-eqb table other same)
      | inr apart ↦
          brought_other (table == other) (history.arrivals table) arrivals brought a
          (subst (λ (l : List Arrival). Contains (l ++ brought) a) (arrivals-other other table arrivals history apart) is)
    ]

-- what arrived in a table behind events had arrived, or is brought by them
pub arrived_known : (table : ℕ) (events : List Event) (m : Moment) (a : Arrival) → Contains ((behind events m).history.arrivals table) a → Contains (known table m.history events) a
arrived_known table [] m a is = Contains-append_left (m.history.arrivals table) [] a is
arrived_known table (Created accepted ∷ events) m a is = known_created accepted m.history table (brought_by table events) a (arrived_known table events (happen (Created accepted) m) a is)
arrived_known table (Committed other arrivals ∷ events) m a is =
    known_committed other arrivals m.history table (brought_by table events) a (arrived_known table events (happen (Committed other arrivals) m) a is)
arrived_known table (Replied text plans refuses ∷ events) m a is = arrived_known table events (happen (Replied text plans refuses) m) a is

-- what is brought by some events and then by others
pub brought_by-append : (table : ℕ) (xs ys : List Event) → brought_by table (xs ++ ys) ≡ brought_by table xs ++ brought_by table ys
brought_by-append table [] ys = refl
brought_by-append table (Created accepted ∷ xs) ys = brought_by-append table xs ys
brought_by-append table (Committed other arrivals ∷ xs) ys =
    elim (table == other)
    as (λ (b : Bool). (if b then arrivals ++ brought_by table (xs ++ ys) else brought_by table (xs ++ ys)) ≡ (if b then arrivals ++ brought_by table xs else brought_by table xs) ++ brought_by table ys) [
      | true ↦ ap (λ (l : List Arrival). arrivals ++ l) (brought_by-append table xs ys) ∙ sym (append_assoc arrivals (brought_by table xs) (brought_by table ys))
      | false ↦ brought_by-append table xs ys
    ]
brought_by-append table (Replied text plans refuses ∷ xs) ys = brought_by-append table xs ys

-- each delivery of an insert has been brought
abbrev pub IsBrought : List Event → Plan → Type 0
IsBrought events plan = All (λ (d : Delivery). Contains (brought_by d.table events) d.entry) plan

abbrev pub Brought : List Event → Moment → Type 0
Brought done m = All (IsBrought done) m.acknowledged

brought_more : (xs ys : List Event) (plans : List Plan) → All (IsBrought xs) plans → All (IsBrought (xs ++ ys)) plans
brought_more xs ys plans brought =
    All-weaker (IsBrought xs) (IsBrought (xs ++ ys))
    (λ plan. All-weaker (λ (d : Delivery). Contains (brought_by d.table xs) d.entry) (λ (d : Delivery). Contains (brought_by d.table (xs ++ ys)) d.entry)
    (λ d is. subst (λ (l : List Arrival). Contains l d.entry) (sym (brought_by-append d.table xs ys)) (Contains-append_left (brought_by d.table xs) (brought_by d.table ys) d.entry is)) plan)
    plans brought

-- those of a plan are by its deliveries
plan_brought : (plan : Plan) → IsBrought (map delivery_event plan) plan
plan_brought [] = All-nil (λ (d : Delivery). Contains (brought_by d.table []) d.entry)
plan_brought (d ∷ plan) =
    let events = map delivery_event plan in
    All-cons (λ (e : Delivery). Contains (brought_by e.table (delivery_event d ∷ events)) e.entry) d plan
    (brought_here (d.table == d.table) [] (d.entry ∷ []) (brought_by d.table events) d.entry (Contains-append_left (d.entry ∷ []) (brought_by d.table events) d.entry (Contains-push [] d.entry)) (eq-eqb d.table d.table refl))
    (All-weaker (λ (e : Delivery). Contains (brought_by e.table events) e.entry) (λ (e : Delivery). Contains (brought_by e.table (delivery_event d ∷ events)) e.entry)
    (λ e is. brought_other (e.table == d.table) [] (d.entry ∷ []) (brought_by e.table events) e.entry is) plan (plan_brought plan))

-- an event that acknowledges nothing
brought_still : (event : Event) (done : List Event) (m : Moment) → (happen event m).acknowledged ≡ m.acknowledged → Brought done m → Brought (done ++ event ∷ []) (happen event m)
brought_still event done m same brought = subst (All (IsBrought (done ++ event ∷ []))) (sym same) (brought_more done (event ∷ []) m.acknowledged brought)

brought_reply : (text : List ℕ) (refuses : Bool) (done : List Event) (m : Moment) → Brought done m → While Brought done (Replied text [] refuses ∷ []) m
brought_reply text refuses done m brought = (brought, brought_still (Replied text [] refuses) done m (append-nil m.acknowledged) brought)

brought_deliveries : (plan : Plan) (done : List Event) (m : Moment) → Brought done m → While Brought done (map delivery_event plan) m
brought_deliveries [] done m brought = brought
brought_deliveries (d ∷ plan) done m brought =
    (brought, brought_deliveries plan (done ++ delivery_event d ∷ []) (happen (delivery_event d) m) (brought_still (delivery_event d) done m refl brought))

brought_task : (client : ℕ) (task : Task) (done : List Event) (m : Moment) → Brought done m → While Brought done (task_events client task m.history) m
brought_task client (Make accepted) done m brought =
    (brought, brought_reply (ok_line client) false (done ++ Created accepted ∷ []) (happen (Created accepted) m) (brought_still (Created accepted) done m refl brought))
brought_task client (Bring plan) done m brought =
    let events = map delivery_event plan in
    let last = behind events m in
    let made : While Brought done events m = brought_deliveries plan done m brought in
    let before : Brought (done ++ events) last = while_last Brought events done m made in
    let here : IsBrought (done ++ events) plan =
    All-weaker (λ (d : Delivery). Contains (brought_by d.table events) d.entry) (λ (d : Delivery). Contains (brought_by d.table (done ++ events)) d.entry)
    (λ d is. subst (λ (l : List Arrival). Contains l d.entry) (sym (brought_by-append d.table done events)) (Contains-append_right (brought_by d.table done) (brought_by d.table events) d.entry is)) plan (plan_brought plan) in
    while-append Brought events _ done m made (before, brought_more (done ++ events) _ (last.acknowledged ++ plan ∷ []) (All-push (IsBrought (done ++ events)) last.acknowledged plan before here))
brought_task client (TellRows query) done m brought =
    let rows = table_rows (form_of query.def) (book_of m.history query.table) in
    brought_reply (query_text client query rows) (divides query rows) done m brought
brought_task client (TellParts table def) done m brought = brought_reply (parts_text client (form_of def) (book_of m.history table)) false done m brought

brought_answer : (client : ℕ) (task : Result Task Refusal) (done : List Event) (m : Moment) → Brought done m → While Brought done (answer_events client task m.history) m
brought_answer client (Ok task) done m brought = brought_task client task done m brought
brought_answer client (Err refuses) done m brought = brought_reply (refused_line client refuses) true done m brought

pub brought_request : (request : Request) (done : List Event) (m : Moment) → Brought done m → While Brought done (request_events request m.history) m
brought_request request done m brought = brought_answer request.client (task_of (catalog_of m.history.schema) (entries_in m.history) request.statement) done m brought

-- nothing is acknowledged yet
pub brought_none : (m : Moment) → m.acknowledged ≡ [] → Brought [] m
brought_none m none = subst (All (IsBrought [])) (sym none) (All-nil (IsBrought []))

-- what a run acknowledges it has brought
pub brought_behind : (requests : List Request) (m : Moment) (done left : List Event) → m.acknowledged ≡ [] → run_events requests m ≡ done ++ left → Brought done (behind done m)
brought_behind requests m done left none split =
    while_behind Brought requests m done left
    (while_run Brought (λ (request : Request). Unit {0}) (λ request before n asks brought. brought_request request before n brought) requests [] m (λ k d within. tt) (brought_none m none))
    split

-- each acknowledged delivery is of an arrival in its table
abbrev pub Arriving : List Event → Moment → Type 0
Arriving done m = All (All (ArrivesIn (catalog_of m.history.schema))) m.acknowledged

-- also where a table or a view is made
pub arrives_more : (schema : List Accepted) (accepted : Accepted) → IsSchema (schema ++ accepted ∷ []) → (d : Delivery) → ArrivesIn (catalog_of schema) d → ArrivesIn (catalog_of (schema ++ accepted ∷ [])) d
arrives_more schema accepted lawful d is = record {
  def = is.def;
  numbered = is.numbered;
  stands = subst (λ (c : Catalog). def_at c d.table ≡ Some is.def) (sym (catalog_of-push schema accepted)) (def_at-more accepted.definition (catalog_of schema) d.table is.def is.stands);
  arrives = IsArrival-more schema accepted lawful d.table d.entry is.arrives;
}

arriving_created : (accepted : Accepted) (m : Moment) → IsSchema (m.history.schema ++ accepted ∷ []) → All (All (ArrivesIn (catalog_of m.history.schema))) m.acknowledged
    → All (All (ArrivesIn (catalog_of (m.history.schema ++ accepted ∷ [])))) m.acknowledged
arriving_created accepted m lawful arriving =
    let Old = ArrivesIn (catalog_of m.history.schema) in
    let New = ArrivesIn (catalog_of (m.history.schema ++ accepted ∷ [])) in
    All-weaker (All Old) (All New) (λ plan. All-weaker Old New (λ d is. arrives_more m.history.schema accepted lawful d is) plan) m.acknowledged arriving

arriving_reply : (text : List ℕ) (refuses : Bool) (done : List Event) (m : Moment) → Arriving done m → While Arriving done (Replied text [] refuses ∷ []) m
arriving_reply text refuses done m arriving = (arriving, subst (All (All (ArrivesIn (catalog_of m.history.schema)))) (sym (append-nil m.acknowledged)) arriving)

schema_kept : (d : Delivery) (m : Moment) → (happen (delivery_event d) m).history.schema ≡ m.history.schema
schema_kept d m = schema-with_commit d.table (d.entry ∷ []) m.history

schema-deliveries : (plan : Plan) (m : Moment) → (behind (map delivery_event plan) m).history.schema ≡ m.history.schema
schema-deliveries [] m = refl
schema-deliveries (d ∷ plan) m = schema-deliveries plan (happen (delivery_event d) m) ∙ schema_kept d m

arriving_deliveries : (plan : Plan) (done : List Event) (m : Moment) → Arriving done m → While Arriving done (map delivery_event plan) m
arriving_deliveries [] done m arriving = arriving
arriving_deliveries (d ∷ plan) done m arriving = (
  arriving,
  arriving_deliveries plan (done ++ delivery_event d ∷ []) (happen (delivery_event d) m)
      (subst (λ (s : List Accepted). All (All (ArrivesIn (catalog_of s))) m.acknowledged) (sym (schema_kept d m)) arriving),
)

arriving_task : (client : ℕ) (task : Task) (done : List Event) (m : Moment) → IsLawful m.history → TaskSound m.history task → Arriving done m → While Arriving done (task_events client task m.history) m
arriving_task client (Make accepted) done m lawful sound arriving =
    let schema = IsSchema-push m.history.schema accepted lawful.schema sound in
    (arriving, arriving_reply (ok_line client) false (done ++ Created accepted ∷ []) (happen (Created accepted) m) (arriving_created accepted m schema arriving))
arriving_task client (Bring plan) done m lawful sound arriving =
    let events = map delivery_event plan in
    let last = behind events m in
    let Arrives = All (ArrivesIn (catalog_of last.history.schema)) in
    let made : While Arriving done events m = arriving_deliveries plan done m arriving in
    let before : All Arrives last.acknowledged = while_last Arriving events done m made in
    let here : Arrives plan = subst (λ (s : List Accepted). All (ArrivesIn (catalog_of s)) plan) (sym (schema-deliveries plan m)) sound.arrive in
    while-append Arriving events _ done m made (before, All-push Arrives last.acknowledged plan before here)
arriving_task client (TellRows query) done m lawful sound arriving =
    let rows = table_rows (form_of query.def) (book_of m.history query.table) in
    arriving_reply (query_text client query rows) (divides query rows) done m arriving
arriving_task client (TellParts table def) done m lawful sound arriving = arriving_reply (parts_text client (form_of def) (book_of m.history table)) false done m arriving

arriving_answer : (client : ℕ) (task : Result Task Refusal) (done : List Event) (m : Moment) → IsLawful m.history → IfOk task (TaskSound m.history) → Arriving done m → While Arriving done (answer_events client task m.history) m
arriving_answer client (Ok task) done m lawful sound arriving = arriving_task client task done m lawful sound arriving
arriving_answer client (Err refuses) done m lawful sound arriving = arriving_reply (refused_line client refuses) true done m arriving

abbrev pub LawfulArriving : List Event → Moment → Type 0
LawfulArriving done m = Lawful done m × Arriving done m

pub arriving_request : (request : Request) (done : List Event) (m : Moment) → IsFormed request → LawfulArriving done m → While LawfulArriving done (request_events request m.history) m
arriving_request request done m formed both =
    while_both Lawful Arriving (request_events request m.history) done m (lawful_request request done m formed both.0)
    (arriving_answer request.client (task_of (catalog_of m.history.schema) (entries_in m.history) request.statement) done m both.0 (sound_task request m.history both.0 formed) both.1)

-- nothing is acknowledged yet
pub arriving_none : (m : Moment) → m.acknowledged ≡ [] → Arriving [] m
arriving_none m none =
    let Arrives = All (ArrivesIn (catalog_of m.history.schema)) in
    subst (All Arrives) (sym none) (All-nil Arrives)

-- so it is in a run of a lawful history, which stays lawful
pub arriving_behind : (requests : List Request) (m : Moment) (done left : List Event) → IsLawful m.history → AreFormed requests → m.acknowledged ≡ [] → run_events requests m ≡ done ++ left
    → IsLawful (behind done m).history × Arriving done (behind done m)
arriving_behind requests m done left lawful formed none split =
    while_behind LawfulArriving requests m done left (while_run LawfulArriving IsFormed arriving_request requests [] m formed (lawful, arriving_none m none)) split

-- blocks of these kinds that go by the same are the same, where one token and number is that of one block
same_named : (kinds : List Kind) (a b : List (List Value)) (source : SourceKey) → AllAreOf kinds a → AllAreOf kinds b → length a ≤ MAX_ROWS → length b ≤ MAX_ROWS → Names kinds a source → Names kinds b source
    → ((token : List ℕ) (number : ℕ) → source ≡ Token token number → a ≡ b) → a ≡ b
same_named kinds a b (Content bytes) fit_a fit_b most_a most_b spelled_a spelled_b tokens =
    (one_block kinds a b [] [] (omega (arith, most_a)) (omega (arith, most_b)) fit_a fit_b (ap (λ (l : List ℕ). l ++ []) (sym spelled_a ∙ spelled_b))).0
same_named kinds a b (Token token number) fit_a fit_b most_a most_b spelled_a spelled_b tokens = tokens token number refl

one_def : (found : Option TableDef) (a b : TableDef) → found ≡ Some a → found ≡ Some b → a ≡ b
one_def found a b is_a is_b = cc

-- so are arrivals in one table that go by the same
pub same_arrival : (catalog : Catalog) (table : ℕ) (a b : Arrival) → IsArrival catalog table a → IsArrival catalog table b → a.contribution ≡ b.contribution
    → ((token : List ℕ) (number : ℕ) → a.contribution.source ≡ Token token number → b.contribution.source ≡ Token token number → a.block ≡ b.block) → a ≡ b
same_arrival catalog table a b is_a is_b same tokens =
    let source : a.contribution.source ≡ b.contribution.source = ap (λ (c : Contribution). c.source) same in
    let origin : is_b.origin ≡ is_a.origin = one_def (def_at catalog a.contribution.origin) is_b.origin is_a.origin (ap (λ (c : Contribution). def_at catalog c.origin) same ∙ is_b.stands) is_a.stands in
    let kinds = kinds_of is_a.origin in
    let fit : AllAreOf kinds b.block = subst (λ (def : TableDef). AllAreOf (kinds_of def) b.block) origin is_b.kinds_fit in
    let named_a : Names kinds a.block b.contribution.source = subst (Names kinds a.block) source is_a.named in
    let named_b : Names kinds b.block b.contribution.source = subst (λ (def : TableDef). Names (kinds_of def) b.block b.contribution.source) origin is_b.named in
    let block : a.block ≡ b.block =
    same_named kinds a.block b.block b.contribution.source is_a.kinds_fit fit is_a.most is_b.most named_a named_b (λ token number is. tokens token number (source ∙ is) is) in
    is_a.is ∙ ap₂ (arrival_in catalog) same block ∙ sym is_b.is

-- a fact of each delivery of each plan, from what is among them
each_delivery : (plans : List Plan) (P : Delivery → Type 0) → ((plan : Plan) (d : Delivery) → Contains plans plan → Contains plan d → P d) → All (All P) plans
each_delivery plans P so =
    All-weaker (Contains plans) (All P) (λ plan among. All-weaker (Contains plan) P (λ d within. so plan d among within) plan (All-contains_itself plan)) plans (All-contains_itself plans)

-- the delivery of a plan that is held has a block in its table under its id
found_under : (m : Moment) (plan : Plan) (d : Delivery) → Holding m → Contains m.acknowledged plan → Contains plan d → (a : Arrival) × Contains (m.history.arrivals d.table) a × (a.id ≡ d.entry.id)
found_under m plan d held among within =
    let delivers : IsHeld m.history plan = All-contains (IsHeld m.history) m.acknowledged plan held among in
    let is : IsDelivered m.history d = All-contains (IsDelivered m.history) plan d delivers within in
    Contains-from_map (λ (a : Arrival). a.id) (m.history.arrivals d.table) d.entry.id is.id

-- where ids name one, the entries of what is held stand in the books
pub whole_in_books : (m : Moment) → IdsNameOne m → Holding m → All (IsWholeInBooks m.history) m.acknowledged
whole_in_books m one held =
    each_delivery m.acknowledged (λ (d : Delivery). Contains (book_of m.history d.table).entries (entry_in d.entry))
    (λ plan d among within.
    let found = found_under m plan d held among within in
    let rows : found.0.rows ≡ d.entry.rows = one plan d found.0 among within found.1 found.2 in
    let same : entry_in found.0 ≡ entry_in d.entry = ap₂ (λ (id : BlockId) (rows : List (List Value)). record { id = id; rows = rows }) found.2 rows in
    subst (λ (e : Entry). Contains (map entry_in (m.history.arrivals d.table)) e) same (Contains-map entry_in (m.history.arrivals d.table) found.0 found.1))

-- where what goes by different things has different ids, and one token and number is that of one block, what is held stands whole
pub whole_behind : (done : List Event) (history : History) (m : Moment) → m ≡ behind done (begins history) → AreApart history done → SameTokenSameBlock history done → Holding m → Brought done m
    → IsLawful m.history → Arriving done m → All (IsWhole m.history) m.acknowledged
whole_behind done history m is apart tokens held brought lawful arriving =
    let catalog = catalog_of m.history.schema in
    each_delivery m.acknowledged (λ (d : Delivery). Contains (m.history.arrivals d.table) d.entry)
    (λ plan d among within.
    let found = found_under m plan d held among within in
    let arrives : ArrivesIn catalog d = All-contains (ArrivesIn catalog) plan d (All-contains (All (ArrivesIn catalog)) m.acknowledged plan arriving among) within in
    let place : d.table - 1 + 1 ≡ d.table = omega (arith, arrives.numbered) in
    let all : All (IsArrival catalog d.table) (m.history.arrivals d.table) =
    subst (λ (n : ℕ). All (IsArrival catalog n) (m.history.arrivals n)) place (lawful.arrivals (d.table - 1) arrives.def arrives.stands) in
    let of : IsArrival catalog d.table found.0 = All-contains (IsArrival catalog d.table) (m.history.arrivals d.table) found.0 all found.1 in
    let known_a : Contains (known d.table history done) found.0 =
    arrived_known d.table done (begins history) found.0 (subst (λ (n : Moment). Contains (n.history.arrivals d.table) found.0) is found.1) in
    let brings : Contains (brought_by d.table done) d.entry =
    All-contains (λ (e : Delivery). Contains (brought_by e.table done) e.entry) plan d (All-contains (IsBrought done) m.acknowledged plan brought among) within in
    let known_d : Contains (known d.table history done) d.entry = Contains-append_right (history.arrivals d.table) (brought_by d.table done) d.entry brings in
    let goes : found.0.contribution ≡ d.entry.contribution = apart d.table found.0 d.entry known_a known_d found.2 in
    let same : found.0 ≡ d.entry =
    same_arrival catalog d.table found.0 d.entry of arrives.arrives goes
    (λ token number as_a as_b. tokens d.table d.table found.0 d.entry token number known_a known_d (ap (λ (c : Contribution). c.origin) goes) as_a as_b) in
    subst (λ (a : Arrival). Contains (m.history.arrivals d.table) a) same found.1)
