-- What holds over a life of a store.
use Rattle.std.proofs.Common.{◌≡◌, inl, inr, ℕ, ◌+◌, ◌≤◌, List, [], ◌∷◌, ◌++◌, length, Some, slice_get, All, Contains, refl, sym, ap, ap₂, subst, ◌∙◌, arith, append_assoc}
use Rattle.std.proofs.lemmas.Bool.{cases_eq}
use Rattle.std.proofs.lemmas.List.{append-nil, length-append}
use Rattle.std.proofs.lemmas.List.Elements.{All-cons, All-contains, All-head, All-nil, All-tail, All-weaker}
use Rattle.std.proofs.lemmas.Option.{slice_get_within}
use Rattle.chv_catalog.specs.declared.table_def.TableDef.{TableDef}
use Rattle.chv_query.specs.Accepted.{Accepted, tables_in, tables_of}
use Rattle.chv_query.specs.Arrivals.{Arrival, Contribution}
use Rattle.chv_query.specs.Plans.{Delivery}
use Rattle.chv_query.proofs.AcceptedLemmas.{tables_of-push}
use Rattle.chv_query.proofs.GrowthLemmas.{slice_get-more}
use Rattle.chv_history.specs.Acknowledged.{AreApart, IsWhole, SameTokenSameBlock}
use Rattle.chv_history.specs.Events.{Event, Created, Committed, Replied, Plan, Moment, begins, behind, happen, with_commit, written_in}
use Rattle.chv_history.specs.Histories.{History, IsLawful, with_accepted}
use Rattle.chv_history.specs.Lives.{Follow, GainsFew, IsAbsent, IsLife, LifeRun, StandsOnce, StandsOnceAtMost, history_behind, life_events}
use Rattle.chv_history.specs.Machine.{Turn, Control, act_control, act_events, turns_events}
use Rattle.chv_history.specs.Spaced.{KeepApart}
use Rattle.chv_history.specs.Traces.{control_in}
use Rattle.chv_history.proofs.ArrivingLemmas.{with_none-other}
use Rattle.chv_history.proofs.CommitLemmas.{arrivals-other, arrivals-with_commit, schema-with_commit}
use Rattle.chv_history.proofs.LeftLemmas.{behind-append}
use Rattle.chv_history.proofs.MadeLemmas.{made_none}
use Rattle.chv_history.proofs.RoomLemmas.{LawfulMade, RoomyGoing, lawful_kept, made_whole}
use Rattle.chv_history.proofs.SpacedLemmas.{contributions_spaced}
use Rattle.chv_history.proofs.StartLemmas.{script_roomy}
use Rattle.chv_history.proofs.TurnWhileLemmas.{while_turns}
use Rattle.chv_history.proofs.WhileLemmas.{While, while_first, while_last, while-append}

-- what happens to a history depends on it alone
history_same : (events : List Event) (m n : Moment) → m.history ≡ n.history → (behind events m).history ≡ (behind events n).history
history_same [] m n same = same
history_same (Created accepted ∷ events) m n same = history_same events (happen (Created accepted) m) (happen (Created accepted) n) (ap (with_accepted accepted) same)
history_same (Committed table arrivals ∷ events) m n same = history_same events (happen (Committed table arrivals) m) (happen (Committed table arrivals) n) (ap (with_commit table arrivals) same)
history_same (Replied text plans refuses ∷ events) m n same = history_same events (happen (Replied text plans refuses) m) (happen (Replied text plans refuses) n) same

-- and so do the events of turns
turns_same : (turns : List Turn) (m n : Moment) (control : Control) → m.history ≡ n.history → turns_events turns m control ≡ turns_events turns n control
turns_same [] m n control same = refl
turns_same (turn ∷ turns) m n control same =
    let one = act_events turn m.history control in
    let two = act_events turn n.history control in
    let first : one ≡ two = ap (λ (h : History). act_events turn h control) same in
    ap₂ (λ (events rest : List Event). events ++ rest) first
    (turns_same turns (behind one m) (behind two n) (act_control turn m.history control) (history_same one m n same ∙ ap (λ (events : List Event). (behind events n).history) first)
    ∙ ap (λ (h : History). turns_events turns (behind two n) (act_control turn h control)) same)

-- while some events happen
while_front : (P : List Event → Moment → Type 0) (xs ys done : List Event) (m : Moment) → While P done (xs ++ ys) m → While P done xs m
while_front P [] ys done m holds = while_first P ys done m holds
while_front P (x ∷ xs) ys done m holds = (holds.0, while_front P xs ys (done ++ x ∷ []) (happen x m) holds.1)

-- over a life, in which each run begins with what its script asks for, each delivery of what is acknowledged is made, in a lawful history
while_life : (runs : List LifeRun) (done : List Event) (m : Moment) → Follow m.history runs → LawfulMade done m → While LawfulMade done (life_events runs) m
while_life [] done m follow holds = holds
while_life (run ∷ runs) done m follow holds =
    let control = control_in run.script in
    let all : While LawfulMade done (turns_events run.turns m control) m = while_turns LawfulMade RoomyGoing lawful_kept run.turns done m control holds (script_roomy run.script done m) in
    let split : turns_events run.turns m control ≡ run.done ++ run.left = turns_same run.turns m (begins m.history) control refl ∙ follow.0 in
    let here : While LawfulMade done run.done m = while_front LawfulMade run.done run.left done m (subst (λ (events : List Event). While LawfulMade done events m) split all) in
    let same : history_behind m.history run.done ≡ (behind run.done m).history = history_same run.done (begins m.history) m refl in
    while-append LawfulMade run.done (life_events runs) done m here
    (while_life runs (done ++ run.done) (behind run.done m) (subst (λ (h : History). Follow h runs) same follow.1) (while_last LawfulMade run.done done m here))

-- at the end of a life what was acknowledged stands whole, and the history is lawful
module _ (history : History) (runs : List LifeRun) (life : IsLife history runs) where
  abbrev first : Moment
  first = begins history

  abbrev events : List Event
  events = life_events runs

  life_made : LawfulMade events (behind events first)
  life_made = while_last LawfulMade events [] first (while_life runs [] first life.follow (made_none history life.lawful.schema, life.lawful))

  pub life_lawful : IsLawful (behind events first).history
  life_lawful = life_made.1

  pub life_whole : AreApart history events → SameTokenSameBlock history events → All (IsWhole (behind events first).history) (behind events first).acknowledged
  life_whole apart tokens = made_whole events history (behind events first) refl apart tokens life_made

-- what arrived in a table that stands stays, with more behind it
pub record Grows (place : ℕ) (def : TableDef) (old new : History) : Type 0 where
  pub more : List Arrival
  pub are : new.arrivals (place + 1) ≡ old.arrivals (place + 1) ++ more
  pub stands : slice_get (tables_of new.schema) place ≡ Some def

grows_created : (accepted : Accepted) (history : History) (place : ℕ) (def : TableDef) → slice_get (tables_of history.schema) place ≡ Some def → Grows place def history (with_accepted accepted history)
grows_created accepted history place def stands =
    let tables = tables_of history.schema in
    record {
      more = [];
      are = with_none-other accepted.definition (length tables + 1) (place + 1) history.arrivals (λ same. absurd (omega (arith, same, slice_get_within tables place def stands)))
          ∙ sym (append-nil (history.arrivals (place + 1)));
      stands = subst (λ (defs : List TableDef). slice_get defs place ≡ Some def) (sym (tables_of-push history.schema accepted)) (slice_get-more tables (tables_in accepted.definition) place def stands);
    }

grows_committed : (table : ℕ) (arrivals : List Arrival) (history : History) (place : ℕ) (def : TableDef) → slice_get (tables_of history.schema) place ≡ Some def
    → Grows place def history (with_commit table arrivals history)
grows_committed table arrivals history place def stands =
    let next = with_commit table arrivals history in
    let still : slice_get (tables_of next.schema) place ≡ Some def = subst (λ (s : List Accepted). slice_get (tables_of s) place ≡ Some def) (sym (schema-with_commit table arrivals history)) stands in
    elim (cases_eq (place + 1) table) as (λ _. Grows place def history next) [
      | inl same ↦
          record {
            more = written_in table arrivals history;
            are = subst (λ (n : ℕ). next.arrivals n ≡ history.arrivals n ++ written_in table arrivals history) (sym same) (arrivals-with_commit table arrivals history);
            stands = still;
          }
      | inr other ↦
          record {
            more = [];
            are = arrivals-other table (place + 1) arrivals history other ∙ sym (append-nil (history.arrivals (place + 1)));
            stands = still;
          }
    ]

grows_happen : (event : Event) (m : Moment) (place : ℕ) (def : TableDef) → slice_get (tables_of m.history.schema) place ≡ Some def → Grows place def m.history (happen event m).history
grows_happen (Created accepted) m place def stands = grows_created accepted m.history place def stands
grows_happen (Committed table arrivals) m place def stands = grows_committed table arrivals m.history place def stands
grows_happen (Replied text plans refuses) m place def stands = record { more = []; are = sym (append-nil (m.history.arrivals (place + 1))); stands = stands }

pub grows : (events : List Event) (m : Moment) (place : ℕ) (def : TableDef) → slice_get (tables_of m.history.schema) place ≡ Some def → Grows place def m.history (behind events m).history
grows [] m place def stands = record { more = []; are = sym (append-nil (m.history.arrivals (place + 1))); stands = stands }
grows (event ∷ events) m place def stands =
    let one = grows_happen event m place def stands in
    let rest = grows events (happen event m) place def one.stands in
    record {
      more = one.more ++ rest.more;
      are = rest.are ∙ ap (λ (l : List Arrival). l ++ rest.more) one.are ∙ append_assoc (m.history.arrivals (place + 1)) one.more rest.more;
      stands = rest.stands;
    }

-- what is absent from the first of some arrivals stands behind them
behind_absent : (contribution : Contribution) (old more older newer : List Arrival) (a : Arrival) → IsAbsent contribution old → old ++ more ≡ older ++ a ∷ newer → a.contribution ≡ contribution → length old ≤ length older
behind_absent contribution [] more older newer a absent split is = omega arith
behind_absent contribution (x ∷ old) more [] newer a absent split is =
    let same : x ≡ a = cc in
    absurd (All-head (λ (b : Arrival). b.contribution ≡ contribution → ⊥) x old absent (ap (λ (b : Arrival). b.contribution) same ∙ is))
behind_absent contribution (x ∷ old) more (y ∷ older) newer a absent split is =
    let rest : old ++ more ≡ older ++ a ∷ newer = cc in
    omega (arith, behind_absent contribution old more older newer a (All-tail (λ (b : Arrival). b.contribution ≡ contribution → ⊥) x old absent) rest is)

-- an item of a list with what is in front of it and behind it
record Split (xs : List Arrival) (x : Arrival) : Type 0 where
  front : List Arrival
  back : List Arrival
  is : xs ≡ front ++ x ∷ back

splits : (xs : List Arrival) → All (Split xs) xs
splits [] = All-nil (Split [])
splits (y ∷ xs) =
    All-cons (Split (y ∷ xs)) y xs (record { front = []; back = xs; is = refl })
    (All-weaker (Split xs) (Split (y ∷ xs)) (λ x at. record { front = y ∷ at.front; back = at.back; is = ap (λ (l : List Arrival). y ∷ l) at.is }) xs (splits xs))

-- where arrivals of one contribution keep apart, and the table has gained no more than its window and one, no second one stands
module _ (window : ℕ) (contribution : Contribution) (old more : List Arrival) (absent : IsAbsent contribution old) (apart : KeepApart window (old ++ more)) (few : length (old ++ more) ≤ length old + window + 1) where
  no_second : (older between newer : List Arrival) (a b : Arrival) → old ++ more ≡ older ++ a ∷ (between ++ b ∷ newer) → a.contribution ≡ contribution → b.contribution ≡ contribution → ⊥
  no_second older between newer a b split is_a is_b =
      absurd (omega (
        arith,
        few,
        behind_absent contribution old more older (between ++ b ∷ newer) a absent split is_a,
        apart older between newer a b split (is_a ∙ sym is_b),
        ap length split,
        length-append older (a ∷ (between ++ b ∷ newer)),
        length-append between (b ∷ newer),
      ))

  pub once_at_most : StandsOnceAtMost contribution (old ++ more)
  once_at_most older newer a split is = (
    All-weaker (Split older) (λ (b : Arrival). b.contribution ≡ contribution → ⊥)
        (λ b at other.
        no_second at.front at.back newer b a (split ∙ ap (λ (l : List Arrival). l ++ a ∷ newer) at.is ∙ append_assoc at.front (b ∷ at.back) (a ∷ newer)) other is) older (splits older),
    All-weaker (Split newer) (λ (b : Arrival). b.contribution ≡ contribution → ⊥)
        (λ b at other. no_second older at.front at.back a b (split ∙ ap (λ (l : List Arrival). older ++ a ∷ l) at.is) is other) newer (splits newer),
  )

-- so it is over a life
module _ (history : History) (runs : List LifeRun) (earlier later : List Event) (place : ℕ) (def : TableDef) (life : IsLife history runs) (split : life_events runs ≡ earlier ++ later)
    (gains : GainsFew (history_behind history earlier) (history_behind history (life_events runs)) place def) where
  abbrev old : List Arrival
  old = (history_behind history earlier).arrivals (place + 1)

  abbrev new : List Arrival
  new = (history_behind history (life_events runs)).arrivals (place + 1)

  ends : Grows place def (history_behind history earlier) (history_behind history (life_events runs))
  ends =
      subst (Grows place def (history_behind history earlier))
      (ap (λ (m : Moment). m.history) (sym (behind-append earlier later (begins history)) ∙ ap (λ (events : List Event). behind events (begins history)) (sym split)))
      (grows later (behind earlier (begins history)) place def gains.stands)

  pub retried : (contribution : Contribution) → IsAbsent contribution old → StandsOnceAtMost contribution new
  retried contribution absent =
      let apart : KeepApart def.window new = contributions_spaced (history_behind history (life_events runs)) (life_lawful history runs life) place def ends.stands in
      subst (StandsOnceAtMost contribution) (sym ends.are)
      (once_at_most def.window contribution old ends.more absent (subst (KeepApart def.window) ends.are apart) (subst (λ (l : List Arrival). length l ≤ length old + def.window + 1) ends.are gains.few))

  -- an insert that is acknowledged stands there once
  pub retried_once : AreApart history (life_events runs) → SameTokenSameBlock history (life_events runs) → (plan : Plan) (delivery : Delivery)
      → Contains (behind (life_events runs) (begins history)).acknowledged plan → Contains plan delivery → delivery.table ≡ place + 1
      → IsAbsent delivery.entry.contribution old → StandsOnce delivery.entry new
  retried_once apart tokens plan delivery among within table absent =
      let last = behind (life_events runs) (begins history) in
      let Whole : Delivery → Type 0 = λ d. Contains (last.history.arrivals d.table) d.entry in
      let there : Contains (last.history.arrivals delivery.table) delivery.entry =
      All-contains Whole plan delivery (All-contains (IsWhole last.history) last.acknowledged plan (life_whole history runs life apart tokens) among) within in
      let at : Split new delivery.entry = All-contains (Split new) new delivery.entry (splits new) (subst (λ (n : ℕ). Contains (last.history.arrivals n) delivery.entry) table there) in
      let others = retried delivery.entry.contribution absent at.front at.back delivery.entry at.is refl in
      record { older = at.front; newer = at.back; stands = at.is; not_before = others.0; not_behind = others.1 }
