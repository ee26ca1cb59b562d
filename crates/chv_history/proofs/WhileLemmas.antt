-- What holds at each moment of a run: a fact of the events that are done, and of the moment behind them.
use Rattle.std.proofs.Common.{◌≡◌, List, [], ◌∷◌, ◌++◌, All, sym, subst, append_assoc}
use Rattle.std.proofs.lemmas.List.{append-nil}
use Rattle.std.proofs.lemmas.List.Elements.{All-head, All-tail}
use Rattle.chv_history.specs.Events.{Event, Moment, happen, behind}
use Rattle.chv_history.specs.Runs.{request_events, run_events}
use Rattle.chv_history.specs.Script.{Request}

-- while some events happen behind those that are done
abbrev pub While : (List Event → Moment → Type 0) → List Event → List Event → Moment → Type 0
While P done [] m = P done m
While P done (event ∷ events) m = P done m × While P (done ++ event ∷ []) events (happen event m)

module _ (P : List Event → Moment → Type 0) where
  -- before the first
  pub while_first : (events done : List Event) (m : Moment) → While P done events m → P done m
  while_first [] done m holds = holds
  while_first (event ∷ events) done m holds = holds.0

  -- behind those that are done next
  pub while_at : (xs ys done : List Event) (m : Moment) → While P done (xs ++ ys) m → P (done ++ xs) (behind xs m)
  while_at [] ys done m holds = subst (λ (events : List Event). P events m) (sym (append-nil done)) (while_first ys done m holds)
  while_at (x ∷ xs) ys done m holds =
      subst (λ (events : List Event). P events (behind xs (happen x m))) (append_assoc done (x ∷ []) xs) (while_at xs ys (done ++ x ∷ []) (happen x m) holds.1)

  -- behind all
  pub while_last : (xs done : List Event) (m : Moment) → While P done xs m → P (done ++ xs) (behind xs m)
  while_last xs done m holds = while_at xs [] done m (subst (λ (events : List Event). While P done events m) (sym (append-nil xs)) holds)

  -- while some happen, and then others
  pub while-append : (xs ys done : List Event) (m : Moment) → While P done xs m → While P (done ++ xs) ys (behind xs m) → While P done (xs ++ ys) m
  while-append [] ys done m some rest = subst (λ (events : List Event). While P events ys m) (append-nil done) rest
  while-append (x ∷ xs) ys done m some rest = (
    some.0,
    while-append xs ys (done ++ x ∷ []) (happen x m) some.1
        (subst (λ (events : List Event). While P events ys (behind xs (happen x m))) (sym (append_assoc done (x ∷ []) xs)) rest),
  )

  -- where it holds while each request is answered, it holds while all are
  pub while_run : (Asks : Request → Type 0) → ((request : Request) (done : List Event) (m : Moment) → Asks request → P done m → While P done (request_events request m.history) m)
      → (requests : List Request) (done : List Event) (m : Moment) → All Asks requests → P done m → While P done (run_events requests m) m
  while_run Asks each [] done m asks holds = holds
  while_run Asks each (request ∷ requests) done m asks holds =
      let events = request_events request m.history in
      let here : While P done events m = each request done m (All-head Asks request requests asks) holds in
      while-append events (run_events requests (behind events m)) done m here
      (while_run Asks each requests (done ++ events) (behind events m) (All-tail Asks request requests asks) (while_last events done m here))

  -- so it holds at each moment of a run
  pub while_behind : (requests : List Request) (m : Moment) (done left : List Event) → While P [] (run_events requests m) m → run_events requests m ≡ done ++ left → P done (behind done m)
  while_behind requests m done left holds split = while_at done left [] m (subst (λ (events : List Event). While P [] events m) split holds)

-- two facts that hold at each moment hold together
pub while_both : (P Q : List Event → Moment → Type 0) (events done : List Event) (m : Moment) → While P done events m → While Q done events m → While (λ d n. P d n × Q d n) done events m
while_both P Q [] done m one two = (one, two)
while_both P Q (event ∷ events) done m one two = ((one.0, two.0), while_both P Q events (done ++ event ∷ []) (happen event m) one.1 two.1)
