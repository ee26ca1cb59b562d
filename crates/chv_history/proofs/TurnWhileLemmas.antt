-- What holds at each moment of turns.
use Rattle.std.proofs.Common.{◌≡◌, List, [], ◌∷◌, ◌++◌, sym, subst, append_assoc}
use Rattle.std.proofs.lemmas.List.{append-nil}
use Rattle.chv_history.specs.Events.{Event, Moment, behind, happen}
use Rattle.chv_history.specs.Machine.{Turn, Control, act_control, act_events, turns_events}
use Rattle.chv_history.proofs.WhileLemmas.{While, while_at, while_both, while_last, while-append}

-- a fact holds while these events happen, and another one behind them, of what all clients then have to do
abbrev pub Through : (List Event → Moment → Type 0) → (List Event → Moment → Control → Type 0) → List Event → Moment → List Event → Control → Type 0
Through P I done m events control = While P done events m × I (done ++ events) (behind events m) control

-- each turn keeps them
abbrev pub AreKept : (List Event → Moment → Type 0) → (List Event → Moment → Control → Type 0) → Type 0
AreKept P I =
    (turn : Turn) (done : List Event) (m : Moment) (control : Control) → P done m → I done m control → Through P I done m (act_events turn m.history control) (act_control turn m.history control)

module _ (P : List Event → Moment → Type 0) (I : List Event → Moment → Control → Type 0) where
  -- no event
  pub through-none : (done : List Event) (m : Moment) (control : Control) → P done m → I done m control → Through P I done m [] control
  through-none done m control holds keeps = (holds, subst (λ (events : List Event). I events m control) (sym (append-nil done)) keeps)

  -- one event, and then others
  pub through-more : (event : Event) (events done : List Event) (m : Moment) (control : Control) → P done m → Through P I (done ++ event ∷ []) (happen event m) events control → Through P I done m (event ∷ events) control
  through-more event events done m control holds rest =
      ((holds, rest.0), subst (λ (l : List Event). I l (behind events (happen event m)) control) (append_assoc done (event ∷ []) events) rest.1)

  -- so they hold while turns are done
  pub while_turns : AreKept P I → (turns : List Turn) (done : List Event) (m : Moment) (control : Control) → P done m → I done m control → While P done (turns_events turns m control) m
  while_turns kept [] done m control holds keeps = holds
  while_turns kept (turn ∷ turns) done m control holds keeps =
      let events = act_events turn m.history control in
      let after = act_control turn m.history control in
      let here = kept turn done m control holds keeps in
      while-append P events (turns_events turns (behind events m) after) done m here.0
      (while_turns kept turns (done ++ events) (behind events m) after (while_last P events done m here.0) here.1)

  -- at each moment
  pub turns_behind : AreKept P I → (turns : List Turn) (m : Moment) (control : Control) (done left : List Event) → P [] m → I [] m control → turns_events turns m control ≡ done ++ left → P done (behind done m)
  turns_behind kept turns m control done left holds keeps split =
      while_at P done left [] m (subst (λ (events : List Event). While P [] events m) split (while_turns kept turns [] m control holds keeps))

-- facts that are kept, and others that are kept where these hold
pub kept_under : (P Q : List Event → Moment → Type 0) (I J : List Event → Moment → Control → Type 0) → AreKept P I
    → ((turn : Turn) (done : List Event) (m : Moment) (control : Control) → P done m → I done m control → Q done m → J done m control → Through Q J done m (act_events turn m.history control) (act_control turn m.history control))
    → AreKept (λ done m. P done m × Q done m) (λ done m control. I done m control × J done m control)
kept_under P Q I J kept under turn done m control holds keeps =
    let events = act_events turn m.history control in
    let one = kept turn done m control holds.0 keeps.0 in
    let two = under turn done m control holds.0 keeps.0 holds.1 keeps.1 in
    (while_both P Q events done m one.0 two.0, (one.1, two.1))
