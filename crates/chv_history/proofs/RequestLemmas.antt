-- How a run goes on from request to request.
use Rattle.std.proofs.Common.{◌≡◌, ℕ, Bool, true, false, ◌||◌, List, [], ◌∷◌, ◌++◌, map, refl, sym, ap, ◌∙◌}
use Rattle.chv_lex.specs.declared.piece.Piece.{Piece}
use Rattle.chv_site.specs.Images.{Image}
use Rattle.chv_history.specs.Crashes.{IsLeftBy}
use Rattle.chv_history.specs.Events.{Event, Plan, Moment, happen, behind}
use Rattle.chv_history.specs.Runs.{delivery_event, request_events, run_events}
use Rattle.chv_history.specs.Script.{Request, request_of, requests_in}
use Rattle.chv_history.proofs.LeftLemmas.{behind-append, early, onward}

pub or_assoc : (a b c : Bool) → ((a || b) || c) ≡ (a || (b || c))
or_assoc true b c = refl
or_assoc false b c = refl

pub or_false : (b : Bool) → b ≡ (b || false)
or_false true = refl
or_false false = refl

-- the events of requests are those of the first, and those of the rest behind it
module _ (request : Request) (requests : List Request) (m : Moment) where
  abbrev pub events : List Event
  events = request_events request m.history

  abbrev pub next : Moment
  next = behind events m

  pub run_events-cons : run_events (request ∷ requests) m ≡ events ++ run_events requests next
  run_events-cons = refl

  -- the moment behind all is the one behind the rest
  pub behind-cons : behind (run_events (request ∷ requests) m) m ≡ behind (run_events requests next) next
  behind-cons = behind-append events (run_events requests next) m

  -- what is left while the first is answered, and while the rest are, is left by all
  pub first_left : (before : List ℕ) (image : Image) (text : List ℕ) → IsLeftBy events before m image text → IsLeftBy (run_events (request ∷ requests) m) before m image text
  first_left before image text left = early events (run_events requests next) before m image text left

  pub rest_left : (before : List ℕ) (image : Image) (text : List ℕ) → IsLeftBy (run_events requests next) before next image text → IsLeftBy (run_events (request ∷ requests) m) before m image text
  rest_left before image text left = onward events (run_events requests next) before m image text left

-- a request more at the end
pub behind-push : (requests : List Request) (request : Request) (m : Moment)
    → behind (run_events (requests ++ request ∷ []) m) m ≡ behind (request_events request (behind (run_events requests m) m).history) (behind (run_events requests m) m)
behind-push [] request m = behind-append (request_events request m.history) [] m
behind-push (first ∷ requests) request m =
    let next = behind (request_events first m.history) m in
    behind-cons first (requests ++ request ∷ []) m ∙ behind-push requests request next
    ∙ sym (ap (λ (n : Moment). behind (request_events request n.history) n) (behind-cons first requests m))

-- deliveries say nothing, acknowledge nothing, and refuse nothing
pub deliveries_said : (plan : Plan) (m : Moment) → (behind (map delivery_event plan) m).said ≡ m.said
deliveries_said [] m = refl
deliveries_said (delivery ∷ plan) m = deliveries_said plan (happen (delivery_event delivery) m)

pub deliveries_acknowledged : (plan : Plan) (m : Moment) → (behind (map delivery_event plan) m).acknowledged ≡ m.acknowledged
deliveries_acknowledged [] m = refl
deliveries_acknowledged (delivery ∷ plan) m = deliveries_acknowledged plan (happen (delivery_event delivery) m)

pub deliveries_refused : (plan : Plan) (m : Moment) → (behind (map delivery_event plan) m).refused ≡ m.refused
deliveries_refused [] m = refl
deliveries_refused (delivery ∷ plan) m = deliveries_refused plan (happen (delivery_event delivery) m)

-- the next piece is the next request
pub requests_cut : (script : List ℕ) (pieces rest : List Piece) (piece : Piece) → pieces ≡ piece ∷ rest → requests_in script pieces ≡ request_of script piece ∷ requests_in script rest
requests_cut script pieces rest piece cut = ap (requests_in script) cut
