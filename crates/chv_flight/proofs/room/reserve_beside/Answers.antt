-- Table by table there is room, until one has none.
use Rattle.std.proofs.Common.{◌≡◌, ◌+◌, ◌-◌, inl, inr, ℕ, length, refl, sym, ap, subst, ◌∙◌, arith}
use Rattle.std.proofs.lemmas.Bool.{cases_eq}
use Rattle.std.proofs.lemmas.Option.{get_or_from_slice_get, slice_get_read}
use Rattle.chv_store.specs.Stores.{HasRoom}
use Rattle.chv_flight.specs.Flights.{left_in}
use Rattle.chv_flight.specs.Rooms.{deliveries_held}
use Rattle.chv_flight.proofs.BesideLemmas.{rooms_beside}
use Rattle.chv_flight.proofs.RoomLemmas.{held_numbered, holds_same_then}
use Rattle.chv_flight.proofs.room.reserve_beside.Goals as goal

pub returns-in_err-reserve_for-clause-same : goal.returns-in_err-reserve_for-clause-same
returns-in_err-reserve_for-clause-same c = holds_same_then c.args.store.now c.loop-table.store c.reserve_for.new.store c.loop-table.invariant.same c.reserve_for.ensures.same

pub returns-then-not-branch-clause-same : goal.returns-then-not-branch-clause-same
returns-then-not-branch-clause-same c = holds_same_then c.args.store.now c.loop-table.store c.reserve_for.new.store c.loop-table.invariant.same c.reserve_for.ensures.same

-- one table more has room, and each other one has what it had
pub loop-table-preserved : goal.loop-table-preserved
loop-table-preserved c =
    let so_far = c.loop-table.invariant in
    let plan = c.args.plan.now in
    let left = left_in c.args.clients.now in
    let number = c.loop-table.table in
    let new = c.reserve_for.new.store in
    let counts = c.in_ok-counts.counts.items in
    let counted = c.in_ok-counts.ensures in
    let read = slice_get_read counts (length counts) (number - 1) c.index.result.now refl (omega (arith, counted.many, c.loop-table-test.true, c.loop-table.auto.table)) c.index.ensures in
    let count_is : c.index.result.now ≡ deliveries_held number plan =
    sym (get_or_from_slice_get counts (number - 1) c.index.result.now 0 read)
    ∙ counted.counts (number - 1) (omega (arith, c.loop-table-test.true, c.loop-table.auto.table))
    ∙ ap (λ (n : ℕ). deliveries_held n plan) (omega (arith, c.loop-table.auto.table)) in
    record {
      same = holds_same_then c.args.store.now c.loop-table.store new so_far.same c.reserve_for.ensures.same;
      kept = λ other room has. c.reserve_for.ensures.kept other room (so_far.kept other room has);
      rooms = λ table first last some. elim (cases_eq table number) as (λ _. HasRoom (deliveries_held table left + deliveries_held table plan) new table) [
        | inl same ↦
            subst (λ (n : ℕ). HasRoom (deliveries_held n left + deliveries_held n plan) new n) (sym same)
            (subst (λ (n : ℕ). HasRoom (deliveries_held number left + n) new number) count_is
            (c.in_ok-reserve_for.ensures.room c.if-not-branch.false (omega (arith, count_is, some, ap (λ (n : ℕ). deliveries_held n plan) same))))
        | inr other ↦ c.reserve_for.ensures.kept table (deliveries_held table left + deliveries_held table plan) (so_far.rooms table first (omega (arith, last, other)) some)
      ];
    }

pub returns-clause-room : goal.returns-clause-room
returns-clause-room c = λ is.
    let tables = length c.args.store.now.schema.catalog.tables in
    rooms_beside c.args.store.now c.loop-table.store (left_in c.args.clients.now) c.args.plan.now c.loop-table.invariant.kept c.requires.rooms
    (λ table some.
    let numbered = held_numbered tables c.args.plan.now table c.requires.tables some in
    c.loop-table.invariant.rooms table numbered.0 (omega (arith, numbered.1, c.loop-table-test.false, c.tables-tables.ensures.count, ap (λ s. length s.catalog.tables) c.schema.ensures)) some)
