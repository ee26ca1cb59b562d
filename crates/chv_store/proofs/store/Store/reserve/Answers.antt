-- The table of a number has room for deliveries, and the store holds what it held.
use Rattle.std.proofs.Common.{◌-◌, refl, ap, arith}
use Rattle.std.specs.Vec.{with_item}
use Rattle.chv_commit.specs.Replays.{MAX_ENTRIES, State}
use Rattle.chv_store.proofs.PlaceLemmas.{items_within, its_state, set_room-kept, set_stands, table_of}
use Rattle.chv_store.proofs.ReserveLemmas.{enough, holds_same, more_room, same_held, too_many}
use Rattle.chv_store.proofs.store.Store.reserve.Goals as goal

pub index_mut-held-requires : goal.index_mut-held-requires
index_mut-held-requires c = omega (arith, items_within c.args.self.now c.args.table c.requires.within c.requires.table)

pub overflow_add-entries : goal.overflow_add-entries
overflow_add-entries c =
    let at = table_of c.args.self.now c.args.table c.index_mut-held.result.now c.requires.within c.requires.table c.index_mut-held.ensures.value in
    omega (arith, c.entries.ensures, c.requires.few, at.held_as.0.sound.bounded)

-- there is none for so many
pub returns-then-entries-count-gt-MAX_ENTRIES-clause-fits : goal.returns-then-entries-count-gt-MAX_ENTRIES-clause-fits
returns-then-entries-count-gt-MAX_ENTRIES-clause-fits c =
    let self = c.args.self.now in
    let at = table_of self c.args.table c.index_mut-held.result.now c.requires.within c.requires.table c.index_mut-held.ensures.value in
    let entries = ap (λ (s : State). s.entries) (its_state self c.args.table c.index_mut-held.result.now at) in
    too_many MAX_ENTRIES _ (omega (arith, c.entries.ensures, entries, c.if-entries-count-gt-MAX_ENTRIES.true))

pub returns-then-entries-count-gt-MAX_ENTRIES-clause-same : goal.returns-then-entries-count-gt-MAX_ENTRIES-clause-same
returns-then-entries-count-gt-MAX_ENTRIES-clause-same c =
    let self = c.args.self.now in
    let held = c.index_mut-held.result.now in
    let at = table_of self c.args.table held c.requires.within c.requires.table c.index_mut-held.ensures.value in
    holds_same self c.args.table held at held (same_held held) (with_item self.tables (c.args.table - 1) held) refl

pub returns-then-entries-count-gt-MAX_ENTRIES-clause-kept : goal.returns-then-entries-count-gt-MAX_ENTRIES-clause-kept
returns-then-entries-count-gt-MAX_ENTRIES-clause-kept c =
    let self = c.args.self.now in
    let held = c.index_mut-held.result.now in
    let at = table_of self c.args.table held c.requires.within c.requires.table c.index_mut-held.ensures.value in
    set_room-kept self c.args.table held at held (with_item self.tables (c.args.table - 1) held) refl (λ count room. room)

-- where no memory is left
pub returns-in_err-reserve-clause-kept : goal.returns-in_err-reserve-clause-kept
returns-in_err-reserve-clause-kept c =
    let self = c.args.self.now in
    let held = c.index_mut-held.result.now in
    let new = c.reserve.new.self in
    let at = table_of self c.args.table held c.requires.within c.requires.table c.index_mut-held.ensures.value in
    set_room-kept self c.args.table held at new (with_item self.tables (c.args.table - 1) new) refl (more_room held new c.reserve.ensures.same c.reserve.ensures.kept)

pub returns-in_err-reserve-clause-same : goal.returns-in_err-reserve-clause-same
returns-in_err-reserve-clause-same c =
    let self = c.args.self.now in
    let held = c.index_mut-held.result.now in
    let at = table_of self c.args.table held c.requires.within c.requires.table c.index_mut-held.ensures.value in
    holds_same self c.args.table held at c.reserve.new.self c.reserve.ensures.same (with_item self.tables (c.args.table - 1) c.reserve.new.self) refl

-- there is
pub returns-clause-fits : goal.returns-clause-fits
returns-clause-fits c =
    let self = c.args.self.now in
    let at = table_of self c.args.table c.index_mut-held.result.now c.requires.within c.requires.table c.index_mut-held.ensures.value in
    let entries = ap (λ (s : State). s.entries) (its_state self c.args.table c.index_mut-held.result.now at) in
    enough MAX_ENTRIES _ (omega (arith, c.entries.ensures, entries, c.if-entries-count-gt-MAX_ENTRIES.false))

pub returns-clause-room : goal.returns-clause-room
returns-clause-room c = λ _.
    let self = c.args.self.now in
    let held = c.index_mut-held.result.now in
    let new = c.reserve.new.self in
    let kept = c.reserve.ensures.same in
    let at = table_of self c.args.table held c.requires.within c.requires.table c.index_mut-held.ensures.value in
    let entries = ap (λ (s : State). s.entries) kept.state in
    record {
      is_table = record { first = c.requires.table.first; last = c.requires.table.last };
      held = new;
      stands = set_stands self c.args.table held at new (with_item self.tables (c.args.table - 1) new) refl;
      room = record { in_memory = c.in_ok-reserve.ensures.room; in_number = omega (arith, entries, c.entries.ensures, c.if-entries-count-gt-MAX_ENTRIES.false) };
    }

pub returns-clause-kept : goal.returns-clause-kept
returns-clause-kept c =
    let self = c.args.self.now in
    let held = c.index_mut-held.result.now in
    let new = c.reserve.new.self in
    let at = table_of self c.args.table held c.requires.within c.requires.table c.index_mut-held.ensures.value in
    set_room-kept self c.args.table held at new (with_item self.tables (c.args.table - 1) new) refl (more_room held new c.reserve.ensures.same c.reserve.ensures.kept)

pub returns-clause-same : goal.returns-clause-same
returns-clause-same c =
    let self = c.args.self.now in
    let held = c.index_mut-held.result.now in
    let at = table_of self c.args.table held c.requires.within c.requires.table c.index_mut-held.ensures.value in
    holds_same self c.args.table held at c.reserve.new.self c.reserve.ensures.same (with_item self.tables (c.args.table - 1) c.reserve.new.self) refl
