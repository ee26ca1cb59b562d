use Rattle.std.proofs.Common.{◌≡◌, List, None, Some, IsSome, is_none, rules, ap, sym, subst, ◌∙◌}
use Rattle.chv_query.specs.Bound.{first_division, made_by}
use Rattle.chv_query.proofs.FeedLemmas.{fed-more, none-fed}
use Rattle.chv_query.proofs.RunLemmas.{position-first}
use Rattle.chv_types.specs.declared.value.Value.{Value}
use Rattle.chv_query.proofs.running.feed_rows.Goals as goal

pub returns-in-Err-ZeroDivisor-clause-zero : goal.returns-in-Err-ZeroDivisor-clause-zero
returns-in-Err-ZeroDivisor-clause-zero c = λ row is.
    let query = c.args.query.now in
    let rows = c.args.rows.now in
    let divides : made_by query c.index-rows-i.result ≡ None =
    ap (made_by query) (sym c.as_slice-in-loop-i.ensures) ∙ c.in-Err-ZeroDivisor.ensures.zero c.in-Err-ZeroDivisor.field-0-is in
    let first : first_division query rows ≡ Some c.loop-i.i =
    position-first (λ row. is_none (made_by query row)) rows c.loop-i.i c.index-rows-i.result c.loop-i-test.true c.index-rows-i.is c.loop-i.invariant.none (ap is_none divides) in
    let place : c.loop-i.i ≡ row = cc in
    first ∙ ap (λ place. Some place) place

pub loop-i-preserved : goal.loop-i-preserved
loop-i-preserved c =
    let query = c.args.query.now in
    let rows = c.args.rows.now in
    let row = c.index-rows-i.result in
    let same : c.as_slice-in-loop-i.result.now ≡ row = c.as_slice-in-loop-i.ensures in
    let some : IsSome (made_by query row) = subst (λ (r : List Value). IsSome (made_by query r)) same c.in-Ok.ensures.some in
    record {
      calls = search rules;
      taken = fed-more query c.args.groups.now.keys c.loop-i.grouping c.feed.new.grouping rows c.loop-i.i row c.loop-i-test.true c.index-rows-i.is some c.loop-i.invariant.taken
          (λ made is. c.in-Ok.ensures.taken made (ap (made_by query) same ∙ is));
      none = none-fed query rows c.loop-i.i row c.loop-i-test.true c.index-rows-i.is some c.loop-i.invariant.none;
    }
