use Rattle.std.proofs.Common.{◌≡◌, Some, refl, rules}
use Rattle.chv_print.specs.ExprTexts.{expr_text}
use Rattle.chv_query.specs.Keys.{Key, key_tree}
use Rattle.chv_query.proofs.KeyLemmas.{AreKeys-push}
use Rattle.chv_query.proofs.keys.put_key.Goals as goal

pub returns-clause-put : goal.returns-clause-put
returns-clause-put c = λ before are.
    let columns = c.args.columns.now in
    let tree = c.in-Some.tree.now in
    let bound = c.in_ok-bound.ensures in
    let key : Key = record { tree = tree; term = bound.0 } in
    let found : key_tree columns c.args.items.now c.args.key.now ≡ Some tree = search rules in
    let text : c.from_vec-text.result ≡ expr_text tree = search rules in (
      key,
      rw (found, bound.1) refl,
      rw (c.in_ok-push.ensures.ok, c.in_ok-push-2.ensures.ok, text)
          (AreKeys-push columns c.args.found.now before c.in_ok-bound.bound key are bound.2),
    )
