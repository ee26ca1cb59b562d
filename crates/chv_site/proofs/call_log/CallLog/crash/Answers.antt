use Rattle.std.proofs.Common.{◌≡◌, ◌≤◌, ◌+◌, ◌∙◌, None, length, take, sym, subst, ap, List, arith}
use Rattle.std.proofs.lemmas.List.{take_all}
use Rattle.std.specs.BTreeMap as tree
use Rattle.std.specs.BTreeMap.{keys}
use Rattle.chv_site.specs.declared.file_id.FileId.{FileId}
use Rattle.chv_site.specs.declared.call.Call.{Call}
use Rattle.chv_site.specs.FileStore.{kept_in}
use Rattle.chv_site.specs.Calls.{id_cmp, fresh, kept_after, text_after}
use Rattle.chv_site.proofs.Crashes.{IsSoFar, so_far_more, so_far_all}
use Rattle.chv_site.proofs.call_log.CallLog.crash.Goals as goal

pub loop-name-preserved : goal.loop-name-preserved
loop-name-preserved c = record {
  text = ap text_after c.in_ok-act.ensures.acted ∙ c.loop-name.invariant.text;
  files = λ g.
      subst (λ (calls : List Call). IsSoFar c.args.pick c.args.self.now calls (take (c.loop-name.name-index + 1) c.deref-name-items.result.now) g) (sym c.in_ok-act.ensures.acted)
      (so_far_more c.args.pick c.args.self.now c.loop-name.made c.deref-name-items.result.now c.loop-name.name-index (record { table = 0; part = 0 }) g c.in_ok-image.image c.loop-name-test.true c.in_ok-image.ensures (c.loop-name.invariant.files g));
}

pub returns-clause-files : goal.returns-clause-files
returns-clause-files c g =
    let all : length c.deref-name-items.result.now ≤ c.loop-name.name-index = omega arith in
    let names : take c.loop-name.name-index c.deref-name-items.result.now ≡ keys c.self.inside.files.by_id = take_all c.loop-name.name-index c.deref-name-items.result.now all ∙ c.deref-name-items.ensures.value ∙ c.in_ok-names.ensures in
    let none : tree.get id_cmp c.self.inside.files.by_id g ≡ None → kept_after c.args.self.now g ≡ fresh =
    λ n. sym (c.self.invariant.files g ∙ ap (λ (calls : List Call). kept_after calls g) c.self.view_is) ∙ ap kept_in n in
    so_far_all c.args.pick c.args.self.now c.loop-name.made c.self.inside.files.by_id g none
    (subst (λ (xs : List FileId). IsSoFar c.args.pick c.args.self.now c.loop-name.made xs g) names (c.loop-name.invariant.files g))
