-- A run begins on the open store, and the fault that ends it is told.
use Rattle.std.proofs.Common.{◌≡◌, Err, sym, ap, subst, ◌∙◌}
use Rattle.std.specs.Prelude.{Bool, Result}
use Rattle.std.proofs.lemmas.Result.{err_from_is_err_and}
use Rattle.chv_catalog.specs.declared.schema.Schema.{Schema}
use Rattle.chv_history.specs.Script.{requests_of}
use Rattle.chv_flight.specs.declared.fault.RunFault.{RunFault}
use Rattle.chv_flight.proofs.BeginLemmas.{begun_ready}
use Rattle.chv_engine.specs.Telling.{RunsAll, TellsFault}
use Rattle.chv_engine.proofs.TellingLemmas.{end_told, fault_told, not_begun}
use Rattle.chv_engine.proofs.run.run_open.Goals as goal

-- there was no memory
pub returns-in_err-flight : goal.returns-in_err-flight
returns-in_err-flight g c =
    let S = g.W.Site in
    let outside = S.outside c.args.site.now in
    let p = err_from_is_err_and c.from_residual.result c.from_residual.ensures.1 in (
      c.args.store,
      subst (λ (r : Result Bool RunFault). RunsAll S.tells (requests_of c.args.script) r c.args.store c.args.store outside outside) (sym (p.1 ∙ ap Err p.2))
          (not_begun S.tells (requests_of c.args.script) c.args.store outside c.requires.usable.within (g.met.W.Site.only_now c.args.site.now)),
    )

pub drain-requires : goal.drain-requires
drain-requires g c =
    let S = g.W.Site in
    record { ready = begun_ready c.args.store c.args.script c.in_ok-flight.flight c.in_ok-flight.ensures S.tells (S.outside c.args.site.now) c.requires.usable }

pub returns-in-Ok : goal.returns-in-Ok
returns-in-Ok g c =
    let S = g.W.Site in (
      c.drain.new.self.store,
      end_told S.tells c.args.store c.args.script c.in_ok-flight.flight c.drain.new.self c.in-Ok.refused (S.outside c.args.site.now) (S.outside c.drain.new.site) c.in_ok-flight.ensures c.in-Ok.ensures,
    )

pub returns : goal.returns
returns g c =
    let S = g.W.Site in
    let mid = c.drain.new.site in
    let now = c.tell.new.site in
    let is = c.drain.new.self in (
      is.store,
      fault_told S.tells (now ≡ mid) c.args.store c.args.script c.in-Err.fault c.tell.result c.in_ok-flight.flight is (S.outside c.args.site.now) (S.outside mid) (S.outside now) c.in_ok-flight.ensures c.in-Err.ensures
          (subst (λ (schema : Schema). TellsFault S.tells (now ≡ mid) schema.catalog.tables c.in-Err.fault c.tell.result (S.outside mid) (S.outside now)) c.schema.ensures c.tell.ensures)
          (ap S.outside),
    )
