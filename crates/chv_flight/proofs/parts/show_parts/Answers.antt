-- The parts of the table of this name are told, or no table has it.
use Rattle.std.proofs.Common.{◌≡◌, ℕ, Ok, Err, sym, ap, subst, ◌∙◌}
use Rattle.std.specs.Prelude.{Result}
use Rattle.std.proofs.lemmas.Result.{err_from_is_err_and}
use Rattle.chv_ast.specs.declared.refusal.Refusal.{Refusal}
use Rattle.chv_ast.specs.declared.refusal.Refusal.TheVariants.{UnknownTable}
use Rattle.chv_catalog.specs.declared.schema.Schema.{Schema}
use Rattle.chv_catalog.specs.declared.table_def.TableDef.{TableDef}
use Rattle.chv_types.specs.Steps.{and_then}
use Rattle.chv_query.specs.Tables.{table_of}
use Rattle.chv_history.specs.Tasks.{TellParts}
use Rattle.chv_history.proofs.LookupLemmas.{IsNamed, table_of-known, table_of-none}
use Rattle.chv_flight.specs.Answers.{parts_wish}
use Rattle.chv_flight.proofs.AnswerLemmas.{holds_itself, no_memory_answers, refused_answers}
use Rattle.chv_flight.proofs.ShownLemmas.{parts_answers, told_text}
use Rattle.chv_flight.proofs.parts.show_parts.Goals as goal

pub returns-in_err-text-in-Some : goal.returns-in_err-text-in-Some
returns-in_err-text-in-Some g c =
    let p = err_from_is_err_and c.from_residual.result c.from_residual.ensures.1 in
    rw (p.1, p.2)
    (no_memory_answers g.W.Site.tells c.args.client (parts_wish c.args.name.now) c.args.store.now c.args.store.now (g.W.Site.outside c.args.site.now) c.requires.usable.within (λ tell. g.met.W.Site.only_now c.args.site.now))

pub returns-in_ok-text-in-Some : goal.returns-in_ok-text-in-Some
returns-in_ok-text-in-Some g c =
    let store = c.args.store.now in
    let named = subst (λ (schema : Schema). IsNamed schema.catalog c.args.name.now c.in-Some.number) c.schema.ensures (table_of-known c.schema.result.now.catalog c.args.name.now c.in-Some.number (sym c.table.ensures ∙ c.in-Some.is)) in
    parts_answers g.W.Site.tells c.args.client c.args.name.now c.as_slice.result.now c.parts.result.now c.in-Some.number c.reply.result store (g.W.Site.outside c.args.site.now) (g.W.Site.outside c.reply.new.site) c.requires.usable named
    (◌∙◌ {c = told_text c.args.client c.parts.result.now} c.as_slice.ensures c.in_ok-text-in-Some.ensures) c.parts.ensures c.reply.ensures

pub returns-in-None : goal.returns-in-None
returns-in-None g c =
    let store = c.args.store.now in
    let none = subst (λ (schema : Schema). table_of schema.catalog c.args.name.now ≡ Err UnknownTable) c.schema.ensures (table_of-none c.schema.result.now.catalog c.args.name.now (sym c.table.ensures ∙ c.in-None.is)) in
    refused_answers g.W.Site.tells c.args.client (parts_wish c.args.name.now) UnknownTable c.refuse.result store store (g.W.Site.outside c.args.site.now) (g.W.Site.outside c.refuse.new.site) c.requires.usable
    (holds_itself store c.requires.usable.within) (λ entries agree. ap (λ (found : Result (ℕ × TableDef) Refusal). and_then found (λ f. Ok (TellParts f.0 f.1))) none) c.refuse.ensures
