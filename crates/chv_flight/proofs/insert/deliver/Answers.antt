-- What the store's call does is a delivery of one.
use Rattle.std.proofs.Common.{Ok, ap, ◌∙◌}
use Rattle.chv_table.specs.declared.table.Delivered.{Delivered}
use Rattle.chv_table.specs.declared.table.Delivered.TheVariants.{Written, Skipped}
use Rattle.chv_flight.proofs.DeliverLemmas.{one_counted, one_failed, one_made}
use Rattle.chv_flight.proofs.insert.deliver.Goals as goal

pub returns-in_err-deliver-clause-delivers : goal.returns-in_err-deliver-clause-delivers
returns-in_err-deliver-clause-delivers g c = λ planned of.
    let S = g.W.Site in
    let call = c.deliver.ensures in
    one_failed S.tells c.deliver.result c.args.store.now c.deliver.new.self c.args.delivery.now c.as_slice-encoded.result.now c.as_slice-encoded.ensures (S.outside c.args.site.now) (S.outside c.deliver.new.site)
    c.requires.usable.within c.requires.room (record { delivered = call.delivered; logged = call.logged; noted = call.noted; keeps = call.keeps }) planned of c.from_residual.result c.from_residual.ensures.0

pub returns-in-Written-clause-delivers : goal.returns-in-Written-clause-delivers
returns-in-Written-clause-delivers g c = λ planned of.
    let S = g.W.Site in
    let call = c.deliver.ensures in
    one_made S.tells c.deliver.result c.args.store.now c.deliver.new.self c.args.delivery.now c.as_slice-encoded.result.now c.as_slice-encoded.ensures (S.outside c.args.site.now) (S.outside c.deliver.new.site)
    c.requires.usable.within c.requires.room (record { delivered = call.delivered; logged = call.logged; noted = call.noted; keeps = call.keeps }) planned of Written
    (c.in_ok-deliver.was ∙ ap (λ (answer : Delivered). Ok answer) c.in-Written.is)

pub returns-in-Skipped-clause-delivers : goal.returns-in-Skipped-clause-delivers
returns-in-Skipped-clause-delivers g c = λ planned of.
    let S = g.W.Site in
    let call = c.deliver.ensures in
    one_made S.tells c.deliver.result c.args.store.now c.deliver.new.self c.args.delivery.now c.as_slice-encoded.result.now c.as_slice-encoded.ensures (S.outside c.args.site.now) (S.outside c.deliver.new.site)
    c.requires.usable.within c.requires.room (record { delivered = call.delivered; logged = call.logged; noted = call.noted; keeps = call.keeps }) planned of Skipped
    (c.in_ok-deliver.was ∙ ap (λ (answer : Delivered). Ok answer) c.in-Skipped.is)

pub returns-in-Written-clause-noted : goal.returns-in-Written-clause-noted
returns-in-Written-clause-noted g c = λ planned of kept has.
    let S = g.W.Site in
    let call = c.deliver.ensures in
    one_counted S.tells c.deliver.result c.args.store.now c.deliver.new.self c.args.delivery.now c.as_slice-encoded.result.now c.as_slice-encoded.ensures (S.outside c.args.site.now) (S.outside c.deliver.new.site)
    c.requires.usable.within c.requires.room (record { delivered = call.delivered; logged = call.logged; noted = call.noted; keeps = call.keeps }) planned of Written
    (c.in_ok-deliver.was ∙ ap (λ (answer : Delivered). Ok answer) c.in-Written.is) kept has

pub returns-in-Skipped-clause-noted : goal.returns-in-Skipped-clause-noted
returns-in-Skipped-clause-noted g c = λ planned of kept has.
    let S = g.W.Site in
    let call = c.deliver.ensures in
    one_counted S.tells c.deliver.result c.args.store.now c.deliver.new.self c.args.delivery.now c.as_slice-encoded.result.now c.as_slice-encoded.ensures (S.outside c.args.site.now) (S.outside c.deliver.new.site)
    c.requires.usable.within c.requires.room (record { delivered = call.delivered; logged = call.logged; noted = call.noted; keeps = call.keeps }) planned of Skipped
    (c.in_ok-deliver.was ∙ ap (λ (answer : Delivered). Ok answer) c.in-Skipped.is) kept has
