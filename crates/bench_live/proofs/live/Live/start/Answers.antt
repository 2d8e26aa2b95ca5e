use Rattle.std.proofs.Common.{◌≡◌, ◌∙◌, None, ap, map, rules, vec_len}
use Rattle.bench_open.specs.Faults.{IsOpeningError}
use Rattle.bench_open.specs.Given.{config_of}
use Rattle.bench_spec.specs.Opening.{opening_refusal, settings_of}
use Rattle.live_open.specs.Opening.{Agree}
use Rattle.bench_live.specs.Started.{IsStartFault, desks_at_start}
use Rattle.bench_live.proofs.StartLemmas.{desks-counted, of-same, pages-opened, thread-is-start}
use Rattle.bench_live.proofs.live.Live.start.Goals as goal

pub returns-in-Err-clause-fault : goal.returns-in-Err-clause-fault
returns-in-Err-clause-fault g c =
    of-same (λ r. r.book) c.deref.result.now c.args.registries.items (λ books. IsOpeningError (config_of c.args.config books) c.in-Err.error)
    c.deref.ensures.value c.in-Err.ensures.fault

pub start_opened-requires-clause-agree : goal.start_opened-requires-clause-agree
start_opened-requires-clause-agree g c κs within =
    of-same (λ r. r.book) c.deref.result.now c.args.registries.items (λ books. Agree c.in-Ok.opened.shards.items books)
    c.deref.ensures.value c.in-Ok.ensures.agree

pub returns-in-Ok-start_opened-clause-could : goal.returns-in-Ok-start_opened-clause-could
returns-in-Ok-start_opened-clause-could g c =
    of-same (λ r. r.book) c.deref.result.now c.args.registries.items (λ books. opening_refusal (config_of c.args.config books) ≡ None)
    c.deref.ensures.value c.in-Ok.ensures.could

pub returns-in-Ok-start_opened-clause-each : goal.returns-in-Ok-start_opened-clause-each
returns-in-Ok-start_opened-clause-each g c =
    let own = c.in-Ok-start_opened.started.1 in
    let counted = desks-counted (λ d. d.desk) own.items c.in-Ok.opened.desks (vec_len c.in-Ok.opened.shards) c.in-Ok-start_opened.ensures.desks in
    let each : vec_len own ≡ c.in-Ok.opened.desks = search (counted, rules) in each ∙ c.in-Ok.ensures.count.1

pub returns-in-Ok-start_opened-clause-desks : goal.returns-in-Ok-start_opened-clause-desks
returns-in-Ok-start_opened-clause-desks g c =
    let shards : vec_len c.in-Ok.opened.shards ≡ c.args.config.shards = search (c.in-Ok.ensures.count.0, rules) in
    c.in-Ok-start_opened.ensures.desks ∙ ap (λ n. desks_at_start n (vec_len c.in-Ok.opened.shards)) c.in-Ok.ensures.count.1
    ∙ ap (desks_at_start c.args.config.desks) shards

pub returns-in-Ok-start_opened-clause-pages : goal.returns-in-Ok-start_opened-clause-pages
returns-in-Ok-start_opened-clause-pages g c =
    let own = c.in-Ok.opened in
    let config = config_of c.args.config (map (λ r. r.book) c.deref.result.now) in
    let opened = pages-opened (settings_of config) own.shards.items own.pages.items own.lines own.clock own.desks c.in-Ok.ensures.ok in
    let pages : vec_len own.pages ≡ c.args.config.pages = search (opened, rules) in c.in-Ok-start_opened.ensures.pages ∙ pages

pub returns-in-Err-start_opened-clause-fault : goal.returns-in-Err-start_opened-clause-fault
returns-in-Err-start_opened-clause-fault g c =
    of-same (λ r. r.book) c.deref.result.now c.args.registries.items (λ books. IsStartFault (config_of c.args.config books) c.in-Err-start_opened.fault)
    c.deref.ensures.value
    (thread-is-start (config_of c.args.config (map (λ r. r.book) c.deref.result.now)) c.in-Err-start_opened.fault c.in-Ok.ensures.could
    c.in-Err-start_opened.ensures.fault)
