-- The places, the regions, the headers and the names of a script, in their order.
use Rattle.std.proofs.Common.{◌∙◌, ap, map}
use Rattle.wild_plan_spec.specs.Headers.{HeadersAt, header_of}
use Rattle.wild_plan_spec.specs.Regions.{MemoryAt, names_in, region_of}
use Rattle.wild_fates.specs.Memories.{shown_headers, shown_memory}
use Rattle.wild_fates.specs.Targets.{targets}
use Rattle.wild_fates.specs.Shown.{shown_places}
use Rattle.wild_fates.proofs.Failing.{exits}
use Rattle.wild_fates.proofs.InOrder.{wanted_place, wanted_region, wanted_header, wanted_name, none_wanted}
use Rattle.wild_fates.proofs.script_fates.check_script.Goals as goal

pub returns-in_err-rules-clause-passes : goal.returns-in_err-rules-clause-passes
returns-in_err-rules-clause-passes c =
    exits _ _ c.from_residual.ensures.1 (wanted_place c.args.options.now (shown_places c.args.places.now) (targets c.args.sections.now) _ c.in_err-rules.ensures.passes.err)

pub returns-in_err-regions-clause-passes : goal.returns-in_err-regions-clause-passes
returns-in_err-regions-clause-passes c =
    exits _ _ c.from_residual-in_err-regions.ensures.1
    (wanted_region c.args.options.now (shown_places c.args.places.now) (targets c.args.sections.now) c.in_ok-rules.ensures.passes.ok (shown_memory c.last_memory-memory.result) c.last_memory-memory.ensures _ c.in_err-regions.ensures.passes.err)

pub returns-in_err-headers-clause-passes : goal.returns-in_err-headers-clause-passes
returns-in_err-headers-clause-passes c =
    exits _ _ c.from_residual-in_err-headers.ensures.1
    (wanted_header c.args.options.now (shown_places c.args.places.now) (targets c.args.sections.now) c.in_ok-rules.ensures.passes.ok (shown_memory c.last_memory-memory.result) c.last_memory-memory.ensures c.in_ok-regions.ensures.passes.ok
    (shown_headers c.last_headers-list.result) c.last_headers-list.ensures _ c.in_err-headers.ensures.passes.err)

pub returns-in_err-names-clause-passes : goal.returns-in_err-names-clause-passes
returns-in_err-names-clause-passes c =
    exits _ _ c.from_residual-in_err-names.ensures.1
    (wanted_name c.args.options.now (shown_places c.args.places.now) (targets c.args.sections.now) c.in_ok-rules.ensures.passes.ok (shown_memory c.last_memory-memory.result) c.last_memory-memory.ensures c.in_ok-regions.ensures.passes.ok
    (shown_headers c.last_headers-list.result) c.last_headers-list.ensures c.in_ok-headers.ensures.passes.ok _ c.in_err-names.ensures.passes.err)

pub returns-clause-passes : goal.returns-clause-passes
returns-clause-passes c = record {
  ok = none_wanted c.args.options.now (shown_places c.args.places.now) (targets c.args.sections.now) c.in_ok-rules.ensures.passes.ok (shown_memory c.last_memory-memory.result) c.last_memory-memory.ensures c.in_ok-regions.ensures.passes.ok
      (shown_headers c.last_headers-list.result) c.last_headers-list.ensures c.in_ok-headers.ensures.passes.ok c.in_ok-names.ensures.passes.ok;
  err = tt;
}

pub returns-clause-regions : goal.returns-clause-regions
returns-clause-regions c = c.in_ok-regions.ensures.regions ∙ ap (λ (m : MemoryAt). map region_of m.regions) c.last_memory-memory.ensures

pub returns-clause-region_names : goal.returns-clause-region_names
returns-clause-region_names c = c.in_ok-names.ensures.regions ∙ ap (λ (m : MemoryAt). names_in m.regions) c.last_memory-memory.ensures

pub returns-clause-headers : goal.returns-clause-headers
returns-clause-headers c = c.in_ok-headers.ensures.headers ∙ ap (λ (h : HeadersAt). map header_of h.headers) c.last_headers-list.ensures
