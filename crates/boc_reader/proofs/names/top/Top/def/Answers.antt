use Rattle.std.proofs.Common.{ap, sym, ◌∙◌, None, Some, add-one}
use Rattle.std.specs.Str.{bytes_eq}
use Rattle.std.specs.Option.{option_map}
use Rattle.boc_reader.specs.Resolving.{callee_of}
use Rattle.boc_reader.proofs.ResolvingTop.{kind_at, callee_at, found_there}
use Rattle.boc_reader.proofs.names.top.Top.def.Goals as goal

pub returns-in_err-place-clause-kind : goal.returns-in_err-place-clause-kind
returns-in_err-place-clause-kind c =
    ap (option_map (λ r. r.0)) c.from_residual.ensures
    ∙ kind_at c.args.self.now.cowns.items c.args.self.now.defs.items _ c.args.name.now None c.deref.ensures.value (sym c.in_err-place.was ∙ c.find_def.ensures)

pub returns-in_err-place-clause-callee : goal.returns-in_err-place-clause-callee
returns-in_err-place-clause-callee c =
    ap (option_map (λ r. callee_of r.1)) c.from_residual.ensures
    ∙ callee_at c.args.self.now.cowns.items c.args.self.now.defs.items _ c.args.name.now None c.deref.ensures.value
    (sym c.in_err-place.was ∙ c.find_def.ensures)

pub returns-clause-kind : goal.returns-clause-kind
returns-clause-kind c =
    ap Some (add-one c.in_ok-place.place)
    ∙ kind_at c.args.self.now.cowns.items c.args.self.now.defs.items _ c.args.name.now (Some c.in_ok-place.place) c.deref.ensures.value
    (sym c.in_ok-place.was ∙ c.find_def.ensures)

pub returns-clause-callee : goal.returns-clause-callee
returns-clause-callee c =
    let there = found_there (λ d. bytes_eq d.name.now c.args.name.now) c.args.self.now.defs.items _ c.in_ok-place.place c.index.result.now c.deref.ensures.value
    (sym c.in_ok-place.was ∙ c.find_def.ensures) c.index.ensures in
    sym (ap (option_map callee_of) there)
    ∙ callee_at c.args.self.now.cowns.items c.args.self.now.defs.items _ c.args.name.now (Some c.in_ok-place.place) c.deref.ensures.value
    (sym c.in_ok-place.was ∙ c.find_def.ensures)
