use Rattle.std.proofs.Common.{◌≡◌, ◌∙◌, false, ◌++◌, ap, sym, codes}
use Rattle.std.specs.Prelude.{decimal, nat_eq}
use Rattle.std.specs.List.{starts_with}
use Rattle.circuit.specs.declared.parts.Fault.TheVariants.{Flip}
use Rattle.circuit.specs.Names.{net_name}
use Rattle.fault_list.specs.Faults.{net_of_fault}
use Rattle.wave_dump.specs.Steps.{is_fault_named}
use Rattle.wave_dump.proofs.Naming.{found_nowhere, joined_not}
use Rattle.wave_dump.proofs.named.flip_on.Goals as goal

pub returns-else-starts_with : goal.returns-else-starts_with
returns-else-starts_with c =
    let net = c.args.net.now in
    let name = c.args.name.now in
    let on = net_of_fault net (Flip c.args.latch 0) in
    let other : starts_with nat_eq name (net_name net on) ≡ false =
    ap (λ n. starts_with nat_eq name (net_name net n)) (sym c.net_of.ensures) ∙ ap (starts_with nat_eq name) (sym c.name.ensures.value) ∙ sym c.starts_with.ensures.value
    ∙ c.if-starts_with.false in
    sym (found_nowhere (is_fault_named net name) (λ cycle. Flip c.args.latch cycle) c.args.cycles.now
    (λ cycle. sym (joined_not (net_name net on) (codes "^" ++ decimal cycle) name other)))
