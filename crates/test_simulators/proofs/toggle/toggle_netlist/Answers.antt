use Rattle.test_simulators.proofs.ToggleSound.{toggle_sound}
use Rattle.test_simulators.proofs.toggle.toggle_netlist.Goals as goal

pub invariant_of-result : goal.invariant_of-result
invariant_of-result c =
    rw (c.in_ok-names.ensures, c.in_ok-drivers.ensures, c.in_ok-tables.ensures, c.in_ok-latches.ensures, c.in_ok-inputs.ensures, c.in_ok-outputs.ensures)
    toggle_sound
