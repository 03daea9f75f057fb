-- The netlist files of the small circuits are read as these circuits.
use Rattle.std.proofs.Common.{◌≡◌, refl}
use Rattle.std.specs.Prelude.{Ok}
use Rattle.test_definitions.specs.Opened.{opened}
use Rattle.blif_model.specs.Net.{netlist_of}
use Rattle.sample_gen.specs.Sample.{netlist_text}
use Rattle.test_definitions.specs.Circuits.{dup, dupl, dupt, chain, chain_latch, pipe}
use Rattle.test_definitions.specs.Files.{dup_netlist, dupl_netlist, dupt_netlist, chain_netlist, chain_latch_netlist}

pub read_dup : netlist_of dup_netlist ≡ Ok dup
unfolding opened
read_dup = refl

pub read_dupl : netlist_of dupl_netlist ≡ Ok dupl
unfolding opened
read_dupl = refl

pub read_dupt : netlist_of dupt_netlist ≡ Ok dupt
unfolding opened
read_dupt = refl

pub read_chain : netlist_of (chain_netlist 31) ≡ Ok (chain 31)
unfolding opened
read_chain = refl

pub read_chain_latch : netlist_of (chain_latch_netlist 31) ≡ Ok (chain_latch 31)
unfolding opened
read_chain_latch = refl

pub read_sample : netlist_of (netlist_text 1) ≡ Ok (pipe 1)
unfolding opened
read_sample = refl
