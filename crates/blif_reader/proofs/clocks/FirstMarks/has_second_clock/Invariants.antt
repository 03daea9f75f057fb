use Rattle.std.proofs.Common.{◌≡◌, drop, fold, map, take}
use Rattle.blif_flatten.specs.Flat.{name_at}
use Rattle.blif_reader.specs.Clocks.{any_apart, control, firsts_with}
use Rattle.blif_reader.proofs.clocks.FirstMarks.has_second_clock.Given as goal

abbrev pub invariant-loop-id : goal.invariant-loop-id
invariant-loop-id l = record {
  left : any_apart l.self (map control (map (name_at l.names) (drop l.id-index l.ids)))
      ≡ any_apart l.initial.self (map control (map (name_at l.names) l.ids));
  kept : l.self ≡ fold firsts_with l.initial.self (map control (map (name_at l.names) (take l.id-index l.ids)));
}
