-- What a line of ports does: one of the main model, and one that brings new nets.
use Rattle.std.specs.Prelude.{List, [], Option, Some, None}
use Rattle.fm_base.specs.Names.{Name}
use Rattle.blif_model.specs.Walk.{Act, takes, gives, clocks}
use Rattle.blif_flatten.specs.declared.acts.Port.{Port}
use Rattle.blif_flatten.specs.declared.acts.Port.TheVariants.{In, Out, Clocking}
use Rattle.blif_flatten.specs.declared.flat.NameId.{NameId}
use Rattle.blif_flatten.specs.declared.flat.NumberedAct.{NumberedAct}
use Rattle.blif_flatten.specs.declared.flat.NumberedAct.TheVariants.{PortNets}

abbrev pub own_act : Port → List Name → Act
own_act In names = takes names
own_act Out names = gives names
own_act Clocking names = clocks names

-- a visit of these nets, unless there are none
abbrev pub some_nets : List NameId → Option NumberedAct
some_nets [] = None
some_nets ids = Some (PortNets ids)
