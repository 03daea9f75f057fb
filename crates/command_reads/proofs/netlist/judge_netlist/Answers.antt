use Rattle.std.proofs.lemmas.Result.{err_from_is_err_and}
use Rattle.commands.specs.declared.command.Which.TheVariants.{Netlist}
use Rattle.command_reads.specs.Files.{reads_by}
use Rattle.command_reads.proofs.Netlists.{net_unread, net_faulty, net_ordered}
use Rattle.command_reads.proofs.Wholes.{short_whole}
use Rattle.command_reads.proofs.netlist.judge_netlist.Goals as goal

pub netlist_from-requires : goal.netlist_from-requires
netlist_from-requires c = short_whole Netlist (reads_by c.args.reads.now) c.in_ok-bytes.bytes.now c.requires c.in_ok-bytes.ensures

pub returns-in_err-bytes-clause-taken : goal.returns-in_err-bytes-clause-taken
returns-in_err-bytes-clause-taken c =
    let p = err_from_is_err_and c.from_residual.result c.from_residual.ensures.1 in
    rw (p.1, p.2) (net_unread c.args.name.now (reads_by c.args.reads.now) _ c.in_err-bytes.ensures.0 c.in_err-bytes.ensures.1)

pub returns-in_err-net-clause-taken : goal.returns-in_err-net-clause-taken
returns-in_err-net-clause-taken c =
    let p = err_from_is_err_and c.from_residual-in_err-net.result c.from_residual-in_err-net.ensures.1 in
    rw (p.1, p.2) (net_faulty c.args.name.now (reads_by c.args.reads.now) c.in_ok-bytes.bytes.now c.in_ok-bytes.ensures _ c.in_err-net.ensures)

pub returns-clause-taken : goal.returns-clause-taken
returns-clause-taken c =
    net_ordered c.args.name.now (reads_by c.args.reads.now) c.in_ok-bytes.bytes.now c.in_ok-bytes.ensures
    c.in_ok-net.net c.in_ok-net.ensures c.order_of.result c.order_of.ensures
