-- What is answered of the netlist's file: that it wasn't read, that it is no netlist, a loop, or an order of its tables.
use Rattle.std.proofs.Common.{◌≡◌, ◌∙◌, ap, refl, sym, subst, List, true, false, inl, inr}
use Rattle.std.specs.Prelude.{Option, Some, None, Result, Ok, Err, option_map, if◌then◌else◌}
use Rattle.fm_base.specs.Names.{Bytes}
use Rattle.fm_shelf.specs.Content.{Held, bytes_of}
use Rattle.circuit.specs.declared.parts.NetId.{NetId}
use Rattle.circuit.specs.Circuit.{Circuit}
use Rattle.circuit.specs.Loop.{AnswersLoops}
use Rattle.bench_reader.specs.Bench.{bench_of}
use Rattle.blif_model.specs.Net.{netlist_of}
use Rattle.commands.specs.declared.command.Which.TheVariants as which
use Rattle.refusals.specs.declared.refused.Refused.{Refused}
use Rattle.refusals.specs.declared.refused.Refused.TheVariants.{By, Looped}
use Rattle.refusals.specs.declared.status.Status.{Status}
use Rattle.refusals.specs.declared.status.Status.TheVariants as status
use Rattle.refusals.specs.NetlistFile.{is_bench, netlist_in, or_refuse}
use Rattle.refusals.specs.Refusals.{HasItsNets, IsPlain}
use Rattle.refusals.proofs.Refusals.{ok_same}
use Rattle.refusals.proofs.WantOfMemory.{evidence_of}
use Rattle.command_reads.specs.declared.netlist.Ordered.{Ordered}
use Rattle.command_reads.specs.Files.{Reads, known_by}
use Rattle.command_reads.specs.FirstRefusal.{netlist_read, netlist_step, unless, whole, ◌>>=◌}
use Rattle.command_reads.specs.Answers.{AnswersAs, LoopsAnswered, NetTakenAs, OrdersAs, TakesAs}
use Rattle.command_reads.proofs.Wholes.{known_whole}

-- the file's name says how it is written
pub in_bench : (name bytes : Bytes) → is_bench name ≡ true → or_refuse status.Bench (bench_of bytes) ≡ netlist_in name bytes
unfolding netlist_in
in_bench name bytes e = ap (λ bench. if bench then or_refuse status.Bench (bench_of bytes) else or_refuse status.Netlist (netlist_of bytes)) (sym e)

pub in_blif : (name bytes : Bytes) → is_bench name ≡ false → or_refuse status.Netlist (netlist_of bytes) ≡ netlist_in name bytes
unfolding netlist_in
in_blif name bytes e = ap (λ bench. if bench then or_refuse status.Bench (bench_of bytes) else or_refuse status.Netlist (netlist_of bytes)) (sym e)

-- what follows a netlist
abbrev behind : Option (List NetId) → Circuit → Result Circuit Status
behind walk c = unless (option_map status.Loop walk) c

step_is : (name : Bytes) (walk : Option (List NetId)) (reads : Reads) → netlist_step name walk reads ≡ (netlist_read name reads >>= behind walk)
unfolding netlist_step
step_is name walk reads = refl

-- the netlist's step, by what is answered of loops
abbrev pub net_step : Bytes → Reads → Option (List NetId) → Result Circuit Status
net_step name reads walk = netlist_step name walk reads

module _ (name : Bytes) (reads : Reads) where
  -- no netlist was read
  none_read : (ended : Status) → netlist_read name reads ≡ Err ended → IsPlain ended → TakesAs name reads (net_step name reads) (Err (By ended))
  none_read ended is plain =
      (inr (None, (λ c read. let bad : Err ended ≡ Ok c = sym is ∙ read in cc bad), step_is name None reads ∙ ap (λ r. r >>= behind None) is), plain)

  -- the file wasn't read
  pub net_unread : (ended : Status) → whole which.Netlist reads ≡ Err ended → IsPlain ended → TakesAs name reads (net_step name reads) (Err (By ended))
  net_unread ended is plain = none_read ended (ap (λ r. r >>= netlist_in name) is) plain

  module _ (bytes : Bytes) (read : whole which.Netlist reads ≡ Ok bytes) where
    of_bytes : netlist_read name reads ≡ netlist_in name bytes
    of_bytes = ap (λ r. r >>= netlist_in name) read

    -- the bytes are no netlist
    pub net_faulty : (ended : Status) → AnswersAs (netlist_in name bytes) (Err ended) → TakesAs name reads (net_step name reads) (Err (By ended))
    net_faulty ended (inl memory, plain) = (inl memory, plain)
    net_faulty ended (inr is, plain) = none_read ended (of_bytes ∙ is) plain

    module _ (c : Circuit) (is : netlist_in name bytes ≡ Ok c) where
      over : (walk : Option (List NetId)) → netlist_step name walk reads ≡ behind walk c
      over walk = step_is name walk reads ∙ ap (λ r. r >>= behind walk) (of_bytes ∙ is)

      loops_are : (walk : Option (List NetId)) → AnswersLoops c walk → LoopsAnswered name reads walk
      loops_are walk answer = λ d read. subst (λ x. AnswersLoops x walk) (ok_same (netlist_read name reads) c d (of_bytes ∙ is) read) answer

      -- a netlist, and what is answered of its loops
      pub net_ordered : (result : Result Ordered Refused) → OrdersAs c result → NetTakenAs name reads result
      net_ordered (Ok made) (same, order, no_loop) =
          (over None ∙ ap (λ d. Ok d) (sym same), loops_are None no_loop)
      net_ordered (Err (By ended)) memory = (inl memory, subst IsPlain (sym (evidence_of ended memory).1) tt)
      net_ordered (Err (Looped walk net)) (same, loop) = (inr (Some walk, loops_are (Some walk) loop, over (Some walk)), nets)
        where
          nets : HasItsNets name (known_by (reads which.Netlist)) (Looped walk net)
          nets = λ other held d got.
              let known : Held bytes ≡ Held other = sym (known_whole which.Netlist reads bytes read) ∙ held in
              same ∙ ok_same (netlist_in name bytes) c d is (ap (netlist_in name) (ap bytes_of known) ∙ got)
