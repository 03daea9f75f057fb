use Rattle.std.proofs.Common.{◌≡◌, length, map, refl, ap, sym, ◌∙◌, subst, arith}
use Rattle.std.proofs.lemmas.Grind.{common_steps}
use Rattle.std.proofs.lemmas.Bool.{true≢false}
use Rattle.std.proofs.lemmas.List.{length-map}
use Rattle.std.specs.Vec.{with_items}
use Rattle.circuit.specs.declared.parts.Latch.{Latch}
use Rattle.circuit.specs.Circuit.{Circuit}
use Rattle.circuit.specs.Trace.{first_state}
use Rattle.lane_kernel.specs.Walk.{AreNarrowRuns, IsNextPause}
use Rattle.lane_words.specs.Gates.{IsProgram}
use Rattle.lane_kernel.specs.Marks.{AreFaultMarks, IsUnnamed, has_transients}
use Rattle.lane_kernel.proofs.kernel.Kernel.new.Goals as goal

pub returns-clause-kernel : goal.returns-clause-kernel
returns-clause-kernel g c =
    let gates = c.in_ok-gates.gates.items in
    let loads = c.in_ok-loads.loads.items in
    let circuit : c.of.result.value ≡ c.args.netlist.now = c.of.ensures in
    let order : c.of-2.result.value ≡ c.args.order.now = c.of-2.ensures in
    let starts : c.in_ok-starts.starts.items ≡ first_state c.of.result.value =
    c.in_ok-starts.ensures ∙ ap (map (λ (latch : Latch). latch.start)) c.latches.ensures.value ∙ ap first_state (sym circuit) in
    let held : length c.in_ok-starts.starts.items ≡ length c.of.result.value.latches =
    ap length starts ∙ length-map c.of.result.value.latches (λ (latch : Latch). latch.start) in
    let marks : (with_items c.in_ok-marks.marks c.prepare.new.marks).items ≡ c.prepare.new.marks = grind (arith, common_steps) in
    let next : (with_items c.in_ok-next.next c.prepare.new.next).items ≡ c.prepare.new.next = grind (arith, common_steps) in
    let nets : c.nets-nets.result ≡ length c.of.result.value.drivers = c.nets-nets.ensures.count ∙ ap (λ (m : Circuit). length m.drivers) (sym circuit) in
    record {
      program =
          subst (λ m. IsProgram m c.of-2.result.value gates) (sym circuit)
          (subst (λ o. IsProgram c.args.netlist.now o gates) (c.nets.ensures ∙ sym order) c.in_ok-gates.ensures);
      ops = c.in_ok-masks.ensures;
      starts = starts;
      loads = omega (arith, c.in_ok-loads.ensures.count, c.count.ensures);
      transient = c.is_some_transient-transient.ensures ∙ ap has_transients c.deref-3.ensures.value;
      marks = ap length marks ∙ c.prepare.auto.marks ∙ ap length c.deref_mut.ensures.value ∙ omega (arith, c.in_ok-marks.marks.ok.0, c.in_ok-marks.ensures.len, nets);
      marked = subst (AreFaultMarks loads) (sym marks) (subst (λ ls. AreFaultMarks ls c.prepare.new.marks) c.deref-2.ensures.value c.prepare.ensures.marks);
      next = subst (IsNextPause (length gates)) (sym next) (subst (λ gs. IsNextPause (length gs) c.prepare.new.next) c.deref.ensures.value c.prepare.ensures.next);
      narrow = subst (AreNarrowRuns gates) (sym next) (subst (λ gs. AreNarrowRuns gs c.prepare.new.next) c.deref.ensures.value c.prepare.ensures.narrow);
      quiet =
          subst (IsUnnamed loads gates) (sym next)
          (subst (λ ls. IsUnnamed ls gates c.prepare.new.next) c.deref-2.ensures.value
          (subst (λ gs. IsUnnamed c.deref-2.result.now gs c.prepare.new.next) c.deref.ensures.value c.prepare.ensures.quiet));
      forces = c.in_ok-forces.ensures.count ∙ nets;
      idle = λ k n d own lt within free. c.in_ok-forces.ensures.idle n within k d own lt;
      steady = λ fresh. absurd (true≢false fresh);
      raw = omega (arith, c.in_ok-raw.raw.ok.0, c.in_ok-raw.ensures.len, c.len-2.ensures, c.in_ok-starts.starts.ok.0, held);
      words = omega (arith, c.in_ok-words.words.ok.0, c.in_ok-words.ensures.len, nets);
    }
