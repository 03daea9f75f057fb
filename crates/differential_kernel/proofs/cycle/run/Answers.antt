use Rattle.std.proofs.Common.{◌≡◌, false, List, length, get_or, ap, ap₂, sym, ◌∙◌, arith}
use Rattle.std.proofs.lemmas.Grind.{common_steps}
use Rattle.std.specs.Vec.{with_items}
use Rattle.circuit.specs.Order.{net_at}
use Rattle.circuit.specs.Value.{bit_at}
use Rattle.golden_difference.specs.Beside.{latched}
use Rattle.golden_difference.proofs.Exclusive.{either_again, either_none}
use Rattle.lane_words.specs.Bits.{either}
use Rattle.lane_words.specs.Gates.{latch_at, plane}
use Rattle.place_set.specs.Places.{value_in}
use Rattle.lane_words.specs.Forces.{force_value}
use Rattle.differential_kernel.proofs.Begun.{begun}
use Rattle.differential_kernel.proofs.cycle.run.Goals as goal

pub take_live-requires-clause-nets : goal.take_live-requires-clause-nets
take_live-requires-clause-nets g c =
    let nets = c.args.nets.now in
    let words : (with_items nets.words c.clear.new.words).items ≡ c.clear.new.words = grind (arith, common_steps) in
    let count : length (with_items nets.words c.clear.new.words).items ≡ length nets.words.items =
    ap (λ (ws : List g.row.W.Denot). length ws) words ∙ c.clear.auto.words ∙ ap (λ (ws : List g.row.W.Denot). length ws) c.deref_mut.ensures.value in
    record {
      words = count ∙ c.requires.nets.words;
      touched = record {
        bound = c.clear.ensures.bound ∙ c.requires.nets.touched.bound ∙ sym count;
        same = λ n none k lt. ap (λ ws. bit_at (plane g.W.Word.lane_bit k ws) n) words ∙ c.clear.ensures.same n k lt;
      };
      marks = c.requires.nets.marks;
    }

pub walk-evaluated-requires-clause-ahead : goal.walk-evaluated-requires-clause-ahead
walk-evaluated-requires-clause-ahead g c = λ k q d lt_k le lt none.
    let bit = g.W.Word.lane_bit in
    let row = c.args.cycle.now.row.now in
    let n = (net_at c.args.cycle.now.order.now q).0 in
    let net = c.requires.fit.golden.ordered.nets q (record { 0 = 0 }) lt in
    let same : bit_at (plane bit k c.take_live.new.nets.words.items) n ≡ false =
    c.take_live.ensures.shown k n lt_k net
    ∙ ap (latched (bit_at (plane bit k c.args.latches.now.raw.items))) (c.requires.fit.golden.ordered.tables q lt).1 in
    c.force_all-forced.ensures.forced k n d lt_k net
    ∙ ap (λ v. either (force_value bit k (get_or c.args.forces.now.by_net.items n d) v) (value_in row n)) (ap (either (value_in row n)) same ∙ either_none (value_in row n))

pub returns-clause-run : goal.returns-clause-run
returns-clause-run g c =
    let lanes = g.W.Word.lanes in
    let bit = g.W.Word.lane_bit in
    let row = c.args.cycle.now.row.now in
    let order = c.args.cycle.now.order.now in
    let golden = c.requires.fit.golden in
    record {
      values = λ k x other lt pair are holds n net.
          ap (λ words. bit_at (plane bit k words) n) c.take_latches.ensures.words
          ∙ sym (either_again (value_in row n) (bit_at (plane bit k c.walk-evaluated.new.nets.words.items) n))
          ∙ ap₂ either
          (c.walk-evaluated.ensures.values k x other lt pair are
          (begun lanes bit k lt c.args.cycle.now.netlist.now order golden.sound golden.ordered row c.args.forces.now.by_net.items c.requires.fit.forces.each x other pair are
          (bit_at (plane bit k c.args.latches.now.raw.items)) c.take_live.new.nets.words.items c.force_all-forced.new.nets.words.items holds
          (λ m within free. c.take_live.ensures.shown k m lt within)
          (λ m d within. c.force_all-forced.ensures.forced k m d lt within))
          n net)
          (pair.values n net);
      raw = λ k l lt within.
          c.take_latches.ensures.taken k l lt within
          ∙ sym (ap (λ words. bit_at (plane bit k words) (latch_at c.args.cycle.now.netlist.now.latches l).from.0) c.take_latches.ensures.words);
      latches = c.take_latches.ensures.latches;
    }
