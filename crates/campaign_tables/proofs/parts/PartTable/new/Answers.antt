use Rattle.std.proofs.Common.{◌∙◌, ap, sym, subst, length, ℕ, List, arith}
use Rattle.std.specs.Prelude.{Option}
use Rattle.std.proofs.lemmas.List.{length-map}
use Rattle.circuit.specs.declared.parts.Latch.{Latch}
use Rattle.rate_table.specs.declared.Pattern.{Pattern}
use Rattle.campaign_tables.specs.PartTable.{row_of_net}
use Rattle.campaign_tables.specs.Counted.{latch_rows, net_rows, AreRowCounts, AreFirsts, AreRowsBelow}
use Rattle.campaign_tables.proofs.Looking.{latch_rows_below, length_rows, net_rows_below}
use Rattle.campaign_tables.proofs.parts.PartTable.new.Goals as goal

pub counts_of-requires-clause-below : goal.counts_of-requires-clause-below
counts_of-requires-clause-below c =
    subst (λ (patterns : List Pattern). AreRowsBelow (length patterns) c.deref-2.result.now) (sym c.patterns-n.ensures.value)
    (subst (AreRowsBelow (length c.args.rates.now.patterns)) (sym (c.deref-2.ensures.value ∙ c.in_ok-rows.ensures.rows)) (net_rows_below c.args.net.now c.args.rates.now))

pub counts_of-requires-clause-few : goal.counts_of-requires-clause-few
counts_of-requires-clause-few c =
    omega (arith, ap length (c.deref-2.ensures.value ∙ c.in_ok-rows.ensures.rows), length_rows c.args.net.now c.args.rates.now, c.in_ok-rows.ensures.netlist.few)

pub counts_of-requires-2-clause-below : goal.counts_of-requires-2-clause-below
counts_of-requires-2-clause-below c =
    subst (λ (patterns : List Pattern). AreRowsBelow (length patterns) c.deref-3.result.now) (sym c.patterns-n.ensures.value)
    (subst (AreRowsBelow (length c.args.rates.now.patterns)) (sym (c.deref-3.ensures.value ∙ c.in_ok-latches.ensures)) (latch_rows_below c.args.net.now c.args.rates.now))

pub counts_of-requires-2-clause-few : goal.counts_of-requires-2-clause-few
counts_of-requires-2-clause-few c =
    omega (
      arith,
      ap length (c.deref-3.ensures.value ∙ c.in_ok-latches.ensures),
      length-map c.args.net.now.latches (λ (latch : Latch). row_of_net c.args.net.now c.args.rates.now latch.to.0),
      c.in_ok-rows.ensures.netlist.few_latches,
    )

pub firsts_of-requires-clause-below : goal.firsts_of-requires-clause-below
firsts_of-requires-clause-below c =
    subst (λ (patterns : List Pattern). AreRowsBelow (length patterns) c.deref-4.result.now) (sym c.patterns-n.ensures.value)
    (subst (AreRowsBelow (length c.args.rates.now.patterns)) (sym (c.deref-4.ensures.value ∙ c.in_ok-rows.ensures.rows)) (net_rows_below c.args.net.now c.args.rates.now))

pub firsts_of-requires-clause-few : goal.firsts_of-requires-clause-few
firsts_of-requires-clause-few c =
    omega (arith, ap length (c.deref-4.ensures.value ∙ c.in_ok-rows.ensures.rows), length_rows c.args.net.now c.args.rates.now, c.in_ok-rows.ensures.netlist.few)

pub invariant_of-result : goal.invariant_of-result
invariant_of-result c =
    let net = c.args.net.now in
    let rates = c.args.rates.now in
    let n = ap length c.patterns-n.ensures.value in
    let rows_2 = c.deref-2.ensures.value ∙ c.in_ok-rows.ensures.rows in
    let rows_4 = c.deref-4.ensures.value ∙ c.in_ok-rows.ensures.rows in
    let latches = c.deref-3.ensures.value ∙ c.in_ok-latches.ensures in
    record {
      few = c.in_ok-rows.ensures.netlist.few;
      rows_are = c.in_ok-rows.ensures.rows;
      nets = subst (λ m. AreRowCounts m (net_rows net rates) c.in_ok-net_counts.net_counts.items) n
          (subst (λ (rows : List (Option ℕ)). AreRowCounts (length c.patterns-n.result.now) rows c.in_ok-net_counts.net_counts.items) rows_2 c.in_ok-net_counts.ensures);
      latches = subst (λ m. AreRowCounts m (latch_rows net rates) c.in_ok-latch_counts.latch_counts.items) n
          (subst (λ (rows : List (Option ℕ)). AreRowCounts (length c.patterns-n.result.now) rows c.in_ok-latch_counts.latch_counts.items) latches c.in_ok-latch_counts.ensures);
      first = subst (λ m. AreFirsts m (length net.drivers) (net_rows net rates) c.in_ok-firsts.firsts.items) n
          (subst (λ m. AreFirsts (length c.patterns-n.result.now) m (net_rows net rates) c.in_ok-firsts.firsts.items) (length_rows net rates)
          (subst (λ (rows : List (Option ℕ)). AreFirsts (length c.patterns-n.result.now) (length rows) rows c.in_ok-firsts.firsts.items) rows_4 c.in_ok-firsts.ensures));
    }
