-- Nets that are put into a cone, until no path leads out of it.
use Rattle.std.proofs.Common.{◌≡◌, inl, inr, ℕ, ◌+◌, ◌-◌, ◌<◌, ◌==◌, ◌&&◌, cond, true, false, length, refl, ap, sym, subst, ◌∙◌, arith}
use Rattle.std.proofs.lemmas.Bool.{cases_eq, false_from_ne_true, le-ltb, lt-ltb, ne_eqb, true≢false}
use Rattle.circuit.specs.Order.{net_at}
use Rattle.circuit.specs.Value.{driver_at}
use Rattle.fanout.specs.Readers.{IsReadAt, Ordered}
use Rattle.lane_words.specs.Gates.{latch_at}
use Rattle.place_set.specs.Places.{Places, has}
use Rattle.differential_kernel.specs.declared.cone.Cone.{Cone}
use Rattle.differential_kernel.specs.Cone.{IsClosed, IsClosedBut, IsConeOf, IsNewCone, LeadsInto, Spreads, driven_at, is_source}
use Rattle.differential_kernel.specs.Differences.{IsEmptySet}
use Rattle.differential_kernel.proofs.Notes.{grows_none, not_put, put_grows, taken_other}
use Rattle.differential_kernel.proofs.Walking.{latch_read}

-- no net is put
pub spreads_none : (nets left : Places) → Spreads nets left nets left
spreads_none nets left = record { bound = refl; left_bound = refl; kept = λ n there. there; left_kept = λ n there. there; own = λ n there none. there }

-- more and more are put
pub spreads_on : (nets left more waiting most last : Places) → Spreads nets left more waiting → Spreads more waiting most last → Spreads nets left most last
spreads_on nets left more waiting most last first next = record {
  bound = next.bound ∙ first.bound;
  left_bound = next.left_bound ∙ first.left_bound;
  kept = λ n there. next.kept n (first.kept n there);
  left_kept = λ n there. next.left_kept n (first.left_kept n there);
  own = λ n there none. first.own n (next.own n there none) (grows_none waiting last n next.left_kept none);
}

-- one net is put
pub spreads_put : (nets left more waiting : Places) (n : ℕ) → more.bound ≡ nets.bound → waiting.bound ≡ left.bound
    → ((p : ℕ) → has more p ≡ cond (p == n) true (has nets p)) → ((p : ℕ) → has waiting p ≡ cond (p == n) true (has left p))
    → Spreads nets left more waiting
spreads_put nets left more waiting n bound left_bound is is_left = record {
  bound = bound;
  left_bound = left_bound;
  kept = put_grows nets more n is;
  left_kept = put_grows left waiting n is_left;
  own = λ p there none. sym (is p ∙ ap (λ b. cond b true (has nets p)) (ne_eqb p n (not_put left waiting n p is_left none).0)) ∙ there;
}

module _ (o : Ordered) where
  -- where more nets are put, no path leads out but from those that are left
  pub closed_spread : (nets left more waiting : Places) → Spreads nets left more waiting → IsClosedBut o left nets → IsClosedBut o waiting more
  closed_spread nets left more waiting spreads closed n there none place reads =
      spreads.kept (driven_at o place) (closed n (spreads.own n there none) (grows_none left waiting n spreads.left_kept none) place reads)

  -- where the readers of one that was left were looked at
  pub closed_taken : (nets left gone more waiting : Places) (n : ℕ) → ((p : ℕ) → has gone p ≡ cond (p == n) false (has left p))
      → Spreads nets gone more waiting → LeadsInto o more n → IsClosedBut o left nets → IsClosedBut o waiting more
  closed_taken nets left gone more waiting n is spreads leads closed m there none =
      elim (cases_eq m n) [
        | inl same ↦ subst (LeadsInto o more) (sym same) leads
        | inr other ↦
            (λ place reads.
            spreads.kept (driven_at o place)
            (closed m (spreads.own m there none) (sym (taken_other left gone n m is other) ∙ grows_none gone waiting m spreads.left_kept none) place reads))
      ]

  -- of no nets
  pub closed_empty : (left nets : Places) → IsEmptySet nets → IsClosedBut o left nets
  closed_empty left nets empty n there none place reads = absurd (true≢false (sym there ∙ empty n))

  pub driven_table : (q : ℕ) → q < length o.order → driven_at o q ≡ (net_at o.order q).0
  driven_table q lt = ap (λ b. cond b (net_at o.order q).0 (latch_at o.circuit.latches (q - length o.order)).to.0) (lt-ltb q (length o.order) lt)

  pub driven_latch : (l : ℕ) → driven_at o (length o.order + l) ≡ (latch_at o.circuit.latches l).to.0
  driven_latch l =
      let behind : length o.order + l - length o.order ≡ l = omega arith in
      ap (λ b. cond b (net_at o.order (length o.order + l)).0 (latch_at o.circuit.latches (length o.order + l - length o.order)).to.0)
      (le-ltb (length o.order + l) (length o.order) (omega arith))
      ∙ ap (λ i. (latch_at o.circuit.latches i).to.0) behind

  -- a table whose net isn't in a cone reads no net of it
  pub table_out : (nets : Places) → IsClosed o nets → (q n : ℕ) → q < length o.order → has nets (net_at o.order q).0 ≡ false → IsReadAt o n q → has nets n ≡ false
  table_out nets closed q n lt none reads =
      false_from_ne_true (has nets n) (λ there. true≢false (sym (closed n there q reads) ∙ ap (has nets) (driven_table q lt) ∙ none))

  -- so a latch
  pub latch_out : (nets : Places) → IsClosed o nets → (l : ℕ) → l < length o.circuit.latches → has nets (latch_at o.circuit.latches l).to.0 ≡ false
      → has nets (latch_at o.circuit.latches l).from.0 ≡ false
  latch_out nets closed l lt none =
      false_from_ne_true (has nets (latch_at o.circuit.latches l).from.0)
      (λ there. true≢false (sym (closed (latch_at o.circuit.latches l).from.0 there (length o.order + l) (latch_read o l lt)) ∙ ap (has nets) (driven_latch l) ∙ none))

  -- a cone without nets
  pub new_cone : (cone : Cone) → IsNewCone (length o.circuit.drivers) (length o.order) (length o.circuit.latches) cone → IsConeOf o cone
  new_cone cone new = record {
    nets = new.bound;
    left = new.left_bound;
    closed = λ n there. absurd (true≢false (sym there ∙ new.none n));
    room = new.room;
    tables = record {
      few = omega (arith, new.count);
      below = λ i lt. absurd (omega (arith, lt, new.count));
      each = λ i lt. absurd (omega (arith, lt, new.count));
      ascending = λ i j less lt. absurd (omega (arith, lt, new.count));
      whole = λ p lt there. absurd (true≢false (sym there ∙ new.none (net_at o.order p).0));
    };
    ends = record {
      bound = new.end_bound;
      latches = λ l lt. new.end_none l ∙ sym (new.none (latch_at o.circuit.latches l).to.0);
      room = new.end_room;
      listed = record {
        few = omega (arith, new.end_count);
        below = λ i lt. absurd (omega (arith, lt, new.end_count));
        each = λ i lt. absurd (omega (arith, lt, new.end_count));
        ascending = λ i j less lt. absurd (omega (arith, lt, new.end_count));
        whole = λ p lt there. absurd (true≢false (sym there ∙ new.end_none p));
      };
    };
    reads = record {
      bound = new.read_bound;
      found = λ n lt none. record {
        outside = λ out place reads. new.none (driven_at o place);
        inside = λ there i is. true≢false (sym there ∙ new.none n);
      };
      room = new.read_room;
      listed = record {
        few = omega (arith, new.read_count);
        below = λ i lt. absurd (omega (arith, lt, new.read_count));
        each = λ i lt. absurd (omega (arith, lt, new.read_count));
        ascending = λ i j less lt. absurd (omega (arith, lt, new.read_count));
        whole = λ p lt there. absurd (true≢false (sym there ∙ new.read_none p));
      };
    };
    sources = record {
      named = new.named_bound;
      inside = λ n there. absurd (true≢false (sym there ∙ new.named_none n));
      bound = new.source_bound;
      each = λ n lt. new.source_none n ∙ sym (ap (λ b. b && is_source (driver_at o.circuit n)) (new.named_none n));
      room = new.source_room;
      listed = record {
        few = omega (arith, new.source_count);
        below = λ i lt. absurd (omega (arith, lt, new.source_count));
        each = λ i lt. absurd (omega (arith, lt, new.source_count));
        ascending = λ i j less lt. absurd (omega (arith, lt, new.source_count));
        whole = λ p lt there. absurd (true≢false (sym there ∙ new.source_none p));
      };
    };
    gates = record { room = new.gate_room; each = λ i lt. absurd (omega (arith, lt, new.count)) };
    stretches = record {
      room = new.stretch_room;
      ends = record {
        least = λ i lt. absurd (omega (arith, lt, new.count));
        most = λ i lt. absurd (omega (arith, lt, new.count));
        each = λ i lt. absurd (omega (arith, lt, new.count));
      };
    };
  }
