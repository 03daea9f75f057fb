-- The pieces of a line of `classes`.
use Rattle.std.proofs.Common.{◌≡◌, ◌∙◌, ap, sym, refl, ℕ, ◌+◌, ◌/◌, ◌%◌, ◌<◌, false, List, [], ◌∷◌, ◌++◌, length, append_assoc, Ok, Err}
use Rattle.std.specs.List.{flat_map}
use Rattle.fm_base.specs.Lists.{below}
use Rattle.fm_shelf.specs.declared.shelf.Failed.{Failed}
use Rattle.fm_shelf.specs.Sink.{SinkState, Sends}
use Rattle.fm_shelf.proofs.Sending.{sends_as, sends_no_number, sends_number, sends_number_torn}
use Rattle.classifier.specs.Simulated.{Simulated, planes_simulated}
use Rattle.circuit.specs.declared.parts.Fault.{Fault}
use Rattle.circuit.specs.Circuit.{Circuit}
use Rattle.circuit.specs.Effects.{is_permanent}
use Rattle.fault_list.specs.Faults.{fault_at, fault_name}
use Rattle.metric_sums.specs.Classes.{class_of}
use Rattle.metric_sums.specs.declared.Role.TheVariants.{Mission}
use Rattle.campaign_plan.specs.declared.Outcome.{Outcome}
use Rattle.metric_sums.specs.Words.{class_word}
use Rattle.fm_base.specs.Names.{Bytes}
use Rattle.fm_base.specs.Planes.{bit}
use Rattle.class_table.specs.ClassLines.{class_line, class_lines}

-- a name, a space, a word and a line feed
pub class_pieces : (c : Circuit) (fs : List Fault) (planes : Outcome) (i : ℕ) (word : Bytes)
    → word ≡ class_word (class_of (bit planes.danger (i % 64)) (bit planes.noticed (i % 64)) Mission false (is_permanent (fault_at fs i)))
    → fault_name c (fault_at fs i) ++ (32 ∷ (word ++ 10 ∷ [])) ≡ class_line c fs planes i
class_pieces c fs planes i word e =
    ap (λ w. fault_name c (fault_at fs i) ++ (32 ∷ (w ++ 10 ∷ []))) e
    ∙ sym (append_assoc (fault_name c (fault_at fs i)) (32 ∷ class_word (class_of (bit planes.danger (i % 64)) (bit planes.noticed (i % 64)) Mission false (is_permanent (fault_at fs i)))) (10 ∷ []))

-- the line of fault i, by the planes that its batch has
abbrev pub line_by : Simulated → ℕ → Bytes
line_by s i = class_line s.circuit s.faults (planes_simulated s (i / 64)) i

-- the lines of the faults before one, and the simulator is as it was
pub record HasWritten (start now : Simulated) (before after : SinkState) (i : ℕ) : Type 0 where
  pub same : now ≡ start
  pub sent : Sends before after (flat_map (line_by start) (below i)) (Ok tt)

pub written_none : (s : Simulated) (out : SinkState) → HasWritten s s out out 0
written_none s out = record { same = refl; sent = sends_no_number (line_by s) out }

-- the line with the planes of the fault's batch
own_line : (start mid : Simulated) (planes : Outcome) (i : ℕ) → mid ≡ start → planes ≡ planes_simulated mid (i / 64) → class_line mid.circuit mid.faults planes i ≡ line_by start i
own_line start mid planes i same are = ap (λ p. class_line mid.circuit mid.faults p i) are ∙ ap (λ s. line_by s i) same

pub written_more : (start mid now : Simulated) (out0 out1 out2 : SinkState) (planes : Outcome) (i : ℕ) (v : Unit {0})
    → HasWritten start mid out0 out1 i → now ≡ mid → planes ≡ planes_simulated mid (i / 64)
    → Sends out1 out2 (class_line mid.circuit mid.faults planes i) (Ok v) → HasWritten start now out0 out2 (i + 1)
written_more start mid now out0 out1 out2 planes i v before stays are next = record {
  same = stays ∙ before.same;
  sent = sends_number (line_by start) i before.sent (sends_as (own_line start mid planes i before.same are) next);
}

pub written_torn : (start mid : Simulated) (out0 out1 out2 : SinkState) (planes : Outcome) (i : ℕ) (e again : Failed)
    → HasWritten start mid out0 out1 i → planes ≡ planes_simulated mid (i / 64) → i < length start.faults
    → Sends out1 out2 (class_line mid.circuit mid.faults planes i) (Err e) → Sends out0 out2 (class_lines start) (Err again)
written_torn start mid out0 out1 out2 planes i e again before are lt torn =
    sends_number_torn (line_by start) (length start.faults) i again lt before.sent (sends_as (own_line start mid planes i before.same are) torn)

pub written_all : (start now : Simulated) (out0 out1 : SinkState) (i : ℕ) → HasWritten start now out0 out1 i → i ≡ length start.faults → Sends out0 out1 (class_lines start) (Ok tt)
written_all start now out0 out1 i written e = sends_as (ap (λ n. flat_map (line_by start) (below n)) e) written.sent
