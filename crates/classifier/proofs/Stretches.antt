-- Stretches of a run, one behind the other.
use Rattle.std.proofs.Common.{◌≡◌, ◌<◌, ℕ, zero, suc, List, [], ◌∷◌, length, map, refl, ap, sym, ◌∙◌, subst, arith}
use Rattle.std.specs.Prelude.{Option}
use Rattle.circuit.specs.declared.parts.Fault.{Fault}
use Rattle.circuit.specs.Circuit.{Circuit}
use Rattle.workload.specs.declared.run.Kind.{Kind}
use Rattle.workload.specs.declared.run.Run.{Run}
use Rattle.alarm_points.specs.declared.Points.{Points}
use Rattle.alarm_points.specs.FourWatches.{AreAllMadeFor, windows_at}
use Rattle.alarm_points.specs.Interval.{interval_of}
use Rattle.alarm_points.specs.Watch.{AreMadeFor, KeepsIntervals, Watches}
use Rattle.golden_difference.specs.Beside.{IsGoldenRow}
use Rattle.classifier.specs.InRun.{IsForBench, IsLastCycle, KeepPlace, LanesInRun}
use Rattle.testbench.specs.Load.{Load, in_lane}
use Rattle.classifier.specs.Narrowed.{GoOnIn}
use Rattle.classifier.specs.Seen.{AllKeepIntervals, IsWatched, known_at, left_at}
use Rattle.classifier.specs.Stretch.{AreAllWatched, AreForWords, IsStretch, IsUnderWay, UnderWay, under_way}
use Rattle.testbench.specs.Testbench.{Testbench}
use Rattle.classifier.specs.declared.decided.Decided.{Decided}
use Rattle.classifier.proofs.Following.{followed_alike}

-- the windows of one word
pub one_word : (points : Points) (w : Watches) → AreMadeFor points w → AreAllMadeFor points (w ∷ [])
one_word points w made zero lt = made
one_word points w made (suc word) lt = absurd (omega (arith, lt))

-- windows that keep their intervals are made for the same points
pub made_still : (points : Points) (old new : Watches) → KeepsIntervals old new → AreMadeFor points old → AreMadeFor points new
made_still points old new keeps made = keeps.intervals ∙ made ∙ ap (λ f. map (interval_of f) points.goals) (sym keeps.ftti)

-- so do those of each word
pub words_still : (words : ℕ) (points : Points) (decided : List Decided) (old new : List Watches) (before after : List ℕ)
    → AllKeepIntervals old new → length new ≡ length old → length after ≡ length before → AreForWords words points decided old before → AreForWords words points decided new after
words_still words points decided old new before after keeps count left are = record {
  decided_count = are.decided_count;
  windows_count = count ∙ are.windows_count;
  left_count = left ∙ are.left_count;
  made = λ word lt. made_still points (windows_at old word) (windows_at new word) (keeps word) (are.made word (subst (λ n. word < n) count lt));
}

-- lanes that keep their place
pub place_same : (s : LanesInRun) → KeepPlace s s
place_same s = record { load = refl; cycle = refl; after = λ vectors is. is }

pub place_kept : (first middle last : LanesInRun) → KeepPlace first middle → KeepPlace middle last → KeepPlace first last
place_kept first middle last before next = record {
  load = next.load ∙ before.load;
  cycle = next.cycle ∙ before.cycle;
  after = λ vectors is. next.after vectors (before.after vectors is);
}

-- a cycle of lanes that keep their place
pub cycle_kept : (kind : Kind) (run : Run) (t : ℕ) (row : List ℕ) (old new : LanesInRun) → KeepPlace old new → IsLastCycle kind run t row old → IsLastCycle kind run t row new
cycle_kept kind run t row old new keeps is = record {
  of_kind = is.of_kind;
  within = is.within;
  after = keeps.after _ is.after;
  golden = subst (λ (l : Load). IsGoldenRow l.circuit run.vectors t row) (sym keeps.load) is.golden;
}

-- other lanes of the same circuit, in which the same faults are in force
pub watched_alike : (points : Points) (run : Run) (words : ℕ) (faults : List (List (Option Fault))) (decided : List Decided) (n : ℕ) (old new : LanesInRun)
    (windows : List Watches) (left : List ℕ)
    → new.load.circuit ≡ old.load.circuit → ((word k : ℕ) → word < words → k < 64 → new.faults word k ≡ old.faults word k)
    → AreAllWatched points run words faults decided n (under_way old windows left) → AreAllWatched points run words faults decided n (under_way new windows left)
watched_alike points run words faults decided n old new windows left same force are word lt =
    subst (λ (c : Circuit). IsWatched c points run (in_lane faults word) (known_at decided word) n (new.faults word) (windows_at windows word) (left_at left word)) (sym same)
    (record {
      seen = (are word lt).seen;
      followed = followed_alike old.load.circuit points (windows_at windows word).ftti run (in_lane faults word) (known_at decided word) n (old.faults word) (new.faults word)
          (λ k lane. force word k lt lane) (are word lt).followed;
    })

-- windows that keep their intervals twice
pub intervals_more : (first middle last : List Watches) → AllKeepIntervals first middle → AllKeepIntervals middle last → AllKeepIntervals first last
intervals_more first middle last before next word = record {
  ftti = (next word).ftti ∙ (before word).ftti;
  intervals = (next word).intervals ∙ (before word).intervals;
}

-- no cycle yet
pub stretch_none : (bench : Testbench) (run words : ℕ) (decided : List Decided) (t : ℕ) (s : UnderWay) → IsUnderWay bench run words decided t s → IsStretch bench run words decided t t s s
stretch_none bench run words decided t s is = record {
  to = is;
  load = refl;
  intervals = λ word. record { ftti = refl; intervals = refl };
  watched = λ faults watched. watched;
}

-- one stretch behind the other
pub stretch_more : (bench : Testbench) (run words : ℕ) (decided : List Decided) (t m n : ℕ) (first middle last : UnderWay)
    → IsStretch bench run words decided t m first middle → IsStretch bench run words decided m n middle last → IsStretch bench run words decided t n first last
stretch_more bench run words decided t m n first middle last before next = record {
  to = next.to;
  load = next.load ∙ before.load;
  intervals = intervals_more first.windows middle.windows last.windows before.intervals next.intervals;
  watched = λ faults watched. next.watched faults (before.watched faults watched);
}

-- the lanes of four words, in others for the same testbench
pub narrow_under_way : (bench : Testbench) (run words : ℕ) (decided : List Decided) (n : ℕ) (four others : LanesInRun) (windows : List Watches) (left : List ℕ)
    → words ≡ 4 → IsUnderWay bench run words decided n (under_way four windows left) → GoOnIn four others → IsForBench bench others.load
    → IsUnderWay bench run 4 decided n (under_way others windows left)
narrow_under_way bench run words decided n four others windows left count is on made = record {
  has_run = is.has_run;
  runs = is.runs;
  made = made;
  cycle = on.cycle ∙ is.cycle;
  after = on.after _ is.after;
  for_words = subst (λ m. AreForWords m bench.points decided windows left) count is.for_words;
}
