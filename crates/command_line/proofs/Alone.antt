-- Words are one command at most.
use Rattle.std.proofs.Common.{◌≡◌, ◌∙◌, ℕ, List, [], sym, refl, ap, subst, Option, arith, codes}
use Rattle.std.specs.Prelude.{None, Some, bytes_eq, false, find}
use Rattle.fm_base.proofs.Distinct.{is_same}
use Rattle.fm_base.proofs.Tests.{clash}
use Rattle.clap.specs.Words.{Row, Text, subcommand_of}
use Rattle.campaign_plan.specs.declared.Settings.{Settings}
use Rattle.metric_sums.specs.declared.Asil.{Asil}
use Rattle.metric_sums.specs.declared.Asil.TheVariants.{B, C, D}
use Rattle.metric_sums.specs.Words.{asil_word}
use Rattle.commands.specs.declared.command.AuditBy.{AuditBy}
use Rattle.commands.specs.declared.command.AuditBy.TheVariants.{Lanes, Alone}
use Rattle.commands.specs.declared.command.Task.{Task}
use Rattle.commands.specs.declared.command.Task.TheVariants as task
use Rattle.commands.specs.Commands.{Command}
use Rattle.command_line.specs.Words.{alone_word, text_or, HasNumber, HasOwn, HasSettings, IsCommand, Says}
use Rattle.command_line.specs.WordsSteps.{IsMet}
use Rattle.command_line.specs.Table.{fmeda_app, tasks, word_of}
use Rattle.command_line.proofs.CycleLists.{same_cycles, same_numbers}
use Rattle.command_line.proofs.Numbers.{same_number, same_window}
use Rattle.command_line.proofs.Stretches.{same_flips}
use Rattle.std.proofs.lemmas.Option.{same_Some}

-- texts that are told apart aren't equal
pub apart : (a b : Text) → bytes_eq a b ≡ false → a ≡ b → ⊥
apart a b e same = clash (bytes_eq a b) (ap (bytes_eq a) (sym same) ∙ is_same a) e

-- a level has a word of its own
pub same_asil : (a b : Asil) → asil_word a ≡ asil_word b → a ≡ b
same_asil B B e = refl
same_asil C C e = refl
same_asil D D e = refl
same_asil a b e = absurd (apart (asil_word a) (asil_word b) refl e)

-- a manner of an audit has a word of its own
same_manner : (a b : AuditBy) → alone_word a ≡ alone_word b → a ≡ b
same_manner Lanes Lanes e = refl
same_manner Alone Alone e = refl
same_manner a b e = absurd (apart (alone_word a) (alone_word b) refl e)

-- a task without what is its own
abbrev plain : Task → Task
plain (task.Run n) = task.Run 0
plain (task.Resume n) = task.Resume 0
plain (task.Audit n by) = task.Audit 0 Lanes
plain (task.Gen k n) = task.Gen 0 0
plain (task.Shard k n) = task.Shard 0 0
plain (task.Pairs n) = task.Pairs 0
plain (task.Breakdown ns n) = task.Breakdown [] 0
plain (task.Latencies n) = task.Latencies 0
plain (task.Coverage n) = task.Coverage 0
plain (task.Trace n f ns) = task.Trace 0 None None
plain (task.Always w a) = task.Always None 0
plain other = other

-- which the table has in one place alone, by its word
found : (own : Task) → find (λ t. bytes_eq (word_of t) (word_of own)) tasks ≡ Some (plain own)
found task.Classes = refl
found own = refl

same_plain : (a b : Task) → word_of a ≡ word_of b → plain a ≡ plain b
same_plain a b e = same_Some (plain a) (plain b) (sym (found a) ∙ ap (λ word. find (λ t. bytes_eq (word_of t) word) tasks) e ∙ found b)

module _ (rows : List Row) where
  same_settings : (a b : Settings) → HasSettings rows a → HasSettings rows b → a ≡ b
  same_settings a b p q =
      let ftti : a.ftti ≡ b.ftti = same_number rows (codes "0") (codes "ftti") 0 4096 a.ftti b.ftti p.ftti q.ftti in
      let given = same_flips (text_or rows (codes "none") (codes "flips")) (text_or rows (codes "none") (codes "upsets")) a.stretch b.stretch a.flips b.flips p.flips q.flips in
      let pulses : a.pulses ≡ b.pulses = same_cycles 4 (text_or rows (codes "none") (codes "pulses")) a.pulses b.pulses p.pulses q.pulses in
      let asil : a.asil ≡ b.asil = same_asil a.asil b.asil (sym p.asil ∙ q.asil) in
      λ i. record { ftti = ftti i; flips = given.1 i; stretch = given.0 i; pulses = pulses i; asil = asil i }

  same_workers : (a b : ℕ) → HasNumber rows [] (codes "workers") 1 32 a → HasNumber rows [] (codes "workers") 1 32 b → a ≡ b
  same_workers = same_number rows [] (codes "workers") 1 32

  -- one task of each is said
  same_own : (a b : Task) → plain a ≡ plain b → HasOwn rows a → HasOwn rows b → a ≡ b
  same_own (task.Run n) (task.Run m) e p q = ap task.Run (same_workers n m p q)
  same_own (task.Resume n) (task.Resume m) e p q = ap task.Resume (same_workers n m p q)
  same_own (task.Audit n by) (task.Audit m other) e p q =
      let every : n ≡ m = same_number rows [] (codes "every") 1 16384 n m p.0 q.0 in
      let manner : by ≡ other = same_manner by other (sym p.1 ∙ q.1) in
      λ i. task.Audit (every i) (manner i)
  same_own (task.Gen k n) (task.Gen l m) e p q =
      let stages : k ≡ l = same_number rows [] (codes "stages") 1 1000 k l p.0 q.0 in
      let workers : n ≡ m = same_workers n m p.1 q.1 in
      λ i. task.Gen (stages i) (workers i)
  same_own (task.Shard k n) (task.Shard l m) e p q =
      let part : k ≡ l = same_number rows [] (codes "part") 0 1023 k l p.0 q.0 in
      let parts : n ≡ m = same_number rows [] (codes "of") 1 1024 n m p.1 q.1 in
      λ i. task.Shard (part i) (parts i)
  same_own (task.Pairs n) (task.Pairs m) e p q = ap task.Pairs (same_workers n m p q)
  same_own (task.Breakdown ks n) (task.Breakdown ls m) e p q =
      let workers : n ≡ m = same_workers n m p.0 q.0 in
      let intervals : ks ≡ ls = same_numbers 4096 (omega arith) 16 (text_or rows (codes "none") (codes "intervals")) ks ls (p.1, p.2) (q.1, q.2) in
      λ i. task.Breakdown (intervals i) (workers i)
  same_own (task.Latencies n) (task.Latencies m) e p q = ap task.Latencies (same_workers n m p q)
  same_own (task.Coverage n) (task.Coverage m) e p q = ap task.Coverage (same_workers n m p q)
  same_own (task.Trace n f ns) (task.Trace m g ms) e p q =
      let run : n ≡ m = same_number rows [] (codes "run") 1 65536 n m p.0 q.0 in
      let fault : f ≡ g = sym p.1 ∙ q.1 in
      let nets : ns ≡ ms = sym p.2 ∙ q.2 in
      λ i. task.Trace (run i) (fault i) (nets i)
  same_own (task.Always w a) (task.Always v b) e p q =
      let window : w ≡ v = same_window rows w v p.0 q.0 in
      let ahead : a ≡ b = same_number rows [] (codes "ahead") 0 8 a b p.1 q.1 in
      λ i. task.Always (window i) (ahead i)
  same_own a (task.Run m) e p q = cc
  same_own a b e p q = cc

  -- one task of a word is said
  pub same_task : (a b : Task) → word_of a ≡ word_of b → HasOwn rows a → HasOwn rows b → a ≡ b
  same_task a b e p q = same_own a b (same_plain a b e) p q

  -- one command of a word is said
  same_said : (a b : Command) → word_of a.task ≡ word_of b.task → Says rows a → Says rows b → a ≡ b
  same_said a b e p q =
      let files : a.files ≡ b.files = p.files ∙ sym q.files in
      let settings : a.settings ≡ b.settings = same_settings a.settings b.settings p.settings q.settings in
      let own : a.task ≡ b.task = same_task a.task b.task e p.own q.own in
      λ i. record { files = files i; settings = settings i; task = own i }

-- what was met is one command at most
same_met : (met : Option (Text × List Row)) (a b : Command) → IsMet met a → IsMet met b → a ≡ b
same_met met a b p q =
    let both : (word_of a.task, p.0) ≡ (word_of b.task, q.0) = same_Some (word_of a.task, p.0) (word_of b.task, q.0) (sym p.1 ∙ q.1) in
    let word : word_of a.task ≡ word_of b.task = ap (λ (w : Text × List Row). w.0) both in
    let rows : p.0 ≡ q.0 = ap (λ (w : Text × List Row). w.1) both in
    same_said q.0 a b word (subst (λ (r : List Row). Says r a) rows p.2) q.2

-- words are one command at most
pub same_command : (words : List Text) (a b : Command) → IsCommand words a → IsCommand words b → a ≡ b
same_command words a b p q = same_met (subcommand_of fmeda_app words) a b p.1 q.1
