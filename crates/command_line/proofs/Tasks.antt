-- Where the number of workers can't be read, the words are no task that has it.
use Rattle.std.proofs.Common.{◌≡◌, ◌∙◌, ℕ, List, [], refl, codes, sym}
use Rattle.std.specs.Prelude.{None, Some}
use Rattle.clap.specs.Words.{Row, Text, first_of}
use Rattle.commands.specs.declared.command.Task.{Task}
use Rattle.commands.specs.declared.command.Task.TheVariants as task
use Rattle.command_line.specs.Table.{word_of}
use Rattle.command_line.specs.Words.{HasNumber}
use Rattle.command_line.specs.WordsSteps.{IsTaskOf}
use Rattle.command_line.proofs.Alone.{apart}

module _ (rows : List Row) (none : (workers : ℕ) → ¬ (HasNumber rows [] (codes "workers") 1 32 workers)) (word : Text) where
  pub no_run : word ≡ codes "run" → (own : Task) → ¬ (IsTaskOf word rows own)
  no_run e (task.Run workers) is = none workers is.1
  no_run e other is = absurd (apart (codes "run") (word_of other) refl (sym e ∙ is.0))

  pub no_resume : word ≡ codes "resume" → (own : Task) → ¬ (IsTaskOf word rows own)
  no_resume e (task.Resume workers) is = none workers is.1
  no_resume e other is = absurd (apart (codes "resume") (word_of other) refl (sym e ∙ is.0))

  pub no_pairs : word ≡ codes "pairs" → (own : Task) → ¬ (IsTaskOf word rows own)
  no_pairs e (task.Pairs workers) is = none workers is.1
  no_pairs e other is = absurd (apart (codes "pairs") (word_of other) refl (sym e ∙ is.0))

  pub no_latencies : word ≡ codes "latencies" → (own : Task) → ¬ (IsTaskOf word rows own)
  no_latencies e (task.Latencies workers) is = none workers is.1
  no_latencies e other is = absurd (apart (codes "latencies") (word_of other) refl (sym e ∙ is.0))

  pub no_coverage : word ≡ codes "coverage" → (own : Task) → ¬ (IsTaskOf word rows own)
  no_coverage e (task.Coverage workers) is = none workers is.1
  no_coverage e other is = absurd (apart (codes "coverage") (word_of other) refl (sym e ∙ is.0))

module _ (rows : List Row) where
  pub no_ahead : ((ahead : ℕ) → ¬ (HasNumber rows [] (codes "ahead") 0 8 ahead)) → (own : Task) → ¬ (IsTaskOf (codes "always") rows own)
  no_ahead none (task.Always window ahead) is = none ahead is.1.1
  no_ahead none other is = absurd (apart (codes "always") (word_of other) refl is.0)

  -- of a window that stands there
  pub no_window : (text : Text) → first_of (codes "window") rows ≡ Some text → ((cycles : ℕ) → ¬ (HasNumber rows [] (codes "window") 0 8 cycles))
      → (own : Task) → ¬ (IsTaskOf (codes "always") rows own)
  no_window text stands none (task.Always (Some cycles) ahead) is = none cycles is.1.0
  no_window text stands none (task.Always None ahead) is = cc
  no_window text stands none other is = absurd (apart (codes "always") (word_of other) refl is.0)
