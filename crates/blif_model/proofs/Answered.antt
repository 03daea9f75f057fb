-- What a reader knows from the answer on a file's models.
use Rattle.std.proofs.Common.{◌≡◌, List, ℕ, refl}
use Rattle.std.specs.Prelude.{Option, Some, None, Ok, Err}
use Rattle.blif_text.specs.declared.NetlistFault.{NetlistFault}
use Rattle.blif_model.specs.LineFault.{said_lines, line_fault}
use Rattle.blif_model.specs.Models.{Model, file_models}
use Rattle.blif_model.specs.Net.{bad_net}
use Rattle.blif_model.specs.Answer.{models_unless, models_read}

-- with models, no line is faulty, and they are those of the file
pub models-taken : (bytes : List ℕ) (models : List Model) → models_read bytes ≡ Ok models
    → (line_fault (said_lines bytes) ≡ None) × (models ≡ file_models bytes)
models-taken bytes models e = by_cases (line_fault (said_lines bytes)) e
  where
    by_cases : (f : Option NetlistFault) → models_unless f (file_models bytes) ≡ Ok models → (f ≡ None) × (models ≡ file_models bytes)
    by_cases None e = (refl, cc)
    by_cases (Some fault) e = (cc, cc)

-- with a fault, it is that of the file
pub lines-refused : (bytes : List ℕ) (fault : NetlistFault) → models_read bytes ≡ Err fault → bad_net bytes ≡ Some fault
unfolding bad_net
lines-refused bytes fault e = rw (by_cases (line_fault (said_lines bytes)) e) refl
  where
    by_cases : (f : Option NetlistFault) → models_unless f (file_models bytes) ≡ Err fault → f ≡ Some fault
    by_cases None e = cc
    by_cases (Some other) e = cc
