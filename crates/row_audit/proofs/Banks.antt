-- Lanes that keep what they were loaded with.
use Rattle.std.proofs.Common.{◌≡◌, ◌+◌, ◌*◌, ap, ◌∙◌}
use Rattle.lane_words.specs.Bank.{Bank, KeepsBankLoads}
use Rattle.lane_words.specs.Loads.{loaded_faults}
use Rattle.row_audit.specs.Loaded.{HasGoldenWord, in_lanes}

-- they are loaded as before
pub loaded_alike : {W : Type 0} (old new : Bank W) → KeepsBankLoads old new → in_lanes new ≡ in_lanes old
loaded_alike old new keeps = λ i. record {
  circuit = keeps.circuit i;
  order = keeps.order i;
  faults = λ word k. loaded_faults (keeps.loads i) (word * 64 + k);
}

-- and their golden word is
pub golden_alike : {W : Type 0} (old new : Bank W) → KeepsBankLoads old new → HasGoldenWord old → HasGoldenWord new
golden_alike old new keeps golden = λ k lane. ap (λ loads. loaded_faults loads (3 * 64 + k)) keeps.loads ∙ golden k lane
