-- What the header of a result file says of the inputs that it is made of. The digest is SHA-256 of FIPS 180-4.
use Rattle.std.specs.Prelude.{◌≡◌, ◌≢◌, ◌⊎◌, ℕ, List, [], ◌∷◌, ◌++◌, flat_map, codes, decimal, None, Some}
use Rattle.sha2.specs.Sha256.{sha256}
use Rattle.fm_base.specs.Names.{Bytes}
use Rattle.fm_base.specs.Text.{hex, line}
use Rattle.fault_list.specs.declared.stretch.Stretch.{Stretch}
use Rattle.campaign_plan.specs.declared.Settings.{Settings}
use Rattle.campaign_plan.specs.Kept.{AreSettings}
use Rattle.result_file.specs.ResultText.{cycles_text, header_text, own_digest, stretch_text}

-- the settings and the bytes of the four files
pub record Sources : Type 0 where
  pub settings : Settings
  pub netlist : Bytes
  pub workload : Bytes
  pub rates : Bytes
  pub points : Bytes

-- the text whose digest stands in the header: a line of the settings, and one of each file's digest
abbrev pub digested : Sources → Bytes
digested s =
    let set = s.settings in
    let words : Bytes → List Bytes = λ form. codes "fmeda-settings" ∷ form ∷ decimal set.ftti ∷ cycles_text set.flips ∷ [] in
    let listed : List Bytes = elim set.pulses [ [] ↦ words (codes "1") | c ∷ cs ↦ words (codes "2") ++ cycles_text (c ∷ cs) ∷ [] ] in
    let of_stretch : Stretch → List Bytes = λ s. codes "fmeda-settings" ∷ codes "3" ∷ decimal set.ftti ∷ stretch_text s ∷ cycles_text set.pulses ∷ [] in
    let settings : List Bytes = elim set.stretch [ None ↦ listed | Some s ↦ of_stretch s ] in
    let of_file : Bytes → Bytes = λ bytes. line (flat_map (hex 2) (sha256 bytes) ∷ []) in
    line settings ++ of_file s.netlist ++ of_file s.workload ++ of_file s.rates ++ of_file s.points

-- the digest of a header
abbrev pub digest_of : Sources → Bytes
digest_of s = own_digest s.settings s.netlist s.workload s.rates s.points

-- the same interval, flips, given in the same way, and pulses, and the same four files to the byte
pub record AreSame (s t : Sources) : Type 0 where
  pub ftti : s.settings.ftti ≡ t.settings.ftti
  pub flips : s.settings.flips ≡ t.settings.flips
  pub stretch : s.settings.stretch ≡ t.settings.stretch
  pub pulses : s.settings.pulses ≡ t.settings.pulses
  pub netlist : s.netlist ≡ t.netlist
  pub workload : s.workload ≡ t.workload
  pub rates : s.rates ≡ t.rates
  pub points : s.points ≡ t.points

-- two byte lists with one digest
abbrev pub Collide : Bytes → Bytes → Type 0
Collide a b = (a ≢ b) × (sha256 a ≡ sha256 b)

-- such two are in hand: the two texts, or the two files of a kind
abbrev pub HaveCollision : Sources → Sources → Type 0
HaveCollision s t =
    Collide (digested s) (digested t)
    ⊎ (Collide s.netlist t.netlist ⊎ (Collide s.workload t.workload ⊎ (Collide s.rates t.rates ⊎ Collide s.points t.points)))

-- the digest is that of the text
abbrev pub DigestIsOfText : Type 0
DigestIsOfText = (s : Sources) → digest_of s ≡ sha256 (digested s)

-- ONE HEADER, ONE CAMPAIGN: where two have the same header, their inputs are the same, or two byte lists with one SHA-256 digest are in hand
abbrev pub HeadersTell : Type 0
HeadersTell = (s t : Sources) (m n : ℕ) → AreSettings s.settings → AreSettings t.settings
    → header_text (digest_of s) m ≡ header_text (digest_of t) n → AreSame s t ⊎ HaveCollision s t
