use Rattle.std.proofs.Common.{◌≡◌, ℕ, List, length, refl, ap, ap₂, sym, ◌∙◌, vec_len, take, drop, ◌++◌}
use Rattle.alarm_points.specs.FourWatches.{FourWatches}
use Rattle.alarm_points.specs.Watch.{Watches}
use Rattle.alarm_points.proofs.windows4.Windows4.words.Goals as goal

abbrev four : ℕ → List Watches → FourWatches
four ftti words = record { ftti = ftti; words = words }

pub returns : goal.returns
returns c =
    let held = c.self.inside.words.items in
    let ftti : c.self.inside.ftti ≡ c.args.self.now.ftti = ap (λ (f : FourWatches). f.ftti) c.self.view_is in
    let words : held ≡ c.args.self.now.words = ap (λ (f : FourWatches). f.words) c.self.view_is in
    let count : vec_len c.self.inside.words ≡ length held =
    sym c.as_mut_slice.ensures.len ∙ ap (λ (ws : List Watches). length ws) c.as_mut_slice.ensures.value in (
      (
        refl,
        λ left. ap₂ four ftti
            (ap (λ n. take n (left ++ drop (length left) held)) count
            ∙ ap (λ (ws : List Watches). take (length ws) (left ++ drop (length left) ws)) words),
      ),
      record { writes_back = tt; value = c.as_mut_slice.ensures.value ∙ words },
    )
