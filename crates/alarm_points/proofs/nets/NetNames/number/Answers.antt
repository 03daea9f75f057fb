use Rattle.std.proofs.Common.{◌≡◌, ◌∙◌, ◌<◌, ap, sym, subst, refl, length, map, List, ℕ, Bor}
use Rattle.std.specs.Prelude.{position, IfSome}
use Rattle.std.specs.Str.{bytes_eq}
use Rattle.std.proofs.lemmas.List.{length-map}
use Rattle.fm_base.specs.Names.{Name}
use Rattle.fm_base.proofs.Finding.{position-map}
use Rattle.alarm_points.proofs.nets.NetNames.number.Goals as goal

pub returns-clause-value : goal.returns-clause-value
returns-clause-value c =
    c.get_index_of.ensures.index ∙ sym (position-map (bytes_eq c.args.name.now) (λ (v : Bor (List ℕ)). v.now) c.self.inside.names.keys)
    ∙ ap (λ (names : List Name). position (bytes_eq c.args.name.now) names) c.self.view_is

pub returns-clause-within : goal.returns-clause-within
returns-clause-within c =
    let P : ℕ → Type 0 = λ n. IfSome c.get_index_of.result (λ i. i < n) in
    let same : length (map (λ (v : Bor (List ℕ)). v.now) c.self.inside.names.keys) ≡ length c.self.inside.names.keys = rw length-map refl in
    subst P (sym same ∙ ap length c.self.view_is) c.get_index_of.ensures.within
