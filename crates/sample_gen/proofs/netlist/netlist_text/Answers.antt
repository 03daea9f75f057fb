use Rattle.std.proofs.Common.{◌≡◌, ◌∙◌, ap, ap₂, [], ◌∷◌, refl}
use Rattle.std.specs.Prelude.{codes}
use Rattle.fm_base.specs.Names.{Bytes}
use Rattle.fm_base.specs.Text.{line}
use Rattle.sample_gen.specs.Sample.{netlist_text}
use Rattle.sample_gen.specs.Steps.{with_number}
use Rattle.sample_gen.proofs.Texts.{grows, grows_as, grows_twice}
use Rattle.sample_gen.proofs.netlist.netlist_text.Goals as goal

pub returns : goal.returns
unfolding netlist_text
returns c =
    let mission : c.bytes.result.now ≡ with_number (codes "a") c.args.stages = c.bytes.ensures ∙ c.numbered-mission.ensures in
    let again : c.bytes-2.result.now ≡ with_number (codes "a") c.args.stages = c.bytes-2.ensures ∙ c.numbered-mission.ensures in
    let shadow : c.bytes-3.result.now ≡ with_number (codes "b") c.args.stages = c.bytes-3.ensures ∙ c.numbered-shadow.ensures in
    let head = grows _ (grows _ (grows _ c.new-text.ensures.items c.in_ok-put_line.ensures) c.in_ok-put_line-2.ensures) c.in_ok-put_line-3.ensures in
    let stages = grows _ head c.in_ok-put_stages.ensures in
    let output = grows_as _ stages (ap (λ (w : Bytes). line (codes ".names" ∷ w ∷ codes "q" ∷ [])) mission) c.in_ok-put_line-4.ensures in
    let both = grows_as _ (grows _ output c.in_ok-put_line-5.ensures)
    (ap₂ (λ (w v : Bytes). line (codes ".names" ∷ w ∷ v ∷ codes "e" ∷ [])) again shadow) c.in_ok-put_line-6.ensures in
    let end = grows_twice (codes "01 1\n") (codes ".end\n") refl c.in_ok-put_line-8.ensures c.in_ok-put_line-9.ensures in
    c.from_vec.ensures ∙ grows_twice (codes "10 1\n") (codes "01 1\n.end\n") both c.in_ok-put_line-7.ensures end
