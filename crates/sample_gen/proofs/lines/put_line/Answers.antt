use Rattle.std.proofs.Common.{◌∙◌, ap, ◌++◌, [], ◌∷◌}
use Rattle.sample_gen.proofs.Texts.{line_added, line_none}
use Rattle.sample_gen.proofs.lines.put_line.Goals as goal
use Rattle.sample_gen.proofs.lines.put_line.Goals.{in-Some+in_ok-extend+in_ok-put_others, in_default}

pub returns : goal.returns
returns c =
    elim c.match-split_first.branch [
      | in-Some+in_ok-extend+in_ok-put_others w ↦
          line_added c.args.text.now.items w.extend.new.v.items w.put_others.new.text.items _ c.args.words.now w.in-Some.first.now w.in-Some.others.now
          w.in-Some.ensures.cases.0 w.in_ok-extend.ensures.items w.in_ok-put_others.ensures (c.in_ok-push.ensures.items ∙ ap (λ v. v.items ++ 10 ∷ []) w.text-is)
      | in_default w ↦ line_none c.args.text.now.items _ c.args.words.now w.in_default.ensures.cases (c.in_ok-push.ensures.items ∙ ap (λ v. v.items ++ 10 ∷ []) w.text-is)
    ]
