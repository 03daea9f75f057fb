use Rattle.std.proofs.Common.{List, ap, sym, ◌∙◌}
use Rattle.bench_reader.specs.declared.nets.Mark.{Mark}
use Rattle.bench_reader.specs.Marks.{NetMarks, mention}
use Rattle.bench_reader.proofs.Marked.{numbered}
use Rattle.bench_reader.proofs.Mentions.{Key, mention_known_key, mention_new_key, place_mentioned, seen, texts_of}
use Rattle.bench_reader.proofs.nets.Nets.mention.Goals as goal
use Rattle.bench_reader.proofs.nets.Nets.mention.Goals.{then-is_new+in_ok-push, else-is_new}

pub returns-clause-nets : goal.returns-clause-nets
returns-clause-nets c =
    elim c.if-is_new.branch [
      | then-is_new+in_ok-push w ↦ w.self-is ∙ ap (λ (keys : List Key). seen (texts_of keys) w.push.new.v.items) c.in_ok-place.ensures.keys
          ∙ ap (λ (marks : List Mark). seen (texts_of _) marks) w.in_ok-push.ensures.items
          ∙ mention_new_key c.self.inside.names.keys c.args.name c.self.inside.marks.items c.args.line (sym w.if-is_new.true ∙ c.in_ok-place.ensures.added)
          ∙ ap (λ (t : NetMarks). mention c.args.line t c.args.name.now) c.self.view_is
      | else-is_new w ↦ w.self-is ∙ ap (λ (keys : List Key). seen (texts_of keys) c.self.inside.marks.items) c.in_ok-place.ensures.keys
          ∙ mention_known_key c.self.inside.names.keys c.args.name c.self.inside.marks.items c.args.line (sym w.if-is_new.false ∙ c.in_ok-place.ensures.added)
          ∙ ap (λ (t : NetMarks). mention c.args.line t c.args.name.now) c.self.view_is
    ]

pub returns-clause-id : goal.returns-clause-id
returns-clause-id c =
    ap numbered (place_mentioned c.self.inside.names.keys c.args.name.now c.args.line c.args.self.now c.if-is_new.self c.in_ok-place.place c.in_ok-place.ensures.index
    (ap (λ (t : NetMarks). t.names) c.self.view_is) (returns-clause-nets c))
