use Rattle.std.proofs.Common.{rules, ◌≡◌, ◌-◌, [], length, drop, suc, sym, arith}
use Rattle.std.specs.Prelude.{None, Some}
use Rattle.std.proofs.lemmas.List.{length-drop, length-take}
use Rattle.std.proofs.lemmas.Result.{IfOk-weaker}
use Rattle.blif_model.specs.Meant.{bindings_of, meant}
use Rattle.blif_model.specs.Tokens.{texts_of}
use Rattle.blif_model.specs.Walk.{enter}
use Rattle.blif_model.specs.WalkSteps.{inner_steps, scope_of}
use Rattle.blif_flatten.specs.Seen.{scope_at}
use Rattle.blif_flatten.proofs.Walking.{enter_none, enter_some, first_line, no_line, walked_none, walked_past, walked_then}
use Rattle.blif_flatten.proofs.walk.+walk.Goals as goal

pub walk_instance-returns-then-depth-eq0 : goal.walk_instance-returns-then-depth-eq0
unfolding enter
walk_instance-returns-then-depth-eq0 t c = walked_none c.args.walked _ (rw (c.in-Instance.is, c.if-depth-eq0.true))

pub walk_instance-returns-in-None : goal.walk_instance-returns-in-None
walk_instance-returns-in-None t c =
    let none = sym (rw c.in-None.is at c.find.ensures) in
    rw c.in-Instance.is (walked_none c.args.walked _ (enter_none c.args.models.now c.args.depth _ c.in-Instance.name.now none))

pub walk_instance-returns-in_ok-inner-in-Some : goal.walk_instance-returns-in_ok-inner-in-Some
walk_instance-returns-in_ok-inner-in-Some t c =
    let less : c.args.depth ≡ suc (c.args.depth - 1) = omega arith in
    let scope = scope_of (scope_at c.args.place.now) c.args.instance (bindings_of (texts_of c.in-Instance.bindings.now)) in
    let found = sym (rw c.in-Some.is at c.find.ensures) in
    let inner = enter_some c.args.models.now c.args.depth (c.args.depth - 1) scope c.in-Instance.name.now _ less found in
    rw (c.in-Instance.is, inner, ← c.in_ok-inner-in-Some.ensures) c.walk_lines.ensures

pub walk_instance-returns-in_default : goal.walk_instance-returns-in_default
walk_instance-returns-in_default t c =
    let none : inner_steps (enter c.args.models.now c.args.depth) (scope_at c.args.place.now) c.args.instance (meant c.args.says) ≡ [] = search rules in
    walked_none c.args.walked _ none

pub walk_item-returns-in-None : goal.walk_item-returns-in-None
walk_item-returns-in-None t c =
    walked_past c.args.walked _ _ (rw (c.in-None.is, c.says-says.ensures, c.number.ensures) at c.in_ok-walk_line.ensures)

pub walk_item-returns-in-Some : goal.walk_item-returns-in-Some
walk_item-returns-in-Some t c =
    let own = rw (c.in-Some.is, c.says-says.ensures, c.number.ensures) at c.in_ok-walk_line.ensures in
    let inner = rw c.says-says.ensures at c.walk_instance.ensures in
    IfOk-weaker c.walk_instance.result _ _ (λ o on. walked_then c.args.walked c.in-Some.walked _ _ o own on) inner

pub walk_lines-returns-in-None : goal.walk_lines-returns-in-None
walk_lines-returns-in-None t c =
    let first = first_line (enter c.args.models.now c.args.depth) (scope_at c.args.place.now) c.lines.instance c.lines.rest.now
    c.line-item.result c.in-len1-up.len_at_least c.line-item.is in
    c.lines.invariant.on None (rw first (walked_past c.lines.walked _ _ (rw c.in-None.is at c.in_ok-walk_item.ensures)))

pub walk_lines-lines-preserved : goal.walk_lines-lines-preserved
walk_lines-lines-preserved t c =
    let rest = c.lines.rest.now in
    let first = first_line (enter c.args.models.now c.args.depth) (scope_at c.args.place.now) c.lines.instance rest
    c.line-item.result c.in-len1-up.len_at_least c.line-item.is in
    let item = rw c.in-Some.is at c.in_ok-walk_item.ensures in
    record {
      on = λ o on.
          let more = rw (c.next_instance-instance.ensures.next, c.says.ensures) at on in
          c.lines.invariant.on o (rw first (walked_then c.lines.walked c.in-Some.more _ _ o item more));
      room = omega (arith, length-take (length rest - 1) (drop 1 rest), length-drop 1 rest, c.next_instance-instance.ensures.most);
    }

pub walk_lines-returns : goal.walk_lines-returns
walk_lines-returns t c =
    c.lines.invariant.on (Some c.lines.walked) (walked_none c.lines.walked _
    (no_line (enter c.args.models.now c.args.depth) (scope_at c.args.place.now) c.lines.instance c.lines.rest.now c.in_default.len_below))
