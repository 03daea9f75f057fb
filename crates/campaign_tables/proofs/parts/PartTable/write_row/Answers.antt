use Rattle.std.proofs.Common.{◌≡◌, ◌<◌, ◌∷◌, [], ◌++◌, ◌∙◌, ap, length, List, false, arith}
use Rattle.std.specs.Prelude.{codes, decimal, count_by, find, slice_index_or, None}
use Rattle.std.proofs.lemmas.List.{get_or_default}
use Rattle.std.proofs.lemmas.Result.{err_from_is_err_and}
use Rattle.circuit.specs.declared.parts.Latch.{Latch}
use Rattle.metric_sums.specs.declared.Role.TheVariants.{Other}
use Rattle.rate_table.specs.declared.Part.{Part}
use Rattle.rate_table.specs.declared.Pattern.{Pattern}
use Rattle.campaign_tables.specs.Words.{covered_word}
use Rattle.fm_base.specs.Names.{Bytes}
use Rattle.fm_base.specs.Text.{line}
use Rattle.metric_sums.specs.Words.{role_word}
use Rattle.fm_shelf.proofs.Sending.{sends_as, sends_stop, sends_then}
use Rattle.campaign_tables.specs.PartTable.{row_line}
use Rattle.campaign_tables.specs.PartSteps.{name_or_dash, net_numbers, part_of_pattern, pattern_numbered, star_word, row_takes}
use Rattle.campaign_tables.specs.Counted.{Looked}
use Rattle.campaign_tables.proofs.Looking.{first_net, latch_count, net_count, row_pieces}
use Rattle.campaign_tables.proofs.parts.PartTable.write_row.Goals as goal

pub returns-in_err-write_pieces : goal.returns-in_err-write_pieces
unfolding row_line
returns-in_err-write_pieces g c =
    let p = err_from_is_err_and c.from_residual.result c.from_residual.ensures.1 in
    let net = c.self.inside.net.now in
    let rates = c.self.inside.rates.now in
    let k = c.args.k in
    let lt : k < length rates.patterns = omega (arith, c.requires, ap (λ (l : Looked). length l.rates.patterns) c.self.view_is) in
    let pattern : c.index-patterns-k.result ≡ pattern_numbered rates k =
    c.index-patterns-k.is ∙ get_or_default c.patterns.result.now k c.index-patterns-k.result (record { name = []; star = false; part = 0 }) (omega (arith, lt, ap length c.patterns.ensures.value))
    ∙ ap (λ (ps : List Pattern). slice_index_or ps k (record { name = []; star = false; part = 0 })) c.patterns.ensures.value in
    let wrote = c.in_err-write_pieces.ensures in
    let own = pattern_numbered rates k in
    let part = part_of_pattern rates own in
    let rest : List Bytes =
    part.name ∷ codes "role" ∷ role_word part.role ∷ codes "covered" ∷ covered_word part.covered ∷ codes "nets" ∷ decimal (count_by (row_takes net rates k) (net_numbers net))
    ∷ codes "latches" ∷ decimal (count_by (λ (latch : Latch). row_takes net rates k latch.to.0) net.latches) ∷ codes "first" ∷ name_or_dash net (find (row_takes net rates k) (net_numbers net)) ∷ [] in
    rw p.1 (sends_as (row_pieces own.name (star_word own.star) rest ∙ ap (λ (l : Looked). row_line l.circuit l.rates k) c.self.view_is)
    (sends_stop (line (codes "part" ∷ rest)) p.0
    (sends_as (λ j. codes "pattern " ++ ((c.as_slice.ensures ∙ ap (λ (q : Pattern). q.name) pattern) j ++ ((c.star_word.ensures ∙ ap (λ (q : Pattern). star_word q.star) pattern) j ++ 32 ∷ [])))
    wrote)))

pub returns : goal.returns
unfolding row_line
returns g c =
    let net = c.self.inside.net.now in
    let rates = c.self.inside.rates.now in
    let k = c.args.k in
    let lt : k < length rates.patterns = omega (arith, c.requires, ap (λ (l : Looked). length l.rates.patterns) c.self.view_is) in
    let pattern : c.index-patterns-k.result ≡ pattern_numbered rates k =
    c.index-patterns-k.is ∙ get_or_default c.patterns.result.now k c.index-patterns-k.result (record { name = []; star = false; part = 0 }) (omega (arith, lt, ap length c.patterns.ensures.value))
    ∙ ap (λ (ps : List Pattern). slice_index_or ps k (record { name = []; star = false; part = 0 })) c.patterns.ensures.value in
    let own = pattern_numbered rates k in
    let number = ap (λ (q : Pattern). q.part) pattern in
    let within : own.part < length rates.parts = c.patterns.ensures.sound.numbers k (record { name = []; star = false; part = 0 }) lt in
    let part : c.index-parts-pattern.result ≡ part_of_pattern rates own =
    c.index-parts-pattern.is
    ∙ get_or_default c.parts.result.now c.index-patterns-k.result.part c.index-parts-pattern.result (record { name = []; role = Other; covered = false; permanent = 0; transient = 0 }) (omega (arith, within, number, ap length c.parts.ensures.value))
    ∙ ap (λ (ps : List Part). slice_index_or ps c.index-patterns-k.result.part (record { name = []; role = Other; covered = false; permanent = 0; transient = 0 })) c.parts.ensures.value
    ∙ ap (λ n. slice_index_or rates.parts n (record { name = []; role = Other; covered = false; permanent = 0; transient = 0 })) number in
    let nets_are : c.index.result.now ≡ count_by (row_takes net rates k) (net_numbers net) =
    c.index.ensures ∙ get_or_default c.self.inside.net_counts.items k c.index.result.now 0 (omega (arith, lt, c.self.invariant.nets.size))
    ∙ net_count net rates c.self.inside.net_counts.items k c.self.invariant.nets lt in
    let latches_are : c.index-2.result.now ≡ count_by (λ (latch : Latch). row_takes net rates k latch.to.0) net.latches =
    c.index-2.ensures ∙ get_or_default c.self.inside.latch_counts.items k c.index-2.result.now 0 (omega (arith, lt, c.self.invariant.latches.size))
    ∙ latch_count net rates c.self.inside.latch_counts.items k c.self.invariant.latches lt in
    let first_is : c.index-3.result.now ≡ find (row_takes net rates k) (net_numbers net) =
    c.index-3.ensures ∙ get_or_default c.self.inside.firsts.items k c.index-3.result.now None (omega (arith, lt, c.self.invariant.first.size))
    ∙ first_net net rates c.self.inside.firsts.items k c.self.invariant.first lt in
    let rest : List Bytes =
    (part_of_pattern rates own).name ∷ codes "role" ∷ role_word (part_of_pattern rates own).role ∷ codes "covered" ∷ covered_word (part_of_pattern rates own).covered
    ∷ codes "nets" ∷ decimal (count_by (row_takes net rates k) (net_numbers net))
    ∷ codes "latches" ∷ decimal (count_by (λ (latch : Latch). row_takes net rates k latch.to.0) net.latches) ∷ codes "first" ∷ name_or_dash net (find (row_takes net rates k) (net_numbers net)) ∷ [] in
    let name = c.as_slice-2.ensures ∙ ap (λ (q : Part). q.name) part in
    let role = c.role_of.ensures ∙ ap (λ (q : Part). role_word q.role) part in
    let covered = c.covered_word.ensures ∙ ap (λ (q : Part). covered_word q.covered) part in
    let some = c.bytes.ensures ∙ c.number_word.ensures ∙ ap decimal (c.from.ensures ∙ nets_are) in
    let latches = c.bytes-2.ensures ∙ c.number_word-2.ensures ∙ ap decimal (c.from-2.ensures ∙ latches_are) in
    let first = c.name_or_dash.ensures ∙ ap (name_or_dash net) first_is in
    let begun = c.in_ok-write_pieces.ensures in
    sends_as (row_pieces own.name (star_word own.star) rest ∙ ap (λ (l : Looked). row_line l.circuit l.rates k) c.self.view_is)
    (sends_then
    (sends_as (λ j. codes "pattern " ++ ((c.as_slice.ensures ∙ ap (λ (q : Pattern). q.name) pattern) j ++ ((c.star_word.ensures ∙ ap (λ (q : Pattern). star_word q.star) pattern) j ++ 32 ∷ [])))
    begun)
    (sends_as
    (λ j. line (
    codes "part" ∷ name j ∷ codes "role" ∷ role j ∷ codes "covered" ∷ covered j ∷ codes "nets" ∷ some j ∷ codes "latches" ∷ latches j
    ∷ codes "first" ∷ first j ∷ []))
    c.write_line.ensures))
