use Rattle.std.proofs.Common.{◌≡◌, ◌≤◌, ◌<◌, ◌*◌, ◌^◌, ◌∙◌, true, false, length, map, ap, ap₂, sym, arith}
use Rattle.std.specs.Prelude.{Err, is_some}
use Rattle.std.specs.List.{list_all}
use Rattle.metric_sums.specs.declared.Class.TheVariants.{Detected, Latent}
use Rattle.campaign_plan.specs.Analysis.{batch_count}
use Rattle.result_file.specs.KeptRows.{entry_of}
use Rattle.result_merge.specs.Tables.{Table}
use Rattle.result_merge.proofs.Tabling.{length-table}
use Rattle.pair_list.specs.declared.pairs.PairRefusal.TheVariants.{Incomplete}
use Rattle.pair_list.specs.Chosen.{Chosen, pair_count}
use Rattle.pair_list.proofs.Placing.{count_is}
use Rattle.pair_list.proofs.Choosing.{few_rows, same_faults, says_incomplete, says_many, says_pairs}
use Rattle.pair_list.proofs.pairs.Pairs.new.Goals as goal

pub overflow_cast-result : goal.overflow_cast-result
overflow_cast-result c =
    let few = few_rows c.args.plan.now c.args.rows.now c.requires.rows in
    omega (arith, few, c.batches-batches.ensures.count)

pub returns-then-not-is_whole : goal.returns-then-not-is_whole
returns-then-not-is_whole c =
    let lacking : list_all is_some c.in_ok-table.table ≡ false = sym c.is_whole.ensures ∙ c.if-not-is_whole.true in
    says_incomplete c.args.plan.now c.args.rows.now c.in_ok-table.table c.in_ok-table.ensures lacking
    ∙ ap (λ n. Err (Incomplete (length c.args.rows.now) n)) (sym c.batches-batches.ensures.count)

pub faults_in_class-requires : goal.faults_in_class-requires
faults_in_class-requires c = ap (λ (t : Table). length t) c.in_ok-table.ensures ∙ length-table (batch_count c.args.plan.now) (map entry_of c.args.rows.now)

pub faults_in_class-requires-2 : goal.faults_in_class-requires-2
faults_in_class-requires-2 c = ap (λ (t : Table). length t) c.in_ok-table.ensures ∙ length-table (batch_count c.args.plan.now) (map entry_of c.args.rows.now)

pub overflow_mul-len : goal.overflow_mul-len
overflow_mul-len c =
    let few = c.in_ok-latent.ensures.few in
    let many = c.in_ok-detected.ensures.few in
    grind (arith, c.len.ensures, c.len-2.ensures, few, many)

pub returns-then-len-gt-MOST : goal.returns-then-len-gt-MOST
returns-then-len-gt-MOST c =
    let p = c.args.plan.now in
    let rows = c.args.rows.now in
    let whole : list_all is_some c.in_ok-table.table ≡ true = sym c.is_whole.ensures ∙ c.if-not-is_whole.false in
    let latent = same_faults p rows c.in_ok-table.table Latent c.in_ok-latent.latent c.requires.rows c.in_ok-table.ensures c.in_ok-latent.ensures.faults in
    let detected = same_faults p rows c.in_ok-table.table Detected c.in_ok-detected.detected c.requires.rows c.in_ok-table.ensures c.in_ok-detected.ensures.faults in
    let product = ap₂ (λ a b. a * b) c.len.ensures c.len-2.ensures in
    let many : 2 ^ 20 < length c.in_ok-latent.latent * length c.in_ok-detected.detected = omega (arith, product, c.if-len-gt-MOST.true) in
    says_many p rows c.in_ok-table.table c.in_ok-latent.latent c.in_ok-detected.detected c.in_ok-table.ensures whole latent detected many

pub invariant_of-result : goal.invariant_of-result
invariant_of-result c =
    let held : Chosen = record { latent = c.in_ok-latent.latent; detected = c.in_ok-detected.detected } in
    let product = ap₂ (λ a b. a * b) c.len.ensures c.len-2.ensures in
    let few : pair_count held ≤ 2 ^ 20 = omega (arith, product, c.if-len-gt-MOST.false, count_is held) in
    few

pub returns : goal.returns
returns c =
    let p = c.args.plan.now in
    let rows = c.args.rows.now in
    let whole : list_all is_some c.in_ok-table.table ≡ true = sym c.is_whole.ensures ∙ c.if-not-is_whole.false in
    let latent = same_faults p rows c.in_ok-table.table Latent c.in_ok-latent.latent c.requires.rows c.in_ok-table.ensures c.in_ok-latent.ensures.faults in
    let detected = same_faults p rows c.in_ok-table.table Detected c.in_ok-detected.detected c.requires.rows c.in_ok-table.ensures c.in_ok-detected.ensures.faults in
    let product = ap₂ (λ a b. a * b) c.len.ensures c.len-2.ensures in
    let few : length c.in_ok-latent.latent * length c.in_ok-detected.detected ≤ 2 ^ 20 = omega (arith, product, c.if-len-gt-MOST.false) in
    says_pairs p rows c.in_ok-table.table c.in_ok-latent.latent c.in_ok-detected.detected c.in_ok-table.ensures whole latent detected few
