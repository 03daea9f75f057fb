-- The generated texts are a plan.
use Rattle.std.proofs.Common.{◌≡◌, ℕ, zero, suc, ◌+◌, ◌<◌, ◌≤◌, ◌^◌, true, List, [], ◌∷◌, ◌++◌, length, map, refl, subst, ap, ap₂, ◌∙◌, arith}
use Rattle.std.specs.List.{AllByRecursion as ForEach}
use Rattle.std.specs.Prelude.{bytes_eq, nat_le, position, Option, Some, None, Result, Ok, Err, codes}
use Rattle.circuit.specs.Circuit.{Circuit}
use Rattle.fm_base.specs.Firsts.{first_answer}
use Rattle.blif_text.specs.declared.NetlistFault.{NetlistFault}
use Rattle.blif_model.specs.LineFault.{Said, line_fault}
use Rattle.blif_model.specs.ModelFault.{model_faults}
use Rattle.blif_model.specs.Models.{Model, models_of}
use Rattle.blif_model.specs.Net.{circuit_of, netlist_of}
use Rattle.blif_model.specs.Statement.{end, model}
use Rattle.blif_model.specs.Walk.{Step, walk}
use Rattle.blif_model.specs.WalkFault.{walk_faults}
use Rattle.fm_base.specs.Lists.{below}
use Rattle.sample_gen.specs.Sample.{netlist_text, points_text, rates_text, workload_text}
use Rattle.blif_model.proofs.FileNetlist.{netlist-is}
use Rattle.circuit.specs.declared.parts.NetId.{NetId}
use Rattle.circuit.specs.Loop.{AnswersLoops, HasNoLoop}
use Rattle.fm_base.specs.Names.{Bytes}
use Rattle.fm_shelf.specs.Content.{greatest}
use Rattle.alarm_points.specs.declared.Points.{Points}
use Rattle.alarm_points.specs.PointsFile.{points_of}
use Rattle.rate_table.specs.RatesFile.{rates_of}
use Rattle.workload.specs.declared.run.Run.{Run}
use Rattle.workload.specs.WorkloadFile.{workload_of}
use Rattle.campaign_plan.specs.declared.Settings.{Settings}
use Rattle.campaign_plan.specs.Analysis.{Analysis}
use Rattle.campaign_plan.specs.PlanFaults.{plan_refusal}
use Rattle.commands.specs.declared.command.Kind.TheVariants.{Generated}
use Rattle.commands.specs.declared.command.Which.{Which}
use Rattle.commands.specs.declared.command.Which.TheVariants as which
use Rattle.commands.specs.Commands.{settings_of}
use Rattle.refusals.specs.declared.status.Status.{Status}
use Rattle.refusals.specs.declared.status.Status.TheVariants as status
use Rattle.refusals.specs.NetlistFile.{netlist_in}
use Rattle.command_reads.specs.declared.files.FileRead.{FileRead}
use Rattle.command_reads.specs.declared.files.FileRead.TheVariants.{Whole, TooLong, Failed}
use Rattle.command_reads.specs.Files.{Reads, generated, given}
use Rattle.command_reads.specs.FirstRefusal.{Planned, judge, netlist_read, netlist_step, plan_of, read_as, whole}
use Rattle.campaign_laws.specs.Samples.{GeneratedIsAPlan, IsJudged, StandFor}
use Rattle.campaign_laws.proofs.Stating.{body, file_says, says_from}
use Rattle.campaign_laws.proofs.Faultless.{models_are, no_line_fault, the_model}
use Rattle.campaign_laws.proofs.Stepping.{the_steps, walk_is}
use Rattle.campaign_laws.proofs.Alone.{no_model_fault}
use Rattle.campaign_laws.proofs.Tabled.{e_named, meaning, points_are, points_short, q_named, rates_are, rates_short, sample_points, sample_rates, vector_row, workload_is, workload_short}
use Rattle.campaign_laws.proofs.FirstNets.{first_stage, latches_are, names_are, one_input}
use Rattle.campaign_laws.proofs.Sounding.{no_walk_fault}
use Rattle.campaign_laws.proofs.Acyclic.{no_loop}
use Rattle.campaign_laws.proofs.Sized.{netlist_short}
use Rattle.campaign_laws.proofs.Rated.{sample_plan, unrefused}

-- what is answered of lines, by the three faults
abbrev answered : Option NetlistFault → Option NetlistFault → Option NetlistFault → List Step → Result Circuit NetlistFault
answered a b c steps = elim (first_answer (a ∷ b ∷ c ∷ [])) [ Some fault ↦ Err fault | None ↦ Ok (circuit_of steps) ]

of_lines : List Said → Result Circuit NetlistFault
of_lines lines =
    let models = models_of lines in
    let steps = walk models in
    answered (line_fault lines) (first_answer (model_faults models)) (first_answer (walk_faults steps)) steps

of_models : List Said → List Model → Result Circuit NetlistFault
of_models lines models = answered (line_fault lines) (first_answer (model_faults models)) (first_answer (walk_faults (walk models))) (walk models)

of_steps : List Said → List Model → List Step → Result Circuit NetlistFault
of_steps lines models steps = answered (line_fault lines) (first_answer (model_faults models)) (first_answer (walk_faults steps)) steps

reads : (n : ℕ) → 0 < n → n ≤ 1000 → netlist_of (netlist_text n) ≡ Ok (circuit_of (the_steps n))
unfolding netlist_of of_lines of_models of_steps
reads n some le =
    let small : n < 2 ^ 32 = omega (arith, le) in
    let says : List Said = says_from 1 (model (codes "pipe") ∷ (body n ++ end ∷ [])) in
    ap of_lines (file_says n small)
    ∙ ap (of_models says) (models_are n)
    ∙ ap (of_steps says (the_model n ∷ [])) (walk_is n)
    ∙ ap (λ a. answered a (first_answer (model_faults (the_model n ∷ []))) (first_answer (walk_faults (the_steps n))) (the_steps n)) (no_line_fault n)
    ∙ ap₂ (λ b c. answered None b c (the_steps n)) (no_model_fault n le) (no_walk_fault n some small)

-- ---- the plan

stands : (n : ℕ) → 0 < n → n ≤ 1000 → (runs : List Run) (points : Points) → plan_refusal (sample_plan (circuit_of (the_steps n)) runs points) ≡ None
stands zero some few runs points = absurd (omega (arith, some))
stands (suc k) some few runs points =
    let c : Circuit = circuit_of (the_steps (suc k)) in
    unrefused c runs points (netlist-is (netlist_text (suc k)) c (reads (suc k) some few)) (names_are (suc k) some) (latches_are k)

-- ---- files that were read

given_whole : (bytes : Bytes) → length bytes ≤ 2 ^ 26 → given bytes ≡ Whole bytes
given_whole bytes short = (let test : nat_le (length bytes) greatest ≡ true = grind (arith, short) in rw test refl)

whole_is : (file : Which) (files : Reads) (bytes : Bytes) → files file ≡ given bytes → length bytes ≤ 2 ^ 26 → whole file files ≡ Ok bytes
whole_is file files bytes e short =
    let held : FileRead → Result Bytes Status = λ read. elim read [ Whole own ↦ Ok own | TooLong ↦ Err (status.TooLong file) | Failed ↦ Err (status.ReadFault file) ] in
    ap held (e ∙ given_whole bytes short)

read_is : {A E : Type 0} (file : Which) (told : E → Status) (meaning : Bytes → Result A E) (files : Reads) (bytes : Bytes) (x : A)
    → files file ≡ given bytes → length bytes ≤ 2 ^ 26 → meaning bytes ≡ Ok x → read_as file told meaning files ≡ Ok x
read_is file told meaning files bytes x e short m = rw (whole_is file files bytes e short, m) refl

-- where there is no loop, none is answered
none_answered : (c : Circuit) (walk : Option (List NetId)) → HasNoLoop c → AnswersLoops c walk → walk ≡ None
none_answered c None none answers = refl
none_answered c (Some loop) none answers = absurd (none loop answers.closed)

-- ---- all four texts

module _ (n : ℕ) (some : 0 < n) (few : n ≤ 1000) where
  abbrev c : Circuit
  c = circuit_of (the_steps n)

  abbrev runs : List Run
  runs = meaning c (one_input n some) n few (codes "workload" ∷ codes "kind" ∷ codes "d" ∷ []) (map vector_row (below (n + 8)))

  abbrev p : Analysis
  p = sample_plan c runs sample_points

  goals_are : points_of c points_text ≡ Ok sample_points
  goals_are =
      let names = names_are n some in
      points_are c (ap (position (bytes_eq (codes "q"))) names.are ∙ q_named (first_stage names.rest)) (ap (position (bytes_eq (codes "e"))) names.are ∙ e_named (first_stage names.rest))

  texts_stand : StandFor n p
  texts_stand = record {
    netlist = reads n some few;
    workload = workload_is c (one_input n some) n few;
    rates = rates_are;
    points = goals_are;
    settings = refl;
    acyclic = no_loop n some (omega (arith, few));
    unrefused = stands n some few runs sample_points;
  }

  module _ (files : Reads) (were : ForEach (λ file. files file ≡ given (generated n file)) (which.Netlist ∷ which.Workload ∷ which.Rates ∷ which.Points ∷ [])) where
    netlist_is : netlist_read [] files ≡ Ok c
    unfolding netlist_in
    netlist_is = rw (whole_is which.Netlist files (netlist_text n) were.0 (netlist_short n few), texts_stand.netlist) refl

    step_is : netlist_step [] None files ≡ Ok c
    unfolding netlist_step
    step_is = rw netlist_is refl

    workload_read : read_as which.Workload status.Workload (workload_of c) files ≡ Ok runs
    workload_read = read_is which.Workload status.Workload (workload_of c) files (workload_text n) runs were.1.0 (workload_short n few) texts_stand.workload

    rates_read : read_as which.Rates status.Rates rates_of files ≡ Ok sample_rates
    rates_read = read_is which.Rates status.Rates rates_of files rates_text sample_rates were.1.1.0 rates_short texts_stand.rates

    points_read : read_as which.Points status.Points (points_of c) files ≡ Ok sample_points
    points_read = read_is which.Points status.Points (points_of c) files points_text sample_points were.1.1.1.0 points_short texts_stand.points

    planned : plan_of [] None (settings_of (1 ∷ []) []) files ≡ Ok p
    unfolding plan_of
    planned = rw (step_is, workload_read, rates_read, points_read, texts_stand.unrefused) refl

    judged_so : (set : Settings) → judge [] None set files (Generated n) ≡ Ok (Planned p)
    unfolding judge
    judged_so set = rw planned refl

  judged : IsJudged n p
  judged before after names files were set d walk answers =
      let answer = answers c (netlist_is files were) in
      let none : walk ≡ None = none_answered c walk texts_stand.acyclic (subst (λ e. AnswersLoops e walk) answer.0 answer.1) in
      ap (λ w. judge [] w set files (Generated n)) none ∙ judged_so files were set

plan_of_all : (n : ℕ) → 0 < n → n ≤ 1000 → (p : Analysis) × StandFor n p × IsJudged n p
plan_of_all n some few = (p n some few, texts_stand n some few, judged n some few)

pub generated_are_planned : GeneratedIsAPlan
generated_are_planned n some few = plan_of_all n (omega (arith, some)) few
